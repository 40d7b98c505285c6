use Rattle.std.proofs.Common.{◌∙◌, sym, arith}
use Rattle.std.proofs.lemmas.Grind.{common_steps}
use Rattle.slot_tables.proofs.SlotLemmas.{get-map_of}
use Rattle.slot_tables.proofs.table.Table.get.Goals as goal

pub returns-clause-value : goal.returns-clause-value
returns-clause-value g c = (grind (arith, common_steps)) ∙ sym (get-map_of c.args.self.now c.args.place)

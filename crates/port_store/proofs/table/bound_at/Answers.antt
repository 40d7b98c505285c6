use Rattle.std.proofs.Common.{◌∙◌, sym, arith}
use Rattle.std.proofs.lemmas.Grind.{common_steps}
use Rattle.slot_tables.proofs.SlotLemmas.{get-map_of}
use Rattle.port_store.proofs.table.bound_at.Goals as goal

pub returns-in_err-get : goal.returns-in_err-get
returns-in_err-get c = (grind (arith, common_steps)) ∙ sym (get-map_of c.args.table.now c.args.port)

pub returns : goal.returns
returns c = (grind (arith, common_steps)) ∙ sym (get-map_of c.args.table.now c.args.port)

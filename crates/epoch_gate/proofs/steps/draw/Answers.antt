use Rattle.std.proofs.Common.{rules}
use Rattle.gate_rule.proofs.Steps as kept
use Rattle.epoch_gate.proofs.steps.draw.Goals as goal

pub fetch_add-requires : goal.fetch_add-requires
fetch_add-requires g c = (c.requires.table.0, search rules, kept.draw g.V.Journal.means g.D.Decider.decides c.args.words.now.key _ _ _ c.requires.seat.0 c.requires.seat.1)

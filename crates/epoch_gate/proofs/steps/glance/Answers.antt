use Rattle.std.proofs.Common.{rules}
use Rattle.gate_rule.proofs.Numbers as kept
use Rattle.epoch_gate.proofs.steps.glance.Goals as goal

pub load-requires : goal.load-requires
load-requires g c = (c.requires.table.0, search rules, kept.glance g.V.Journal.means g.D.Decider.decides c.args.words.now.key _ _ _ c.requires.seat)

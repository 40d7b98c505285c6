use Rattle.std.proofs.Common.{rules}
use Rattle.gate_rule.proofs.Seating as kept
use Rattle.epoch_gate.proofs.steps.make.Goals as goal

pub split_seat-requires : goal.split_seat-requires
split_seat-requires g c = (c.requires.table.0, search rules, kept.make g.V.Journal.means g.D.Decider.decides c.args.words.now.key _ _ c.requires.seat c.requires.room)

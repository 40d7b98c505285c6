use Rattle.std.proofs.Common.{arith, ap, sym}
use Rattle.gate_rule.specs.Views.{leave_word}
use Rattle.gate_rule.proofs.Steps as kept
use Rattle.epoch_gate.proofs.Passed.{inside_is}
use Rattle.epoch_gate.proofs.steps.leave.Goals as goal

pub fetch_add-requires : goal.fetch_add-requires
fetch_add-requires g c =
    let h = c.requires.seat in
    (c.requires.table.0, omega (arith, c.requires.table.1), kept.leave g.V.Journal.means g.D.Decider.decides c.args.words.now.key _ _ _ h.0.0 h.0.1 _ _ (inside_is _ h.1) _ (ap leave_word (sym c.requires.number)))

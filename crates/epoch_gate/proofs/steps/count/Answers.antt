use Rattle.std.proofs.Common.{◌+◌, arith, ap, sym}
use Rattle.gate_rule.specs.Views.{leave_word}
use Rattle.gate_rule.proofs.Serving.{turn_is}
use Rattle.gate_rule.proofs.Numbers as kept
use Rattle.epoch_gate.proofs.steps.count.Goals as goal

pub load-requires : goal.load-requires
load-requires g c =
    let h = c.requires.seat in
    let t = turn_is _ h.1 in
    (c.requires.table.0, omega (arith, c.requires.table.1), kept.count g.V.Journal.means g.D.Decider.decides c.args.words.now.key _ _ _ t.0 h.0 t.1 c.requires.pending _ (ap (λ (x : _). leave_word (x + 1)) (sym c.requires.number.0)))

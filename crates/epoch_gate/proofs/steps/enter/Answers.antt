use Rattle.std.proofs.Common.{rules}
use Rattle.gate_rule.proofs.Steps as kept
use Rattle.epoch_gate.proofs.steps.enter.Goals as goal

pub fetch_add-requires : goal.fetch_add-requires
fetch_add-requires g c =
    let h = c.requires.seat in
    (c.requires.table.0, search rules, kept.enter g.V.Journal.means g.D.Decider.decides c.args.words.now.key _ _ _ h.0.0 h.0.1 h.1 h.2)

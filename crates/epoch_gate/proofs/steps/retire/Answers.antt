use Rattle.std.proofs.Common.{rules}
use Rattle.gate_rule.proofs.Seating as kept
use Rattle.epoch_gate.proofs.steps.retire.Goals as goal

pub join_seat-requires : goal.join_seat-requires
join_seat-requires g c =
    let h = c.requires.other in
    (c.requires.table.0.0, c.requires.table.1, h.3, search rules, kept.retire g.V.Journal.means g.D.Decider.decides c.args.words.now.key _ _ _ _ h.0.0 c.requires.seat h.0.1 h.1 h.2)

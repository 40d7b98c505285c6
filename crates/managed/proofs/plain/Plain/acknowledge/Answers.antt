use Rattle.std.proofs.Common.{false, length, ap, ◌∙◌, sym}
use Rattle.access_vectors.specs.Phases.{number_of}
use Rattle.manager_history.specs.Histories.{greatest_forced}
use Rattle.managed.proofs.PhaseLemmas.{acknowledged_keeps, forced_acknowledged}
use Rattle.managed.proofs.plain.Plain.acknowledge.Goals as goal

pub invariant_of-self : goal.invariant_of-self
invariant_of-self g c =
    let kept = c.self.invariant in
    let told = c.acknowledge-ack.ensures in
    let before = c.self.inside.keeper in
    let pending = sym c.phase.ensures ∙ c.in-Pending.is in
    let keeps = acknowledged_keeps false c.acknowledge-ack.result (g.D.Decider.decides before.decider).versions c.self.inside.most before.phase c.acknowledge-ack.new.self.phase
    (greatest_forced before.history) (greatest_forced c.acknowledge-ack.new.self.history) c.self.inside.passes before.manager c.older-older.result (length (g.C.Core.stale before.core)) _ _ _ pending
    (record { named = kept.0; few = kept.1; versions_below = kept.2 })
    told.answer
    (λ _. rw (← c.self.view_is) at c.older-older.ensures)
    told.settled
    (λ undone. ap (λ k. k.phase) (told.as_before undone))
    (λ done. forced_acknowledged false before.history c.acknowledge-ack.new.self.history (number_of before.phase) (told.added done))
    (λ undone. ap (λ k. greatest_forced k.history) (told.as_before undone)) in
    (keeps.named, keeps.few, rw told.decider keeps.versions_below)

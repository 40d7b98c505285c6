use Rattle.std.proofs.Common.{ap, ◌∙◌, subst}
use Rattle.access_vectors.specs.declared.phase.Phase.TheVariants.{Settled}
use Rattle.manager_history.specs.Laws.{RevocationHolds, DenialsAreJust}
use Rattle.managed_run.proofs.Keeping as keeping
use Rattle.managed_run.proofs.station.Station.close.Goals as goal

pub returns-clause-ended : goal.returns-clause-ended
returns-clause-ended g c =
    let closed = c.close-kept.ensures.closed in
    rw c.into_inner-keeper.ensures record { ended = λ i e there. (closed.ended i e there).1; once = closed.once; unmade = closed.unmade; changes = closed.controls_are; seen = closed.seen }

pub returns-clause-decider : goal.returns-clause-decider
returns-clause-decider g c = rw c.into_inner-keeper.ensures ((c.close-kept.ensures.closed.value _ c.requires.gate.1).1)

pub returns-clause-manager : goal.returns-clause-manager
returns-clause-manager g c = rw c.into_inner-keeper.ensures (ap (λ (o : _). o.manager) (c.close-kept.ensures.closed.value _ c.requires.gate.1).0)

pub returns-clause-opening : goal.returns-clause-opening
returns-clause-opening g c = let value = c.close-kept.ensures.closed.value _ c.requires.gate.1 in rw c.into_inner-keeper.ensures (value.3.opened ∙ ap (λ (o : _). g.C.Core.opening o.core) value.0)

pub returns-clause-sound : goal.returns-clause-sound
returns-clause-sound g c =
    let value = c.close-kept.ensures.closed.value _ c.requires.gate.1 in
    let kept = c.entries-kept.ensures in
    rw c.into_inner-keeper.ensures record {
      lawful = keeping.promised g.C.Core.plain g.C.Core.formed g.D.Decider.decides _ _ _ _ _ value.1 (value.3.opened ∙ ap (λ (o : _). g.C.Core.opening o.core) value.0) (rw c.into_inner-keeper.ensures at kept.lawful);
      revocation = subst (λ (d : _). RevocationHolds (g.D.Decider.decides d) (Settled 0 0) c.close-kept.result.kept.value.keeper.history) value.1 (rw c.into_inner-keeper.ensures at kept.revocation);
      denials = subst (λ (d : _). DenialsAreJust g.C.Core.denial_of (g.D.Decider.decides d) (Settled 0 0) c.close-kept.result.kept.value.keeper.history) value.1 (rw c.into_inner-keeper.ensures at kept.denials);
    }

pub returns-clause-phase : goal.returns-clause-phase
returns-clause-phase g c = rw c.into_inner-keeper.ensures ((c.close-kept.ensures.closed.value _ c.requires.gate.1).3.phase)

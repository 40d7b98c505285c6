use Rattle.std.proofs.Common.{◌≡◌, ◌∙◌, ap}
use Rattle.access_vectors.specs.Phases.{acknowledged}
use Rattle.manager_history.specs.Histories.{acknowledgement}
use Rattle.manager_history.proofs.Growing.{kept_ack}
use Rattle.manager_history.proofs.keeper.Keeper.settle.Goals as goal
use Rattle.manager_history.proofs.keeper.Keeper.settle.Goals.{then-forced, else-forced}

-- the entry is that of an acknowledgement, forced or not
pub invariant_of-self : goal.invariant_of-self
invariant_of-self g c =
    let d = g.D.Decider.decides c.self.inside.decider.now in
    let entry_is : c.if-forced.entry ≡ acknowledgement c.args.forced c.in-Pending.number =
    elim c.if-forced.branch [ then-forced w ↦ rw w.if-forced.true w.entry-is | else-forced w ↦ rw w.if-forced.false w.entry-is ] in (
      kept_ack c.args.forced _ _ _ _ _ _ _ c.self.invariant.0 c.in-Pending.is c.settle.ensures.state c.settle.ensures.opening (rw entry_is at c.push_reserved.ensures.items),
      c.settle.ensures.fits d c.self.invariant.1,
      c.settle.ensures.phase ∙ ap acknowledged (c.self.invariant.2 ∙ c.in-Pending.is),
    )

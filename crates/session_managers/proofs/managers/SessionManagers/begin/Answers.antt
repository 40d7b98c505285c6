use Rattle.session_managers.specs.declared.acting.Act.TheVariants.{Begin}
use Rattle.session_managers.proofs.SessionLemmas.{served_session}
use Rattle.session_managers.proofs.managers.SessionManagers.begin.Goals as goal

pub invariant_of-self : goal.invariant_of-self
invariant_of-self g c =
    let told = c.serve-begun.ensures in (
      served_session g.D.Decider.decides c.self.inside.changes c.serve-begun.new.self c.args.manager c.number_of.result c.args.client Begin c.serve-begun.result
          c.self.invariant.0 c.number_of.ensures told.served told.server told.reached,
      c.self.invariant.1,
    )

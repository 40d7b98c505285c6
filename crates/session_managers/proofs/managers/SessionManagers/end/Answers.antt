use Rattle.session_managers.specs.declared.acting.Act.TheVariants.{End}
use Rattle.session_managers.proofs.SessionLemmas.{served_session}
use Rattle.session_managers.proofs.managers.SessionManagers.end.Goals as goal

pub invariant_of-self : goal.invariant_of-self
invariant_of-self g c =
    let told = c.serve-ended.ensures in (
      served_session g.D.Decider.decides c.self.inside.changes c.serve-ended.new.self c.args.manager c.number_of.result c.args.client End c.serve-ended.result
          c.self.invariant.0 c.number_of.ensures told.served told.server told.reached,
      c.self.invariant.1,
    )

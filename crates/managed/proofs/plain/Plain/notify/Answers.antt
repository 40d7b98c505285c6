use Rattle.manager_history.specs.Histories.{greatest_forced}
use Rattle.managed.proofs.PhaseLemmas.{noticed_keeps, as_before_phase, as_before_history, forced_noticed}
use Rattle.managed.proofs.plain.Plain.notify.Goals as goal

pub invariant_of-self : goal.invariant_of-self
invariant_of-self g c =
    let kept = c.self.invariant in
    let told = c.notify.ensures in
    let before = c.self.inside.keeper in
    let keeps = noticed_keeps c.notify.result (g.D.Decider.decides before.decider).versions c.self.inside.most before.phase c.notify.new.self.phase (greatest_forced before.history) c.self.inside.passes c.args.ver
    (record { named = kept.0; few = kept.1; versions_below = kept.2 }) told.phase told.number told.allowed (as_before_phase _ _ c.notify.result told.as_before) in
    let forced = forced_noticed c.notify.result before.history c.notify.new.self.history c.args.ver told.added (as_before_history _ _ c.notify.result told.as_before) in
    (rw forced keeps.named, keeps.few, rw told.decider keeps.versions_below)

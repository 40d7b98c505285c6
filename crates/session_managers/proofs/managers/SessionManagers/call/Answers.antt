use Rattle.std.proofs.Common.{◌≡◌, ◌∙◌, ap, rules}
use Rattle.session_managers.specs.One.{denial_in, got_answer}
use Rattle.session_managers.specs.SessionStates.{counted_denial, told_to}
use Rattle.session_managers.specs.Standings.{session_state_of}
use Rattle.session_managers.specs.declared.acting.Act.TheVariants as act
use Rattle.session_managers.proofs.SessionLemmas.{served_session, called_state, counted_few}
use Rattle.session_managers.proofs.managers.SessionManagers.call.Goals as goal

pub invariant_of-self : goal.invariant_of-self
invariant_of-self g c =
    let told = c.serve.ensures in (
      served_session g.D.Decider.decides c.self.inside.changes c.serve.new.self c.manager-manager.result c.number_of.result c.args.client (act.Call c.args.mark c.args.call) c.serve.result
          c.self.invariant.0 c.number_of.ensures told.served told.server told.reached,
      c.self.invariant.1,
    )

pub invariant_of-self-2 : goal.invariant_of-self-2
invariant_of-self-2 g c =
    let told = c.serve.ensures in (
      served_session g.D.Decider.decides c.self.inside.changes c.serve.new.self c.manager-manager.result c.number_of.result c.args.client (act.Call c.args.mark c.args.call) c.serve.result
          c.self.invariant.0 c.number_of.ensures told.served told.server told.reached,
      c.self.invariant.1,
    )

pub invariant_of-self-3 : goal.invariant_of-self-3
invariant_of-self-3 g c =
    let told = c.serve.ensures in (
      served_session g.D.Decider.decides c.self.inside.changes c.serve.new.self c.manager-manager.result c.number_of.result c.args.client (act.Call c.args.mark c.args.call) c.serve.result
          c.self.invariant.0 c.number_of.ensures told.served told.server told.reached,
      rw c.counted-denied.ensures (counted_few _ c.self.inside.denied c.self.inside.calls c.self.invariant.1),
    )

pub returns-clause-state : goal.returns-clause-state
returns-clause-state g c =
    let view = c.self.view_is in
    let d = g.D.Decider.decides c.self.inside.changes.server.decider in
    let state = session_state_of c.self.inside.changes.managers c.self.inside.calls c.self.inside.denied c.self.inside.completed in
    let got : got_answer c.got.result ≡ (told_to d state c.args.client c.args.call).answer = search rules in
    let denied = c.counted-denied.ensures ∙ ap (λ a. counted_denial (denial_in a) c.self.inside.denied) got in
    rw (← view) (called_state g.D.Decider.decides c.self.inside.changes c.serve.new.self c.number_of.result c.args.client c.args.mark c.args.call c.self.inside.calls c.self.inside.denied c.self.inside.completed _
    c.self.invariant.0 (search rules) c.in_ok-serve.ensures.served denied)

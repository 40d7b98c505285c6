use Rattle.std.proofs.Common.{arith}
use Rattle.session_text.proofs.SessionLemmas.{few_clients}
use Rattle.session_runner.proofs.OpeningLemmas.{openings_known, session_may}
use Rattle.session_runner.proofs.opening.open.Goals as goal

pub new-requires-clause-openings : goal.new-requires-clause-openings
new-requires-clause-openings g c =
    rw c.in_ok-openings.ensures.openings_are (openings_known c.args.session (g.D.Decider.decides c.args.decider.now) c.requires.session c.requires.known)

pub new-requires-clause-few : goal.new-requires-clause-few
new-requires-clause-few g c = rw (c.len.ensures, c.in_ok-openings.ensures.clients_are) (few_clients c.args.session c.requires.session)

pub returns : goal.returns
returns g c =
    let parts = c.in_ok-openings.ensures in
    record {
      runner_is = rw (parts.openings_are, c.len.ensures, parts.clients_are) at c.in_ok-runner.ensures;
      lines_are = parts.lines_are;
      policy_is = parts.policy_is;
      clients_are = parts.clients_are;
      audit_is = parts.audit_is;
      may = session_may c.args.session (g.D.Decider.decides c.args.decider.now) c.requires.session (rw (← parts.lines_are) (omega (arith, c.in_ok-openings.lines.small))) c.requires.known;
    }

-- A session is opened: what it names is known, and its lines may run.
use Rattle.std.proofs.Common.{◌≡◌, ◌<◌, ◌≤◌, ◌+◌, ℕ, List, length, map, All, refl, ap, ◌∙◌, arith, IsTrue}
use Rattle.std.specs.Prelude.{◌^◌, nat_lt, nat_le, ◌&&◌}
use Rattle.std.proofs.lemmas.Bool.Decides.{nat_tests}
use Rattle.std.proofs.lemmas.List.{length-append, length-map}
use Rattle.std.proofs.lemmas.List.Elements.{All-map}
use Rattle.access_vectors.specs.Decisions.{Decisions}
use Rattle.policy_model.specs.declared.policy.ContextLine.{ContextLine}
use Rattle.policy_model.specs.declared.policy.PolicyParts.{PolicyParts}
use Rattle.policy_versions.specs.Closure.{AreContexts, declared_contexts}
use Rattle.policy_versions.specs.Judging.{decisions_of}
use Rattle.flask_sid.specs.declared.context.ContextOf.{ContextOf}
use Rattle.file_calls.specs.declared.call.FileCall.{FileCall}
use Rattle.file_calls.specs.declared.call.FileCall.TheVariants as call
use Rattle.process_calls.specs.declared.call.ProcessCall.{ProcessCall}
use Rattle.process_calls.specs.declared.call.ProcessCall.TheVariants as process_call
use Rattle.session_text.specs.Sessions.{IsSession, IsSidOf, IsDeclared, IsDeclaredProcess, IsRun}
use Rattle.session_text.proofs.SessionLemmas.{ports_known, nodes_known, clients_known, are_nodes, lines_run}
use Rattle.session_text.specs.declared.session.ClientLine.{ClientLine}
use Rattle.session_text.specs.declared.session.SessionParts.{SessionParts}
use Rattle.session_text.specs.declared.session.Run.{Run}
use Rattle.session_text.specs.declared.session.Run.TheVariants as run
use Rattle.session_text.specs.declared.session.RunLine.{RunLine}
use Rattle.session_managers.specs.SessionViews.{AreOpenings, HasClients}
use Rattle.session_managers.specs.declared.opening.Openings.{Openings}
use Rattle.session_runner.specs.Opened.{IsOpened}
use Rattle.session_runner.specs.Runners.{Running}
use Rattle.session_runner.specs.Runs.{lines_shown, state_below, first_state, openings_with, openings_of}
use Rattle.session_runner.specs.declared.opening.Opened.{Opened}
use Rattle.session_runner.specs.Underway.{MayRun}

-- the identifiers of a session are those of its policy's contexts, of which the declared ones come first
sid_known : (declared : List ContextLine) (count sid : ℕ) → length declared ≤ count → IsSidOf declared sid → IsTrue (nat_lt 0 sid && nat_le sid count)
sid_known declared count sid few is = grind (arith, nat_tests)

-- there are at least as many contexts as declared ones
declared_few : (policy : PolicyParts) (contexts : List (ContextOf (List ℕ))) → AreContexts policy contexts → length policy.contexts ≤ length contexts
declared_few policy contexts are =
    let whole : length contexts ≡ length (declared_contexts policy) + length are.derived = ap length are.all ∙ length-append (declared_contexts policy) are.derived in
    let front : length (declared_contexts policy) ≡ length policy.contexts = length-map policy.contexts (λ (line : ContextLine). line.context) in
    omega arith

-- each declared context's identifier is known
pub declared_known : (policy : PolicyParts) (contexts : List (ContextOf (List ℕ))) (d : Decisions) → AreContexts policy contexts → d ≡ decisions_of policy contexts → (sid : ℕ) → IsSidOf policy.contexts sid → IsTrue (d.known sid)
unfolding decisions_of
declared_known policy contexts d are decides sid is =
    rw decides (sid_known policy.contexts (length contexts) sid (declared_few policy contexts are) is)

-- the clients' identifiers are known
clients_there : (session : SessionParts) (d : Decisions) → IsSession session → ((sid : ℕ) → IsSidOf session.policy.contexts sid → IsTrue (d.known sid)) → All (λ sid. IsTrue (d.known sid)) (map (λ (client : ClientLine). client.sid) session.clients)
clients_there session d is known =
    All-map (λ sid. IsTrue (d.known sid)) (λ (client : ClientLine). client.sid) session.clients (λ k e within. known _ (clients_known session is k e within))

-- what a session opens the managers with is known
pub openings_known : (session : SessionParts) (d : Decisions) → IsSession session → ((sid : ℕ) → IsSidOf session.policy.contexts sid → IsTrue (d.known sid)) → AreOpenings d (openings_of session)
openings_known session d is known = record {
  files = (clients_there session d is known, known _ is.root, λ k e within. known _ (nodes_known session is k e within));
  nodes = are_nodes session is;
  processes = clients_there session d is known;
  ports = (clients_there session d is known, known _ is.port, λ k e within. known _ (ports_known session is k e within));
}

-- what is declared is known
named_known : (P Q : ℕ → Type 0) (clients : ℕ) (said : FileCall) → ((sid : ℕ) → P sid → Q sid) → IsDeclared P clients said → IsDeclared Q clients said
named_known P Q clients (call.Give slot client target) each is = is
named_known P Q clients (call.Relabel path sid) each is = each sid is
named_known P Q clients said each is = is

process_known : (P Q : ℕ → Type 0) (said : ProcessCall) → ((sid : ℕ) → P sid → Q sid) → IsDeclaredProcess P said → IsDeclaredProcess Q said
process_known P Q (process_call.Exec pid sid) each is = each sid is
process_known P Q said each is = is

run_known : (P Q : ℕ → Type 0) (clients : ℕ) (asks : Run) → ((sid : ℕ) → P sid → Q sid) → IsRun P clients asks → IsRun Q clients asks
run_known P Q clients (run.File client said) each (below, formed, declared) = (below, formed, named_known P Q clients said each declared)
run_known P Q clients (run.Process client said) each (below, formed, declared) = (below, formed, process_known P Q said each declared)
run_known P Q clients (run.Port client said) each is = is
run_known P Q clients (run.Begin client of) each is = is
run_known P Q clients (run.End client of) each is = is
run_known P Q clients (run.Notify version) each is = is
run_known P Q clients (run.Update most) each is = is
run_known P Q clients run.Ack each is = is
run_known P Q clients run.Force each is = is

pub runs_known : (P Q : ℕ → Type 0) (clients : ℕ) (lines : List RunLine) → ((sid : ℕ) → P sid → Q sid) → All (λ line. IsRun P clients line.run) lines → All (λ line. IsRun Q clients line.run) lines
runs_known P Q clients lines each all = λ k e within. run_known P Q clients _ each (all k e within)

-- the managers of a session's openings have its clients
pub opened_clients : (session : SessionParts) → HasClients (length session.clients) (first_state session)
opened_clients session =
    let same : length (map (λ (client : ClientLine). client.sid) session.clients) ≡ length session.clients = length-map session.clients (λ (client : ClientLine). client.sid) in
    record { files = same; processes = same; ports = same }

-- the lines of a session may run from its opening on; they are fewer than a text has bytes
pub session_may : (session : SessionParts) (d : Decisions) → IsSession session → length session.lines < 2 ^ 64 → ((sid : ℕ) → IsSidOf session.policy.contexts sid → IsTrue (d.known sid))
    → MayRun d (length session.clients) (first_state session) session.lines
session_may session d is few known = record {
  formed = runs_known (IsSidOf session.policy.contexts) (λ sid. IsTrue (d.known sid)) (length session.clients) session.lines known (lines_run session is);
  calls = omega (arith, few);
  changes = omega (arith, few);
}

-- the lines of an opened session may run
pub opened_may : {Decider : Type 0} (decides : Decider → Decisions) (decider : Decider) (session : SessionParts) (opened : Opened Decider) (runner : Running Decider) (lines : List RunLine) → IsOpened decides decider session opened → runner ≡ opened.runner → lines ≡ opened.lines.items
    → MayRun (decides runner.decider) runner.clients runner.state lines
opened_may decides decider session opened runner lines is runner_is lines_are = rw (runner_is ∙ is.runner_is, lines_are ∙ is.lines_are) is.may

-- what is shown of its lines is what is shown of the session's
pub opened_shown : {Decider : Type 0} (decides : Decider → Decisions) (decider : Decider) (session : SessionParts) (opened : Opened Decider) (runner : Running Decider) (lines : List RunLine) → IsOpened decides decider session opened → runner ≡ opened.runner → lines ≡ opened.lines.items
    → lines_shown (decides runner.decider) runner.state lines ≡ lines_shown (decides decider) (first_state session) session.lines
opened_shown decides decider session opened runner lines is runner_is lines_are = rw (runner_is ∙ is.runner_is, lines_are ∙ is.lines_are) refl

-- it leads where the session leads
pub opened_below : {Decider : Type 0} (decides : Decider → Decisions) (decider : Decider) (session : SessionParts) (opened : Opened Decider) (runner : Running Decider) (lines : List RunLine) → IsOpened decides decider session opened → runner ≡ opened.runner → lines ≡ opened.lines.items
    → state_below (decides runner.decider) runner.state lines ≡ state_below (decides decider) (first_state session) session.lines
opened_below decides decider session opened runner lines is runner_is lines_are = rw (runner_is ∙ is.runner_is, lines_are ∙ is.lines_are) refl

-- what the managers are opened with, by the clients
pub openings_by : (session : SessionParts) (clients : List ClientLine) → clients ≡ session.clients
    → ◌≡◌ {A = Openings} (openings_with (record { root = session.root; nodes = session.nodes; port = session.port; ports = session.ports }) clients) (openings_of session)
openings_by session clients same = rw same refl

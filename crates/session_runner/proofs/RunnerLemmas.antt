-- The lines of a session run one after another.
use Rattle.std.proofs.Common.{◌≡◌, ◌<◌, ◌≤◌, ◌+◌, ℕ, zero, suc, Bool, true, false, List, [], ◌∷◌, length, All, Option, None, Some, refl, ap, ◌∙◌, arith, IsTrue}
use Rattle.std.specs.Prelude.{◌^◌}
use Rattle.access_vectors.specs.Decisions.{Decisions}
use Rattle.access_vectors.specs.declared.change.NotifyFault.{NotifyFault}
use Rattle.file_calls.specs.PlainManager as file
use Rattle.file_calls.specs.PlainManager.{IsNamed}
use Rattle.file_calls.specs.States.{FileState}
use Rattle.file_calls.specs.declared.call.FileCall.{FileCall}
use Rattle.file_calls.specs.declared.call.FileCall.TheVariants as call
use Rattle.process_calls.specs.PlainManager as process
use Rattle.process_calls.specs.States.{ProcessState}
use Rattle.process_calls.specs.declared.call.ProcessCall.{ProcessCall}
use Rattle.process_calls.specs.declared.call.ProcessCall.TheVariants as process_call
use Rattle.port_calls.specs.PlainManager as port
use Rattle.port_calls.specs.States.{PortState}
use Rattle.port_calls.specs.declared.call.PortCall.{PortCall}
use Rattle.session_forms.specs.declared.run_forms.Manager.TheVariants as manager
use Rattle.session_text.specs.Sessions.{IsDeclared, IsDeclaredProcess, IsRun}
use Rattle.session_text.specs.declared.session.Run.{Run}
use Rattle.session_text.specs.declared.session.Run.TheVariants as run
use Rattle.session_text.specs.declared.session.RunLine.{RunLine}
use Rattle.session_managers.specs.One.{MayCall}
use Rattle.session_managers.specs.declared.acting.Call.{Call}
use Rattle.session_managers.specs.declared.acting.Call.TheVariants as any
use Rattle.session_managers.specs.SessionStates.{SessionState, place_in, manager_of, refusal_of, state_notified, counted_change, is_complete, ack_all_of, force_all_of}
use Rattle.session_managers.specs.SessionViews.{HasClients, IsSameOpening}
use Rattle.session_runner.specs.Runs.{state_after}
use Rattle.session_runner.specs.Underway.{MayRun, IsCall}

-- what holds of each line holds of the lines behind the first
pub all_behind : {X : Type 0} (P : X → Type 0) (items rest : List X) (x : X) → items ≡ x ∷ rest → All P items → All P rest
all_behind P items rest x is all = λ k d within. (rw is at all) (suc k) d (omega arith)

-- what holds of each line holds of the first
pub all_first : {X : Type 0} (P : X → Type 0) (items rest : List X) (x : X) → items ≡ x ∷ rest → All P items → P x
all_first P items rest x is all = (rw is at all) zero x (omega arith)

-- a list of no length
pub no_items : {X : Type 0} (xs : List X) → length xs ≡ 0 → xs ≡ []
no_items [] none = refl
no_items (x ∷ xs) none = absurd (omega arith)

-- a line counts at most one call
pub calls_after : (d : Decisions) (state : SessionState) (asks : Run) → (state_after d state asks).calls ≤ state.calls + 1
calls_after d state (run.File client call) = omega arith
calls_after d state (run.Process client call) = omega arith
calls_after d state (run.Port client call) = omega arith
calls_after d state (run.Begin client manager.File) = omega arith
calls_after d state (run.Begin client manager.Process) = omega arith
calls_after d state (run.Begin client manager.Port) = omega arith
calls_after d state (run.End client manager.File) = omega arith
calls_after d state (run.End client manager.Process) = omega arith
calls_after d state (run.End client manager.Port) = omega arith
calls_after d state (run.Notify version) = noticed_calls (refusal_of d state version)
  where
    noticed_calls : (refusal : Option NotifyFault) → (state_notified state version refusal).calls ≤ state.calls + 1
    noticed_calls None = omega arith
    noticed_calls (Some fault) = omega arith
calls_after d state (run.Update most) = omega arith
calls_after d state run.Ack = omega arith
calls_after d state run.Force = omega arith

-- one change at most is counted
change_counted : (complete : Bool) (changes : ℕ) → counted_change complete changes ≤ changes + 1
change_counted true changes = omega arith
change_counted false changes = omega arith

-- a line completes at most one change
pub changes_after : (d : Decisions) (state : SessionState) (asks : Run) → (state_after d state asks).changes ≤ state.changes + 1
changes_after d state (run.File client call) = omega arith
changes_after d state (run.Process client call) = omega arith
changes_after d state (run.Port client call) = omega arith
changes_after d state (run.Begin client manager.File) = omega arith
changes_after d state (run.Begin client manager.Process) = omega arith
changes_after d state (run.Begin client manager.Port) = omega arith
changes_after d state (run.End client manager.File) = omega arith
changes_after d state (run.End client manager.Process) = omega arith
changes_after d state (run.End client manager.Port) = omega arith
changes_after d state (run.Notify version) = noticed_changes (refusal_of d state version)
  where
    noticed_changes : (refusal : Option NotifyFault) → (state_notified state version refusal).changes ≤ state.changes + 1
    noticed_changes None = omega arith
    noticed_changes (Some fault) = omega arith
changes_after d state (run.Update most) = omega arith
changes_after d state run.Ack = change_counted (is_complete (ack_all_of d state)) state.changes
changes_after d state run.Force = change_counted (is_complete (force_all_of d state)) state.changes

-- the managers have as many clients as before
pub clients_after : (count : ℕ) (old new : SessionState) → HasClients count old → IsSameOpening old new → HasClients count new
clients_after count old new has same = record {
  files = ap (λ o. length o.clients) same.files ∙ has.files;
  processes = ap (λ o. length o.clients) same.processes ∙ has.processes;
  ports = ap (λ o. length o.clients) same.ports ∙ has.ports;
}

-- a call that names what is there is formed
named_of : (d : Decisions) (state : FileState) (clients : ℕ) (said : FileCall) → length state.opening.clients ≡ clients → IsDeclared (λ sid. IsTrue (d.known sid)) clients said → IsNamed d state said
named_of d state clients (call.Give slot client target) same is = omega arith
named_of d state clients (call.Relabel path sid) same is = is
named_of d state clients said same is = tt

call_formed : (d : Decisions) (state : FileState) (clients client : ℕ) (said : FileCall) → length state.opening.clients ≡ clients → IsRun (λ sid. IsTrue (d.known sid)) clients (run.File client said) → file.IsFormed d state client said
call_formed d state clients client said same (below, ranges, declared) =
    record { caller_is = omega arith; ranges = ranges; named = named_of d state clients said same declared }

process_named : (d : Decisions) (said : ProcessCall) → IsDeclaredProcess (λ sid. IsTrue (d.known sid)) said → process.IsNamed d said
process_named d (process_call.Exec pid sid) is = is
process_named d said is = tt

process_formed : (d : Decisions) (state : ProcessState) (clients client : ℕ) (said : ProcessCall) → length state.opening.clients ≡ clients → IsRun (λ sid. IsTrue (d.known sid)) clients (run.Process client said) → process.IsFormed d state client said
process_formed d state clients client said same (below, ranges, declared) =
    record { caller_is = omega arith; ranges = ranges; named = process_named d said declared }

port_formed : (d : Decisions) (state : PortState) (clients client : ℕ) (said : PortCall) → length state.opening.clients ≡ clients → IsRun (λ sid. IsTrue (d.known sid)) clients (run.Port client said) → port.IsFormed d state client said
port_formed d state clients client said same (below, ranges) = record { caller_is = omega arith; ranges = ranges }

-- the counts have room for one more
pub room_for_one : (d : Decisions) (clients : ℕ) (state : SessionState) (items rest : List RunLine) (line : RunLine) → MayRun d clients state items → items ≡ line ∷ rest → (state.calls + 1 < 2 ^ 64) × (state.changes + 1 < 2 ^ 64)
room_for_one d clients state items rest line may is =
    let count : length items ≡ length rest + 1 = ap length is ∙ omega arith in
    (omega (arith, may.calls, count), omega (arith, may.changes, count))

-- one line ran, and those behind it may run
pub may_more : (d d' : Decisions) (clients : ℕ) (state state' : SessionState) (items rest : List RunLine) (line : RunLine) → MayRun d clients state items → items ≡ line ∷ rest → d' ≡ d
    → state' ≡ state_after d' state line.run → MayRun d clients state' rest
may_more d d' clients state state' items rest line may is same state_is =
    let after : state' ≡ state_after d state line.run = rw same at state_is in
    let count : length items ≡ length rest + 1 = ap length is ∙ omega arith in
    record {
      formed = all_behind (λ (line : RunLine). IsRun (λ sid. IsTrue (d.known sid)) clients line.run) items rest line is may.formed;
      calls = omega (arith, may.calls, count, rw (← after) at (calls_after d state line.run));
      changes = omega (arith, may.changes, count, rw (← after) at (changes_after d state line.run));
    }

-- a call that may run is formed, and its client is one of the clients
pub formed_call : (d : Decisions) (state : SessionState) (clients client : ℕ) (asks : Call) → HasClients clients state → IsCall (λ sid. IsTrue (d.known sid)) clients client asks
    → MayCall d (place_in state (manager_of asks)) client asks
formed_call d state clients client (any.File said) has is = call_formed d state.files.state clients client said has.files is
formed_call d state clients client (any.Process said) has is = process_formed d state.processes.state clients client said has.processes is
formed_call d state clients client (any.Port said) has is = port_formed d state.ports.state clients client said has.ports is

pub call_within : (known : ℕ → Type 0) (clients client : ℕ) (asks : Call) → IsCall known clients client asks → client < clients
call_within known clients client (any.File said) is = is.0
call_within known clients client (any.Process said) is = is.0
call_within known clients client (any.Port said) is = is.0

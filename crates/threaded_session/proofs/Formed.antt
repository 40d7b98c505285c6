-- The calls of a session's lines are well formed at the managers that it opens.
use Rattle.std.proofs.Common.{◌≡◌, ◌==◌, ℕ, Bool, true, false, List, [], ◌∷◌, length, subst, sym, ap, ◌∙◌, arith, refl}
use Rattle.std.specs.Prelude.{All, IsTrue}
use Rattle.std.proofs.lemmas.Bool.{eqb-true}
use Rattle.std.proofs.lemmas.List.Elements.{All-head, All-tail, All-cons}
use Rattle.access_vectors.specs.Decisions.{Decisions}
use Rattle.epoch_gate.specs.Known.{decider_of}
use Rattle.file_calls.specs.PlainManager as file
use Rattle.file_calls.specs.PlainManager.{IsNamed}
use Rattle.file_calls.specs.States as file_states
use Rattle.file_calls.specs.States.{FileState}
use Rattle.file_calls.specs.declared.call.FileCall.{FileCall}
use Rattle.file_calls.specs.declared.call.FileCall.TheVariants as call
use Rattle.process_calls.specs.PlainManager as process
use Rattle.process_calls.specs.States as process_states
use Rattle.process_calls.specs.States.{ProcessState}
use Rattle.process_calls.specs.declared.call.ProcessCall.{ProcessCall}
use Rattle.process_calls.specs.declared.call.ProcessCall.TheVariants as process_call
use Rattle.port_calls.specs.PlainManager as port
use Rattle.port_calls.specs.States as port_states
use Rattle.port_calls.specs.States.{PortState}
use Rattle.port_calls.specs.declared.call.PortCall.{PortCall}
use Rattle.session_text.specs.Sessions.{IsRun, IsDeclared, IsDeclaredProcess}
use Rattle.session_text.specs.declared.session.Run.{Run}
use Rattle.session_text.specs.declared.session.Run.TheVariants as run
use Rattle.session_text.specs.declared.session.RunLine.{RunLine}
use Rattle.client_script.specs.Scripts.{owner_of, is_owner, is_by, script_of}
use Rattle.client_script.specs.Clients.{IsFormedFor}
use Rattle.client_script.specs.declared.stations.Stations.{Stations}

named_of : (d : Decisions) (state : FileState) (clients : ℕ) (said : FileCall) → length state.opening.clients ≡ clients → IsDeclared (λ sid. IsTrue (d.known sid)) clients said → IsNamed d state said
named_of d state clients (call.Give slot client target) same is = omega arith
named_of d state clients (call.Relabel path sid) same is = is
named_of d state clients said same is = tt

pub call_formed : (d : Decisions) (state : FileState) (clients client : ℕ) (said : FileCall) → length state.opening.clients ≡ clients → IsRun (λ sid. IsTrue (d.known sid)) clients (run.File client said) → file.IsFormed d state client said
call_formed d state clients client said same (below, ranges, declared) =
    record { caller_is = omega arith; ranges = ranges; named = named_of d state clients said same declared }

process_named : (d : Decisions) (said : ProcessCall) → IsDeclaredProcess (λ sid. IsTrue (d.known sid)) said → process.IsNamed d said
process_named d (process_call.Exec pid sid) is = is
process_named d said is = tt

pub process_formed : (d : Decisions) (state : ProcessState) (clients client : ℕ) (said : ProcessCall) → length state.opening.clients ≡ clients → IsRun (λ sid. IsTrue (d.known sid)) clients (run.Process client said) → process.IsFormed d state client said
process_formed d state clients client said same (below, ranges, declared) =
    record { caller_is = omega arith; ranges = ranges; named = process_named d said declared }

pub port_formed : (d : Decisions) (state : PortState) (clients client : ℕ) (said : PortCall) → length state.opening.clients ≡ clients → IsRun (λ sid. IsTrue (d.known sid)) clients (run.Port client said) → port.IsFormed d state client said
port_formed d state clients client said same (below, ranges) = record { caller_is = omega arith; ranges = ranges }

module _ {D F P Q : Type 0} (decides : D → Decisions) (stations : Stations D F P Q) (d : Decisions) (clients : ℕ)
    (of_files : decides (decider_of stations.files) ≡ d) (of_processes : decides (decider_of stations.processes) ≡ d) (of_ports : decides (decider_of stations.ports) ≡ d)
    (in_files : length stations.files.fixed.opening.core.opening.clients ≡ clients) (in_processes : length stations.processes.fixed.opening.core.opening.clients ≡ clients)
    (in_ports : length stations.ports.fixed.opening.core.opening.clients ≡ clients) where
  -- the call of a client's own line is well formed for it
  line_formed : (client : ℕ) (asks : Run) → is_owner client (owner_of asks) ≡ true → IsRun (λ sid. IsTrue (d.known sid)) clients asks → IsFormedFor decides stations client asks
  line_formed client (run.File who said) own is =
      subst (λ (e : Decisions). file.IsFormed e (file_states.opened_with stations.files.fixed.opening.core.opening) client said) (sym of_files)
      (subst (λ (n : ℕ). file.IsFormed d (file_states.opened_with stations.files.fixed.opening.core.opening) n said) (eqb-true who client own)
      (call_formed d (file_states.opened_with stations.files.fixed.opening.core.opening) clients who said in_files is))
  line_formed client (run.Process who said) own is =
      subst (λ (e : Decisions). process.IsFormed e (process_states.opened_with stations.processes.fixed.opening.core.opening) client said) (sym of_processes)
      (subst (λ (n : ℕ). process.IsFormed d (process_states.opened_with stations.processes.fixed.opening.core.opening) n said) (eqb-true who client own)
      (process_formed d (process_states.opened_with stations.processes.fixed.opening.core.opening) clients who said in_processes is))
  line_formed client (run.Port who said) own is =
      subst (λ (e : Decisions). port.IsFormed e (port_states.opened_with stations.ports.fixed.opening.core.opening) client said) (sym of_ports)
      (subst (λ (n : ℕ). port.IsFormed d (port_states.opened_with stations.ports.fixed.opening.core.opening) n said) (eqb-true who client own)
      (port_formed d (port_states.opened_with stations.ports.fixed.opening.core.opening) clients who said in_ports is))
  line_formed client (run.Begin who of) own is = tt
  line_formed client (run.End who of) own is = tt
  line_formed client (run.Notify version) own is = tt
  line_formed client (run.Update most) own is = tt
  line_formed client run.Ack own is = tt
  line_formed client run.Force own is = tt

  -- and so each line of its script
  kept_formed : (client : ℕ) (line : RunLine) (lines : List RunLine) (own : Bool) → is_by client line ≡ own → IsRun (λ sid. IsTrue (d.known sid)) clients line.run
      → All (λ line. IsFormedFor decides stations client line.run) (script_of client lines) → All (λ line. IsFormedFor decides stations client line.run) (script_of client (line ∷ lines))
  kept_formed client line lines true is may all = rw is (All-cons (λ line. IsFormedFor decides stations client line.run) line (script_of client lines) (line_formed client line.run is may) all)
  kept_formed client line lines false is may all = rw is all

  pub script_formed : (client : ℕ) (lines : List RunLine) → All (λ line. IsRun (λ sid. IsTrue (d.known sid)) clients line.run) lines
      → All (λ line. IsFormedFor decides stations client line.run) (script_of client lines)
  script_formed client [] all = λ k e below. absurd (omega (arith, below))
  script_formed client (line ∷ lines) all =
      kept_formed client line lines (is_by client line) refl (All-head (λ line. IsRun (λ sid. IsTrue (d.known sid)) clients line.run) line lines all)
      (script_formed client lines (All-tail (λ line. IsRun (λ sid. IsTrue (d.known sid)) clients line.run) line lines all))

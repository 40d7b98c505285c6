-- The three managers of a session after a call of the administrator.
use Rattle.std.proofs.Common.{◌≡◌, ℕ, List, [], ◌∷◌, length, Some, refl, ap, arith}
use Rattle.std.specs.Prelude.{slice_get}
use Rattle.managed.specs.Posts.{Post, ManagerView, post_of}
use Rattle.managed.specs.Administered.{IsSameBesidesChange}
use Rattle.change_protocol.specs.Changes.{Led, AreBoth}
use Rattle.file_calls.specs.States.{FileState}
use Rattle.file_calls.specs.declared.call.FileCall.{FileCall}
use Rattle.file_calls.specs.declared.call.FileReply.{FileReply}
use Rattle.file_store.specs.Stores as file_store
use Rattle.process_calls.specs.States.{ProcessState}
use Rattle.process_calls.specs.declared.call.ProcessCall.{ProcessCall}
use Rattle.process_calls.specs.declared.call.ProcessReply.{ProcessReply}
use Rattle.process_store.specs.Stores as process_store
use Rattle.port_calls.specs.States.{PortState}
use Rattle.port_calls.specs.declared.call.PortCall.{PortCall}
use Rattle.port_calls.specs.declared.call.PortReply.{PortReply}
use Rattle.port_store.specs.Stores as port_store
use Rattle.session_managers.specs.declared.one_manager.OneManager.{OneManager}
use Rattle.session_managers.specs.declared.one_manager.OneManager.TheVariants.{File, Process, Port}
use Rattle.session_managers.specs.One.{Files, Processes, Ports, IsSame, place_of, file_opening, process_opening, port_opening}
use Rattle.session_managers.specs.Standings.{IsSession, files_at, processes_at, ports_at, session_state_of}

-- two values of the manager of files, of which it is known where the first stands
pub record AreFiles {D : Type 0} (was now : OneManager D) (post : Post FileState) : Type 0 where
  pub old : ManagerView file_store.StoreView D FileCall FileReply
  pub new : ManagerView file_store.StoreView D FileCall FileReply
  pub was_is : was ≡ File old
  pub now_is : now ≡ File new
  pub post_is : post_of file_store.state_of file_store.follows old ≡ post
  pub same : IsSameBesidesChange file_opening file_store.state_of old new

pub record AreProcesses {D : Type 0} (was now : OneManager D) (post : Post ProcessState) : Type 0 where
  pub old : ManagerView process_store.StoreView D ProcessCall ProcessReply
  pub new : ManagerView process_store.StoreView D ProcessCall ProcessReply
  pub was_is : was ≡ Process old
  pub now_is : now ≡ Process new
  pub post_is : post_of process_store.state_of process_store.follows old ≡ post
  pub same : IsSameBesidesChange process_opening process_store.state_of old new

pub record ArePorts {D : Type 0} (was now : OneManager D) (post : Post PortState) : Type 0 where
  pub old : ManagerView port_store.StoreView D PortCall PortReply
  pub new : ManagerView port_store.StoreView D PortCall PortReply
  pub was_is : was ≡ Port old
  pub now_is : now ≡ Port new
  pub post_is : post_of port_store.state_of port_store.follows old ≡ post
  pub same : IsSameBesidesChange port_opening port_store.state_of old new

module _ {D : Type 0} where
  pub both_files : (was now : OneManager D) (post : Post FileState) → place_of was ≡ Files post → IsSame was now → AreFiles was now post
  both_files (File old) (File new) post is same =
      record { old = old; new = new; was_is = refl; now_is = refl; post_is = ap (λ p. files_at (Some p)) is; same = same }
  both_files (File old) (Process new) post is same = absurd same
  both_files (File old) (Port new) post is same = absurd same
  both_files (Process old) now post is same = absurd cc
  both_files (Port old) now post is same = absurd cc

  pub both_processes : (was now : OneManager D) (post : Post ProcessState) → place_of was ≡ Processes post → IsSame was now → AreProcesses was now post
  both_processes (Process old) (Process new) post is same =
      record { old = old; new = new; was_is = refl; now_is = refl; post_is = ap (λ p. processes_at (Some p)) is; same = same }
  both_processes (Process old) (File new) post is same = absurd same
  both_processes (Process old) (Port new) post is same = absurd same
  both_processes (File old) now post is same = absurd cc
  both_processes (Port old) now post is same = absurd cc

  pub both_ports : (was now : OneManager D) (post : Post PortState) → place_of was ≡ Ports post → IsSame was now → ArePorts was now post
  both_ports (Port old) (Port new) post is same =
      record { old = old; new = new; was_is = refl; now_is = refl; post_is = ap (λ p. ports_at (Some p)) is; same = same }
  both_ports (Port old) (File new) post is same = absurd same
  both_ports (Port old) (Process new) post is same = absurd same
  both_ports (File old) now post is same = absurd cc
  both_ports (Process old) now post is same = absurd cc

  -- the three of them afterwards, each the same as before
  pub record Three (led : Led D (OneManager D)) (s : IsSession led) (after : List (OneManager D)) : Type 0 where
    pub file : OneManager D
    pub process : OneManager D
    pub port : OneManager D
    pub are : after ≡ file ∷ process ∷ port ∷ []
    pub files : AreFiles s.file file s.files
    pub processes : AreProcesses s.process process s.processes
    pub ports : ArePorts s.port port s.ports

  pub three : (led : Led D (OneManager D)) (s : IsSession led) (after : List (OneManager D)) → length after ≡ length led.managers
      → ((place : ℕ) → AreBoth IsSame (slice_get led.managers place) (slice_get after place)) → Three led s after
  three led s [] many same = absurd (let long = rw s.managers_are at many in omega (arith, long))
  three led s (a ∷ []) many same = absurd (let long = rw s.managers_are at many in omega (arith, long))
  three led s (a ∷ b ∷ []) many same = absurd (let long = rw s.managers_are at many in omega (arith, long))
  three led s (a ∷ b ∷ c ∷ []) many same =
      let both = rw s.managers_are at same in
      record {
        file = a;
        process = b;
        port = c;
        are = refl;
        files = both_files s.file a s.files s.files_are (both 0);
        processes = both_processes s.process b s.processes s.processes_are (both 1);
        ports = both_ports s.port c s.ports s.ports_are (both 2);
      }
  three led s (a ∷ b ∷ c ∷ d ∷ more) many same = absurd (let long = rw s.managers_are at many in omega (arith, long))

  -- where a session stands
  pub state_is : (led : Led D (OneManager D)) (s : IsSession led) (calls denied changes : ℕ) → session_state_of led.managers calls denied changes
      ≡ record { files = s.files; processes = s.processes; ports = s.ports; calls = calls; denied = denied; changes = changes }
  state_is led s calls denied changes = rw (s.managers_are, s.files_are, s.processes_are, s.ports_are) refl

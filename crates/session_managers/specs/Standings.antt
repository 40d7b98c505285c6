-- Where a session stands, by its managers.
use Rattle.std.specs.Prelude.{◌≡◌, ℕ, true, Bool, not, ◌&&◌, nat_lt, unwrap_or, List, [], ◌∷◌, slice_get, Option, Some, option_map}
use Rattle.access_vectors.specs.Decisions.{Decisions}
use Rattle.access_vectors.specs.Phases.{is_pending}
use Rattle.managed.specs.Posts.{Post, opened_post}
use Rattle.managed.specs.declared.managed.Event.{Event}
use Rattle.change_protocol.specs.Changes.{Led}
use Rattle.file_calls.specs.States as file_states
use Rattle.process_calls.specs.States as process_states
use Rattle.port_calls.specs.States as port_states
use Rattle.session_managers.specs.SessionStates.{SessionState, most_number, pending_at}
use Rattle.session_managers.specs.SessionViews.{Standing, nothing_told}
use Rattle.session_managers.specs.One as one
use Rattle.session_managers.specs.One.{Place, Files, Processes, Ports, Told}
use Rattle.session_managers.specs.declared.one_manager.OneManager.{OneManager}

-- where each of the three stands; where it is another's place, as one that nothing was opened with
abbrev pub files_at : Option Place → Post file_states.FileState
files_at (Some (Files post)) = post
files_at other = opened_post (file_states.opened_with (record { clients = []; root = 0; nodes = [] }))

abbrev pub processes_at : Option Place → Post process_states.ProcessState
processes_at (Some (Processes post)) = post
processes_at other = opened_post (process_states.opened_with (record { clients = [] }))

abbrev pub ports_at : Option Place → Post port_states.PortState
ports_at (Some (Ports post)) = post
ports_at other = opened_post (port_states.opened_with (record { clients = []; initial = 0; ports = [] }))

-- the place of the manager of that number
abbrev pub place_at : {D : Type 0} → List (OneManager D) → ℕ → Option Place
place_at managers number = option_map one.place_of (slice_get managers number)

-- where a session stands with these managers and counts
abbrev pub session_state_of : {D : Type 0} → List (OneManager D) → ℕ → ℕ → ℕ → SessionState
session_state_of managers calls denied changes = record {
  files = files_at (place_at managers 0);
  processes = processes_at (place_at managers 1);
  ports = ports_at (place_at managers 2);
  calls = calls;
  denied = denied;
  changes = changes;
}

-- what the newest entry of the manager of that number tells, and its history
abbrev pub told_at : {D : Type 0} → List (OneManager D) → ℕ → Told
told_at managers number = unwrap_or (option_map one.last_told (slice_get managers number)) nothing_told

abbrev pub events_at : {D : Type 0} → (D → Decisions) → List (OneManager D) → ℕ → List Event
events_at decides managers number = unwrap_or (option_map (λ m. (one.seen decides m).history) (slice_get managers number)) []

-- every manager has the notice of the number that is proposed, if one is
abbrev pub is_whole : {D M : Type 0} → Led D M → Bool
is_whole led = not (is_pending led.server.phase && nat_lt led.reached 3)

-- what contracts see of a session with these managers and counts
abbrev pub standing_of : {D : Type 0} → (D → Decisions) → Led D (OneManager D) → ℕ → ℕ → ℕ → Standing D
standing_of decides led calls denied changes = record {
  state = session_state_of led.managers calls denied changes;
  decider = led.server.decider;
  told = record { files = told_at led.managers 0; processes = told_at led.managers 1; ports = told_at led.managers 2 };
  events = record {
    files = events_at decides led.managers 0;
    processes = events_at decides led.managers 1;
    ports = events_at decides led.managers 2;
  };
  whole = is_whole led;
}

-- the managers are those of files, of processes and of ports, in this order, under the server's decider and with the last
-- policy number that may be made; and where each has its notice a number is proposed exactly while one of them has not
-- acknowledged it
pub record IsSession {D : Type 0} (led : Led D (OneManager D)) : Type 0 where
  pub file : OneManager D
  pub process : OneManager D
  pub port : OneManager D
  pub managers_are : led.managers ≡ file ∷ process ∷ port ∷ []
  pub files : Post file_states.FileState
  pub files_are : one.place_of file ≡ Files files
  pub processes : Post process_states.ProcessState
  pub processes_are : one.place_of process ≡ Processes processes
  pub ports : Post port_states.PortState
  pub ports_are : one.place_of port ≡ Ports ports
  pub file_decider : one.decider_of file ≡ led.server.decider
  pub process_decider : one.decider_of process ≡ led.server.decider
  pub port_decider : one.decider_of port ≡ led.server.decider
  pub most : led.server.most ≡ most_number
  pub changing : is_whole led ≡ true → is_pending led.server.phase ≡ pending_at files.phase processes.phase ports.phase

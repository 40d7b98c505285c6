-- Where a session stands: its three managers and the counts of its summary, and what each line does to that.
use Rattle.std.specs.Prelude.{ℕ, ◌+◌, Bool, true, false, ◌||◌, List, [], ◌∷◌, length, drop, Option, Some, None, if◌then◌else◌}
use Rattle.std.specs.List.{list_all}
use Rattle.access_vectors.specs.Decisions.{Decisions}
use Rattle.access_vectors.specs.Phases.{number_of, version_at, is_pending}
use Rattle.access_vectors.specs.declared.class.Class.TheVariants as class
use Rattle.access_vectors.specs.declared.phase.Phase.{Phase}
use Rattle.access_vectors.specs.Notices.{notice_fault}
use Rattle.manager_history.specs.Kept.{ack_answer, is_done}
use Rattle.manager_history.specs.declared.answers.Ack.{Ack}
use Rattle.manager_history.specs.declared.answers.Ack.TheVariants as acks
use Rattle.access_vectors.specs.declared.change.NotifyFault.{NotifyFault}
use Rattle.access_vectors.specs.declared.change.NotifyFault.TheVariants as faults
use Rattle.manager_history.specs.Answers.{Denial}
use Rattle.managed.specs.Posts as posts
use Rattle.managed.specs.Posts.{Post}
use Rattle.file_calls.specs.PlainManager as file
use Rattle.file_calls.specs.States as file_states
use Rattle.file_calls.specs.States.{FileState}
use Rattle.process_calls.specs.PlainManager as process
use Rattle.process_calls.specs.States as process_states
use Rattle.process_calls.specs.States.{ProcessState}
use Rattle.port_calls.specs.PlainManager as port
use Rattle.port_calls.specs.States as port_states
use Rattle.port_calls.specs.States.{PortState}
use Rattle.change_protocol.specs.Changes.{is_kept}
use Rattle.change_protocol.specs.declared.answers.AckAll.{AckAll}
use Rattle.change_protocol.specs.declared.answers.AckAll.TheVariants as acking
use Rattle.change_protocol.specs.declared.answers.Said.{Said}
use Rattle.change_protocol.specs.declared.answers.Said.TheVariants as saying
use Rattle.session_forms.specs.declared.run_forms.Manager.{Manager}
use Rattle.session_forms.specs.declared.run_forms.Manager.TheVariants as manager
use Rattle.session_managers.specs.One.{Place, Files, Processes, Ports, Told, told, denial_in, after_call, after_begin, after_end, acting, phase}
use Rattle.session_managers.specs.declared.acting.Call.{Call}
use Rattle.session_managers.specs.declared.acting.Call.TheVariants as call
use Rattle.session_managers.specs.declared.acting.Reply.TheVariants as reply
use Rattle.session_managers.specs.declared.opening.Openings.{Openings}

-- where a run stands: each manager, and the counts of the summary
pub record SessionState : Type 0 where
  pub files : Post FileState
  pub processes : Post ProcessState
  pub ports : Post PortState
  pub calls : ℕ
  pub denied : ℕ
  pub changes : ℕ

-- the last policy number that may be made
abbrev pub most_number : ℕ
most_number = 1048575

-- before the first line
abbrev pub opening_state : Openings → SessionState
opening_state openings = record {
  files = posts.opened_post (file_states.opened_with openings.files);
  processes = posts.opened_post (process_states.opened_with openings.processes);
  ports = posts.opened_post (port_states.opened_with openings.ports);
  calls = 0;
  denied = 0;
  changes = 0;
}

-- one more where a reply is a denial
abbrev pub counted_denial : {A : Type 0} → Option A → ℕ → ℕ
counted_denial None denied = denied
counted_denial (Some denial) denied = denied + 1

-- where a manager of the session stands
abbrev pub place_in : SessionState → Manager → Place
place_in state manager.File = Files state.files
place_in state manager.Process = Processes state.processes
place_in state manager.Port = Ports state.ports

-- the same with other places for the managers
abbrev pub with_posts : SessionState → Post FileState → Post ProcessState → Post PortState → SessionState
with_posts state files processes ports =
    record { files = files; processes = processes; ports = ports; calls = state.calls; denied = state.denied; changes = state.changes }

-- the same with another place for one of them
abbrev pub state_with : SessionState → Place → SessionState
state_with state (Files post) = with_posts state post state.processes state.ports
state_with state (Processes post) = with_posts state state.files post state.ports
state_with state (Ports post) = with_posts state state.files state.processes post

-- the manager that a call is of
abbrev pub manager_of : Call → Manager
manager_of (call.File asks) = manager.File
manager_of (call.Process asks) = manager.Process
manager_of (call.Port asks) = manager.Port

-- what a client's call gets
abbrev pub told_to : Decisions → SessionState → ℕ → Call → Told
told_to d state client (call.File asks) = told reply.File file.answer d state.files client asks
told_to d state client (call.Process asks) = told reply.Process process.answer d state.processes client asks
told_to d state client (call.Port asks) = told reply.Port port.answer d state.ports client asks

-- one call more, which is denied where its reply is a denial
abbrev pub counted_call : Option Denial → SessionState → SessionState
counted_call denial state = record {
  files = state.files;
  processes = state.processes;
  ports = state.ports;
  calls = state.calls + 1;
  denied = counted_denial denial state.denied;
  changes = state.changes;
}

-- after a client's call
abbrev pub state_called : Decisions → SessionState → ℕ → Call → SessionState
state_called d state client asks =
    counted_call (denial_in (told_to d state client asks).answer) (state_with state (after_call d (place_in state (manager_of asks)) client asks))

-- the policy number under which a client acts on a manager
abbrev pub acting_on : SessionState → ℕ → Manager → ℕ
acting_on state client of = acting (place_in state of) client

-- the version of that number
abbrev pub version_on : SessionState → ℕ → Manager → ℕ
version_on state client of = version_at (phase (place_in state of)) (acting_on state client of)

-- after a client took a pass of a manager, and after it gave its pass back
abbrev pub state_begun : SessionState → ℕ → Manager → SessionState
state_begun state client of = state_with state (after_begin client (place_in state of))

abbrev pub state_ended : SessionState → ℕ → Manager → SessionState
state_ended state client of = state_with state (after_end client (place_in state of))

-- some manager has not acknowledged the change that it has its notice of, by where their changes stand
abbrev pub pending_at : Phase → Phase → Phase → Bool
pending_at files processes ports = is_pending files || is_pending processes || is_pending ports

abbrev pub is_changing : SessionState → Bool
is_changing state = pending_at state.files.phase state.processes.phase state.ports.phase

-- why the choice of a version is refused, if it is: a change is not complete, or no manager could begin it
abbrev pub refusal_of : Decisions → SessionState → ℕ → Option NotifyFault
refusal_of d state version =
    if is_changing state then Some (faults.Pending (number_of state.files.phase))
    else notice_fault state.files.phase d.versions version most_number

-- after the choice of a version, where nothing speaks against it: each manager has its notice
abbrev pub state_notified : SessionState → ℕ → Option NotifyFault → SessionState
state_notified state version None =
    with_posts state (posts.notified state.files version) (posts.notified state.processes version) (posts.notified state.ports version)
state_notified state version (Some fault) = state

-- the slots of each manager that its pending change leaves stale
abbrev pub stale_files : Decisions → SessionState → List ℕ
stale_files d state = posts.stale_on d class.File file.pair_of state.files

abbrev pub stale_processes : Decisions → SessionState → List ℕ
stale_processes d state = posts.stale_on d class.Process process.pair_of state.processes

abbrev pub stale_ports : Decisions → SessionState → List ℕ
stale_ports d state = posts.stale_on d class.Port port.pair_of state.ports

-- after an update of so many slots of each manager
abbrev pub state_updated : Decisions → SessionState → ℕ → SessionState
state_updated d state most =
    with_posts state (posts.updated state.files (stale_files d state) most) (posts.updated state.processes (stale_processes d state) most)
    (posts.updated state.ports (stale_ports d state) most)

-- how many slots of each manager that leaves stale
abbrev pub left_on : Decisions → SessionState → ℕ → List ℕ
left_on d state most =
    length (drop most (stale_files d state)) ∷ length (drop most (stale_processes d state)) ∷ length (drop most (stale_ports d state)) ∷ []

-- how many passes a manager waits for: those of the settled number, or none where it is forced
abbrev pub waits_on : {State : Type 0} → Bool → Post State → ℕ
waits_on forced post = if forced then 0 else posts.older_on post

-- what a manager says to the question whether it acknowledges, or where it is forced to, by its stale slots: one that has
-- acknowledged the change keeps saying so
abbrev pub ack_on : {State : Type 0} → Bool → Post State → ℕ → List ℕ → Ack
ack_on forced post number stale = ack_answer post.phase number (waits_on forced post) (length stale)

abbrev pub file_ack : Bool → Decisions → SessionState → Ack
file_ack forced d state = ack_on forced state.files 0 (stale_files d state)

abbrev pub process_ack : Bool → Decisions → SessionState → Ack
process_ack forced d state = ack_on forced state.processes 1 (stale_processes d state)

abbrev pub port_ack : Bool → Decisions → SessionState → Ack
port_ack forced d state = ack_on forced state.ports 2 (stale_ports d state)

abbrev pub said_of : Ack → Said
said_of (acks.Busy older) = saying.Busy older
said_of (acks.Behind left) = saying.Behind left
said_of other = saying.Kept

-- what the three say
abbrev pub all_saying : Bool → Decisions → SessionState → List Said
all_saying forced d state = said_of (file_ack forced d state) ∷ said_of (process_ack forced d state) ∷ said_of (port_ack forced d state) ∷ []

-- how the change stands then: none is pending, it is complete, or a manager keeps it back
abbrev pub standing_by : Bool → Decisions → SessionState → AckAll
standing_by forced d state =
    if is_changing state then (if list_all is_kept (all_saying forced d state) then acking.Complete (number_of state.files.phase) else acking.Waiting)
    else acking.Idle

abbrev pub is_complete : AckAll → Bool
is_complete (acking.Complete number) = true
is_complete other = false

-- one more where it is
abbrev pub counted_change : Bool → ℕ → ℕ
counted_change false changes = changes
counted_change true changes = changes + 1

-- after that: each manager for which it is done has settled
abbrev pub state_settled : Bool → Decisions → SessionState → SessionState
state_settled forced d state = record {
  files = posts.settled_if state.files (is_done (file_ack forced d state));
  processes = posts.settled_if state.processes (is_done (process_ack forced d state));
  ports = posts.settled_if state.ports (is_done (port_ack forced d state));
  calls = state.calls;
  denied = state.denied;
  changes = counted_change (is_complete (standing_by forced d state)) state.changes;
}

-- the same, of an acknowledgement that is not forced
abbrev pub all_said : Decisions → SessionState → List Said
all_said = all_saying false

abbrev pub ack_all_of : Decisions → SessionState → AckAll
ack_all_of = standing_by false

abbrev pub state_acknowledged : Decisions → SessionState → SessionState
state_acknowledged = state_settled false

-- and of one that is
abbrev pub all_forced : Decisions → SessionState → List Said
all_forced = all_saying true

abbrev pub force_all_of : Decisions → SessionState → AckAll
force_all_of = standing_by true

abbrev pub state_forced : Decisions → SessionState → SessionState
state_forced = state_settled true

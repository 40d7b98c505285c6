-- What contracts see of the managers of a session.
use Rattle.std.specs.Prelude.{◌≡◌, ℕ, ◌<◌, nat_lt, Bool, true, false, List, [], ◌∷◌, ◌++◌, length, Option, Some, None, option_map, Result, Ok, Err, refl}
use Rattle.std.specs.Coded.{Coded, code_by, coded×, coded_list, coded_option, coded_ℕ, coded_bool}
use Rattle.std.specs.Ordering.{nat_cmp}
use Rattle.std.specs.FinMap as maps
use Rattle.std.specs.FinMap.{FinMap}
use Rattle.access_vectors.specs.Decisions.{Decisions}
use Rattle.access_vectors.specs.Stale.{Follows}
use Rattle.access_vectors.specs.contracts.asked.Asked as asked_type
use Rattle.access_vectors.specs.contracts.phase.Phase as phase_type
use Rattle.access_vectors.specs.declared.asked.Asked.{Asked}
use Rattle.access_vectors.specs.declared.phase.Phase.{Phase}
use Rattle.access_vectors.specs.declared.change.NotifyFault.{NotifyFault}
use Rattle.managed.specs.contracts.managed.Event as event_type
use Rattle.managed.specs.declared.managed.Event.{Event}
use Rattle.managed.specs.declared.managed.Event.TheVariants.{Operation}
use Rattle.change_protocol.specs.Changes.{for_all}
use Rattle.change_protocol.specs.declared.answers.NotifyAllFault.{NotifyAllFault}
use Rattle.change_protocol.specs.declared.answers.NotifyAllFault.TheVariants as faults
use Rattle.session_forms.specs.declared.run_forms.Manager.{Manager}
use Rattle.session_forms.specs.declared.run_forms.Manager.TheVariants as manager
use Rattle.managed.specs.Posts.{Post, notified}
use Rattle.managed.specs.Seen.{acknowledging}
use Rattle.manager_history.specs.Kept.{is_done}
use Rattle.file_calls.specs.Openings as file_openings
use Rattle.file_tree.specs.PlainTree.{PlainTree, Item}
use Rattle.file_tree.specs.contracts.step.Step as step_type
use Rattle.file_tree.specs.declared.step.Step.{Step}
use Rattle.file_calls.specs.States as file_states
use Rattle.file_calls.specs.States.{FileState}
use Rattle.file_calls.specs.contracts.opening.FileOpening as file_opening_type
use Rattle.file_calls.specs.declared.opening.FileOpening.{FileOpening}
use Rattle.process_calls.specs.States as process_states
use Rattle.process_calls.specs.States.{ProcessState}
use Rattle.process_calls.specs.contracts.opening.ProcessOpening as process_opening_type
use Rattle.process_calls.specs.contracts.process.Process as process_type
use Rattle.process_calls.specs.declared.opening.ProcessOpening.{ProcessOpening}
use Rattle.process_calls.specs.declared.process.Process.{Process}
use Rattle.port_calls.specs.States as port_states
use Rattle.port_calls.specs.States.{PortState, Bound}
use Rattle.port_calls.specs.contracts.opening.PortOpening as port_opening_type
use Rattle.port_calls.specs.declared.opening.PortOpening.{PortOpening}
use Rattle.manager_history.specs.declared.answers.Answer.{Answer}
use Rattle.manager_history.specs.declared.answers.Answer.TheVariants.{Did, Aborted}
use Rattle.session_managers.specs.One.{Told}
use Rattle.session_managers.specs.SessionStates.{SessionState, with_posts, file_ack, process_ack, port_ack}
use Rattle.session_managers.specs.contracts.acting.Reply as reply_type
use Rattle.session_managers.specs.declared.acting.Reply.{Reply}
use Rattle.session_managers.specs.declared.opening.Openings.{Openings}

-- what the newest entry of each manager's history tells: what its call got and asked, or as of an aborted call where it is none that was done
pub record LastTold : Type 0 where
  pub files : Told
  pub processes : Told
  pub ports : Told

-- where the newest entry is no call that was done, and before the first entry: as where a call was aborted
abbrev pub nothing_told : Told
nothing_told = record { answer = Aborted; asked = [] }

abbrev pub none_told : LastTold
none_told = record { files = nothing_told; processes = nothing_told; ports = nothing_told }

-- that of one manager
abbrev pub told_of : LastTold → Manager → Told
told_of told manager.File = told.files
told_of told manager.Process = told.processes
told_of told manager.Port = told.ports

-- the histories of the three managers, as the administrator sees them: a call with its caller, its mark and its number
pub record Events : Type 0 where
  pub files : List Event
  pub processes : List Event
  pub ports : List Event

-- before the first line
abbrev pub no_events : Events
no_events = record { files = []; processes = []; ports = [] }

-- after a client's call of a manager
abbrev pub events_with : Events → Manager → ℕ → ℕ → ℕ → Events
events_with events manager.File client mark number =
    record { files = events.files ++ Operation client mark number ∷ []; processes = events.processes; ports = events.ports }
events_with events manager.Process client mark number =
    record { files = events.files; processes = events.processes ++ Operation client mark number ∷ []; ports = events.ports }
events_with events manager.Port client mark number =
    record { files = events.files; processes = events.processes; ports = events.ports ++ Operation client mark number ∷ [] }

-- the number of a manager
abbrev pub number_of : Manager → ℕ
number_of manager.File = 0
number_of manager.Process = 1
number_of manager.Port = 2

-- what contracts see of the managers of a session: where it stands, what decides, what the newest entries tell of calls, the histories, and
-- whether every manager has the notice of the number that is proposed, if one is
pub record Standing (Decider : Type 0) : Type 0 where
  pub state : SessionState
  pub decider : Decider
  pub told : LastTold
  pub events : Events
  pub whole : Bool

-- how a proof tells two of them apart: by the fields
abbrev pub file_held_code : Coded file_states.Held
file_held_code = code_by (List Step × ℕ) (coded× (coded_list step_type.the_row.coded) coded_ℕ) (λ held. (held.path, held.mode)) (λ p. record { path = p.0; mode = p.1 }) (λ _. refl)

abbrev pub item_code : Coded Item
item_code = code_by (ℕ × Option (List ℕ)) (coded× coded_ℕ (coded_option (coded_list coded_ℕ))) (λ item. (item.label, item.bytes)) (λ p. record { label = p.0; bytes = p.1 }) (λ _. refl)

abbrev pub file_state_code : Coded FileState
file_state_code =
    code_by (FileOpening × (PlainTree × FinMap nat_cmp file_states.Held))
    (coded× file_opening_type.the_row.coded (coded× (maps.code (coded_list step_type.the_row.coded) item_code) (maps.code coded_ℕ file_held_code)))
    (λ state. (state.opening, (state.tree, state.slots)))
    (λ p. record { opening = p.0; tree = p.1.0; slots = p.1.1 })
    (λ _. refl)

abbrev pub process_state_code : Coded ProcessState
process_state_code =
    code_by (ProcessOpening × (FinMap nat_cmp Process × FinMap nat_cmp ℕ))
    (coded× process_opening_type.the_row.coded (coded× (maps.code coded_ℕ process_type.the_row.coded) (maps.code coded_ℕ coded_ℕ)))
    (λ state. (state.opening, (state.processes, state.slots)))
    (λ p. record { opening = p.0; processes = p.1.0; slots = p.1.1 })
    (λ _. refl)

abbrev pub bound_code : Coded Bound
bound_code = code_by (ℕ × List (List ℕ)) (coded× coded_ℕ (coded_list (coded_list coded_ℕ))) (λ bound. (bound.owner, bound.messages)) (λ p. record { owner = p.0; messages = p.1 }) (λ _. refl)

abbrev pub port_held_code : Coded port_states.Held
port_held_code = code_by (ℕ × ℕ) (coded× coded_ℕ coded_ℕ) (λ held. (held.port, held.mode)) (λ p. record { port = p.0; mode = p.1 }) (λ _. refl)

abbrev pub port_state_code : Coded PortState
port_state_code =
    code_by (PortOpening × (FinMap nat_cmp Bound × FinMap nat_cmp port_states.Held))
    (coded× port_opening_type.the_row.coded (coded× (maps.code coded_ℕ bound_code) (maps.code coded_ℕ port_held_code)))
    (λ state. (state.opening, (state.ports, state.slots)))
    (λ p. record { opening = p.0; ports = p.1.0; slots = p.1.1 })
    (λ _. refl)

abbrev pub post_code : {State : Type 0} → Coded State → Coded (Post State)
post_code {State = State} code =
    code_by (State × (Follows × (Phase × List (Option ℕ)))) (coded× code (coded× (maps.code coded_ℕ coded_ℕ) (coded× phase_type.the_row.coded (coded_list (coded_option coded_ℕ)))))
    (λ post. (post.state, (post.follows, (post.phase, post.held))))
    (λ p. record { state = p.0; follows = p.1.0; phase = p.1.1.0; held = p.1.1.1 })
    (λ _. refl)

abbrev pub state_code : Coded SessionState
state_code =
    code_by (Post FileState × (Post ProcessState × (Post PortState × (ℕ × (ℕ × ℕ)))))
    (coded× (post_code file_state_code) (coded× (post_code process_state_code) (coded× (post_code port_state_code) (coded× coded_ℕ (coded× coded_ℕ coded_ℕ)))))
    (λ state. (state.files, (state.processes, (state.ports, (state.calls, (state.denied, state.changes))))))
    (λ p. record { files = p.0; processes = p.1.0; ports = p.1.1.0; calls = p.1.1.1.0; denied = p.1.1.1.1.0; changes = p.1.1.1.1.1 })
    (λ _. refl)

abbrev pub got_of : Answer Reply → Option Reply
got_of (Did got) = Some got
got_of Aborted = None

abbrev pub answer_by : Option Reply → Answer Reply
answer_by (Some got) = Did got
answer_by None = Aborted

pub answer_again : (answer : Answer Reply) → answer_by (got_of answer) ≡ answer
answer_again (Did got) = refl
answer_again Aborted = refl

abbrev pub answer_code : Coded (Answer Reply)
answer_code = code_by (Option Reply) (coded_option reply_type.the_row.coded) got_of answer_by answer_again

abbrev pub told_code : Coded Told
told_code =
    code_by (Answer Reply × List Asked) (coded× answer_code (coded_list asked_type.the_row.coded)) (λ told. (told.answer, told.asked)) (λ p. record { answer = p.0; asked = p.1 }) (λ _. refl)

abbrev pub all_told_code : Coded LastTold
all_told_code =
    code_by (Told × (Told × Told)) (coded× told_code (coded× told_code told_code)) (λ told. (told.files, (told.processes, told.ports))) (λ p. record { files = p.0; processes = p.1.0; ports = p.1.1 }) (λ _. refl)

abbrev pub events_code : Coded Events
events_code =
    code_by (List Event × (List Event × List Event))
    (coded× (coded_list event_type.the_row.coded) (coded× (coded_list event_type.the_row.coded) (coded_list event_type.the_row.coded)))
    (λ events. (events.files, (events.processes, events.ports)))
    (λ p. record { files = p.0; processes = p.1.0; ports = p.1.1 })
    (λ _. refl)

abbrev pub standing_code : {Decider : Type 0} → Coded Decider → Coded (Standing Decider)
standing_code {Decider = Decider} code =
    code_by (SessionState × (Decider × (LastTold × (Events × Bool)))) (coded× state_code (coded× code (coded× all_told_code (coded× events_code coded_bool))))
    (λ standing. (standing.state, (standing.decider, (standing.told, (standing.events, standing.whole)))))
    (λ p. record { state = p.0; decider = p.1.0; told = p.1.1.0; events = p.1.1.1.0; whole = p.1.1.1.1 })
    (λ _. refl)

-- the identifiers of what the managers are opened with are the decider's, and the files' nodes are those of a tree
pub record AreOpenings (d : Decisions) (openings : Openings) : Type 0 where
  pub files : file_openings.IsOpening d openings.files
  pub nodes : file_openings.AreNodes openings.files.nodes
  pub processes : process_states.IsOpening d openings.processes
  pub ports : port_states.IsOpening d openings.ports

-- the managers were opened with the same
pub record IsSameOpening (old new : SessionState) : Type 0 where
  pub files : new.files.state.opening ≡ old.files.state.opening
  pub processes : new.processes.state.opening ≡ old.processes.state.opening
  pub ports : new.ports.state.opening ≡ old.ports.state.opening

-- each manager was opened with so many clients
pub record HasClients (count : ℕ) (state : SessionState) : Type 0 where
  pub files : length state.files.state.opening.clients ≡ count
  pub processes : length state.processes.state.opening.clients ≡ count
  pub ports : length state.ports.state.opening.clients ≡ count

-- the administrator's choice was refused for this cause, or begun under the next number; want of memory comes where nothing speaks
-- against the choice, and leaves a manager without its notice
abbrev pub IsSaid : Result ℕ NotifyAllFault → Option NotifyFault → ℕ → Type 0
IsSaid (Ok number) refusal next = (refusal ≡ None) × (number ≡ next)
IsSaid (Err (faults.Memory reached)) refusal next = (refusal ≡ None) × (reached < 3)
IsSaid (Err fault) refusal next = option_map for_all refusal ≡ Some fault

-- a manager has its notice where it is one of the first so many
abbrev pub notified_if : {State : Type 0} → Bool → Post State → ℕ → Post State
notified_if true post version = notified post version
notified_if false post version = post

-- how many managers, the first ones, have the notice then: all where it was begun, and else those that want of memory left with theirs
abbrev pub reached_by : Result ℕ NotifyAllFault → ℕ
reached_by (Ok number) = 3
reached_by (Err (faults.Memory reached)) = reached
reached_by (Err fault) = 0

-- a history has a notice besides where its manager was reached
abbrev pub noticed_if : Bool → List Event → Event → List Event
noticed_if true history notice = history ++ notice ∷ []
noticed_if false history notice = history

-- the histories after a notice that reached the first so many managers
abbrev pub events_noticed : Events → ℕ → Event → Events
events_noticed events reached notice = record {
  files = noticed_if (nat_lt 0 reached) events.files notice;
  processes = noticed_if (nat_lt 1 reached) events.processes notice;
  ports = noticed_if (nat_lt 2 reached) events.ports notice;
}

-- the histories after each manager was asked whether it acknowledges, or forced to: those that do have their acknowledgement besides
abbrev pub events_acknowledged : Bool → Decisions → SessionState → Events → Events
events_acknowledged forced d state events = record {
  files = events.files ++ acknowledging forced state.files.phase (is_done (file_ack forced d state));
  processes = events.processes ++ acknowledging forced state.processes.phase (is_done (process_ack forced d state));
  ports = events.ports ++ acknowledging forced state.ports.phase (is_done (port_ack forced d state));
}

-- unless memory was wanting each manager has its notice
abbrev pub IsWholeUnlessMemory : Result ℕ NotifyAllFault → Bool → Type 0
IsWholeUnlessMemory (Err (faults.Memory reached)) whole = Unit {0}
IsWholeUnlessMemory said whole = whole ≡ true

-- after want of memory the first so many managers have their notice, and the others stand as before; else this is the state after
abbrev pub IsStateUnlessMemory : Result ℕ NotifyAllFault → SessionState → SessionState → ℕ → SessionState → Type 0
IsStateUnlessMemory (Err (faults.Memory reached)) new old version after =
    new ≡ with_posts old (notified_if (nat_lt 0 reached) old.files version) (notified_if (nat_lt 1 reached) old.processes version) (notified_if (nat_lt 2 reached) old.ports version)
IsStateUnlessMemory said new old version after = new ≡ after

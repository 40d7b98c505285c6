-- Where one of the three managers of a session stands, and what is done at it.
use Rattle.std.specs.Prelude.{◌≡◌, ℕ, ◌<◌, List, [], ◌∷◌, ◌++◌, Option, Some, None, Result, Ok, Err, refl}
use Rattle.std.proofs.Common.{◌∙◌}
use Rattle.access_vectors.specs.Decisions.{Decisions}
use Rattle.access_vectors.specs.declared.asked.Asked.{Asked}
use Rattle.access_vectors.specs.declared.class.Class.TheVariants as class
use Rattle.access_vectors.specs.declared.phase.Phase.{Phase}
use Rattle.flask_sid.specs.declared.memory.Memory.{Memory}
use Rattle.manager_history.specs.Answers.{Denial, Manager}
use Rattle.manager_history.specs.declared.answers.Answer.{Answer}
use Rattle.manager_history.specs.declared.answers.Answer.TheVariants.{Did, Aborted}
use Rattle.manager_history.specs.declared.entry.Entry.{Entry}
use Rattle.managed.specs.Posts.{Post, ManagerView, post_of, said_on, asked_on, answer_on, acting_number, called, begun, ended, last_asked, last_reply}
use Rattle.managed.specs.Seen.{Seen, IsServed}
use Rattle.managed.specs.Administered.{seen_of, IsSameBesidesChange}
use Rattle.managed.specs.declared.managed.Event.TheVariants.{Operation}
use Rattle.file_calls.specs.PlainManager as file
use Rattle.file_calls.specs.States as file_states
use Rattle.file_store.specs.Stores as file_store
use Rattle.process_calls.specs.PlainManager as process
use Rattle.process_calls.specs.States as process_states
use Rattle.process_store.specs.Stores as process_store
use Rattle.port_calls.specs.PlainManager as port
use Rattle.port_calls.specs.States as port_states
use Rattle.port_store.specs.Stores as port_store
use Rattle.session_managers.specs.declared.acting.Act.{Act}
use Rattle.session_managers.specs.declared.acting.Act.TheVariants as act
use Rattle.session_managers.specs.declared.acting.ClientAct.{ClientAct}
use Rattle.session_managers.specs.declared.acting.Call.{Call}
use Rattle.session_managers.specs.declared.acting.Call.TheVariants as call
use Rattle.session_managers.specs.declared.acting.Got.{Got}
use Rattle.session_managers.specs.declared.acting.Got.TheVariants as lent
use Rattle.session_managers.specs.declared.acting.Reply.{Reply}
use Rattle.session_managers.specs.declared.acting.Reply.TheVariants as reply
use Rattle.session_managers.specs.declared.one_manager.OneManager.{OneManager}
use Rattle.session_managers.specs.declared.one_manager.OneManager.TheVariants.{File, Process, Port}

-- where one of the three managers stands
pub data Place : Type 0 where
  Files : Post file_states.FileState → Place
  Processes : Post process_states.ProcessState → Place
  Ports : Post port_states.PortState → Place

-- the denial that a reply is, if it is one
abbrev pub denial_of : Reply → Option Denial
denial_of (reply.File got) = file.denial_of got
denial_of (reply.Process got) = process.denial_of got
denial_of (reply.Port got) = port.denial_of got

-- an answer with its reply as one of the three managers'
abbrev pub answer_of : {R : Type 0} → (R → Reply) → Answer R → Answer Reply
answer_of wrap (Did got) = Did (wrap got)
answer_of wrap Aborted = Aborted

-- a reply as an answer of one of the three managers; no reply is an aborted call's
abbrev pub answer_with : {R : Type 0} → (R → Reply) → Option R → Answer Reply
answer_with wrap (Some got) = Did (wrap got)
answer_with wrap None = Aborted

-- what is lent of what a call got, as an answer
abbrev pub got_answer : Got → Answer Reply
got_answer (lent.File got) = Did (reply.File got.now)
got_answer (lent.Process got) = Did (reply.Process got.now)
got_answer (lent.Port got) = Did (reply.Port got.now)
got_answer lent.Aborted = Aborted

-- the denial that an answer is, if it is one: an aborted call is none
abbrev pub denial_in : Answer Reply → Option Denial
denial_in (Did got) = denial_of got
denial_in Aborted = None

-- what a call gets: its plain manager's reply, or that it was aborted; and what was asked
pub record Told : Type 0 where
  pub answer : Answer Reply
  pub asked : List Asked

abbrev pub told : {C R State : Type 0} → (R → Reply) → Manager C R State → Decisions → Post State → ℕ → C → Told
told wrap plain d post client asks = record { answer = answer_of wrap (said_on plain d post client asks); asked = asked_on plain d post client asks }

-- a client's call is of the manager that stands there, and well formed
abbrev pub MayCall : Decisions → Place → ℕ → Call → Type 0
MayCall d (Files post) client (call.File asks) = file.IsFormed d post.state client asks
MayCall d (Processes post) client (call.Process asks) = process.IsFormed d post.state client asks
MayCall d (Ports post) client (call.Port asks) = port.IsFormed d post.state client asks
MayCall d post client asks = ⊥

-- what it gets there, under the client's held pass or else the newest number
abbrev pub TellsCall : Decisions → Place → ℕ → Call → Told → Type 0
TellsCall d (Files post) client (call.File asks) got = got ≡ told reply.File file.answer d post client asks
TellsCall d (Processes post) client (call.Process asks) got = got ≡ told reply.Process process.answer d post client asks
TellsCall d (Ports post) client (call.Port asks) got = got ≡ told reply.Port port.answer d post client asks
TellsCall d post client asks got = ⊥

-- where the manager stands after it
abbrev pub after_call : Decisions → Place → ℕ → Call → Place
after_call d (Files post) client (call.File asks) = Files (called file.followed d post client asks (answer_on file.answer d post client asks))
after_call d (Processes post) client (call.Process asks) = Processes (called process.followed d post client asks (answer_on process.answer d post client asks))
after_call d (Ports post) client (call.Port asks) = Ports (called port.followed d post client asks (answer_on port.answer d post client asks))
after_call d post client asks = post

-- where it stands after a client took a pass of the newest number, and after it gave its pass back
abbrev pub after_begin : ℕ → Place → Place
after_begin client (Files post) = Files (begun post client)
after_begin client (Processes post) = Processes (begun post client)
after_begin client (Ports post) = Ports (begun post client)

abbrev pub after_end : ℕ → Place → Place
after_end client (Files post) = Files (ended post client)
after_end client (Processes post) = Processes (ended post client)
after_end client (Ports post) = Ports (ended post client)

-- the policy number under which a client acts there
abbrev pub acting : Place → ℕ → ℕ
acting (Files post) client = acting_number post client
acting (Processes post) client = acting_number post client
acting (Ports post) client = acting_number post client

-- where its change of policy stands
abbrev pub phase : Place → Phase
phase (Files post) = post.phase
phase (Processes post) = post.phase
phase (Ports post) = post.phase

-- where a manager on one thread stands, and its decider
abbrev pub place_of : {D : Type 0} → OneManager D → Place
place_of (File files) = Files (post_of file_store.state_of file_store.follows files)
place_of (Process processes) = Processes (post_of process_store.state_of process_store.follows processes)
place_of (Port ports) = Ports (post_of port_store.state_of port_store.follows ports)

abbrev pub decider_of : {D : Type 0} → OneManager D → D
decider_of (File files) = files.keeper.decider
decider_of (Process processes) = processes.keeper.decider
decider_of (Port ports) = ports.keeper.decider

-- what the newest entry of a manager's history tells: what its call got and asked; and where it is an aborted call, a notice or an acknowledgement, or
-- there is none, as of an aborted call
abbrev pub newest : {C R : Type 0} → (R → Reply) → List (Entry C R) → Told
newest wrap history = record { answer = answer_with wrap (last_reply history); asked = last_asked history }

abbrev pub last_told : {D : Type 0} → OneManager D → Told
last_told (File files) = newest reply.File files.keeper.history
last_told (Process processes) = newest reply.Process processes.keeper.history
last_told (Port ports) = newest reply.Port ports.keeper.history

-- what it was opened with, as the plain state of its opening
pub data Opened : Type 0 where
  FilesOpened : file_states.FileState → Opened
  ProcessesOpened : process_states.ProcessState → Opened
  PortsOpened : port_states.PortState → Opened

abbrev pub file_opening : file_store.StoreView → file_states.FileState
file_opening core = file_states.opened_with core.opening

abbrev pub process_opening : process_store.StoreView → process_states.ProcessState
process_opening core = process_states.opened_with core.opening

abbrev pub port_opening : port_store.StoreView → port_states.PortState
port_opening core = port_states.opened_with core.opening

abbrev pub opening_of : {D : Type 0} → OneManager D → Opened
opening_of (File files) = FilesOpened (file_opening files.keeper.core)
opening_of (Process processes) = ProcessesOpened (process_opening processes.keeper.core)
opening_of (Port ports) = PortsOpened (port_opening ports.keeper.core)

-- nothing but what the administrator's calls change differs between the two values
abbrev pub IsSame : {D : Type 0} → OneManager D → OneManager D → Type 0
IsSame (File old) (File new) = IsSameBesidesChange file_opening file_store.state_of old new
IsSame (Process old) (Process new) = IsSameBesidesChange process_opening process_store.state_of old new
IsSame (Port old) (Port new) = IsSameBesidesChange port_opening port_store.state_of old new
IsSame old new = ⊥

same_itself : {Core Decider C R State : Type 0} (opening state : Core → State) (a : ManagerView Core Decider C R) → IsSameBesidesChange opening state a a
same_itself opening state a = record { opened = refl; decider = refl; manager = refl; most = refl; held = refl; state_is = refl }

same_through : {Core Decider C R State : Type 0} (opening state : Core → State) (a b c : ManagerView Core Decider C R)
    → IsSameBesidesChange opening state a b → IsSameBesidesChange opening state b c → IsSameBesidesChange opening state a c
same_through opening state a b c ab bc = record {
  opened = bc.opened ∙ ab.opened;
  decider = bc.decider ∙ ab.decider;
  manager = bc.manager ∙ ab.manager;
  most = bc.most ∙ ab.most;
  held = bc.held ∙ ab.held;
  state_is = bc.state_is ∙ ab.state_is;
}

-- each manager is the same as itself, and what is the same as the same is the same
pub same_reflexive : {D : Type 0} (a : OneManager D) → IsSame a a
same_reflexive (File a) = same_itself file_opening file_store.state_of a
same_reflexive (Process a) = same_itself process_opening process_store.state_of a
same_reflexive (Port a) = same_itself port_opening port_store.state_of a

pub same_transitive : {D : Type 0} (a b c : OneManager D) → IsSame a b → IsSame b c → IsSame a c
same_transitive (File a) (File b) (File c) ab bc = same_through file_opening file_store.state_of a b c ab bc
same_transitive (Process a) (Process b) (Process c) ab bc = same_through process_opening process_store.state_of a b c ab bc
same_transitive (Port a) (Port b) (Port c) ab bc = same_through port_opening port_store.state_of a b c ab bc
same_transitive (File a) (Process b) c ab bc = absurd ab
same_transitive (File a) (Port b) c ab bc = absurd ab
same_transitive (Process a) (File b) c ab bc = absurd ab
same_transitive (Process a) (Port b) c ab bc = absurd ab
same_transitive (Port a) (File b) c ab bc = absurd ab
same_transitive (Port a) (Process b) c ab bc = absurd ab
same_transitive (File a) (File b) (Process c) ab bc = absurd bc
same_transitive (File a) (File b) (Port c) ab bc = absurd bc
same_transitive (Process a) (Process b) (File c) ab bc = absurd bc
same_transitive (Process a) (Process b) (Port c) ab bc = absurd bc
same_transitive (Port a) (Port b) (File c) ab bc = absurd bc
same_transitive (Port a) (Port b) (Process c) ab bc = absurd bc

module _ {D : Type 0} (decides : D → Decisions) where
  -- what the administrator sees of it
  abbrev pub seen : OneManager D → Seen
  seen (File files) = seen_of decides class.File file.pair_of file_store.state_of file_store.follows files
  seen (Process processes) = seen_of decides class.Process process.pair_of process_store.state_of process_store.follows processes
  seen (Port ports) = seen_of decides class.Port port.pair_of port_store.state_of port_store.follows ports

  -- a client may do that at it
  abbrev pub MayDo : OneManager D → ℕ → Act → Type 0
  MayDo manager client (act.Call mark asks) = MayCall (decides (decider_of manager)) (place_of manager) client asks
  MayDo manager client act.Begin = Unit {0}
  MayDo manager client act.End = Unit {0}

  pub record May (manager : OneManager D) (done : ClientAct) : Type 0 where
    pub client : done.client < 64
    pub may : MayDo manager done.client done.act

  -- what every act leaves, and what the administrator sees of it
  pub record IsKept (was now : OneManager D) : Type 0 where
    pub decider : decider_of now ≡ decider_of was
    pub opening : opening_of now ≡ opening_of was
    pub served : IsServed (seen was) (seen now)

  -- a call was done: an operation of the client under its mark was added, with what the call got and asked
  pub record HasCalled (client mark : ℕ) (was : OneManager D) (asks : Call) (now : OneManager D) : Type 0 where
    pub told : Told
    pub tells : TellsCall (decides (decider_of was)) (place_of was) client asks told
    pub told_is : last_told now ≡ told
    pub place : place_of now ≡ after_call (decides (decider_of was)) (place_of was) client asks
    pub added : (seen now).history ≡ (seen was).history ++ Operation client mark (acting (place_of was) client) ∷ []
    pub kept : IsKept was now

  -- a client took a pass, or gave its own back
  pub record HasPassed (was now : OneManager D) (after : Place) : Type 0 where
    pub place : place_of now ≡ after
    pub told : last_told now ≡ last_told was
    pub history : (seen now).history ≡ (seen was).history
    pub kept : IsKept was now

  -- what a client's act does to a manager; want of memory leaves all as it was
  abbrev pub HasDone : ℕ → OneManager D → Act → OneManager D → Result (Unit {0}) Memory → Type 0
  HasDone client was (act.Call mark asks) now (Ok done) = HasCalled client mark was asks now
  HasDone client was (act.Call mark asks) now (Err memory) = now ≡ was
  HasDone client was act.Begin now (Ok done) = HasPassed was now (after_begin client (place_of was))
  HasDone client was act.Begin now (Err memory) = ⊥
  HasDone client was act.End now (Ok done) = HasPassed was now (after_end client (place_of was))
  HasDone client was act.End now (Err memory) = ⊥

  abbrev pub Does : OneManager D → OneManager D → ClientAct → Result (Unit {0}) Memory → Type 0
  Does was now done said = HasDone done.client was done.act now said

-- A change of policy over all managers: how each manager has to stand, and what each step does to it.
use Rattle.std.specs.Prelude.{◌≡◌, ℕ, ◌+◌, ◌-◌, ◌<◌, ◌≤◌, Bool, true, false, not, ◌&&◌, ◌==◌, nat_lt, IfSome, List, length, slice_get, slice_set, Option, Some, None, option_map, Result, Ok, Err, is_ok, if◌then◌else◌}
use Rattle.std.specs.List.{Contains, list_all}
use Rattle.access_vectors.specs.Decisions.{Decisions}
use Rattle.access_vectors.specs.Phases.{number_of, is_pending, acknowledged, AreVersions}
use Rattle.access_vectors.specs.declared.phase.Phase.{Phase}
use Rattle.access_vectors.specs.declared.phase.Phase.TheVariants.{Settled, Pending}
use Rattle.manager_history.specs.declared.answers.Ack.{Ack}
use Rattle.manager_history.specs.declared.answers.Ack.TheVariants as acks
use Rattle.access_vectors.specs.declared.change.NotifyFault.{NotifyFault}
use Rattle.access_vectors.specs.declared.change.NotifyFault.TheVariants as refusing
use Rattle.access_vectors.specs.Notices.{notice_fault}
use Rattle.managed.specs.Seen.{Seen, IsNotified, IsAcknowledged}
use Rattle.managed.specs.declared.managed.Event.{Event}
use Rattle.managed.specs.declared.managed.Event.TheVariants.{Acknowledgement}
use Rattle.security_server.specs.Numbering.{ServerView, is_in, receipt_fault, proposed}
use Rattle.change_protocol.specs.declared.answers.NotifyAllFault.{NotifyAllFault}
use Rattle.change_protocol.specs.declared.answers.NotifyAllFault.TheVariants as faults
use Rattle.change_protocol.specs.declared.answers.Said.{Said}
use Rattle.change_protocol.specs.declared.answers.Said.TheVariants as saying
use Rattle.change_protocol.specs.declared.answers.AckAll.{AckAll}
use Rattle.change_protocol.specs.declared.answers.AckAll.TheVariants as acking

-- what contracts see of a coordinator: its server, its managers in the order of their numbers, and how many of them, the
-- first ones, have the notice of the number that is proposed
pub record Led (Decider Manager : Type 0) : Type 0 where
  pub server : ServerView Decider
  pub managers : List Manager
  pub reached : ℕ

-- where the manager at a place stands: as the server where that is settled; else with no notice yet it is settled at the
-- number before, with its notice the number is pending, and with its receipt in it is settled at the number
abbrev pub phase_at : Phase → List Bool → ℕ → ℕ → Phase
phase_at (Settled number version) receipts reached place = Settled number version
phase_at (Pending number old new) receipts reached place =
    if nat_lt place reached then (if is_in receipts place then Settled number new else Pending number old new)
    else Settled (number - 1) old

-- a history has the acknowledgement of a number, forced or not
abbrev pub HasAcknowledged : List Event → ℕ → Type 0
HasAcknowledged history number = (forced : Bool) × Contains history (Acknowledgement number forced)

-- a receipt may be in only for a manager that has its notice, and whose history has the acknowledgement of the number; none
-- is in where the server is settled
abbrev pub MayBeIn : Phase → ℕ → ℕ → List Event → Type 0
MayBeIn (Settled number version) reached place history = ⊥
MayBeIn (Pending number old new) reached place history = (place < reached) × HasAcknowledged history number

-- how the manager at a place has to stand: it has that place as its number, and the server's last policy number and number of
-- versions
pub record IsPlaced {Decider : Type 0} (versions : ℕ) (server : ServerView Decider) (reached place : ℕ) (seen : Seen) : Type 0 where
  pub numbered : seen.manager ≡ place
  pub most : seen.most ≡ server.most
  pub versions_are : seen.versions ≡ versions
  pub phase : seen.phase ≡ phase_at server.phase server.receipts reached place
  pub receipt : is_in server.receipts place ≡ true → MayBeIn server.phase reached place seen.history

-- each manager stands as it has to
abbrev pub ArePlaced : {Decider Manager : Type 0} → (Decider → Decisions) → (Manager → Seen) → ServerView Decider → List Manager → ℕ → Type 0
ArePlaced {Manager = Manager} decides seen server managers reached =
    (place : ℕ) (manager : Manager) → slice_get managers place ≡ Some manager
    → IsPlaced (decides server.decider).versions server reached place (seen manager)

-- a server with its bounds: a place for each receipt, and a number and versions that there are
pub record IsSound {Decider : Type 0} (decides : Decider → Decisions) (server : ServerView Decider) : Type 0 where
  pub few : server.managers ≤ 16
  pub places : length server.receipts ≡ 16
  pub numbers : number_of server.phase ≤ server.most
  pub versions : AreVersions (decides server.decider).versions server.phase

-- the promise of a coordinator: it has the managers that are registered, and each stands as it has to
pub record IsLed {Decider Manager : Type 0} (decides : Decider → Decisions) (seen : Manager → Seen) (led : Led Decider Manager) : Type 0 where
  pub sound : IsSound decides led.server
  pub registered : length led.managers ≡ led.server.managers
  pub within : led.reached ≤ led.server.managers
  pub placed : ArePlaced decides seen led.server led.managers led.reached

-- a relation of what stands at a place before and after, where something stands there
abbrev pub AreBoth : {A : Type 0} → (A → A → Type 0) → Option A → Option A → Type 0
AreBoth R None None = Unit {0}
AreBoth R None (Some now) = ⊥
AreBoth R (Some was) None = ⊥
AreBoth R (Some was) (Some now) = R was now

-- a relation of what stands at a place before and after and of what was said there
abbrev pub AreAll : {A S : Type 0} → (A → A → S → Type 0) → Option A → Option A → Option S → Type 0
AreAll R None None None = Unit {0}
AreAll R (Some was) (Some now) (Some said) = R was now said
AreAll R was now said = ⊥

-- a client acted at the manager there, and the others are as they were
pub record HasServed {Manager : Type 0} (does : Manager → Manager → Type 0) (old new : List Manager) (place : ℕ) : Type 0 where
  pub was : Manager
  pub now : Manager
  pub there : slice_get old place ≡ Some was
  pub managers : new ≡ slice_set old place now
  pub done : does was now

-- the same version goes on where it is proposed and some manager has no notice
abbrev pub goes_on : {Decider : Type 0} → ServerView Decider → ℕ → ℕ → ℕ → Bool
goes_on server reached proposed version = (proposed == version) && nat_lt reached server.managers

-- a refusal as one of the notices to all: no manager is reached
abbrev pub for_all : NotifyFault → NotifyAllFault
for_all (refusing.Pending number) = faults.Pending number
for_all refusing.NoVersion = faults.NoVersion
for_all refusing.Spent = faults.Spent
for_all refusing.Memory = faults.Memory 0

-- why a version is not given to all managers, in the order of the tests; want of memory is none of these
abbrev pub fault_on : {Decider : Type 0} → Phase → ℕ → ServerView Decider → ℕ → ℕ → Option NotifyAllFault
fault_on (Pending number old new) versions server reached version =
    if goes_on server reached new version then None else Some (faults.Pending number)
fault_on (Settled number old) versions server reached version = option_map for_all (notice_fault (Settled number old) versions version server.most)

abbrev pub notify_all_fault : {Decider : Type 0} → ℕ → ServerView Decider → ℕ → ℕ → Option NotifyAllFault
notify_all_fault versions server reached version = fault_on server.phase versions server reached version

-- the server with the version proposed, as before where it goes on; the number that is then proposed; and how many managers
-- have their notice then
abbrev pub started_on : {Decider : Type 0} → Phase → ServerView Decider → ℕ → ServerView Decider
started_on (Settled number old) server version = proposed server (number + 1) version
started_on (Pending number old new) server version = server

abbrev pub started : {Decider : Type 0} → ServerView Decider → ℕ → ServerView Decider
started server version = started_on server.phase server version

abbrev pub number_after : Phase → ℕ
number_after (Settled number old) = number + 1
number_after (Pending number old new) = number

abbrev pub first_on : Phase → ℕ → ℕ
first_on (Settled number old) reached = 0
first_on (Pending number old new) reached = reached

-- what a round of notices does to the manager at a place: those that have theirs are not asked; from there on each is asked
-- and gives the number, up to the first that wants memory; and those behind that one are not asked
pub record IsNotifiedAt {Manager : Type 0} (seen : Manager → Seen) (version number first reached place : ℕ) (was now : Manager) : Type 0 where
  pub before : place < first → now ≡ was
  pub given : first ≤ place → place < reached → IsNotified version (seen was) (seen now) (Ok number)
  pub refused : place ≡ reached → IsNotified version (seen was) (seen now) (Err refusing.Memory)
  pub behind : reached < place → now ≡ was

-- a manager is notified, and gives the number or refuses
pub record IsTold {Manager : Type 0} (seen : Manager → Seen) (version : ℕ) (given : Bool) (was now : Manager) : Type 0 where
  pub said : Result ℕ NotifyFault
  pub notified : IsNotified version (seen was) (seen now) said
  pub given_is : is_ok said ≡ given

-- a round of notices, where it is not said yet what number is given and why one is refused
pub record IsToldAt {Manager : Type 0} (seen : Manager → Seen) (version first reached place : ℕ) (was now : Manager) : Type 0 where
  pub before : place < first → now ≡ was
  pub given : first ≤ place → place < reached → IsTold seen version true was now
  pub refused : place ≡ reached → IsTold seen version false was now
  pub behind : reached < place → now ≡ was

-- how a round of notices ends
abbrev pub ending : ℕ → ℕ → ℕ → Result ℕ NotifyAllFault
ending number reached managers = if nat_lt reached managers then Err (faults.Memory reached) else Ok number

-- the receipt that a manager would give is expected
abbrev pub IsExpected : {Decider : Type 0} → ServerView Decider → Seen → Type 0
IsExpected server seen = is_pending seen.phase ≡ true → receipt_fault server (record { manager = seen.manager; number = number_of seen.phase }) ≡ None

-- a server but for the receipts that are in
pub record IsSameServer {Decider : Type 0} (old new : ServerView Decider) : Type 0 where
  pub decider : new.decider ≡ old.decider
  pub managers : new.managers ≡ old.managers
  pub most : new.most ≡ old.most
  pub phase : new.phase ≡ old.phase
  pub places : length new.receipts ≡ length old.receipts

-- what a manager says
abbrev pub said_of : Ack → Said
said_of (acks.Done receipt) = saying.Kept
said_of (acks.Busy older) = saying.Busy older
said_of (acks.Behind left) = saying.Behind left
said_of acks.Idle = saying.Idle

-- a manager says that its receipt is kept
abbrev pub is_kept : Said → Bool
is_kept saying.Kept = true
is_kept other = false

-- a manager says that it has no notice
abbrev pub is_idle : Said → Bool
is_idle saying.Idle = true
is_idle other = false

-- a manager says that older passes keep it back
abbrev pub is_busy : Said → Bool
is_busy (saying.Busy older) = true
is_busy other = false

-- a manager is asked whether it acknowledges, or forced to, and says so
pub record IsAsked {Manager : Type 0} (seen : Manager → Seen) (forced : Bool) (was now : Manager) (said : Said) : Type 0 where
  pub ack : Ack
  pub acknowledged : IsAcknowledged forced (seen was) (seen now) ack
  pub said_is : said ≡ said_of ack

-- one whose receipt is in is not asked
abbrev pub IsAskedUnless : {Manager : Type 0} → (Manager → Seen) → Bool → Bool → Manager → Manager → Said → Type 0
IsAskedUnless seen forced true was now said = (now ≡ was) × (said ≡ saying.Kept)
IsAskedUnless seen forced false was now said = IsAsked seen forced was now said

-- a manager is asked unless its receipt is in, and after that the receipt is in exactly where it says that it is kept
pub record IsRound {Manager : Type 0} (seen : Manager → Seen) (same : Manager → Manager → Type 0) (forced was_in is_in_now : Bool)
    (was now : Manager) (said : Said) : Type 0 where
  pub asked : IsAskedUnless seen forced was_in was now said
  pub same_is : same was now
  pub now_in : is_in_now ≡ is_kept said

-- the answer: idle where nothing is proposed, complete where each receipt is kept
abbrev pub ack_all_answer : Phase → List Said → AckAll
ack_all_answer (Settled number version) said = acking.Idle
ack_all_answer (Pending number old new) said = if list_all is_kept said then acking.Complete number else acking.Waiting

-- what holds where the answer is that the number is complete
abbrev pub IfComplete : AckAll → (ℕ → Type 0) → Type 0
IfComplete acking.Idle P = Unit {0}
IfComplete (acking.Complete number) P = P number
IfComplete acking.Waiting P = Unit {0}

-- where the server stands after such an answer
abbrev pub phase_after : AckAll → Phase → Phase
phase_after acking.Idle phase = phase
phase_after (acking.Complete number) phase = acknowledged phase
phase_after acking.Waiting phase = phase

-- a round of questions. Each manager was asked once whether it acknowledges, or forced to, unless its receipt was in, and what each said stands at its
-- place; where nothing is proposed none was asked, and all is as before. The number is complete exactly where each says that its receipt is kept, and
-- then each history has its acknowledgement. The managers stay the same ones, in their order, and stood before as they have to
pub record HasAskedAll {Decider Manager : Type 0} (decides : Decider → Decisions) (seen : Manager → Seen) (same : Manager → Manager → Type 0) (forced : Bool)
    (old new : Led Decider Manager) (said_before said : List Said) (result : AckAll) : Type 0 where
  pub answer : result ≡ ack_all_answer old.server.phase said
  pub idle : is_pending old.server.phase ≡ false → new ≡ old
  pub idle_said : is_pending old.server.phase ≡ false → said ≡ said_before
  pub asked : is_pending old.server.phase ≡ true
      → (place : ℕ) → AreAll (IsAskedUnless seen forced (is_in old.server.receipts place)) (slice_get old.managers place) (slice_get new.managers place) (slice_get said place)
  pub many : length new.managers ≡ length old.managers
  pub same_are : (place : ℕ) → AreBoth same (slice_get old.managers place) (slice_get new.managers place)
  pub was_led : IsLed decides seen old
  -- exactly those say that they are idle that have no notice yet, and none that is forced says that it is busy
  pub unreached : is_pending old.server.phase ≡ true → (place : ℕ) → IfSome (slice_get said place) (λ one. is_idle one ≡ not (nat_lt place old.reached))
  pub never_busy : is_pending old.server.phase ≡ true → forced ≡ true → (place : ℕ) → IfSome (slice_get said place) (λ one. is_busy one ≡ false)
  pub complete : IfComplete result (λ number. (place : ℕ) → IfSome (slice_get new.managers place) (λ manager. HasAcknowledged (seen manager).history number))
  pub receipts : result ≡ acking.Waiting → (place : ℕ) → IfSome (slice_get said place) (λ one. is_in new.server.receipts place ≡ is_kept one)
  pub phase : new.server.phase ≡ phase_after result old.server.phase
  pub decider : new.server.decider ≡ old.server.decider
  pub managers : new.server.managers ≡ old.server.managers
  pub most : new.server.most ≡ old.server.most
  pub reached : new.reached ≡ old.reached

-- what a notice to all answers: the fault, if there is one; else the number, where every manager has its notice then, and
-- want of memory where not
abbrev pub notify_all_answer : Option NotifyAllFault → ℕ → ℕ → ℕ → Result ℕ NotifyAllFault
notify_all_answer (Some fault) number reached managers = Err fault
notify_all_answer None number reached managers = ending number reached managers

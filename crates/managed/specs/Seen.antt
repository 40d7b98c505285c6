-- What the administrator sees of a manager, and what each of its three calls does to that.
use Rattle.std.specs.Prelude.{◌≤◌, ◌≡◌, ℕ, ◌+◌, ◌-◌, ◌⊎◌, min, Bool, true, false, IsTrue, List, [], ◌∷◌, ◌++◌, All, length, take, drop, Option, Some, None, option_map, is_some, Result, Ok, Err, if◌then◌else◌, IfSome}
use Rattle.access_vectors.specs.Asking.{counted}
use Rattle.access_vectors.specs.Phases.{number_of, is_pending, noticed, acknowledged}
use Rattle.access_vectors.specs.Stale.{Follows, now_following, all_following}
use Rattle.access_vectors.specs.declared.phase.Phase.{Phase}
use Rattle.access_vectors.specs.Notices.{notice_fault, IsRefusal}
use Rattle.manager_history.specs.Kept.{ack_answer, force_answer, is_done}
use Rattle.manager_history.specs.declared.answers.Ack.{Ack}
use Rattle.access_vectors.specs.declared.change.NotifyFault.{NotifyFault}
use Rattle.manager_history.specs.declared.entry.Entry.{Entry}
use Rattle.manager_history.specs.declared.entry.Entry.TheVariants as entry
use Rattle.managed.specs.declared.managed.Shown.{Shown}
use Rattle.managed.specs.declared.managed.Event.{Event}
use Rattle.managed.specs.declared.managed.Event.TheVariants.{Operation, Notice, Acknowledgement}

-- an entry of a history as the administrator sees it
abbrev pub event_of : {Call Reply : Type 0} → Entry Call Reply → Event
event_of (entry.Op caller mark call number asked reply) = Operation caller mark number
event_of (entry.Aborted caller mark call number) = Operation caller mark number
event_of (entry.Notice number version) = Notice number version
event_of (entry.Ack number) = Acknowledgement number false
event_of (entry.Forced number) = Acknowledgement number true

-- a turn of the administrator at a manager: the event that it added or none, how many older passes it counted where it counted
-- them, and how many stale slots it found and left
pub record Turn : Type 0 where
  pub added : Option Event
  pub older : Option ℕ
  pub found : ℕ
  pub left : ℕ

-- what the administrator sees of a manager: its number, where its change of policy stands, its history, the last policy
-- number that may be made, how many versions there are, how many tries of a change there were, and what the last one showed.
-- A manager on one thread tells besides how many older passes are held, what number each used slot follows, and which slots
-- are stale; a manager that threads share tells a list of its turns.
pub record Seen : Type 0 where
  pub manager : ℕ
  pub phase : Phase
  pub history : List Event
  pub most : ℕ
  pub versions : ℕ
  pub tries : ℕ
  pub shown : Shown
  pub older : Option ℕ
  pub follows : Option Follows
  pub stale : Option (List ℕ)
  pub items : Option (List Turn)

-- an event is a caller's operation
abbrev pub IsOperation : Event → Type 0
IsOperation (Operation caller mark number) = Unit {0}
IsOperation other = ⊥

-- a history grew by callers' operations, and then by these events. Where callers cannot come between, by these alone.
pub record IsGrown (alone : Bool) (old new added : List Event) : Type 0 where
  pub between : List Event
  pub operations : All IsOperation between
  pub none : IsTrue alone → between ≡ []
  pub grown : new ≡ old ++ between ++ added

-- where turns are told, they grew by one, of which this is known
abbrev pub HasItem : Option (List Turn) → Option (List Turn) → (Turn → Type 0) → Type 0
HasItem None new is = new ≡ None
HasItem (Some items) new is = (turn : Turn) × is turn × (new ≡ Some (items ++ turn ∷ []))

-- where turns are told, they grew by one without an event, or stayed
abbrev pub MayHaveItem : Option (List Turn) → Option (List Turn) → Type 0
MayHaveItem None new = new ≡ None
MayHaveItem (Some items) new = (new ≡ Some items) ⊎ ((turn : Turn) × (turn.added ≡ None) × (new ≡ Some (items ++ turn ∷ [])))

-- a turn is the try that was shown: it added this, counted so many older passes, and found and left as many stale slots as were
-- shown
pub record IsShownTry (shown : Shown) (added : Option Event) (older : Option ℕ) (turn : Turn) : Type 0 where
  pub added_is : turn.added ≡ added
  pub older_is : turn.older ≡ older
  pub found_is : turn.found ≡ shown.found
  pub left_is : turn.left ≡ shown.left

-- what no call of the administrator changes
pub record IsSame (old new : Seen) : Type 0 where
  pub manager : new.manager ≡ old.manager
  pub most : new.most ≡ old.most
  pub versions : new.versions ≡ old.versions

-- what clients do at a manager: callers' operations at most
pub record IsServed (old new : Seen) : Type 0 where
  pub same : IsSame old new
  pub phase : new.phase ≡ old.phase
  pub history : IsGrown false old.history new.history []

-- a call that tried nothing; where items are told, each item counts as a try, and a call may add one. The count never falls.
pub record IsUntried (old new : Seen) : Type 0 where
  pub rises : old.tries ≤ new.tries
  pub tries : is_some old.items ≡ false → new.tries ≡ old.tries
  pub shown : is_some old.items ≡ false → new.shown ≡ old.shown

-- a notice that was given, under its number
pub record IsNoticed (version : ℕ) (old new : Seen) (number : ℕ) : Type 0 where
  pub allowed : notice_fault old.phase old.versions version old.most ≡ None
  pub number_is : number ≡ number_of old.phase + 1
  pub phase : new.phase ≡ noticed old.phase number version
  pub history : IsGrown (is_some old.follows) old.history new.history (Notice number version ∷ [])
  pub items : HasItem old.items new.items (λ turn. turn.added ≡ Some (Notice number version))

-- a notice that was refused
pub record IsNotNoticed (version : ℕ) (old new : Seen) (fault : NotifyFault) : Type 0 where
  pub refused : IsRefusal (notice_fault old.phase old.versions version old.most) fault
  pub phase : new.phase ≡ old.phase
  pub history : IsGrown (is_some old.follows) old.history new.history []
  pub items : MayHaveItem old.items new.items

-- a notice that was given, or one that was refused
abbrev pub IsAnswered : ℕ → Seen → Seen → Result ℕ NotifyFault → Type 0
IsAnswered version old new (Ok number) = IsNoticed version old new number
IsAnswered version old new (Err fault) = IsNotNoticed version old new fault

-- a notice: refused where a change is pending, no such version is there, or the numbers are spent; else given under the next
-- number. What slots follow stays.
pub record IsNotified (version : ℕ) (old new : Seen) (said : Result ℕ NotifyFault) : Type 0 where
  pub same : IsSame old new
  pub untried : IsUntried old new
  pub answer : IsAnswered version old new said
  pub older : is_some new.older ≡ is_some old.older
  pub follows : new.follows ≡ old.follows
  pub stale : is_some new.stale ≡ is_some old.stale

-- what slots follow after an update of at most so many of those that are stale, where that is told
abbrev pub revised_follows : ℕ → Phase → Option (List ℕ) → Option Follows → Option Follows
revised_follows most phase (Some stale) (Some follows) = Some (now_following (take most stale) (number_of phase) follows)
revised_follows most phase stale follows = follows

-- an update by at most so many slots: a try, which shows how many stale slots it found and left
pub record IsUpdated (most : ℕ) (old new : Seen) (left : ℕ) : Type 0 where
  pub same : IsSame old new
  pub tries : new.tries ≡ counted old.tries
  pub older_shown : new.shown.older ≡ 0
  pub found_shown : IfSome old.stale (λ stale. new.shown.found ≡ length stale)
  pub left_shown : new.shown.left ≡ new.shown.found - min most new.shown.found
  pub left_is : left ≡ new.shown.left
  pub phase : new.phase ≡ old.phase
  pub history : IsGrown (is_some old.follows) old.history new.history []
  pub items : HasItem old.items new.items (IsShownTry new.shown None None)
  pub older : new.older ≡ old.older
  pub follows : new.follows ≡ revised_follows most old.phase old.stale old.follows
  pub stale : new.stale ≡ option_map (drop most) old.stale

-- what an acknowledgement, forced or not, adds to the history
abbrev pub acknowledging : Bool → Phase → Bool → List Event
acknowledging forced phase false = []
acknowledging forced phase true = Acknowledgement (number_of phase) forced ∷ []

abbrev pub acknowledging_item : Bool → Phase → Bool → Option Event
acknowledging_item forced phase false = None
acknowledging_item forced phase true = Some (Acknowledgement (number_of phase) forced)

-- what slots follow after it, where that is told
abbrev pub settled_follows : Phase → Bool → Option Follows → Option Follows
settled_follows phase false follows = follows
settled_follows phase true follows = option_map (all_following (number_of phase)) follows

-- the older passes that it counts: a forced one counts none
abbrev pub older_counted : Bool → Shown → Option ℕ
older_counted false shown = Some shown.older
older_counted true shown = None

-- the older passes that it shows: those that it waits for, where they are told; and a forced one waits for none
abbrev pub ShowsOlder : Bool → Option ℕ → ℕ → Type 0
ShowsOlder false told shown = IfSome told (λ older. shown ≡ older)
ShowsOlder true told shown = shown ≡ 0

-- while a change is pending an acknowledgement is a try, which shows the older passes that it waits for and the stale slots
-- that it found
pub record IsTried (forced : Bool) (old new : Seen) (done : Bool) : Type 0 where
  pub tries : new.tries ≡ counted old.tries
  pub older_shown : ShowsOlder forced old.older new.shown.older
  pub found_shown : IfSome old.stale (λ stale. new.shown.found ≡ length stale)
  pub left_shown : new.shown.left ≡ new.shown.found
  pub items : HasItem old.items new.items (IsShownTry new.shown (acknowledging_item forced old.phase done) (older_counted forced new.shown))

-- where no change is pending an acknowledgement is no try
pub record IsIdle (old new : Seen) : Type 0 where
  pub untried : IsUntried old new
  pub items : MayHaveItem old.items new.items

abbrev pub IsTriedWhere : Bool → Bool → Seen → Seen → Bool → Type 0
IsTriedWhere true forced old new done = IsTried forced old new done
IsTriedWhere false forced old new done = IsIdle old new

-- what an acknowledgement, forced or not, answers by what it showed: a forced one is never busy
abbrev pub answer_of : Bool → Phase → ℕ → Shown → Ack
answer_of false phase manager shown = ack_answer phase manager shown.older shown.found
answer_of true phase manager shown = force_answer phase manager shown.found

-- an acknowledgement: idle where no change is pending; else busy where it waits for older passes, behind where slots are stale,
-- and else done. A forced one waits for no pass.
pub record IsAcknowledged (forced : Bool) (old new : Seen) (said : Ack) : Type 0 where
  pub same : IsSame old new
  pub answer : said ≡ answer_of forced old.phase old.manager new.shown
  pub tried : IsTriedWhere (is_pending old.phase) forced old new (is_done said)
  pub phase : new.phase ≡ (if is_done said then acknowledged old.phase else old.phase)
  pub history : IsGrown (is_some old.follows) old.history new.history (acknowledging forced old.phase (is_done said))
  pub older : is_some new.older ≡ is_some old.older
  pub follows : new.follows ≡ settled_follows old.phase (is_done said) old.follows
  pub stale : is_some new.stale ≡ is_some old.stale

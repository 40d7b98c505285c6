-- What a caller knows after a call at a station.
use Rattle.std.specs.Prelude.{◌≡◌, ℕ, true, false, List, [], ◌∷◌, ◌++◌, map, Option, Some, if◌then◌else◌}
use Rattle.std.specs.FinMap as maps
use Rattle.access_vectors.specs.Decisions.{Decisions}
use Rattle.access_vectors.specs.Asking.{with_keys_of}
use Rattle.access_vectors.specs.Forced.{is_aborted}
use Rattle.access_vectors.specs.Stale.{Follows, AreNamed, is_use_following}
use Rattle.access_vectors.specs.declared.asked.Asked.{Asked}
use Rattle.access_vectors.specs.declared.phase.Phase.TheVariants.{Settled}
use Rattle.manager_history.specs.declared.entry.Entry.{Entry}
use Rattle.manager_history.specs.declared.entry.Entry.TheVariants.{Op, Aborted}
use Rattle.manager_history.specs.declared.answers.Answer.{Answer as Said}
use Rattle.manager_history.specs.declared.answers.Answer.TheVariants as saying
use Rattle.manager_history.specs.Answers.{Manager, Denial}
use Rattle.manager_history.specs.Histories.{start_of, IsLawful}
use Rattle.manager_history.specs.Laws.{RevocationHolds, DenialsAreJust}
use Rattle.gate_rule.specs.History.{StartsWith}
use Rattle.epoch_gate.specs.Seats.{SeatView}
use Rattle.epoch_gate.specs.Known.{seen_by, own_entries, caller_number, pass_held, pass_number, quota_left, keys_served, slots_followed}
use Rattle.avc_rows.specs.Checks.{as_asked}
use Rattle.managed_run.specs.Kinds.{phase_of}

-- a history keeps the promises of a manager from its opening: it is lawful, no operation in it rests on a permission that was
-- withdrawn, and each denial in it is just
pub record IsSound {Call Reply State : Type 0} (plain : Manager Call Reply State) (formed : Decisions → State → ℕ → Call → Type 0)
    (denial_of : Reply → Option Denial) (d : Decisions) (opening : State) (log : List (Entry Call Reply)) : Type 0 where
  pub lawful : IsLawful plain formed d (start_of opening) log
  pub revocation : RevocationHolds d (Settled 0 0) log
  pub denials : DenialsAreJust denial_of d (Settled 0 0) log

module _ {Call Reply D O : Type 0} where
  -- the entry of an operation of the seat, and that of its call that was aborted
  abbrev pub operation_of : SeatView (Entry Call Reply) D O → ℕ → Call → List Asked → Reply → Entry Call Reply
  operation_of s mark call asked reply = Op (caller_number s) mark call (pass_number s) asked reply

  abbrev pub aborted_of : SeatView (Entry Call Reply) D O → ℕ → Call → Entry Call Reply
  aborted_of s mark call = Aborted (caller_number s) mark call (pass_number s)

  -- the entry was added behind the history that the turn found, of which what was seen before is the beginning; of the own
  -- entries it is the only new one
  pub record HasAdded (entry : Entry Call Reply) (s t : SeatView (Entry Call Reply) D O) : Type 0 where
    pub before : List (Entry Call Reply)
    pub begins : StartsWith before (seen_by s)
    pub seen : seen_by t ≡ before ++ entry ∷ []
    pub mine : own_entries t ≡ own_entries s ++ entry ∷ []

  -- the seat was served the key of each question, in order; for a use through a slot that follows the pass's number, none
  pub record HasServed (slot : Option ℕ) (asked : List Asked) (s t : SeatView (Entry Call Reply) D O) : Type 0 where
    pub follows : Follows
    pub taken : slots_followed t ≡ maps.entries follows
    pub served : Some (map as_asked (keys_served t))
        ≡ (if is_use_following slot follows (pass_number s) then Some (map as_asked (keys_served s)) else with_keys_of (Some (map as_asked (keys_served s))) asked)

  -- the call was done: an operation with these questions and this reply was added, and in the history that the turn found the
  -- pass's number was not below the settled one, and each used slot followed a number that may be named there, which is the
  -- settled one where nothing is pending
  pub record HasDone (use_of : ℕ → Call → Option ℕ) (mark : ℕ) (call : Call) (asked : List Asked) (reply : Reply) (s t : SeatView (Entry Call Reply) D O) : Type 0 where
    pub added : HasAdded (operation_of s mark call asked reply) s t
    pub in_force : is_aborted (phase_of added.before) (pass_number s) ≡ false
    pub served : HasServed (use_of (caller_number s) call) asked s t
    pub named : AreNamed (phase_of added.before) served.follows

  -- the call was aborted: that was added, there were no questions, no key was served, and in the history that the turn found
  -- the pass's number was below the settled one
  pub record HasAborted (mark : ℕ) (call : Call) (asked : List Asked) (s t : SeatView (Entry Call Reply) D O) : Type 0 where
    pub added : HasAdded (aborted_of s mark call) s t
    pub below : is_aborted (phase_of added.before) (pass_number s) ≡ true
    pub none_asked : asked ≡ []
    pub keys : keys_served t ≡ keys_served s

  -- the call was answered so
  abbrev pub HasAnswered : (ℕ → Call → Option ℕ) → ℕ → Call → Said Reply → List Asked → SeatView (Entry Call Reply) D O → SeatView (Entry Call Reply) D O → Type 0
  HasAnswered use_of mark call (saying.Did reply) asked s t = HasDone use_of mark call asked reply s t
  HasAnswered use_of mark call saying.Aborted asked s t = HasAborted mark call asked s t

  -- nothing was added: what was seen is how the history that the turn found begins, and the own entries are as before
  pub record HasAddedNone (s t : SeatView (Entry Call Reply) D O) : Type 0 where
    pub begins : StartsWith (seen_by t) (seen_by s)
    pub mine : own_entries t ≡ own_entries s

  -- the caller's number, pass and quota are as before
  pub record KeepsPass (s t : SeatView (Entry Call Reply) D O) : Type 0 where
    pub number : caller_number t ≡ caller_number s
    pub pass : pass_held t ≡ pass_held s
    pub quota : quota_left t ≡ quota_left s

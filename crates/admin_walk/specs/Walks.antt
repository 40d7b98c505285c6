-- How the administrator's lines move a change of policy over all managers, and which turns they give to each.
use Rattle.std.specs.Prelude.{◌≡◌, ℕ, zero, suc, ◌+◌, ◌-◌, ◌<◌, min, Bool, true, false, not, ◌&&◌, ◌||◌, ◌==◌, nat_lt, List, [], ◌∷◌, ◌++◌, Some, None, is_some, unwrap_or, if◌then◌else◌}
use Rattle.access_vectors.specs.declared.phase.Phase.{Phase}
use Rattle.access_vectors.specs.declared.phase.Phase.TheVariants.{Settled, Pending}
use Rattle.managed.specs.Seen.{Turn}
use Rattle.managed.specs.declared.managed.Event.TheVariants.{Notice, Acknowledgement}
use Rattle.security_server.specs.Numbering.{ServerView, is_in}
use Rattle.session_text.specs.declared.session.Run.{Run}
use Rattle.session_text.specs.declared.session.Run.TheVariants as run
use Rattle.session_text.specs.declared.session.RunLine.{RunLine}

-- where a change of policy over all managers stands: at rest under the settled number, or under way with the pending number and, by
-- the numbers of managers, whether each has acknowledged it
pub data Stand : Type 0 where
  Rest : ℕ → Stand
  Under : ℕ → List Bool → Stand

-- where a server's change stands
abbrev pub stand_at : Phase → List Bool → Stand
stand_at (Settled number version) receipts = Rest number
stand_at (Pending number old new) receipts = Under number receipts

abbrev pub stand_of : {Decider : Type 0} → ServerView Decider → Stand
stand_of server = stand_at server.phase server.receipts

-- by the number of a manager, the turns that it is given, in order
abbrev pub Given : Type 0
Given = ℕ → List Turn

-- none of so many managers is given a turn
abbrev pub GivesNone : ℕ → Given → Type 0
GivesNone count given = (place : ℕ) → place < count → given place ≡ []

-- one turn, of which this is known
abbrev pub IsOne : (Turn → Type 0) → List Turn → Type 0
IsOne is turns = (turn : Turn) × is turn × (turns ≡ turn ∷ [])

-- each of so many managers is given one turn, of which this is known
abbrev pub GivesEach : ℕ → (Turn → Type 0) → Given → Type 0
GivesEach count is given = (place : ℕ) → place < count → IsOne is (given place)

-- the turn of an update by at most so many slots: it adds nothing, counts no passes, and leaves of the stale slots that it found
-- those that are too many
pub record IsUpdateTurn (most : ℕ) (turn : Turn) : Type 0 where
  pub nothing : turn.added ≡ None
  pub uncounted : turn.older ≡ None
  pub left_is : turn.left ≡ turn.found - min most turn.found

-- the turn of a notice: it adds it
pub record IsNoticeTurn (number version : ℕ) (turn : Turn) : Type 0 where
  pub notice : turn.added ≡ Some (Notice number version)

-- a turn found no stale slot, and counted no older pass
abbrev pub is_clear : Turn → Bool
is_clear turn = (unwrap_or turn.older 0 == 0) && (turn.found == 0)

-- the turn of an acknowledgement, forced or not: one that is not forced counts older passes; and it adds the acknowledgement of the
-- number exactly where it is clear
pub record IsTryTurn (forced : Bool) (number : ℕ) (turn : Turn) : Type 0 where
  pub counts : is_some turn.older ≡ not forced
  pub added_is : turn.added ≡ (if is_clear turn then Some (Acknowledgement number forced) else None)

-- some of these turns added an event
abbrev pub adds_any : List Turn → Bool
adds_any [] = false
adds_any (turn ∷ turns) = is_some turn.added || adds_any turns

-- the test holds of each number below this
abbrev pub all_below : ℕ → (ℕ → Bool) → Bool
all_below zero test = true
all_below (suc count) test = test 0 && all_below count (λ place. test (suc place))

-- a version that is noticed: each manager is given one turn with the notice of the number, and the change is under way, with no
-- acknowledgement
pub record BeginsChange (count number version : ℕ) (given : Given) (next : Stand) : Type 0 where
  pub notices : GivesEach count (IsNoticeTurn number version) given
  pub receipts : List Bool
  pub none_in : (place : ℕ) → place < count → is_in receipts place ≡ false
  pub next_is : next ≡ Under number receipts

-- a manager that has acknowledged is not asked, and any other is given one turn
abbrev pub IsAskedAt : Bool → ℕ → Bool → List Turn → Type 0
IsAskedAt forced number true turns = turns ≡ []
IsAskedAt forced number false turns = IsOne (IsTryTurn forced number) turns

-- the managers are asked for their acknowledgements, or forced to them: each that has not acknowledged is given one turn, and has
-- acknowledged then where that adds an event; and the change is at rest exactly where all have
pub record AsksAll (forced : Bool) (count number : ℕ) (receipts : List Bool) (given : Given) (next : Stand) : Type 0 where
  pub asked : (place : ℕ) → place < count → IsAskedAt forced number (is_in receipts place) (given place)
  pub after : List Bool
  pub now_in : (place : ℕ) → place < count → is_in after place ≡ (is_in receipts place || adds_any (given place))
  pub next_is : next ≡ (if all_below count (is_in after) then Rest number else Under number after)

-- nothing happens
abbrev pub IsStill : ℕ → Stand → Given → Stand → Type 0
IsStill count at given next = GivesNone count given × (next ≡ at)

-- a version of those that there are is noticed where the change is at rest; else nothing happens
abbrev pub NoticesIf : Bool → ℕ → ℕ → ℕ → Given → Stand → Type 0
NoticesIf true count number version given next = BeginsChange count (number + 1) version given next
NoticesIf false count number version given next = IsStill count (Rest number) given next

abbrev pub NotifyStep : ℕ → ℕ → Stand → ℕ → Given → Stand → Type 0
NotifyStep versions count (Rest number) version given next = NoticesIf (nat_lt version versions) count number version given next
NotifyStep versions count (Under number receipts) version given next = IsStill count (Under number receipts) given next

-- managers are asked where the change is under way; else nothing happens
abbrev pub AskStep : Bool → ℕ → Stand → Given → Stand → Type 0
AskStep forced count (Rest number) given next = IsStill count (Rest number) given next
AskStep forced count (Under number receipts) given next = AsksAll forced count number receipts given next

-- a line is the administrator's
abbrev pub is_administrators : Run → Bool
is_administrators (run.Notify version) = true
is_administrators (run.Update most) = true
is_administrators run.Ack = true
is_administrators run.Force = true
is_administrators other = false

-- 1 for one of its lines, and else 0; and how many of these lines are its own
abbrev pub one_if : Bool → ℕ
one_if true = 1
one_if false = 0

abbrev pub own_lines : List RunLine → ℕ
own_lines [] = 0
own_lines (line ∷ lines) = one_if (is_administrators line.run) + own_lines lines

-- what a line gives to so many managers, and where the change stands then
abbrev pub Step : ℕ → ℕ → Stand → Run → Given → Stand → Type 0
Step versions count at (run.Update most) given next = GivesEach count (IsUpdateTurn most) given × (next ≡ at)
Step versions count at (run.Notify version) given next = NotifyStep versions count at version given next
Step versions count at run.Ack given next = AskStep false count at given next
Step versions count at run.Force given next = AskStep true count at given next
Step versions count at other given next = IsStill count at given next

-- what lines give one after another: each manager is given the turns of the first line, and then those of the others
abbrev pub Walks : ℕ → ℕ → Stand → List RunLine → Given → Stand → Type 0
Walks versions count at [] given end = GivesNone count given × (end ≡ at)
Walks versions count at (line ∷ lines) given end =
    (first : Given) × (rest : Given) × (next : Stand) × ((place : ℕ) → place < count → given place ≡ first place ++ rest place)
    × Step versions count at line.run first next × Walks versions count next lines rest end

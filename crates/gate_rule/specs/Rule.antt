-- The rule of a gate. It has eight parts: entry budget, passes counted and pass numbers (`passes`), cached rows (`rows`), the turn (`tickets`, `place`), the value at rest and the one that is out (`noticed`, `dated`, `place`), the histories seen (`each`, `promised`, `unmade`) and clearance (in `passes`).
use Rattle.std.specs.Prelude.{◌≡◌, ℕ, ◌+◌, ◌-◌, ◌*◌, ◌<◌, ◌≤◌, ◌⊎◌, Bool, true, false, List, [], ◌∷◌, map, length, slice_index, Option, Some}
use Rattle.std.specs.List.{sum_by}
use Rattle.std.specs.FinMap as maps
use mathlib.Core.Option.{some, none}
use mathlib.Core.Option as maybe
use lib.ListN.{get_elem?}
use Rattle.atomic_table.specs.Table.{State}
use Rattle.access_vectors.specs.Decisions.{Decisions}
use Rattle.gate_rule.specs.declared.view.Role.{Role}
use Rattle.gate_rule.specs.declared.view.Role.TheVariants.{Spent, Caller, Admin}
use Rattle.gate_rule.specs.declared.view.Ticket.{Ticket}
use Rattle.gate_rule.specs.declared.view.Rights.{Rights}
use Rattle.gate_rule.specs.declared.view.Pass.TheVariants.{Out}
use Rattle.gate_rule.specs.declared.view.Ended.{Ended}
use Rattle.gate_rule.specs.declared.view.Item.{Item}
use Rattle.gate_rule.specs.declared.view.Fixed.{Fixed}
use Rattle.gate_rule.specs.declared.view.View.{View}
use Rattle.gate_rule.specs.declared.journal.Terms.{Terms}
use Rattle.gate_rule.specs.History.{of_caller, controls, last_notice, settled_in, forced_in, version_of, StartsWith}
use Rattle.gate_rule.specs.Meaning.{Means}
use Rattle.gate_rule.specs.Tickets.{Tickets, has_turn}
use Rattle.gate_rule.specs.Passes.{Passes}
use Rattle.gate_rule.specs.Rows.{Rows}
use Rattle.gate_rule.specs.Views.{is_caller, entry_added, entries_of}

-- no number was retired twice
abbrev pub AreOnce : {E : Type 0} → List (Ended E) → Type 0
AreOnce {E} ended = (i : ℕ) (e : Ended E) → get_elem? ended i ≡ some e → (j : ℕ) (u : Ended E) → get_elem? ended j ≡ some u → e.number ≡ u.number → i ≡ j

-- what no seat knows whole: the history that counts, the numbers made and retired, which seat each number belongs to and whether it is in use, and the policy numbers
pub record Truth (E : Type 0) : Type 0 where
  pub log : List E
  pub made : ℕ
  pub gone : ℕ
  pub holder : ℕ → ℕ
  pub live : ℕ → Bool
  pub newest : ℕ
  pub settled : ℕ
  pub counted : ℕ
  pub clear : ℕ
  pub forced : ℕ
  pub version : ℕ → ℕ

module _ {E D O : Type 0} where
  -- what the seat is
  abbrev pub role_of : View E D O → Role
  role_of v = v.role

  -- the seat's ticket
  abbrev pub ticket_of : View E D O → Ticket
  ticket_of v = v.ticket

  -- the seat's pass and quota
  abbrev pub rights_of : View E D O → Rights
  rights_of v = v.rights

  -- no seat has the turn
  abbrev pub NoTurn : List (View E D O) → Type 0
  NoTurn views = (j : ℕ) (v : View E D O) → get_elem? views j ≡ some v → has_turn v.ticket ≡ false

module _ {V E D O : Type 0} (M : Means V E D O) where
  -- what the key of the table fixes
  abbrev pub fixed_of : Terms V D → Fixed D O
  fixed_of k = record { decider = k.decider.value; opening = M.opening k.first.value; seats = k.seats; quota = k.quota; most = k.most }

  -- a value with the gate's opening and decider, whose history its type promises, and which itself is as its type promises
  abbrev pub IsOf : Fixed D O → V → Type 0
  IsOf f x = (M.opening x ≡ f.opening) × (M.decider x ≡ f.decider) × M.promise f.opening f.decider (M.history x) × M.keeps x

  -- what a seat with the turn says of the value is true of the one that it took: its history, what its slots follow, and how many are stale
  abbrev pub HasOf : Fixed D O → View E D O → Type 0
  HasOf f v = (x : V) × IsOf f x × (M.history x ≡ v.seen) × (v.follows ≡ maps.entries (M.follows x)) × (v.admin_view.found ≡ length (M.stale x))

  -- what an item of the administrator's turns says is true of the value that was taken in that turn and of the one that was given back: the entry between them, and how many slots of each are stale
  abbrev pub IsTurn : Fixed D O → Item E → Type 0
  IsTurn f i =
      (x : V) × (y : V) × IsOf f x × IsOf f y × (i.entry ≡ entry_added (M.history x) (M.history y))
      × (i.found ≡ length (M.stale x)) × (i.left ≡ length (M.stale y))

  -- a retired number's entries are those of the history that counts
  abbrev pub FitsEnded : Truth E → Ended E → Type 0
  FitsEnded t e = (e.number < t.made) × (t.live e.number ≡ false) × (e.entries ≡ of_caller M.kind e.number t.log)

  -- what the administrator knows: it is the first seat, and knows how many numbers were made and retired, the retired callers' entries, each number once, the current number with its version, the passes counted and cleared, every notice and acknowledgement, and what it found and left in each turn; it has no pass
  pub record FitsAdmin (f : Fixed D O) (t : Truth E) (seat : ℕ) (v : View E D O) : Type 0 where
    pub first : seat ≡ 0
    pub made : v.admin_view.made ≡ t.made
    pub retired : length v.admin_view.ended ≡ t.gone
    pub ended : (k : ℕ) (e : Ended E) → get_elem? v.admin_view.ended k ≡ some e → FitsEnded t e
    pub newest : v.admin_view.newest ≡ t.newest
    pub version : v.admin_view.version ≡ t.version t.newest
    pub counted : v.admin_view.counted ≡ t.counted
    pub clear : v.admin_view.clear ≡ t.clear
    pub controls_are : controls M.kind t.log ≡ entries_of v.admin_view.turns
    pub known : controls M.kind v.seen ≡ entries_of v.admin_view.turns
    pub fixed : v.fixed ≡ Some f
    pub outside : v.rights.pass ≡ Out
    pub turns : (i : ℕ) (turn : Item E) → get_elem? v.admin_view.turns i ≡ some turn → IsTurn f turn
    pub once : AreOnce v.admin_view.ended

  -- what a seat knows by what it is: a caller has a number of its own and knows its own entries; the administrator knows what was said above
  abbrev pub FitsRole : Fixed D O → Truth E → ℕ → View E D O → Role → Type 0
  FitsRole f t seat v Spent = (has_turn v.ticket ≡ false) × (v.rights.pass ≡ Out)
  FitsRole f t seat v (Caller n) = (n < t.made) × (t.holder n ≡ seat) × (t.live n ≡ true) × (v.mine ≡ of_caller M.kind n t.log) × (v.fixed ≡ Some f)
  FitsRole f t seat v Admin = FitsAdmin f t seat v

  -- what a seat has seen is how the history begins, meets the promise, and notices no number beyond the newest
  pub record Fits (f : Fixed D O) (t : Truth E) (seat : ℕ) (v : View E D O) : Type 0 where
    pub seen : StartsWith t.log v.seen
    pub promised : M.promise f.opening f.decider v.seen
    pub noticed : (last_notice M.kind v.seen).0 ≤ t.newest
    pub role : FitsRole f t seat v v.role

  -- the last notice is that of the newest number; or the administrator has the turn and has raised the number, and its notice is still to come
  abbrev pub IsNoticed : Truth E → List (View E D O) → Type 0
  IsNoticed t views =
      (last_notice M.kind t.log ≡ (t.newest, t.version t.newest))
      ⊎ ((v : View E D O) × (get_elem? views 0 ≡ some v) × (has_turn v.ticket ≡ true) × (v.role ≡ Admin) × ((last_notice M.kind t.log).0 ≡ t.settled) × (t.newest ≡ t.settled + 1))

  -- the value is in the slot, with the history that counts, and is as its type promises
  abbrev pub IsHome : Fixed D O → List (maybe.Option (Option V)) → List E → List (View E D O) → Type 0
  IsHome f homes log views = (x : V) × (homes ≡ some (Some x) ∷ []) × (M.history x ≡ log) × NoTurn views × (M.opening x ≡ f.opening) × (M.decider x ≡ f.decider) × M.keeps x

  -- a seat has the turn and the slot, has seen all, and what it says of the value is true of the one that it took
  abbrev pub IsOut : Fixed D O → List (maybe.Option (Option V)) → List E → List (View E D O) → Type 0
  IsOut f homes log views =
      (seat : ℕ) × (v : View E D O) × (homes ≡ none ∷ []) × (get_elem? views seat ≡ some v) × (has_turn v.ticket ≡ true) × (v.seen ≡ log) × HasOf f v

-- policy numbers are at most the most, their versions are the decider's, and each but the newest has the version of its notice
pub record Dated (versions most : ℕ) (said : ℕ → ℕ) (newest : ℕ) (version : ℕ → ℕ) : Type 0 where
  pub within : (newest ≤ most) × (most < 1048576)
  pub bounds : versions ≤ 256
  pub known : (m : ℕ) → m ≤ newest → version m < versions
  pub told : (m : ℕ) → m < newest → version m ≡ said m

module _ {V E D O : Type 0} (M : Means V E D O) (decides : D → Decisions) where
  -- the whole rule: there is a truth with which words, slot and views agree.
  -- `first` says that the first view is the administrator's; `passes` has the entry budget, the passes counted, the pass numbers and the clearance; `rows` the cached rows; `tickets` and `place` the turn;
  -- `noticed`, `dated`, `promised` and `place` the value at rest; `each`, `begins`, `promised` and `unmade` the histories seen; `acknowledged` ties the settled and the forced number to the history
  pub record RuleHolds (k : Terms V D) (s : State (Option V) (View E D O)) : Type 0 where
    pub t : Truth E
    pub wide : length s.words ≡ 517
    pub seats : (length s.views ≡ t.made + 1) × (t.made ≤ k.seats) × (k.seats ≤ 64)
    pub first : get_elem? (map role_of s.views) 0 ≡ some Admin
    pub numbers : sum_by is_caller (map role_of s.views) + t.gone ≡ t.made
    pub tickets : Tickets (map ticket_of s.views) (slice_index s.words 3) (slice_index s.words 4)
    pub passes : Passes (map rights_of s.views) t.newest t.settled t.forced t.counted ((k.seats - t.made) * k.quota) t.clear t.version (slice_index s.words 0) (slice_index s.words 1) (slice_index s.words 2)
    pub rows : Rows (decides (fixed_of M k).decider) t.newest t.version s.words
    pub acknowledged : (settled_in M.kind t.log ≡ t.settled) × (forced_in M.kind t.log ≡ t.forced)
    pub noticed : IsNoticed M t s.views
    pub dated : Dated (decides (fixed_of M k).decider).versions (fixed_of M k).most (λ m. version_of M.kind m t.log) t.newest t.version
    pub begins : M.promise (fixed_of M k).opening (fixed_of M k).decider []
    pub promised : M.promise (fixed_of M k).opening (fixed_of M k).decider t.log
    pub place : IsHome M (fixed_of M k) s.homes t.log s.views ⊎ IsOut M (fixed_of M k) s.homes t.log s.views
    pub each : (j : ℕ) (v : View E D O) → get_elem? s.views j ≡ some v → Fits M (fixed_of M k) t j v
    pub unmade : (n : ℕ) → t.made ≤ n → of_caller M.kind n t.log ≡ []

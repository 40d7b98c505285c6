-- What a step asks of the value that is given back, and what each kind of step tells the seat that makes it.
use Rattle.std.specs.Prelude.{◌≡◌, ◌≢◌, ℕ, ◌+◌, ◌-◌, ◌%◌, ◌<◌, ◌≤◌, ◌⊎◌, true, false, List, [], ◌∷◌, ◌++◌, length, slice_index, Option, Some}
use mathlib.Core.Option.{some}
use lib.ListN.{get_elem?}
use Rattle.atomic_table.specs.Table.{State, Me, Step}
use Rattle.access_vectors.specs.Decisions.{Decisions}
use Rattle.row_words.specs.Words.{gate_word, IsGate}
use Rattle.gate_rule.specs.declared.view.Role.{Role}
use Rattle.gate_rule.specs.declared.view.Role.TheVariants.{Spent, Caller, Admin}
use Rattle.gate_rule.specs.declared.view.Pass.{Pass}
use Rattle.gate_rule.specs.declared.view.Pass.TheVariants.{Out, Inside}
use Rattle.gate_rule.specs.declared.view.Key.{Key}
use Rattle.gate_rule.specs.declared.view.AdminView.{AdminView}
use Rattle.gate_rule.specs.declared.view.Ended.{Ended}
use Rattle.gate_rule.specs.declared.view.Item.{Item}
use Rattle.gate_rule.specs.declared.view.Fixed.{Fixed}
use Rattle.gate_rule.specs.declared.view.View.{View}
use Rattle.gate_rule.specs.declared.journal.Terms.{Terms}
use Rattle.access_vectors.specs.Phases.{MayName, version_at}
use Rattle.gate_rule.specs.History.{Kind, of_caller, controls, last_notice, settled_in, forced_in, version_of, phase_in, StartsWith}
use Rattle.gate_rule.specs.History.Kind.{Call, Notice, Ack}
use Rattle.gate_rule.specs.Meaning.{Means}
use Rattle.gate_rule.specs.Tickets.{word_of}
use Rattle.gate_rule.specs.Rows.{shows}
use Rattle.gate_rule.specs.Views.{entered, left, drawn, missed, took, gave, raised, counted, saw_row, filled, glanced, number_in, version_in, passes_in, number_of, pass_version, entries_of}
use Rattle.gate_rule.specs.Rule.{RuleHolds, IsOf, IsTurn, AreOnce, fixed_of}

-- a pass under what the gate fixes: its version is one of the decider's, and its number at most the most
abbrev pub IsPassFor : {D O : Type 0} → (D → Decisions) → Fixed D O → ℕ → ℕ → Type 0
IsPassFor decides f number version = (version < (decides f.decider).versions) × (number ≤ f.most)

module _ {E : Type 0} (kind : E → Kind) where
  -- the pass is one that this place of the history allows: of the settled number, of the last noticed one or of one below a forced one, with that number's version
  abbrev pub IsAllowed : Pass → List E → Type 0
  IsAllowed Out log = Unit {0}
  IsAllowed (Inside n v) log = ((n ≡ settled_in kind log) ⊎ ((n ≡ (last_notice kind log).0) ⊎ (n < forced_in kind log))) × (v ≡ version_of kind n log)

  -- the pass may be named at this place of the history: unless its number is below the settled one, the phase there allows the number, and the version is that number's there
  abbrev pub IsNamed : Pass → List E → Type 0
  IsNamed Out log = Unit {0}
  IsNamed (Inside n v) log = settled_in kind log ≤ n → MayName (phase_in kind log) n × (v ≡ version_at (phase_in kind log) n)

  -- what the administrator learns of the history that it takes: the last notice is that of its current number, which is settled or pending; its turns' entries are all notices and acknowledgements, and so they were of what it had seen; and a number that was never made has no entry
  pub record LearnsAdmin (admin_view : AdminView E) (seen log : List E) : Type 0 where
    pub last : last_notice kind log ≡ (admin_view.newest, admin_view.version)
    pub settled : (settled_in kind log ≡ admin_view.newest) ⊎ (admin_view.newest ≡ settled_in kind log + 1)
    pub controls_are : controls kind log ≡ entries_of admin_view.turns
    pub known : controls kind seen ≡ entries_of admin_view.turns
    pub unmade : (n : ℕ) → admin_view.made ≤ n → of_caller kind n log ≡ []

module _ {E D O : Type 0} (kind : E → Kind) where
  -- what a seat learns of the history that it takes: a caller, that its own entries are all of its number, and that its pass is allowed; the administrator, what was said above
  abbrev pub Learns : View E D O → Role → List E → Type 0
  Learns v Spent log = Unit {0}
  Learns v (Caller n) log = (v.mine ≡ of_caller kind n log) × IsAllowed kind v.rights.pass log
  Learns v Admin log = LearnsAdmin kind v.admin_view v.seen log

  -- an entry that a seat may add: a caller, a call under its number and its pass's number; the administrator, the notice of the current number, or its acknowledgement, which unless forced needs that nothing older is left
  abbrev pub IsOwn : View E D O → Role → E → Type 0
  IsOwn v Spent e = ⊥
  IsOwn v (Caller n) e = (mark : ℕ) × (number : ℕ) × (version : ℕ) × (v.rights.pass ≡ Inside number version) × (kind e ≡ Call n mark number)
  IsOwn v Admin e = (kind e ≡ Notice v.admin_view.newest v.admin_view.version) ⊎ ((kind e ≡ Ack v.admin_view.newest true) ⊎ ((kind e ≡ Ack v.admin_view.newest false) × (v.admin_view.clear ≡ v.admin_view.newest)))

  -- the history is the one seen with at most one entry more, which a seat of this role may add
  abbrev pub Grows : View E D O → Role → List E → Type 0
  Grows v role log = (log ≡ v.seen) ⊎ ((e : E) × (log ≡ v.seen ++ e ∷ []) × IsOwn v role e)

  -- the history grew so, and the administrator leaves the last notice at its current number
  abbrev pub Extends : View E D O → List E → Type 0
  Extends v log = Grows v v.role log × (v.role ≡ Admin → last_notice kind log ≡ (v.admin_view.newest, v.admin_view.version))

module _ {V E D O : Type 0} (M : Means V E D O) where
  -- what a seat learns with the turn
  abbrev pub Takes : View E D O → V → Type 0
  Takes v x = StartsWith (M.history x) v.seen × Learns M.kind v v.role (M.history x) × ((f : Fixed D O) → v.fixed ≡ Some f → IsOf M f x)

  -- a retired number was made, and its entries are all of that number in the history
  abbrev pub IsEnded : View E D O → List E → Ended E → Type 0
  IsEnded v log e = (e.number < v.admin_view.made) × (e.entries ≡ of_caller M.kind e.number log)

  -- what the administrator learns of the value with which a gate ends: it is the gate's; its turns' entries are all notices and acknowledgements, and each turn found and left what it says; each retired number's entries are all of that number, no number was retired twice, and one that was never made has no entry; what was seen is how the history begins; and the last notice is that of the current number
  pub record Closes (v : View E D O) (x : V) : Type 0 where
    pub value : (f : Fixed D O) → v.fixed ≡ Some f → IsOf M f x
    pub controls_are : controls M.kind (M.history x) ≡ entries_of v.admin_view.turns
    pub turns : (f : Fixed D O) → v.fixed ≡ Some f → (i : ℕ) (turn : Item E) → get_elem? v.admin_view.turns i ≡ some turn → IsTurn M f turn
    pub ended : (i : ℕ) (e : Ended E) → get_elem? v.admin_view.ended i ≡ some e → IsEnded v (M.history x) e
    pub once : AreOnce v.admin_view.ended
    pub unmade : (n : ℕ) → v.admin_view.made ≤ n → of_caller M.kind n (M.history x) ≡ []
    pub seen : StartsWith (M.history x) v.seen
    pub last : last_notice M.kind (M.history x) ≡ (v.admin_view.newest, v.admin_view.version)

module _ {V E D O : Type 0} (M : Means V E D O) (decides : D → Decisions) where
  -- at some moment the table met the whole rule, this view was a seat's, and the word was this one
  abbrev pub ManagerView : Fixed D O → View E D O → ℕ → ℕ → Type 0
  ManagerView f v word n =
      (k : Terms V D) × (s : State (Option V) (View E D O)) × (id : ℕ) × RuleHolds M decides k s × (fixed_of M k ≡ f) × (get_elem? s.views id ≡ some v) × (slice_index s.words word ≡ n)

  -- so of whatever the view says that the gate fixes
  abbrev pub Stands : View E D O → ℕ → ℕ → Type 0
  Stands v word n = (f : Fixed D O) → v.fixed ≡ Some f → ManagerView f v word n

  -- entering
  abbrev pub enters : Step (Option V) → Me (Option V) (View E D O) → ℕ → Me (Option V) (View E D O) → Type 0
  enters st m n m' =
      (m' ≡ (entered m.0 n, m.1)) × ((last_notice M.kind m.0.seen).0 ≤ number_in n)
      × ((f : Fixed D O) → m.0.fixed ≡ Some f → IsPassFor decides f (number_in n) (version_in n)) × Stands m.0 0 n

  -- leaving
  abbrev pub leaves : Step (Option V) → Me (Option V) (View E D O) → ℕ → Me (Option V) (View E D O) → Type 0
  leaves st m n m' = (m' ≡ (left m.0 n, m.1)) × Stands m.0 st.word n

  -- drawing a ticket
  abbrev pub draws : Step (Option V) → Me (Option V) (View E D O) → ℕ → Me (Option V) (View E D O) → Type 0
  draws st m n m' = (m' ≡ (drawn m.0 n, m.1)) × Stands m.0 3 n

  -- looking at the ticket served: the turn, where it is the own one
  abbrev pub polls : Step (Option V) → Me (Option V) (View E D O) → ℕ → Me (Option V) (View E D O) → Type 0
  polls st m n m' =
      (n ≡ word_of m.0.ticket → (x : V) × (m' ≡ (took M x m.0 n, (0, Some x) ∷ [])) × Takes M m.0 x)
      × (n ≢ word_of m.0.ticket → m' ≡ (missed m.0 n, m.1)) × Stands m.0 4 n

  -- passing the turn on, with the value that is in hand
  abbrev pub gives : Step (Option V) → Me (Option V) (View E D O) → ℕ → Me (Option V) (View E D O) → Type 0
  gives st m n m' = ((y : V) → m.1 ≡ (0, Some y) ∷ [] → m' ≡ (gave M y m.0 n, [])) × Stands m.0 4 n

  -- raising the number
  abbrev pub raises : Step (Option V) → Me (Option V) (View E D O) → ℕ → Me (Option V) (View E D O) → Type 0
  raises st m n m' =
      (m' ≡ (raised m.0 n ((n + st.first) % 18446744073709551616), m.1))
      × (n ≡ gate_word m.0.admin_view.newest m.0.admin_view.version (passes_in n)) × IsGate (m.0.admin_view.newest + 1) m.0.admin_view.version (passes_in n)
      × (m.0.admin_view.counted ≤ passes_in n) × Stands m.0 0 n

  -- counting the older passes
  abbrev pub counts : Step (Option V) → Me (Option V) (View E D O) → ℕ → Me (Option V) (View E D O) → Type 0
  counts st m n m' =
      (m' ≡ (counted m.0 n, m.1)) × (n ≤ m.0.admin_view.counted) × ((m.0.admin_view.counted - n) + length m.0.admin_view.ended ≤ m.0.admin_view.made) × Stands m.0 st.word n

  -- looking at a row: what it shows under the pass's number is the decider's vector for the pass's version
  abbrev pub sees_row : Key → Step (Option V) → Me (Option V) (View E D O) → ℕ → Me (Option V) (View E D O) → Type 0
  sees_row key st m n m' =
      (m' ≡ (saw_row key m.0 st.word n, m.1))
      × (shows (number_of m.0.rights.pass) key n ≡ true → (f : Fixed D O) → m.0.fixed ≡ Some f → n % 65536 ≡ (decides f.decider).vector (pass_version m.0.rights.pass) key.source key.target key.class)
      × Stands m.0 st.word n

  -- filling a row
  abbrev pub fills_row : Key → Step (Option V) → Me (Option V) (View E D O) → ℕ → Me (Option V) (View E D O) → Type 0
  fills_row key st m n m' = (m' ≡ (filled key m.0 st.word n st.first, m.1)) × Stands m.0 st.word n

  -- a load of the gate word by the administrator
  abbrev pub glances : Step (Option V) → Me (Option V) (View E D O) → ℕ → Me (Option V) (View E D O) → Type 0
  glances st m n m' = (m' ≡ (glanced m.0 n, m.1)) × (length m.0.admin_view.ended ≤ m.0.admin_view.made) × Stands m.0 0 n

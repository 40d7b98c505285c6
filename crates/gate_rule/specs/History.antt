-- What the gate reads in a history: callers' entries, notices and acknowledgements.
use Rattle.std.specs.Prelude.{◌≡◌, ℕ, ◌+◌, ◌<◌, ◌≤◌, ◌==◌, Bool, true, false, cond, List, [], ◌∷◌, ◌++◌, Option, Some, None}
use Rattle.std.specs.List.{fold, filter}
use Rattle.access_vectors.specs.declared.phase.Phase.{Phase}
use Rattle.access_vectors.specs.declared.phase.Phase.TheVariants.{Settled}
use Rattle.access_vectors.specs.Phases as phases
use Rattle.access_vectors.specs.Forced as by

-- the three kinds of entry: a call by a caller with its mark under a policy number; the notice of a number and its version; the acknowledgement of a number, and whether it is forced
pub data Kind : Type 0 where
  Call : ℕ → ℕ → ℕ → Kind
  Notice : ℕ → ℕ → Kind
  Ack : ℕ → Bool → Kind

-- an entry of this caller
abbrev pub is_by : ℕ → Kind → Bool
is_by n (Call caller mark number) = caller == n
is_by n (Notice number version) = false
is_by n (Ack number forced) = false

-- a notice or an acknowledgement
abbrev pub is_control : Kind → Bool
is_control (Call caller mark number) = false
is_control (Notice number version) = true
is_control (Ack number forced) = true

-- a forced acknowledgement
abbrev pub is_forced : Kind → Bool
is_forced (Call caller mark number) = false
is_forced (Notice number version) = false
is_forced (Ack number forced) = forced

-- the last noticed number and version after one more entry
abbrev pub noticed : ℕ × ℕ → Kind → ℕ × ℕ
noticed p (Call caller mark number) = p
noticed p (Notice number version) = (number, version)
noticed p (Ack number forced) = p

-- the settled number after one more entry
abbrev pub settled : ℕ → Kind → ℕ
settled a (Call caller mark number) = a
settled a (Notice number version) = a
settled a (Ack number forced) = number

-- the number of a forced acknowledgement
abbrev pub forced_of : Kind → Option ℕ
forced_of (Call caller mark number) = None
forced_of (Notice number version) = None
forced_of (Ack number true) = Some number
forced_of (Ack number false) = None

-- the greatest forced number after one more entry
abbrev pub forced_to : ℕ → Kind → ℕ
forced_to a kind = by.forced_to a (forced_of kind)

-- the version of the number m after one more entry
abbrev pub dated : ℕ → ℕ → Kind → ℕ
dated m v (Call caller mark number) = v
dated m v (Notice number version) = cond (number == m) version v
dated m v (Ack number forced) = v

-- the phase of the policy change after one more entry
abbrev pub phase_after : Phase → Kind → Phase
phase_after phase (Call caller mark number) = phase
phase_after phase (Notice number version) = phases.noticed phase number version
phase_after phase (Ack number forced) = phases.acknowledged phase

-- whether an entry of this kind may come: a notice of the next number where all is settled, an acknowledgement of a number that is pending, and a call at any time
abbrev pub MayCome : ℕ → ℕ → ℕ → Kind → Type 0
MayCome versions a c (Call caller mark number) = Unit {0}
MayCome versions a c (Notice number version) = (c ≡ a) × (number ≡ a + 1) × (version < versions)
MayCome versions a c (Ack number forced) = (c ≡ a + 1) × (number ≡ c)

module _ {E : Type 0} (kind : E → Kind) where
  -- a caller's entries, in order
  abbrev pub of_caller : ℕ → List E → List E
  of_caller n log = filter (λ e. is_by n (kind e)) log

  -- the notices and acknowledgements, in order
  abbrev pub controls : List E → List E
  controls log = filter (λ e. is_control (kind e)) log

  -- number and version of the last notice, or 0 and 0
  abbrev pub last_notice : List E → ℕ × ℕ
  last_notice log = fold (λ p e. noticed p (kind e)) (0, 0) log

  -- the number that was acknowledged last, or 0
  abbrev pub settled_in : List E → ℕ
  settled_in log = fold (λ a e. settled a (kind e)) 0 log

  -- the greatest number of a forced acknowledgement, or 0
  abbrev pub forced_in : List E → ℕ
  forced_in log = by.forced_in (λ e. forced_of (kind e)) log

  -- the version of the number m, that of its notice, or 0
  abbrev pub version_of : ℕ → List E → ℕ
  version_of m log = fold (λ v e. dated m v (kind e)) 0 log

  -- where the policy change stands after a history
  abbrev pub phase_in : List E → Phase
  phase_in log = fold (λ phase e. phase_after phase (kind e)) (Settled 0 0) log

  -- the greatest forced number is at most the settled one, which is at most the last noticed one; where no entry is forced, the greatest forced number is 0
  pub record IsOrdered (log : List E) : Type 0 where
    pub forced : forced_in log ≤ settled_in log
    pub settled : settled_in log ≤ (last_notice log).0
    pub unforced : filter (λ e. is_forced (kind e)) log ≡ [] → forced_in log ≡ 0

  -- each entry may come where it stands
  abbrev pub Alternates : ℕ → ℕ → ℕ → List E → Type 0
  Alternates versions a c [] = Unit {0}
  Alternates versions a c (e ∷ es) = MayCome versions a c (kind e) × Alternates versions (settled a (kind e)) ((noticed (c, 0) (kind e)).0) es

module _ {E : Type 0} where
  -- the second list is how the first begins
  abbrev pub StartsWith : List E → List E → Type 0
  StartsWith log seen = (rest : List E) × (log ≡ seen ++ rest)

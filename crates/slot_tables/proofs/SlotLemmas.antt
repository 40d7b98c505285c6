-- What the finite map of a table of slots has.
use Rattle.std.proofs.Common.{◌≡◌, ℕ, zero, suc, ◌+◌, ◌<◌, ◌≤◌, cond, eqb, List, [], ◌∷◌, ◌++◌, length, set, Option, None, Some, is_some, refl, sym, ap, ◌∙◌, inl, inr, arith}
use Rattle.std.specs.Ordering.{nat_cmp}
use Rattle.std.specs.Cmp.{nat_cmp_total, unsigned_tied}
use Rattle.std.specs.FinMap as maps
use Rattle.std.specs.FinMap.{FinMap, nat_cmp-IsAntisymmetric}
use Rattle.std.proofs.lemmas.Bool.{cases_eq, cases_lt, eq-eqb, ne_eqb, false≢true}
use Rattle.std.proofs.lemmas.List.{get_or-set_same, get_or-set_other}
use Rattle.slot_tables.specs.Slots.{slot_at, slots_from, map_of}

-- what an insertion and a removal leave at a place
pub get-put : {V : Type 0} (m : FinMap nat_cmp V) (place : ℕ) (value : V) (q : ℕ) → maps.get (maps.insert m place value) q ≡ cond (eqb q place) (Some value) (maps.get m q)
get-put m place value q = maps.get-insert nat_cmp_total m place value q ∙ ap (λ t. cond t (Some value) (maps.get m q)) (unsigned_tied q place)

pub get-taken : {V : Type 0} (m : FinMap nat_cmp V) (place : ℕ) (q : ℕ) → maps.get (maps.remove m place) q ≡ cond (eqb q place) None (maps.get m q)
get-taken m place q = maps.get-remove nat_cmp_total m place q ∙ ap (λ t. cond t None (maps.get m q)) (unsigned_tied q place)

-- two maps that have the same are equal
pub same_maps : {V : Type 0} (m n : FinMap nat_cmp V) → ((q : ℕ) → maps.get m q ≡ maps.get n q) → m ≡ n
same_maps m n same = maps.same_map nat_cmp_total nat_cmp-IsAntisymmetric m n same

slot_at-none : {V : Type 0} (index : ℕ) → slot_at {V = V} [] index ≡ None
slot_at-none zero = refl
slot_at-none (suc index) = refl

get-slots_below : {V : Type 0} (base : ℕ) (slots : List (Option V)) (q : ℕ) → q < base → maps.get (slots_from base slots) q ≡ None
unfolding slots_from
get-slots_below base [] q below = maps.get-empty nat_cmp q
get-slots_below base (None ∷ slots) q below = get-slots_below (base + 1) slots q (omega arith)
get-slots_below base (Some value ∷ slots) q below =
    get-put (slots_from (base + 1) slots) base value q ∙ ap (λ t. cond t (Some value) (maps.get (slots_from (base + 1) slots) q)) (ne_eqb q base (λ same. omega arith))
    ∙ get-slots_below (base + 1) slots q (omega arith)

get-slots_from : {V : Type 0} (base : ℕ) (slots : List (Option V)) (index : ℕ) → maps.get (slots_from base slots) (base + index) ≡ slot_at slots index
unfolding slots_from
get-slots_from base [] index = maps.get-empty nat_cmp (base + index) ∙ sym (slot_at-none index)
get-slots_from base (None ∷ slots) zero = get-slots_below (base + 1) slots (base + 0) (omega arith)
get-slots_from base (None ∷ slots) (suc index) = ap (maps.get (slots_from (base + 1) slots)) (omega arith) ∙ get-slots_from (base + 1) slots index
get-slots_from base (Some value ∷ slots) zero =
    get-put (slots_from (base + 1) slots) base value (base + 0) ∙ ap (λ t. cond t (Some value) (maps.get (slots_from (base + 1) slots) (base + 0))) (eq-eqb (base + 0) base (omega arith))
get-slots_from base (Some value ∷ slots) (suc index) =
    get-put (slots_from (base + 1) slots) base value (base + suc index)
    ∙ ap (λ t. cond t (Some value) (maps.get (slots_from (base + 1) slots) (base + suc index))) (ne_eqb (base + suc index) base (λ same. omega arith))
    ∙ ap (maps.get (slots_from (base + 1) slots)) (omega arith) ∙ get-slots_from (base + 1) slots index

-- the map has at a place what the slot there holds
pub get-map_of : {V : Type 0} (slots : List (Option V)) (q : ℕ) → maps.get (map_of slots) q ≡ slot_at slots q
unfolding map_of
get-map_of slots q = ap (maps.get (slots_from 0 slots)) (omega arith) ∙ get-slots_from 0 slots q

pub map_of-set : {V : Type 0} (slots : List (Option V)) (place : ℕ) (value : V) → place < length slots → map_of (set slots place (Some value)) ≡ maps.insert (map_of slots) place value
map_of-set slots place value within = same_maps _ _ (λ q. get-map_of (set slots place (Some value)) q ∙ at q ∙ sym (get-put (map_of slots) place value q ∙ ap (cond (eqb q place) (Some value)) (get-map_of slots q)))
  where
    at : (q : ℕ) → slot_at (set slots place (Some value)) q ≡ cond (eqb q place) (Some value) (slot_at slots q)
    at q = elim (cases_eq q place) [
      | inl same ↦ ap (slot_at (set slots place (Some value))) same ∙ get_or-set_same slots place (Some value) None within ∙ sym (ap (λ t. cond t (Some value) (slot_at slots q)) (eq-eqb q place same))
      | inr apart ↦ get_or-set_other slots place q (Some value) None apart ∙ sym (ap (λ t. cond t (Some value) (slot_at slots q)) (ne_eqb q place apart))
    ]

pub map_of-clear : {V : Type 0} (slots : List (Option V)) (place : ℕ) → place < length slots → map_of (set slots place None) ≡ maps.remove (map_of slots) place
map_of-clear slots place within = same_maps _ _ (λ q. get-map_of (set slots place None) q ∙ at q ∙ sym (get-taken (map_of slots) place q ∙ ap (cond (eqb q place) None) (get-map_of slots q)))
  where
    at : (q : ℕ) → slot_at (set slots place None) q ≡ cond (eqb q place) None (slot_at slots q)
    at q = elim (cases_eq q place) [
      | inl same ↦ ap (slot_at (set slots place None)) same ∙ get_or-set_same slots place None None within ∙ sym (ap (λ t. cond t None (slot_at slots q)) (eq-eqb q place same))
      | inr apart ↦ get_or-set_other slots place q None None apart ∙ sym (ap (λ t. cond t None (slot_at slots q)) (ne_eqb q place apart))
    ]

None≢Some : {V : Type 0} (value : V) → None ≡ Some value → ⊥
None≢Some value same = false≢true (ap is_some same)

slot_at-past : {V : Type 0} (slots : List (Option V)) (place : ℕ) → length slots ≤ place → slot_at slots place ≡ None
slot_at-past [] zero past = refl
slot_at-past [] (suc place) past = refl
slot_at-past (slot ∷ slots) zero past = absurd (omega arith)
slot_at-past (slot ∷ slots) (suc place) past = slot_at-past slots place (omega arith)

-- a slot past the last holds nothing to take out
pub map_of-past : {V : Type 0} (slots : List (Option V)) (place : ℕ) → length slots ≤ place → map_of slots ≡ maps.remove (map_of slots) place
map_of-past slots place past = same_maps _ _ (λ q. sym (get-taken (map_of slots) place q ∙ at q))
  where
    at : (q : ℕ) → cond (eqb q place) None (maps.get (map_of slots) q) ≡ maps.get (map_of slots) q
    at q = elim (cases_eq q place) [
      | inl same ↦ ap (λ t. cond t None (maps.get (map_of slots) q)) (eq-eqb q place same) ∙ sym (get-map_of slots q ∙ ap (slot_at slots) same ∙ slot_at-past slots place past)
      | inr apart ↦ ap (λ t. cond t None (maps.get (map_of slots) q)) (ne_eqb q place apart)
    ]

slot_at-pushed : {V : Type 0} (slots : List (Option V)) (q : ℕ) → slot_at (slots ++ None ∷ []) q ≡ slot_at slots q
slot_at-pushed [] zero = refl
slot_at-pushed [] (suc q) = refl
slot_at-pushed (slot ∷ slots) zero = refl
slot_at-pushed (slot ∷ slots) (suc q) = slot_at-pushed slots q

-- one more slot, which is free
pub map_of-pushed : {V : Type 0} (slots : List (Option V)) → map_of (slots ++ None ∷ []) ≡ map_of slots
map_of-pushed slots = same_maps _ _ (λ q. get-map_of (slots ++ None ∷ []) q ∙ slot_at-pushed slots q ∙ sym (get-map_of slots q))

-- a slot that holds something is one of the table's
pub used_within : {V : Type 0} (slots : List (Option V)) (q : ℕ) (value : V) → maps.get (map_of slots) q ≡ Some value → q < length slots
used_within slots q value used = elim (cases_lt q (length slots)) [
  | inl within ↦ within
  | inr past ↦ absurd (None≢Some value (sym (slot_at-past slots q past) ∙ sym (get-map_of slots q) ∙ used))
]

-- the table with no slot
pub map_of-none : {V : Type 0} → map_of {V = V} [] ≡ maps.empty
unfolding map_of slots_from
map_of-none = refl

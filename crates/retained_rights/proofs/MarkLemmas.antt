-- Which slots are listed while the rows of the index by pair are gone through.
use Rattle.std.proofs.Common.{◌≡◌, ℕ, ◌+◌, ◌*◌, ◌/◌, ◌%◌, ◌^◌, ◌<◌, Bool, true, false, cond, not, ◌&&◌, ◌||◌, eqb, List, [], ◌∷◌, length, Option, None, Some, refl, sym, ap, ◌∙◌, inl, inr, arith, w64}
use Rattle.std.specs.Option.{is_some, unwrap_or}
use Rattle.std.specs.BTreeMap.{is_at}
use Rattle.std.specs.Cmp.{nat_cmp_total, unsigned_tied, eq_by_cmp_equiv}
use Rattle.std.proofs.lemmas.Map.{lookup-none}
use Rattle.std.proofs.lemmas.Map.Entries.{none_past_head}
use Rattle.std.proofs.lemmas.Map.Keys.{IsDistinct-from_sorted, sorted_tail}
use Rattle.std.specs.Int.{trailing_zeros}
use Rattle.std.specs.List.Sorted.{IsStrictlySortedBy}
use Rattle.std.specs.Map.{keys_of}
use Rattle.std.specs.Ordering.{nat_cmp}
use Rattle.std.specs.FinMap as maps
use Rattle.std.specs.FinMap.{FinMap}
use Rattle.std.proofs.lemmas.Bool.{cases_eq, cases_Bool, eq-eqb, ne_eqb, eqb-true, false≢true}
use Rattle.access_vectors.specs.Decisions.{Decisions, IsClosed}
use Rattle.access_vectors.specs.declared.class.Class.{Class}
use Rattle.slot_tables.specs.Words.{has_bit, holds}
use Rattle.slot_tables.specs.Rows.{on, row_at, row_key}
use Rattle.slot_tables.proofs.BitLemmas.{lowest_is}
use Rattle.slot_tables.proofs.RowLemmas.{on-inside, on-no_row, on_small, none_from_absent}
use Rattle.retained_rights.specs.declared.grant.Grant.{Grant}
use Rattle.retained_rights.specs.Stored.{AreKnown, IsRowOf, IsGrantInRow, pair_name, has_pair, is_changed}

no_pair : (name : ℕ) (held : FinMap nat_cmp Grant) (q : ℕ) → maps.get held q ≡ None → has_pair name (maps.get held q) ≡ true → ⊥
no_pair name held q none has = false≢true (sym (ap (has_pair name) none) ∙ has)

-- the slot of a row's lowest bit holds a grant
pub grant_found : (held : FinMap nat_cmp Grant) (key word : ℕ) (found : Option Grant) → IsRowOf held key word → 0 < word → word < 2 ^ 64
    → maps.get held (64 * (key % 1024) + trailing_zeros w64 word) ≡ found → IsGrantInRow held key word found
grant_found held key word None row some small is =
    let facts = lowest_is word some small in
    let below : trailing_zeros w64 word < 64 = facts.0 in
    let place = 64 * (key % 1024) + trailing_zeros w64 word in
    let bit : place % 64 ≡ trailing_zeros w64 word = omega arith in
    absurd (no_pair (key / 1024) held place is (sym (row place (omega arith)) ∙ ap (has_bit word) bit ∙ facts.1))
grant_found held key word (Some grant) row some small is =
    let facts = lowest_is word some small in
    let below : trailing_zeros w64 word < 64 = facts.0 in
    let place = 64 * (key % 1024) + trailing_zeros w64 word in
    let bit : place % 64 ≡ trailing_zeros w64 word = omega arith in
    (place, omega arith, ap (has_bit word) bit ∙ facts.1, is)

and_false : (b : Bool) → (b && false) ≡ false
and_false true = refl
and_false false = refl

and_true : (b : Bool) → (b && true) ≡ b
and_true true = refl
and_true false = refl

or_false : (b : Bool) → (b || false) ≡ b
or_false true = refl
or_false false = refl

-- a name that has a place has its row
row_there : (rows : List (ℕ × ℕ)) (name q : ℕ) → on rows name q ≡ true → is_some (row_at rows (row_key name q)) ≡ true
row_there rows name q has = elim (cases_Bool (is_some (row_at rows (row_key name q)))) [
  | inl there ↦ there
  | inr none ↦ absurd (false≢true (sym (on-no_row rows name q (on_small rows name q has) (none_from_absent (row_at rows (row_key name q)) none)) ∙ has))
]

-- ---- the rows gone through

-- the row of the slot is still to come
unfoldable pub is_ahead : List (ℕ × ℕ) → ℕ → Option Grant → Bool
is_ahead rest place None = false
is_ahead rest place (Some grant) = is_some (row_at rest (row_key (pair_name grant.s grant.t) place))

-- of the rows, the first are gone through: the changed slots of those are listed, and the pair that was asked about last is
-- known
pub record IsMarked (d : Decisions) (class : Class) (old new : ℕ) (held : FinMap nat_cmp Grant) (rows : List (ℕ × ℕ)) (room : ℕ) (words : List ℕ) (rest : List (ℕ × ℕ)) (pair : ℕ) (differs : Bool) : Type 0 where
  pub marked : (q : ℕ) → holds words q ≡ (is_changed d class old new (maps.get held q) && not (is_ahead rest q (maps.get held q)))
  pub answered : (q : ℕ) (grant : Grant) → maps.get held q ≡ Some grant → pair_name grant.s grant.t ≡ pair → is_changed d class old new (Some grant) ≡ differs
  pub in_rows : (key word : ℕ) → row_at rest key ≡ Some word → row_at rows key ≡ Some word
  pub ordered : IsStrictlySortedBy nat_cmp (keys_of rest)
  pub room_is : length words ≡ room

row_at-head : (key word : ℕ) (rest : List (ℕ × ℕ)) → row_at ((key, word) ∷ rest) key ≡ Some word
row_at-head key word rest = ap (λ t. cond t (Some word) (row_at rest key)) (unsigned_tied key key ∙ eq-eqb key key refl)

row_at-tail : (key word : ℕ) (rest : List (ℕ × ℕ)) (other : ℕ) → (other ≡ key → ⊥) → row_at ((key, word) ∷ rest) other ≡ row_at rest other
row_at-tail key word rest other apart = ap (λ t. cond t (Some word) (row_at rest other)) (unsigned_tied other key ∙ ne_eqb other key apart)

row_at-gone : (key word : ℕ) (rest : List (ℕ × ℕ)) → IsStrictlySortedBy nat_cmp (keys_of ((key, word) ∷ rest)) → row_at rest key ≡ None
row_at-gone key word rest ordered =
    lookup-none (is_at (nat_cmp key)) rest (none_past_head (eq_by_cmp_equiv nat_cmp_total) key (key, word) rest (IsDistinct-from_sorted nat_cmp (keys_of ((key, word) ∷ rest)) ordered) (unsigned_tied key key ∙ eq-eqb key key refl))

-- the indexed rows, each of them
pub row_of : (held : FinMap nat_cmp Grant) (rows : List (ℕ × ℕ)) (key word : ℕ) → ((n q : ℕ) → on rows n q ≡ has_pair n (maps.get held q)) → row_at rows key ≡ Some word → IsRowOf held key word
row_of held rows key word indexed is place at =
    let same : row_key (key / 1024) place ≡ key = omega arith in
    ap (λ o. has_bit (unwrap_or o 0) (place % 64)) (sym is ∙ ap (row_at rows) (sym same)) ∙ sym (on-inside rows (key / 1024) place (omega arith)) ∙ indexed (key / 1024) place

module _ (d : Decisions) (class : Class) (old new : ℕ) (held : FinMap nat_cmp Grant) (rows : List (ℕ × ℕ)) (room : ℕ) (indexed : (n q : ℕ) → on rows n q ≡ has_pair n (maps.get held q)) where
  place_below : (q : ℕ) (grant : Grant) → maps.get held q ≡ Some grant → on rows (pair_name grant.s grant.t) q ≡ true
  place_below q grant used = indexed (pair_name grant.s grant.t) q ∙ ap (has_pair (pair_name grant.s grant.t)) used ∙ eq-eqb (pair_name grant.s grant.t) (pair_name grant.s grant.t) refl

  -- before the first row
  pub mark_none : (words : List ℕ) (pair : ℕ) → ((q : ℕ) → holds words q ≡ false) → length words ≡ room → IsStrictlySortedBy nat_cmp (keys_of rows)
      → ((q : ℕ) (grant : Grant) → maps.get held q ≡ Some grant → pair_name grant.s grant.t ≡ pair → ⊥) → IsMarked d class old new held rows room words rows pair false
  unfolding is_ahead
  mark_none words pair none room_is ordered never =
      record {
        marked = λ q. none q ∙ ahead (maps.get held q) q refl;
        answered = λ q grant used same. absurd (never q grant used same);
        in_rows = λ key word is. is;
        ordered = ordered;
        room_is = room_is;
      }
    where
      ahead : (o : Option Grant) (q : ℕ) → maps.get held q ≡ o → false ≡ (is_changed d class old new o && not (is_ahead rows q o))
      ahead None q is = refl
      ahead (Some grant) q is =
          sym (ap (λ t. is_changed d class old new (Some grant) && not t) (row_there rows (pair_name grant.s grant.t) q (place_below q grant is)) ∙ and_false _)

  -- after the last
  pub mark_all : (words : List ℕ) (pair : ℕ) (differs : Bool) → IsMarked d class old new held rows room words [] pair differs → (q : ℕ) → holds words q ≡ is_changed d class old new (maps.get held q)
  unfolding is_ahead
  mark_all words pair differs marked q = marked.marked q ∙ passed (maps.get held q)
    where
      passed : (o : Option Grant) → (is_changed d class old new o && not (is_ahead [] q o)) ≡ is_changed d class old new o
      passed None = refl
      passed (Some grant) = and_true _

  module _ (words : List ℕ) (key word : ℕ) (rest : List (ℕ × ℕ)) (pair : ℕ) (differs : Bool) (marked : IsMarked d class old new held rows room words ((key, word) ∷ rest) pair differs) where
    head_row : row_at rows key ≡ Some word
    head_row = marked.in_rows key word (row_at-head key word rest)

    pub head_row_of : IsRowOf held key word
    head_row_of = row_of held rows key word indexed head_row

    tail_rows : (other value : ℕ) → row_at rest other ≡ Some value → row_at rows other ≡ Some value
    tail_rows other value is = elim (cases_eq other key) [
      | inl same ↦ absurd (none_some value (sym (ap (row_at rest) same ∙ row_at-gone key word rest marked.ordered) ∙ is))
      | inr apart ↦ marked.in_rows other value (row_at-tail key word rest other apart ∙ is)
    ]
      where
        none_some : (v : ℕ) → None ≡ Some v → ⊥
        none_some v same = cc

    -- a slot whose row is not this one is ahead as it was
    ahead_same : (q : ℕ) (grant : Grant) → (row_key (pair_name grant.s grant.t) q ≡ key → ⊥) → is_ahead ((key, word) ∷ rest) q (Some grant) ≡ is_ahead rest q (Some grant)
    unfolding is_ahead
    ahead_same q grant apart = ap is_some (row_at-tail key word rest (row_key (pair_name grant.s grant.t) q) apart)

    ahead_here : (q : ℕ) (grant : Grant) → row_key (pair_name grant.s grant.t) q ≡ key → is_ahead ((key, word) ∷ rest) q (Some grant) ≡ true
    unfolding is_ahead
    ahead_here q grant same = ap (λ k. is_some (row_at ((key, word) ∷ rest) k)) same ∙ ap is_some (row_at-head key word rest)

    passed_here : (q : ℕ) (grant : Grant) → row_key (pair_name grant.s grant.t) q ≡ key → is_ahead rest q (Some grant) ≡ false
    unfolding is_ahead
    passed_here q grant same = ap (λ k. is_some (row_at rest k)) same ∙ ap is_some (row_at-gone key word rest marked.ordered)

    -- the word's places are those of the slots whose row it is
    bit_is : (q : ℕ) (grant : Grant) → maps.get held q ≡ Some grant → (eqb (q / 64) (key % 1024) && has_bit word (q % 64)) ≡ eqb (row_key (pair_name grant.s grant.t) q) key
    bit_is q grant used =
        let below : q < 65536 = on_small rows (pair_name grant.s grant.t) q (place_below q grant used) in
        elim (cases_eq (q / 64) (key % 1024)) [
          | inl same ↦ ap (λ t. t && has_bit word (q % 64)) (eq-eqb (q / 64) (key % 1024) same) ∙ head_row_of q same ∙ ap (has_pair (key / 1024)) used ∙ names q grant same
          | inr apart ↦ ap (λ t. t && has_bit word (q % 64)) (ne_eqb (q / 64) (key % 1024) apart) ∙ sym (ne_eqb _ _ (λ is. apart (omega arith)))
        ]
      where
        names : (q : ℕ) (grant : Grant) → q / 64 ≡ key % 1024 → eqb (pair_name grant.s grant.t) (key / 1024) ≡ eqb (row_key (pair_name grant.s grant.t) q) key
        names q grant same = elim (cases_eq (pair_name grant.s grant.t) (key / 1024)) [
          | inl is ↦ eq-eqb _ _ is ∙ sym (eq-eqb _ _ (omega arith))
          | inr off ↦ ne_eqb _ _ off ∙ sym (ne_eqb _ _ (λ is. off (omega arith)))
        ]

    no_bit : (q : ℕ) → maps.get held q ≡ None → (eqb (q / 64) (key % 1024) && has_bit word (q % 64)) ≡ false
    no_bit q unused = elim (cases_eq (q / 64) (key % 1024)) [
      | inl same ↦ ap (λ t. t && has_bit word (q % 64)) (eq-eqb (q / 64) (key % 1024) same) ∙ head_row_of q same ∙ ap (has_pair (key / 1024)) unused
      | inr apart ↦ ap (λ t. t && has_bit word (q % 64)) (ne_eqb (q / 64) (key % 1024) apart)
    ]

    -- the row with nothing in it
    pub mark_skipped : ((index : ℕ) → index < 64 → has_bit word index ≡ false) → IsMarked d class old new held rows room words rest pair differs
    unfolding is_ahead
    mark_skipped empty =
        record {
          marked = λ q. marked.marked q ∙ same q (maps.get held q) refl;
          answered = marked.answered;
          in_rows = tail_rows;
          ordered = sorted_tail nat_cmp key (keys_of rest) marked.ordered;
          room_is = marked.room_is;
        }
      where
        apart : (q : ℕ) (grant : Grant) → maps.get held q ≡ Some grant → row_key (pair_name grant.s grant.t) q ≡ key → ⊥
        apart q grant used is =
            false≢true (sym (ap (λ t. eqb (q / 64) (key % 1024) && t) (empty (q % 64) (omega arith)) ∙ and_false _) ∙ bit_is q grant used ∙ eq-eqb _ _ is)

        same : (q : ℕ) (o : Option Grant) → maps.get held q ≡ o → (is_changed d class old new o && not (is_ahead ((key, word) ∷ rest) q o)) ≡ (is_changed d class old new o && not (is_ahead rest q o))
        same q None is = refl
        same q (Some grant) is = ap (λ t. is_changed d class old new (Some grant) && not t) (ahead_same q grant (apart q grant is))

    -- the row's pair asked about, its slots listed where it is changed
    pub mark_step : (grant : Grant) (words' : List ℕ) (answer : Bool) → AreKnown d held → IsClosed d → IsGrantInRow held key word (Some grant)
        → answer ≡ cond (eqb pair (key / 1024)) differs (is_changed d class old new (Some grant)) → length words' ≡ length words
        → ((q : ℕ) → holds words' q ≡ (holds words q || (answer && (eqb (q / 64) (key % 1024) && has_bit word (q % 64))))) → IsMarked d class old new held rows room words' rest (key / 1024) answer
    unfolding is_ahead
    mark_step grant words' answer known closed found answer_is same_room listed =
        record {
          marked = λ q. listed q ∙ ap (λ t. t || (answer && (eqb (q / 64) (key % 1024) && has_bit word (q % 64)))) (marked.marked q) ∙ step q (maps.get held q) refl;
          answered = answered;
          in_rows = tail_rows;
          ordered = sorted_tail nat_cmp key (keys_of rest) marked.ordered;
          room_is = same_room ∙ marked.room_is;
        }
      where
        name_is : pair_name grant.s grant.t ≡ key / 1024
        name_is = eqb-true _ _ (sym (ap (has_pair (key / 1024)) found.3) ∙ sym (head_row_of found.0 found.1) ∙ found.2)

        same_vectors : (q : ℕ) (other : Grant) → maps.get held q ≡ Some other → pair_name other.s other.t ≡ key / 1024 → is_changed d class old new (Some other) ≡ is_changed d class old new (Some grant)
        same_vectors q other used is =
            let t_small : other.t < 4096 = (closed.sids other.t (known q other used).1).1 in
            let t_small' : grant.t < 4096 = (closed.sids grant.t (known found.0 grant found.3).1).1 in
            let s_same : other.s ≡ grant.s = omega (arith, is, name_is) in
            let t_same : other.t ≡ grant.t = omega (arith, is, name_is) in
            λ i. not (eqb (d.vector old (s_same i) (t_same i) class) (d.vector new (s_same i) (t_same i) class))

        answered : (q : ℕ) (other : Grant) → maps.get held q ≡ Some other → pair_name other.s other.t ≡ key / 1024 → is_changed d class old new (Some other) ≡ answer
        answered q other used is = elim (cases_eq pair (key / 1024)) [
          | inl same ↦ marked.answered q other used (is ∙ sym same) ∙ sym (answer_is ∙ ap (λ t. cond t differs (is_changed d class old new (Some grant))) (eq-eqb _ _ same))
          | inr apart ↦ same_vectors q other used is ∙ sym (answer_is ∙ ap (λ t. cond t differs (is_changed d class old new (Some grant))) (ne_eqb _ _ apart))
        ]

        here_name : (q : ℕ) (other : Grant) → maps.get held q ≡ Some other → row_key (pair_name other.s other.t) q ≡ key → pair_name other.s other.t ≡ key / 1024
        here_name q other used is =
            let below : q < 65536 = on_small rows (pair_name other.s other.t) q (place_below q other used) in
            omega arith

        step : (q : ℕ) (o : Option Grant) → maps.get held q ≡ o
            → ((is_changed d class old new o && not (is_ahead ((key, word) ∷ rest) q o)) || (answer && (eqb (q / 64) (key % 1024) && has_bit word (q % 64)))) ≡ (is_changed d class old new o && not (is_ahead rest q o))
        step q None is = ap (λ t. answer && t) (no_bit q is) ∙ and_false answer
        step q (Some other) is = elim (cases_eq (row_key (pair_name other.s other.t) q) key) [
          | inl here ↦ ap (λ t. (is_changed d class old new (Some other) && not t) || (answer && (eqb (q / 64) (key % 1024) && has_bit word (q % 64)))) (ahead_here q other here)
              ∙ ap (λ t. t || (answer && (eqb (q / 64) (key % 1024) && has_bit word (q % 64)))) (and_false _)
              ∙ ap (λ t. answer && t) (bit_is q other is ∙ eq-eqb _ _ here) ∙ and_true answer
              ∙ sym (answered q other is (here_name q other is here)) ∙ sym (ap (λ t. is_changed d class old new (Some other) && not t) (passed_here q other here) ∙ and_true _)
          | inr away ↦ ap (λ t. (is_changed d class old new (Some other) && not (is_ahead ((key, word) ∷ rest) q (Some other))) || (answer && t)) (bit_is q other is ∙ ne_eqb _ _ away)
              ∙ ap (λ t. (is_changed d class old new (Some other) && not (is_ahead ((key, word) ∷ rest) q (Some other))) || t) (and_false answer)
              ∙ or_false _ ∙ ap (λ t. is_changed d class old new (Some other) && not t) (ahead_same q other away)
        ]

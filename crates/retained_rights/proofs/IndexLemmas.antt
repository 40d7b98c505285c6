-- The indexes of a store after a slot is written.
use Rattle.std.proofs.Common.{◌≡◌, ℕ, ◌*◌, ◌<◌, ◌≤◌, Bool, true, false, cond, not, ◌&&◌, ◌||◌, eqb, List, [], length, Option, None, Some, IfSome, refl, sym, ap, ◌∙◌, inl, inr, arith}
use Rattle.std.specs.Ordering.{nat_cmp}
use Rattle.std.specs.FinMap as maps
use Rattle.std.specs.FinMap.{FinMap}
use Rattle.std.proofs.lemmas.Bool.{cases_eq, cases_Bool, eq-eqb, ne_eqb, eqb-true, eqb-false, false≢true, true≢false}
use Rattle.slot_tables.specs.Rows.{on, has_row}
use Rattle.slot_tables.specs.Words.{IsNext}
use Rattle.slot_tables.proofs.RowLemmas.{on_small, on_nothing}
use Rattle.slot_tables.proofs.SlotLemmas.{get-put, get-taken, same_maps}
use Rattle.retained_rights.specs.declared.grant.Grant.{Grant}
use Rattle.retained_rights.specs.Rights.{is_on}
use Rattle.retained_rights.specs.Stored.{IsIndexed, pair_name, has_pair}

and_false : (b : Bool) → (b && false) ≡ false
and_false true = refl
and_false false = refl

-- a number's test is false where the number is taken away
gone : (x y : ℕ) → (not (eqb x y && true) && eqb y x) ≡ false
gone x y = elim (cases_eq x y) [
  | inl same ↦ ap (λ t. not (t && true) && eqb y x) (eq-eqb x y same)
  | inr apart ↦ ap (λ t. not (eqb x y && true) && t) (ne_eqb y x (λ same. apart (sym same))) ∙ and_false _
]

or_none : (b : Bool) → b ≡ (b || false)
or_none true = refl
or_none false = refl

-- the test that a number is put in, where there was none
put_in : (x y : ℕ) → ((eqb x y && true) || false) ≡ eqb y x
put_in x y = elim (cases_eq x y) [
  | inl same ↦ ap (λ t. (t && true) || false) (eq-eqb x y same) ∙ sym (eq-eqb y x (sym same))
  | inr apart ↦ ap (λ t. (t && true) || false) (ne_eqb x y apart) ∙ sym (ne_eqb y x (λ same. apart (sym same)))
]

at_other : (x y q place : ℕ) (b : Bool) → (q ≡ place → ⊥) → (not (eqb x y && eqb q place) && b) ≡ b
at_other x y q place b apart = ap (λ t. not (eqb x y && t) && b) (ne_eqb q place apart) ∙ ap (λ t. not t && b) (and_false (eqb x y))

in_other : (x y q place : ℕ) (b : Bool) → (q ≡ place → ⊥) → ((eqb x y && eqb q place) || b) ≡ b
in_other x y q place b apart = ap (λ t. (eqb x y && t) || b) (ne_eqb q place apart) ∙ ap (λ t. t || b) (and_false (eqb x y))

-- nothing is taken from a slot that holds nothing
pub taken_none : (held : FinMap nat_cmp Grant) (place : ℕ) → maps.get held place ≡ None → held ≡ maps.remove held place
taken_none held place none = same_maps _ _ (λ q. sym (get-taken held place q ∙ elim (cases_eq q place) [
  | inl same ↦ ap (λ t. cond t None (maps.get held q)) (eq-eqb q place same) ∙ sym (ap (maps.get held) same ∙ none)
  | inr apart ↦ ap (λ t. cond t None (maps.get held q)) (ne_eqb q place apart)
]))

module _ {held : FinMap nat_cmp Grant} {words : List ℕ} {pairs objects : List (ℕ × ℕ)} (indexed : IsIndexed held words pairs objects) where
  -- a slot that holds a grant has a place below 65,536
  pub place_small : (place : ℕ) (grant : Grant) → maps.get held place ≡ Some grant → place < 65536
  place_small place grant used =
      on_small objects grant.object place (indexed.by_object grant.object place ∙ ap (is_on grant.object) used ∙ eq-eqb grant.object grant.object refl)

  -- the same grants, with indexes that say the same and no less room
  pub indexed_same : (held' : FinMap nat_cmp Grant) (words' : List ℕ) (pairs' objects' : List (ℕ × ℕ)) → held' ≡ held → length words ≤ length words'
      → ((n q : ℕ) → on pairs' n q ≡ on pairs n q) → ((n q : ℕ) → on objects' n q ≡ on objects n q) → IsIndexed held' words' pairs' objects'
  indexed_same held' words' pairs' objects' same more pairs_same objects_same =
      record {
        by_pair = λ n q. pairs_same n q ∙ indexed.by_pair n q ∙ ap (λ m. has_pair n (maps.get m q)) (sym same);
        by_object = λ n q. objects_same n q ∙ indexed.by_object n q ∙ ap (λ m. is_on n (maps.get m q)) (sym same);
        room = λ q grant used. let room : q < 64 * length words = indexed.room q grant (ap (λ m. maps.get m q) (sym same) ∙ used) in omega arith;
      }

  -- a slot freed
  pub indexed_taken : (held' : FinMap nat_cmp Grant) (words' : List ℕ) (pairs' objects' : List (ℕ × ℕ)) (place : ℕ) (grant : Grant) → maps.get held place ≡ Some grant
      → held' ≡ maps.remove held place → length words' ≡ length words
      → ((n q : ℕ) → on pairs' n q ≡ (not (eqb n (pair_name grant.s grant.t) && eqb q place) && on pairs n q))
      → ((n q : ℕ) → on objects' n q ≡ (not (eqb n grant.object && eqb q place) && on objects n q)) → IsIndexed held' words' pairs' objects'
  indexed_taken held' words' pairs' objects' place grant used is same pairs_less objects_less =
      record {
        by_pair = λ n q. pairs_less n q ∙ elim (cases_eq q place) [
          | inl at ↦ ap (λ t. not (eqb n (pair_name grant.s grant.t) && t) && on pairs n q) (eq-eqb q place at)
              ∙ ap (λ t. not (eqb n (pair_name grant.s grant.t) && true) && t) (indexed.by_pair n q ∙ ap (has_pair n) (ap (maps.get held) at ∙ used)) ∙ gone n (pair_name grant.s grant.t)
              ∙ sym (ap (has_pair n) (free q at))
          | inr off ↦ at_other n (pair_name grant.s grant.t) q place (on pairs n q) off ∙ indexed.by_pair n q ∙ ap (has_pair n) (sym (others q off))
        ];
        by_object = λ n q. objects_less n q ∙ elim (cases_eq q place) [
          | inl at ↦ ap (λ t. not (eqb n grant.object && t) && on objects n q) (eq-eqb q place at)
              ∙ ap (λ t. not (eqb n grant.object && true) && t) (indexed.by_object n q ∙ ap (is_on n) (ap (maps.get held) at ∙ used)) ∙ gone n grant.object
              ∙ sym (ap (is_on n) (free q at))
          | inr off ↦ at_other n grant.object q place (on objects n q) off ∙ indexed.by_object n q ∙ ap (is_on n) (sym (others q off))
        ];
        room = λ q other has. elim (cases_eq q place) [
          | inl at ↦ absurd (none_some other (sym (free q at) ∙ has))
          | inr off ↦ let room : q < 64 * length words = indexed.room q other (sym (others q off) ∙ has) in omega arith
        ];
      }
    where
      free : (q : ℕ) → q ≡ place → maps.get held' q ≡ None
      free q at = ap (λ m. maps.get m q) is ∙ get-taken held place q ∙ ap (λ t. cond t None (maps.get held q)) (eq-eqb q place at)

      others : (q : ℕ) → (q ≡ place → ⊥) → maps.get held' q ≡ maps.get held q
      others q off = ap (λ m. maps.get m q) is ∙ get-taken held place q ∙ ap (λ t. cond t None (maps.get held q)) (ne_eqb q place off)

      none_some : (other : Grant) → None ≡ Some other → ⊥
      none_some other same = cc

  -- a free slot filled
  pub indexed_put : (held' : FinMap nat_cmp Grant) (words' : List ℕ) (pairs' objects' : List (ℕ × ℕ)) (place : ℕ) (grant : Grant) → maps.get held place ≡ None
      → held' ≡ maps.insert held place grant → length words ≤ length words' → place < 64 * length words'
      → ((n q : ℕ) → on pairs' n q ≡ ((eqb n (pair_name grant.s grant.t) && eqb q place) || on pairs n q))
      → ((n q : ℕ) → on objects' n q ≡ ((eqb n grant.object && eqb q place) || on objects n q)) → IsIndexed held' words' pairs' objects'
  indexed_put held' words' pairs' objects' place grant unused is more room pairs_more objects_more =
      record {
        by_pair = λ n q. pairs_more n q ∙ elim (cases_eq q place) [
          | inl at ↦ ap (λ t. (eqb n (pair_name grant.s grant.t) && t) || on pairs n q) (eq-eqb q place at)
              ∙ ap (λ t. (eqb n (pair_name grant.s grant.t) && true) || t) (indexed.by_pair n q ∙ ap (has_pair n) (ap (maps.get held) at ∙ unused)) ∙ put_in n (pair_name grant.s grant.t)
              ∙ sym (ap (has_pair n) (filled q at))
          | inr off ↦ in_other n (pair_name grant.s grant.t) q place (on pairs n q) off ∙ indexed.by_pair n q ∙ ap (has_pair n) (sym (others q off))
        ];
        by_object = λ n q. objects_more n q ∙ elim (cases_eq q place) [
          | inl at ↦ ap (λ t. (eqb n grant.object && t) || on objects n q) (eq-eqb q place at)
              ∙ ap (λ t. (eqb n grant.object && true) || t) (indexed.by_object n q ∙ ap (is_on n) (ap (maps.get held) at ∙ unused)) ∙ put_in n grant.object
              ∙ sym (ap (is_on n) (filled q at))
          | inr off ↦ in_other n grant.object q place (on objects n q) off ∙ indexed.by_object n q ∙ ap (is_on n) (sym (others q off))
        ];
        room = λ q other has. elim (cases_eq q place) [
          | inl at ↦ omega arith
          | inr off ↦ let old : q < 64 * length words = indexed.room q other (sym (others q off) ∙ has) in omega arith
        ];
      }
    where
      filled : (q : ℕ) → q ≡ place → maps.get held' q ≡ Some grant
      filled q at = ap (λ m. maps.get m q) is ∙ get-put held place grant q ∙ ap (λ t. cond t (Some grant) (maps.get held q)) (eq-eqb q place at)

      others : (q : ℕ) → (q ≡ place → ⊥) → maps.get held' q ≡ maps.get held q
      others q off = ap (λ m. maps.get m q) is ∙ get-put held place grant q ∙ ap (λ t. cond t (Some grant) (maps.get held q)) (ne_eqb q place off)

  -- a grant replaced by one on the same object: its place is taken from the one pair and given to the other
  pub indexed_rewritten : (held' : FinMap nat_cmp Grant) (words' : List ℕ) (pairs' objects' : List (ℕ × ℕ)) (place : ℕ) (grant new : Grant) → maps.get held place ≡ Some grant
      → new.object ≡ grant.object → held' ≡ maps.insert held place new → length words' ≡ length words
      → ((n q : ℕ) → on pairs' n q ≡ ((eqb n (pair_name new.s new.t) && eqb q place) || (not (eqb n (pair_name grant.s grant.t) && eqb q place) && on pairs n q)))
      → ((n q : ℕ) → on objects' n q ≡ on objects n q) → IsIndexed held' words' pairs' objects'
  indexed_rewritten held' words' pairs' objects' place grant new used object is same pairs_moved objects_same =
      record {
        by_pair = λ n q. pairs_moved n q ∙ elim (cases_eq q place) [
          | inl at ↦ ap (λ t. (eqb n (pair_name new.s new.t) && t) || (not (eqb n (pair_name grant.s grant.t) && t) && on pairs n q)) (eq-eqb q place at)
              ∙ ap (λ t. (eqb n (pair_name new.s new.t) && true) || (not (eqb n (pair_name grant.s grant.t) && true) && t)) (indexed.by_pair n q ∙ ap (has_pair n) (ap (maps.get held) at ∙ used))
              ∙ ap (λ t. (eqb n (pair_name new.s new.t) && true) || t) (gone n (pair_name grant.s grant.t)) ∙ put_in n (pair_name new.s new.t)
              ∙ sym (ap (has_pair n) (filled q at))
          | inr off ↦ in_other n (pair_name new.s new.t) q place _ off ∙ at_other n (pair_name grant.s grant.t) q place (on pairs n q) off ∙ indexed.by_pair n q ∙ ap (has_pair n) (sym (others q off))
        ];
        by_object = λ n q. objects_same n q ∙ indexed.by_object n q ∙ elim (cases_eq q place) [
          | inl at ↦ ap (is_on n) (ap (maps.get held) at ∙ used) ∙ ap (λ o. eqb o n) (sym object) ∙ sym (ap (is_on n) (filled q at))
          | inr off ↦ ap (is_on n) (sym (others q off))
        ];
        room = λ q other has. elim (cases_eq q place) [
          | inl at ↦ let old : q < 64 * length words = indexed.room q grant (ap (maps.get held) at ∙ used) in omega arith
          | inr off ↦ let old : q < 64 * length words = indexed.room q other (sym (others q off) ∙ has) in omega arith
        ];
      }
    where
      filled : (q : ℕ) → q ≡ place → maps.get held' q ≡ Some new
      filled q at = ap (λ m. maps.get m q) is ∙ get-put held place new q ∙ ap (λ t. cond t (Some new) (maps.get held q)) (eq-eqb q place at)

      others : (q : ℕ) → (q ≡ place → ⊥) → maps.get held' q ≡ maps.get held q
      others q off = ap (λ m. maps.get m q) is ∙ get-put held place new q ∙ ap (λ t. cond t (Some new) (maps.get held q)) (ne_eqb q place off)

  same_pair : (place : ℕ) (grant : Grant) → maps.get held place ≡ Some grant → (n q : ℕ)
      → on pairs n q ≡ ((eqb n (pair_name grant.s grant.t) && eqb q place) || (not (eqb n (pair_name grant.s grant.t) && eqb q place) && on pairs n q))
  same_pair place grant used n q = elim (cases_Bool (eqb n (pair_name grant.s grant.t) && eqb q place)) [
    | inl here ↦ both (here) ∙ sym (ap (λ t. t || (not t && on pairs n q)) here)
    | inr away ↦ sym (ap (λ t. t || (not t && on pairs n q)) away)
  ]
    where
      both : (eqb n (pair_name grant.s grant.t) && eqb q place) ≡ true → on pairs n q ≡ true
      both here =
          let parts = Rattle.std.proofs.lemmas.Bool.and_parts (eqb n (pair_name grant.s grant.t)) (eqb q place) here in
          indexed.by_pair n q ∙ ap (has_pair n) (ap (maps.get held) (eqb-true q place parts.1) ∙ used) ∙ eq-eqb (pair_name grant.s grant.t) n (sym (eqb-true n (pair_name grant.s grant.t) parts.0))

  -- a grant replaced by one on the same object and pair
  pub indexed_refreshed : (held' : FinMap nat_cmp Grant) (words' : List ℕ) (place : ℕ) (grant new : Grant) → maps.get held place ≡ Some grant
      → new.object ≡ grant.object → pair_name new.s new.t ≡ pair_name grant.s grant.t → held' ≡ maps.insert held place new → length words' ≡ length words → IsIndexed held' words' pairs objects
  indexed_refreshed held' words' place grant new used object pair is same =
      indexed_rewritten held' words' pairs objects place grant new used object is same
      (λ n q. same_pair place grant used n q ∙ ap (λ name. (eqb n name && eqb q place) || (not (eqb n (pair_name grant.s grant.t) && eqb q place) && on pairs n q)) (sym pair))
      (λ n q. refl)

-- with tests that agree, the next of the one is that of the other
pub next_same : (test other : ℕ → Bool) (from : ℕ) (found : Option ℕ) → ((q : ℕ) → test q ≡ other q) → IsNext test from found → IsNext other from found
next_same test other from None same next = λ q above. sym (same q) ∙ next q above
next_same test other from (Some place) same next =
    record { above = next.above; passes = sym (same place) ∙ next.passes; first = λ q above below. sym (same q) ∙ next.first q above below }

-- the next place of a name is below 65,536
pub next_small : (rows : List (ℕ × ℕ)) (name from : ℕ) (found : Option ℕ) → IsNext (on rows name) from found → IfSome found (λ place. place < 65536)
next_small rows name from None next = search
next_small rows name from (Some place) next = on_small rows name place next.passes

-- with no grant all indexes are empty
pub indexed_none : (held : FinMap nat_cmp Grant) → held ≡ maps.empty → IsIndexed held [] [] []
indexed_none held none =
    record {
      by_pair = λ n q. on_nothing n q ∙ ap (has_pair n) (sym (nothing q));
      by_object = λ n q. on_nothing n q ∙ ap (is_on n) (sym (nothing q));
      room = λ q grant used. absurd (none_some grant (sym (nothing q) ∙ used));
    }
  where
    nothing : (q : ℕ) → maps.get held q ≡ None
    nothing q = ap (λ m. maps.get m q) none ∙ maps.get-empty nat_cmp q

    none_some : (grant : Grant) → None ≡ Some grant → ⊥
    none_some grant same = cc

-- the rows that the slots of an object need for a label are made as far as a place, and the index says what it said
pub record IsMade (held : FinMap nat_cmp Grant) (was now : List (ℕ × ℕ)) (object t from : ℕ) : Type 0 where
  pub same : (n q : ℕ) → on now n q ≡ on was n q
  pub rows : (q : ℕ) (grant : Grant) → q < from → maps.get held q ≡ Some grant → grant.object ≡ object → has_row now (pair_name grant.s t) q ≡ true

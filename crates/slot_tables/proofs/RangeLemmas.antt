-- The first entry of a range of a map of numbers.
use Rattle.std.proofs.Common.{◌≡◌, ℕ, ◌<◌, ◌≤◌, true, false, List, ◌∷◌, Option, None, Some, subst, inl, inr, arith}
use Rattle.std.specs.Option.{is_some, IsSome}
use Rattle.std.specs.Ordering.{nat_cmp, is_gt}
use Rattle.std.specs.declared.cmp.Ordering.TheVariants.{Less}
use Rattle.std.specs.BTreeMap.{BTreeMap}
use Rattle.std.specs.BTreeMap.Range.{IsRangeOf, IsEntryInRange}
use Rattle.std.specs.declared.ops.Bound.TheVariants.{Included, Excluded}
use Rattle.std.proofs.lemmas.Bool.{cases_Bool, false≢true}
use Rattle.std.proofs.lemmas.Bool.Decides.{nat_tests}
use Rattle.std.proofs.lemmas.Map.Keys.{le_from_not_gt}
use Rattle.slot_tables.specs.Rows.{row_at, IsFirstRow}
use Rattle.slot_tables.proofs.RowLemmas.{none_from_absent}

some_is : {A : Type 0} (o : Option A) → is_some o ≡ true → IsSome o
some_is (Some x) some = search
some_is None some = absurd (false≢true some)

not_gt : (a b : ℕ) → a ≤ b → is_gt (nat_cmp a b) ≡ false
not_gt a b h = grind (arith, nat_tests)

less : (a b : ℕ) → a < b → nat_cmp a b ≡ Less
less a b h = grind (arith, nat_tests)

lt_from_less : (a b : ℕ) → nat_cmp a b ≡ Less → a < b
lt_from_less a b h = grind (arith, nat_tests)

-- the first entry of a range of keys
pub first_in_range : (m : BTreeMap ℕ ℕ) (low end key word : ℕ) (range rest : List (ℕ × ℕ)) → range ≡ (key, word) ∷ rest
    → IsRangeOf nat_cmp (Included low) (Excluded end) m range → IsFirstRow m.entries low end key word
first_in_range m low end key word range rest is facts =
    let at : IsRangeOf nat_cmp (Included low) (Excluded end) m ((key, word) ∷ rest) = subst (λ r. IsRangeOf nat_cmp (Included low) (Excluded end) m r) is facts in
    let first : IsEntryInRange nat_cmp (Included low) (Excluded end) m (key, word) = at.1 in
    let inside : key < end = lt_from_less key end first.0.1 in
    record {
      above = le_from_not_gt low key first.0.0;
      below = inside;
      found = first.1;
      first = λ other above below. none_from_absent (row_at m.entries other) (elim (cases_Bool (is_some (row_at m.entries other))) [
        | inr absent ↦ absent
        | inl some ↦ let least : key ≤ other = le_from_not_gt key other (at.2 other (not_gt low other above, less other end (omega arith)) (some_is (row_at m.entries other) some)) in absurd (omega arith)
      ]);
    }

-- Rows of an ordered map as a finite map.
use Rattle.std.proofs.Common.{◌≡◌, ◌≢◌, ◌⊎◌, ℕ, ◌<◌, cond, Bool, true, false, ◌&&◌, eqb, List, [], ◌∷◌, length, map, Option, None, Some, refl, sym, ap, subst, ◌∙◌, inl, inr, arith}
use Rattle.std.specs.Prelude.{T}
use Rattle.std.specs.declared.cmp.Ordering.{Ordering}
use Rattle.std.specs.declared.cmp.Ordering.TheVariants.{Less, Equal}
use Rattle.std.specs.Ordering.{is_eq, is_lt, eq_by_cmp}
use Rattle.std.specs.Cmp.{IsTotalOrder, Equal-is, tied_back}
use Rattle.std.specs.FinMap as maps
use Rattle.std.specs.FinMap.{IsAntisymmetric}
use Rattle.std.specs.FinMap.Entries.{find, is_sorted, below_all}
use Rattle.std.specs.List.Sorted.{IsStrictlySortedBy}
use Rattle.std.specs.List.{AllByRecursion}
use Rattle.std.specs.Map.{lookup, keys_of, KeepsOthers}
use Rattle.std.proofs.lemmas.Bool.{false≢true}
use Rattle.file_tree.specs.Shelves.{map_by}

pub true_or_false : (b : Bool) → (b ≡ true) ⊎ (b ≡ false)
true_or_false true = inl refl
true_or_false false = inr refl

both : (a b : Bool) → T a → T b → T (a && b)
both true b p q = q
both false b p q = p

module _ {K J : Type 0} (said : K → J) (R : J → J → Ordering) (o : IsTotalOrder R) (same : IsAntisymmetric R) where
  -- keys by the order of what they say
  abbrev cmp_by : K → K → Ordering
  cmp_by x y = R (said x) (said y)

  -- the test by which what a key says is found
  abbrev says : J → K → Bool
  says q k = is_eq (R q (said k))

  module _ {X : Type 0} where
    abbrev rows_said : List (K × X) → List (J × X)
    rows_said rows = map (λ row. (said row.0, row.1)) rows

    -- a row is found by what its key says
    find-rows : (rows : List (K × X)) (q : J) → find R q (rows_said rows) ≡ lookup (says q) rows
    find-rows [] q = refl
    find-rows (row ∷ rows) q = ap (cond (is_eq (R q (said row.0))) (Some row.1)) (find-rows rows q)

    pub get-map_by : (rows : List (K × X)) (q : J) → maps.get (map_by {R = R} said rows) q ≡ lookup (says q) rows
    get-map_by rows q = maps.get-from_entries o _ q ∙ find-rows rows q

    below-rows : (x : K) (rows : List (K × X)) → AllByRecursion (λ y. cmp_by x y ≡ Less) (keys_of rows) → T (below_all R (said x) (rows_said rows))
    below-rows x [] all = tt
    below-rows x (row ∷ rows) all = both _ _ (subst (λ r. T (is_lt r)) (sym all.0) tt) (below-rows x rows all.1)

    sorted-rows : (rows : List (K × X)) → IsStrictlySortedBy cmp_by (keys_of rows) → T (is_sorted R (rows_said rows))
    unfolding IsStrictlySortedBy
    sorted-rows [] sorted = tt
    sorted-rows (row ∷ rows) sorted = both _ _ (below-rows row.0 rows sorted.0) (sorted-rows rows sorted.1)

    -- rows in order are the entries of their map
    pub entries-map_by : (rows : List (K × X)) → IsStrictlySortedBy cmp_by (keys_of rows) → maps.entries (map_by {R = R} said rows) ≡ rows_said rows
    entries-map_by rows sorted =
        ap maps.entries (maps.same_map o same (map_by said rows) (maps.from_sorted (rows_said rows)) (λ q. maps.get-from_entries o _ q ∙ sym (maps.get-from_sorted R (rows_said rows) q (sorted-rows rows sorted))))
        ∙ maps.entries-from_sorted R (rows_said rows) (sorted-rows rows sorted)

    length-said : (rows : List (K × X)) → length (rows_said rows) ≡ length rows
    length-said [] = refl
    length-said (row ∷ rows) = ap (λ n. Rattle.std.proofs.Common.suc n) (length-said rows)

    pub len-map_by : (rows : List (K × X)) → IsStrictlySortedBy cmp_by (keys_of rows) → maps.len (map_by {R = R} said rows) ≡ length rows
    len-map_by rows sorted = maps.len-entries (map_by said rows) ∙ ap length (entries-map_by rows sorted) ∙ length-said rows

    keys-said : (rows : List (K × X)) → map (λ row. row.0) (rows_said rows) ≡ map said (keys_of rows)
    keys-said [] = refl
    keys-said (row ∷ rows) = ap (λ keys. said row.0 ∷ keys) (keys-said rows)

    -- the keys of the map of rows in order
    pub keys-map_by : (rows : List (K × X)) → IsStrictlySortedBy cmp_by (keys_of rows) → maps.keys (map_by {R = R} said rows) ≡ map said (keys_of rows)
    keys-map_by rows sorted = ap (map (λ row. row.0)) (entries-map_by rows sorted) ∙ keys-said rows

    -- what a change at one key leaves
    pub get-changed : (old new : List (K × X)) (at : J) (value : Option X) → lookup (says at) new ≡ value → KeepsOthers (eq_by_cmp cmp_by) (says at) old new
        → (q : J) → maps.get (map_by {R = R} said new) q ≡ cond (eq_by_cmp R q at) value (maps.get (map_by {R = R} said old) q)
    unfolding KeepsOthers
    get-changed old new at value here keeps q = get-map_by new q ∙ elim (true_or_false (eq_by_cmp R q at)) [
      | inl tied ↦ ap (λ p. lookup (says p) new) (same q at ((Equal-is (R q at)).0 tied)) ∙ here ∙ sym (ap (λ t. cond t value (maps.get (map_by {R = R} said old) q)) tied)
      | inr apart ↦ keeps (says q) (λ x y found. ap is_eq (o.congr q (said x) (said y) ((Equal-is _).0 found)))
          (λ k found. elim (true_or_false (says q k)) [
            | inl other ↦ absurd (false≢true (sym apart ∙ ap is_eq (o.congr q (said k) at ((Equal-is _).0 other) ∙ tied_over (said k) at ((Equal-is _).0 found))))
            | inr no_other ↦ no_other
          ])
          ∙ sym (get-map_by old q) ∙ sym (ap (λ t. cond t value (maps.get (map_by {R = R} said old) q)) apart)
    ]
      where
        tied_over : (x y : J) → R y x ≡ Equal → R x y ≡ Equal
        tied_over x y e = tied_back o y x e

    -- a change that leaves what was there
    pub rewritten : (old new : List (K × X)) (at : J) → lookup (says at) new ≡ lookup (says at) old → KeepsOthers (eq_by_cmp cmp_by) (says at) old new
        → map_by {R = R} said new ≡ map_by {R = R} said old
    rewritten old new at here keeps = maps.same_map o same _ _ (λ q. get-changed old new at (lookup (says at) old) here keeps q ∙ elim (true_or_false (eq_by_cmp R q at)) [
      | inl tied ↦ ap (λ t. cond t (lookup (says at) old) (maps.get (map_by {R = R} said old) q)) tied ∙ ap (λ p. lookup (says p) old) (sym (same q at ((Equal-is (R q at)).0 tied))) ∙ sym (get-map_by old q)
      | inr apart ↦ ap (λ t. cond t (lookup (says at) old) (maps.get (map_by {R = R} said old) q)) apart
    ])

    pub inserted : (old new : List (K × X)) (at : J) (value : X) → lookup (says at) new ≡ Some value → KeepsOthers (eq_by_cmp cmp_by) (says at) old new
        → map_by {R = R} said new ≡ maps.insert (map_by {R = R} said old) at value
    inserted old new at value here keeps = maps.same_map o same _ _ (λ q. get-changed old new at (Some value) here keeps q ∙ sym (maps.get-insert o (map_by said old) at value q))

    pub removed : (old new : List (K × X)) (at : J) → lookup (says at) new ≡ None → KeepsOthers (eq_by_cmp cmp_by) (says at) old new
        → map_by {R = R} said new ≡ maps.remove (map_by {R = R} said old) at
    removed old new at here keeps = maps.same_map o same _ _ (λ q. get-changed old new at None here keeps q ∙ sym (maps.get-remove o (map_by said old) at q))

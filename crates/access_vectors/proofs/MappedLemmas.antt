-- What a map with each value replaced has at a key.
use Rattle.std.proofs.Common.{◌≡◌, ℕ, true, false, cond, ◌&&◌, T, List, [], ◌∷◌, map, Some, refl, sym, ap, subst, ◌∙◌}
use Rattle.std.specs.Ordering.{nat_cmp, eq_by_cmp, is_lt}
use Rattle.std.specs.Option.{option_map}
use Rattle.std.specs.Cmp.{unsigned_tied}
use Rattle.std.specs.FinMap as maps
use Rattle.std.specs.FinMap.{FinMap}
use Rattle.std.specs.FinMap.Entries.{below_all, is_sorted, find}
use Rattle.std.proofs.lemmas.Bool.{eqb-true}
use Rattle.access_vectors.specs.Mapped.{entries_mapped, mapped}

-- the keys are as before
keys_of-entries_mapped : {V W : Type 0} (f : ℕ → V → W) (es : List (ℕ × V)) → map (λ e. e.0) (entries_mapped f es) ≡ map (λ e. e.0) es
keys_of-entries_mapped f [] = refl
keys_of-entries_mapped f (e ∷ es) = ap (λ ks. e.0 ∷ ks) (keys_of-entries_mapped f es)

below_all-entries_mapped : {V W : Type 0} (f : ℕ → V → W) (x : ℕ) (es : List (ℕ × V)) → below_all nat_cmp x (entries_mapped f es) ≡ below_all nat_cmp x es
below_all-entries_mapped f x [] = refl
below_all-entries_mapped f x (e ∷ es) = ap (λ b. is_lt (nat_cmp x e.0) && b) (below_all-entries_mapped f x es)

is_sorted-entries_mapped : {V W : Type 0} (f : ℕ → V → W) (es : List (ℕ × V)) → is_sorted nat_cmp (entries_mapped f es) ≡ is_sorted nat_cmp es
is_sorted-entries_mapped f [] = refl
is_sorted-entries_mapped f (e ∷ es) =
    ap (λ b. b && is_sorted nat_cmp (entries_mapped f es)) (below_all-entries_mapped f e.0 es)
    ∙ ap (λ b. below_all nat_cmp e.0 es && b) (is_sorted-entries_mapped f es)

-- the entries are those of m, each with its value replaced
pub entries-mapped : {V W : Type 0} (f : ℕ → V → W) (m : FinMap nat_cmp V) → maps.entries (mapped f m) ≡ entries_mapped f (maps.entries m)
unfolding mapped
entries-mapped f m =
    maps.entries-from_sorted nat_cmp (entries_mapped f (maps.entries m))
    (subst T (sym (is_sorted-entries_mapped f (maps.entries m))) (maps.entries_sorted m))

-- the keys are those of m
pub keys-mapped : {V W : Type 0} (f : ℕ → V → W) (m : FinMap nat_cmp V) → maps.keys (mapped f m) ≡ maps.keys m
keys-mapped f m = ap (map (λ e. e.0)) (entries-mapped f m) ∙ keys_of-entries_mapped f (maps.entries m)

find-entries_mapped : {V W : Type 0} (f : ℕ → V → W) (q : ℕ) (es : List (ℕ × V)) → find nat_cmp q (entries_mapped f es) ≡ option_map (f q) (find nat_cmp q es)
find-entries_mapped f q [] = refl
find-entries_mapped f q (e ∷ es) =
    elim (eq_by_cmp nat_cmp q e.0) as (λ t. eq_by_cmp nat_cmp q e.0 ≡ t
    → cond t (Some (f e.0 e.1)) (find nat_cmp q (entries_mapped f es)) ≡ option_map (f q) (cond t (Some e.1) (find nat_cmp q es))) [
      | true ↦ λ tied. ap (λ k. Some (f k e.1)) (sym (eqb-true q e.0 (sym (unsigned_tied q e.0) ∙ tied)))
      | false ↦ λ apart. find-entries_mapped f q es
    ] refl

-- the value at a key is that of m, replaced
pub get-mapped : {V W : Type 0} (f : ℕ → V → W) (m : FinMap nat_cmp V) (q : ℕ) → maps.get (mapped f m) q ≡ option_map (f q) (maps.get m q)
get-mapped f m q =
    maps.get-entries (mapped f m) q ∙ ap (find nat_cmp q) (entries-mapped f m)
    ∙ find-entries_mapped f q (maps.entries m) ∙ ap (option_map (f q)) (sym (maps.get-entries m q))

entries_mapped_same : {V : Type 0} (es : List (ℕ × V)) → entries_mapped (λ q v. v) es ≡ es
entries_mapped_same [] = refl
entries_mapped_same (e ∷ es) = ap (λ rest. e ∷ rest) (entries_mapped_same es)

-- where no value changes, the map is as before
pub mapped_same : {V : Type 0} (m : FinMap nat_cmp V) → mapped (λ q v. v) m ≡ m
mapped_same m = maps.same_entries_map _ m (entries-mapped (λ q v. v) m ∙ entries_mapped_same (maps.entries m))

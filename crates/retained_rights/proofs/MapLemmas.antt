-- Finite maps with each value replaced.
use Rattle.std.proofs.Common.{◌≡◌, ℕ, Bool, true, false, cond, eqb, Option, Some, None, is_some, refl, sym, ap, ◌∙◌, inl, inr}
use Rattle.std.specs.Option.{unwrap_or}
use Rattle.std.specs.Prelude.{option_map}
use Rattle.std.specs.Ordering.{nat_cmp}
use Rattle.std.proofs.lemmas.Bool.{cases_eq, eq-eqb, ne_eqb, false≢true}
use Rattle.std.specs.FinMap as maps
use Rattle.std.specs.FinMap.{FinMap, nat_cmp-IsAntisymmetric}
use Rattle.access_vectors.specs.Mapped.{mapped}
use Rattle.access_vectors.proofs.MappedLemmas.{get-mapped}
use Rattle.slot_tables.proofs.SlotLemmas.{get-put, get-taken, same_maps}

pub some_same : {A : Type 0} (x y : A) → Some x ≡ Some y → x ≡ y
some_same x y e = ap (λ o. unwrap_or o x) e

pub none_some : {A : Type 0} (x : A) → None ≡ Some x → ⊥
none_some x e = false≢true (ap is_some e)

pub some_of : {A : Type 0} (o : Option A) → is_some o ≡ true → (x : A) × (o ≡ Some x)
some_of None e = absurd (false≢true e)
some_of (Some x) e = (x, refl)

-- the empty map
pub mapped-empty : {V W : Type 0} (f : ℕ → V → W) → mapped f maps.empty ≡ maps.empty
mapped-empty f =
    same_maps _ _ (λ q. get-mapped f maps.empty q ∙ ap (option_map (f q)) (maps.get-empty nat_cmp q) ∙ sym (maps.get-empty nat_cmp q))

-- a map with one value more
pub mapped-insert : {V W : Type 0} (f : ℕ → V → W) (m : FinMap nat_cmp V) (k : ℕ) (v : V) → mapped f (maps.insert m k v) ≡ maps.insert (mapped f m) k (f k v)
mapped-insert f m k v =
    same_maps _ _ (λ q. get-mapped f (maps.insert m k v) q ∙ ap (option_map (f q)) (get-put m k v q) ∙ at q ∙ sym (get-put (mapped f m) k (f k v) q))
  where
    at : (q : ℕ) → option_map (f q) (cond (eqb q k) (Some v) (maps.get m q)) ≡ cond (eqb q k) (Some (f k v)) (maps.get (mapped f m) q)
    at q = elim (cases_eq q k) [
      | inl same ↦ ap (λ t. option_map (f q) (cond t (Some v) (maps.get m q))) (eq-eqb q k same) ∙ ap (λ p. Some (f p v)) same
          ∙ sym (ap (λ t. cond t (Some (f k v)) (maps.get (mapped f m) q)) (eq-eqb q k same))
      | inr apart ↦ ap (λ t. option_map (f q) (cond t (Some v) (maps.get m q))) (ne_eqb q k apart) ∙ sym (get-mapped f m q)
          ∙ sym (ap (λ t. cond t (Some (f k v)) (maps.get (mapped f m) q)) (ne_eqb q k apart))
    ]

-- what is done with a value where a test passes
either : {V W : Type 0} (b : Bool) (f : V → W) (v : Option V) → option_map f (cond b None v) ≡ cond b None (option_map f v)
either true f v = refl
either false f v = refl

other : {V W : Type 0} (b : Bool) (f : V → W) (v : Option V) → option_map f (cond b v None) ≡ cond b (option_map f v) None
other true f v = refl
other false f v = refl

-- a map with one value less
pub mapped-remove : {V W : Type 0} (f : ℕ → V → W) (m : FinMap nat_cmp V) (k : ℕ) → mapped f (maps.remove m k) ≡ maps.remove (mapped f m) k
mapped-remove f m k =
    same_maps _ _ (λ q. get-mapped f (maps.remove m k) q ∙ ap (option_map (f q)) (get-taken m k q) ∙ either (eqb q k) (f q) (maps.get m q)
    ∙ ap (cond (eqb q k) None) (sym (get-mapped f m q)) ∙ sym (get-taken (mapped f m) k q))

-- what keys that pass a test leave
pub get-kept : {V : Type 0} (m : FinMap nat_cmp V) (p : ℕ → Bool) (q : ℕ) → maps.get (maps.retain_keys m p) q ≡ cond (p q) (maps.get m q) None
get-kept m p q = maps.get-retain_keys m p q (λ x tied. ap p (sym (nat_cmp-IsAntisymmetric q x tied)))

pub kept_some : {V : Type 0} (m : FinMap nat_cmp V) (p : ℕ → Bool) (q : ℕ) (v : V) → maps.get (maps.retain_keys m p) q ≡ Some v → (p q ≡ true) × (maps.get m q ≡ Some v)
kept_some {V} m p q v is = passed (p q) (sym (get-kept m p q) ∙ is)
  where
    passed : (b : Bool) → cond b (maps.get m q) None ≡ Some v → (b ≡ true) × (maps.get m q ≡ Some v)
    passed true e = (refl, e)
    passed false e = absurd (none_some v e)

-- the keys that pass a test
pub mapped-retain_keys : {V W : Type 0} (f : ℕ → V → W) (m : FinMap nat_cmp V) (p : ℕ → Bool) → mapped f (maps.retain_keys m p) ≡ maps.retain_keys (mapped f m) p
mapped-retain_keys f m p =
    same_maps _ _ (λ q. get-mapped f (maps.retain_keys m p) q ∙ ap (option_map (f q)) (get-kept m p q) ∙ other (p q) (f q) (maps.get m q)
    ∙ ap (λ o. cond (p q) o None) (sym (get-mapped f m q)) ∙ sym (get-kept (mapped f m) p q))

-- values replaced twice
pub mapped-mapped : {U V W : Type 0} (f : ℕ → V → W) (g : ℕ → U → V) (m : FinMap nat_cmp U) → mapped f (mapped g m) ≡ mapped (λ q u. f q (g q u)) m
mapped-mapped {U} f g m =
    same_maps _ _ (λ q. get-mapped f (mapped g m) q ∙ ap (option_map (f q)) (get-mapped g m q) ∙ twice q (maps.get m q) ∙ sym (get-mapped (λ p u. f p (g p u)) m q))
  where
    twice : (q : ℕ) (u : Option U) → option_map (f q) (option_map (g q) u) ≡ option_map (λ v. f q (g q v)) u
    twice q None = refl
    twice q (Some u) = refl

-- what stands at a place of the map, where something stands
option_alike : {V W : Type 0} (f g : V → W) (v : Option V) → ((w : V) → v ≡ Some w → f w ≡ g w) → option_map f v ≡ option_map g v
option_alike f g None alike = refl
option_alike f g (Some v) alike = ap Some (alike v refl)

-- values replaced alike
pub mapped_alike : {V W : Type 0} (f g : ℕ → V → W) (m : FinMap nat_cmp V) → ((q : ℕ) (v : V) → maps.get m q ≡ Some v → f q v ≡ g q v) → mapped f m ≡ mapped g m
mapped_alike f g m alike =
    same_maps _ _ (λ q. get-mapped f m q ∙ option_alike (f q) (g q) (maps.get m q) (alike q) ∙ sym (get-mapped g m q))

-- each place of a map with values replaced has a value of the map, replaced
pub mapped_some : {V W : Type 0} (f : ℕ → V → W) (m : FinMap nat_cmp V) (q : ℕ) (w : W) → maps.get (mapped f m) q ≡ Some w → (v : V) × (maps.get m q ≡ Some v) × (f q v ≡ w)
mapped_some {V} {W} f m q w is = at (maps.get m q) refl (sym (get-mapped f m q) ∙ is)
  where
    at : (o : Option V) → maps.get m q ≡ o → option_map (f q) o ≡ Some w → (v : V) × (maps.get m q ≡ Some v) × (f q v ≡ w)
    at None none got = absurd (none_some w got)
    at (Some v) some got = (v, some, some_same (f q v) w got)

-- Lists read by place, before and after one item changes or one is added.
use Rattle.std.proofs.Common.{◌≡◌, ◌≢◌, ℕ, zero, suc, ◌+◌, ◌<◌, ◌≤◌, ◌⊎◌, List, [], ◌∷◌, ◌++◌, map, length, get_or, set, sym, refl, ap, ◌∙◌, subst, inl, inr, ⊎_elim, get_or-set_other, get_or-set_same, arith}
use Rattle.std.specs.List.{sum_by}
use Rattle.std.proofs.lemmas.List.Sums.{sum_by-set, sum_by-cons}
use mathlib.Core.Option.{some, some-injective, some-ne-none}
use mathlib.Core.Logic.{dite}
use native.Mathlib.Decide.{ℕ_discrete}
use lib.ListN.{get_elem?}
use lib.Seq.{map-set, set-get_or}
use Rattle.atomic_table.proofs.Lists.{at_set, set_again, set_here, set_else, at_map}

abbrev pick : {P : Type 0} {A : Type 0} → Dec P → A → A → A
pick (yes _) a b = a
pick (no _) a b = b

-- the function f, but c at i
pub put : {A : Type 0} → (ℕ → A) → ℕ → A → ℕ → A
put f i c j = pick (ℕ_discrete j i) c (f j)

pub put_here : {A : Type 0} (f : ℕ → A) (i : ℕ) (c : A) → put f i c i ≡ c
unfolding put
put_here {A} f i c = go (ℕ_discrete i i)
  where
    go : (d : Dec (i ≡ i)) → pick d c (f i) ≡ c
    go (yes _) = refl
    go (no n) = absurd (n refl)

pub put_else : {A : Type 0} (f : ℕ → A) (i : ℕ) (c : A) (j : ℕ) → j ≢ i → put f i c j ≡ f j
unfolding put
put_else {A} f i c j other = go (ℕ_discrete j i)
  where
    go : (d : Dec (j ≡ i)) → pick d c (f j) ≡ f j
    go (yes e) = absurd (other e)
    go (no _) = refl

module _ {A : Type 0} where
  pub within : (l : List A) (i : ℕ) (a : A) → get_elem? l i ≡ some a → i < length l
  within [] i a e = absurd (some-ne-none a (sym e))
  within (x ∷ xs) zero a e = omega arith
  within (x ∷ xs) (suc i) a e = let h = within xs i a e in omega arith

  pub read : (l : List A) (i : ℕ) (a d : A) → get_elem? l i ≡ some a → get_or l i d ≡ a
  read [] i a d e = absurd (some-ne-none a (sym e))
  read (x ∷ xs) zero a d e = some-injective x a e
  read (x ∷ xs) (suc i) a d e = read xs i a d e

  -- a fact of each item, where one is replaced
  pub each_set : (P : ℕ → A → Type 0) (l : List A) (i : ℕ) (y : A) → P i y → ((j : ℕ) (v : A) → j ≢ i → get_elem? l j ≡ some v → P j v) → (j : ℕ) (v : A) → get_elem? (set l i y) j ≡ some v → P j v
  each_set P l i y here else j v e = ⊎_elim (λ h. subst (λ (k : ℕ). P k v) (sym h.0) (subst (P i) h.1 here)) (λ h. else j v h.0 h.1) (at_set l i j y v e)

  pub at_more : (l : List A) (a b : A) (j : ℕ) → get_elem? (l ++ a ∷ []) j ≡ some b → (get_elem? l j ≡ some b) ⊎ ((j ≡ length l) × (a ≡ b))
  at_more [] a b zero e = inr (refl, some-injective a b e)
  at_more [] a b (suc j) e = absurd (some-ne-none b (sym e))
  at_more (x ∷ xs) a b zero e = inl e
  at_more (x ∷ xs) a b (suc j) e = ⊎_elim (λ h. inl h) (λ h. inr (ap suc h.0, h.1)) (at_more xs a b j e)

  -- a fact of each item, where one is added
  pub each_more : (P : ℕ → A → Type 0) (l : List A) (y : A) → P (length l) y → ((j : ℕ) (v : A) → get_elem? l j ≡ some v → P j v) → (j : ℕ) (v : A) → get_elem? (l ++ y ∷ []) j ≡ some v → P j v
  each_more P l y here else j v e = ⊎_elim (λ h. else j v h) (λ h. subst (λ (k : ℕ). P k v) (sym h.0) (subst (P (length l)) h.1 here)) (at_more l y v j e)

  pub sum_set : (f : A → ℕ) (l : List A) (i : ℕ) (x y : A) → get_elem? l i ≡ some x → sum_by f (set l i y) + f x ≡ sum_by f l + f y
  sum_set f l i x y e = subst (λ (z : A). sum_by f (set l i y) + f z ≡ sum_by f l + f y) (read l i x x e) (sum_by-set f l i y x (within l i x e))

  pub sum_at : (f : A → ℕ) (l : List A) (i : ℕ) (x : A) → get_elem? l i ≡ some x → f x ≤ sum_by f l
  sum_at f [] i x e = absurd (some-ne-none x (sym e))
  sum_at f (y ∷ ys) zero x e = let p : f y ≡ f x = ap f (some-injective y x e) in omega (arith, sum_by-cons f y ys)
  sum_at f (y ∷ ys) (suc i) x e = let h = sum_at f ys i x e in omega (arith, sum_by-cons f y ys)

  pub sum_short : (f : A → ℕ) → ((x : A) → f x ≤ 1) → (l : List A) → sum_by f l ≤ length l
  sum_short f h [] = omega arith
  sum_short f h (x ∷ xs) = let p = h x in let q = sum_short f h xs in omega (arith, sum_by-cons f x xs)

  pub sum_none : (f : A → ℕ) (l : List A) → ((j : ℕ) (x : A) → get_elem? l j ≡ some x → f x ≡ 0) → sum_by f l ≡ 0
  sum_none f [] h = refl
  sum_none f (x ∷ xs) h = let p = h zero x refl in let q = sum_none f xs (λ j y e. h (suc j) y e) in omega (arith, sum_by-cons f x xs)

  -- two sums over one list, term by term
  pub sum_under : {B C : Type 0} (p : A → B) (q : A → C) (f : B → ℕ) (g : C → ℕ) (l : List A) → ((j : ℕ) (x : A) → get_elem? l j ≡ some x → f (p x) ≤ g (q x)) → sum_by f (map p l) ≤ sum_by g (map q l)
  sum_under p q f g [] h = omega arith
  sum_under p q f g (x ∷ xs) h =
      let a = h zero x refl in let b = sum_under p q f g xs (λ j y e. h (suc j) y e) in
      omega (arith, sum_by-cons f (p x) (map p xs), sum_by-cons g (q x) (map q xs))

  -- a projection that one replaced item does not change
  pub map_kept : {B : Type 0} (p : A → B) (l : List A) (i : ℕ) (x y : A) → get_elem? l i ≡ some x → p y ≡ p x → map p (set l i y) ≡ map p l
  map_kept p l i x y e same = map-set p l i y ∙ (ap (λ (z : _). set (map p l) i z) same ∙ set_again (map p l) i (p x) (at_map p l i x e))

  pub map_more : {B : Type 0} (p : A → B) (l : List A) (y : A) → map p (l ++ y ∷ []) ≡ map p l ++ p y ∷ []
  map_more p [] y = refl
  map_more p (x ∷ xs) y = ap (λ (z : _). p x ∷ z) (map_more p xs y)

  -- some item with a fact, where the replaced one keeps it
  pub kept_at : (P : A → Type 0) (l : List A) (i : ℕ) (x y : A) → get_elem? l i ≡ some x → (P x → P y) → (j : ℕ) (u : A) → get_elem? l j ≡ some u → P u → (w : A) × (get_elem? (set l i y) j ≡ some w) × P w
  kept_at P l i x y at keeps j u there holds =
      dite (ℕ_discrete j i)
      (λ e. (
        y,
        subst (λ (k : ℕ). get_elem? (set l i y) k ≡ some y) (sym e) (set_here l i y (within l i x at)),
        keeps (subst P (some-injective u x (sym there ∙ (ap (get_elem? l) e ∙ at))) holds),
      ))
      (λ ne. (u, set_else l i j y ne ∙ there, holds))

  -- the projection of a replaced item
  pub map_moved : {B : Type 0} (p : A → B) (l : List A) (i : ℕ) (y : A) (b : B) → p y ≡ b → map p (set l i y) ≡ set (map p l) i b
  map_moved p l i y b e = map-set p l i y ∙ ap (λ (z : _). set (map p l) i z) e

  -- items of which no two have one key, and one more with a key of its own
  pub once_more : (key : A → ℕ) (l : List A) (x : A) → ((i : ℕ) (e : A) → get_elem? l i ≡ some e → (j : ℕ) (u : A) → get_elem? l j ≡ some u → key e ≡ key u → i ≡ j)
      → ((i : ℕ) (e : A) → get_elem? l i ≡ some e → key e ≢ key x)
      → (i : ℕ) (e : A) → get_elem? (l ++ x ∷ []) i ≡ some e → (j : ℕ) (u : A) → get_elem? (l ++ x ∷ []) j ≡ some u → key e ≡ key u → i ≡ j
  once_more key l x once fresh =
      each_more (λ i (e : A). (j : ℕ) (u : A) → get_elem? (l ++ x ∷ []) j ≡ some u → key e ≡ key u → i ≡ j) l x
      (each_more (λ j (u : A). key x ≡ key u → length l ≡ j) l x (λ _. refl) (λ j u there same. absurd (fresh j u there (sym same))))
      (λ i e at. each_more (λ j (u : A). key e ≡ key u → i ≡ j) l x (λ same. absurd (fresh i e at same)) (λ j u there same. once i e at j u there same))

  pub same_place : (l : List A) (i : ℕ) (x y : A) → get_elem? l i ≡ some x → get_elem? l i ≡ some y → x ≡ y
  same_place l i x y a b = some-injective x y (sym a ∙ b)

-- a word that a step does not touch, and the word that it does
pub word_else : (ws : List ℕ) (i j x : ℕ) → j ≢ i → get_or (set ws i x) j 0 ≡ get_or ws j 0
word_else ws i j x ne = get_or-set_other ws i j x 0 ne

pub word_here : (ws : List ℕ) (i x : ℕ) → i < length ws → get_or (set ws i x) i 0 ≡ x
word_here ws i x lt = get_or-set_same ws i x 0 lt

pub word_same : (ws : List ℕ) (i : ℕ) → set ws i (get_or ws i 0) ≡ ws
word_same ws i = set-get_or ws i 0

-- Small facts of lists with one more member, of options, and of names at places.
use Rattle.std.proofs.Common.{◌≡◌, ℕ, zero, suc, ◌+◌, ◌-◌, ◌<◌, ◌≤◌, arith, take, drop, replicate, length, Bool, true, false, ◌&&◌, eqb, List, [], ◌∷◌, ◌++◌, Option, None, Some, is_some, Result, Ok, Err, IfOk, refl, sym, ap, subst, ◌∙◌, inl, inr}
use Rattle.std.specs.Prelude.{slice_get}
use Rattle.std.specs.Option.{unwrap_or}
use Rattle.std.specs.Str.{bytes_eq}
use Rattle.std.specs.Cmp.Lexicographic.{bytes_decides}
use Rattle.std.proofs.lemmas.Bool.{cases_eq, eq-eqb, ne_eqb, false≢true}

module _ {A : Type 0} where
  abbrev pub front : List A → List A
  front [] = []
  front (x ∷ []) = []
  front (x ∷ y ∷ ys) = x ∷ front (y ∷ ys)

  front-pushed : (xs : List A) (x : A) → front (xs ++ x ∷ []) ≡ xs
  front-pushed [] x = refl
  front-pushed (y ∷ []) x = refl
  front-pushed (y ∷ z ∷ zs) x = ap (λ r. y ∷ r) (front-pushed (z ∷ zs) x)

  abbrev pub last_or : A → List A → A
  last_or d [] = d
  last_or d (x ∷ xs) = last_or x xs

  last-pushed : (d : A) (xs : List A) (x : A) → last_or d (xs ++ x ∷ []) ≡ x
  last-pushed d [] x = refl
  last-pushed d (y ∷ ys) x = last-pushed y ys x

  abbrev pub some_member : List A → Bool
  some_member [] = false
  some_member (x ∷ xs) = true

  some_member-pushed : (xs : List A) (x : A) → some_member (xs ++ x ∷ []) ≡ true
  some_member-pushed [] x = refl
  some_member-pushed (y ∷ ys) x = refl

  pub same_front : (xs ys : List A) (x y : A) → xs ++ x ∷ [] ≡ ys ++ y ∷ [] → xs ≡ ys
  same_front xs ys x y e = sym (front-pushed xs x) ∙ ap front e ∙ front-pushed ys y

  pub same_last : (xs ys : List A) (x y : A) → xs ++ x ∷ [] ≡ ys ++ y ∷ [] → x ≡ y
  same_last xs ys x y e = sym (last-pushed x xs x) ∙ ap (last_or x) e ∙ last-pushed x ys y

  pub not_empty : (xs : List A) (x : A) → [] ≡ xs ++ x ∷ [] → ⊥
  not_empty xs x e = false≢true (ap some_member e ∙ some_member-pushed xs x)

  pub same_some : (x y : A) → Some x ≡ Some y → x ≡ y
  same_some x y e = ap (λ o. unwrap_or o x) e

  pub none_some : (x : A) → None ≡ Some x → ⊥
  none_some x e = false≢true (ap is_some e)

  pub none_unless : (o : Option A) → ((x : A) → o ≡ Some x → ⊥) → o ≡ None
  none_unless None no_some = refl
  none_unless (Some x) no_some = absurd (no_some x refl)

pub same_name : (p place : ℕ) (q name : List ℕ) → (eqb p place && bytes_eq q name) ≡ true → (p ≡ place) × (q ≡ name)
same_name p place q name e = elim (cases_eq p place) [
  | inl same ↦ (same, (bytes_decides q name).0 (sym (ap (λ t. t && bytes_eq q name) (eq-eqb p place same)) ∙ e))
  | inr apart ↦ absurd (false≢true (sym (ap (λ t. t && bytes_eq q name) (ne_eqb p place apart)) ∙ e))
]

pub the_name : (place : ℕ) (name : List ℕ) → (eqb place place && bytes_eq name name) ≡ true
the_name place name = ap (λ t. t && bytes_eq name name) (eq-eqb place place refl) ∙ (bytes_decides name name).1 refl

one_later : (n : ℕ) → suc (suc n) - 1 ≡ suc (suc n - 1)
one_later n = omega arith

-- the last member is the one that was added
pub last-got : {A : Type 0} (xs : List A) (x : A) → slice_get (xs ++ x ∷ []) (length (xs ++ x ∷ []) - 1) ≡ Some x
last-got [] x = refl
last-got (y ∷ []) x = refl
last-got (y ∷ z ∷ zs) x = ap (slice_get (y ∷ z ∷ (zs ++ x ∷ []))) (one_later (length (zs ++ x ∷ []))) ∙ last-got (z ∷ zs) x

-- one more of the same
pub replicate-pushed : (n x : ℕ) → replicate n x ++ x ∷ [] ≡ replicate (suc n) x
replicate-pushed zero x = refl
replicate-pushed (suc n) x = ap (λ xs. x ∷ xs) (replicate-pushed n x)

nothing_more : {A : Type 0} (xs : List A) → xs ++ [] ≡ xs
nothing_more [] = refl
nothing_more (y ∷ ys) = ap (λ r. y ∷ r) (nothing_more ys)

-- what is still to come of a page
abbrev pub page_left : {A : Type 0} → ℕ → ℕ → List A → List A
page_left most skip rest = take most (drop skip rest)

pub page-skipped : {A : Type 0} (most skip passed : ℕ) (x : A) (rest : List A) → passed < skip → page_left most (skip - passed) (x ∷ rest) ≡ page_left most (skip - (passed + 1)) rest
page-skipped most skip passed x rest less = ap (λ n. page_left most n (x ∷ rest)) step
  where
    step : skip - passed ≡ suc (skip - (passed + 1))
    step = omega arith

pushed-front : {A : Type 0} (xs : List A) (x : A) (ys : List A) → xs ++ x ∷ ys ≡ (xs ++ x ∷ []) ++ ys
pushed-front [] x ys = refl
pushed-front (y ∷ xs) x ys = ap (λ r. y ∷ r) (pushed-front xs x ys)

pub page-taken : {A : Type 0} (most skip passed : ℕ) (names : List A) (x : A) (rest : List A) → skip ≤ passed → length names < most
    → names ++ page_left (most - length names) (skip - passed) (x ∷ rest) ≡ (names ++ x ∷ []) ++ page_left (most - length (names ++ x ∷ [])) (skip - passed) rest
page-taken {A = A} most skip passed names x rest past less =
    let turned : names ++ page_left (suc (most - (length names + 1))) 0 (x ∷ rest) ≡ (names ++ x ∷ []) ++ page_left (most - (length names + 1)) 0 rest = pushed-front names x (page_left (most - (length names + 1)) 0 rest) in
    (λ i. names ++ page_left (room i) (none i) (x ∷ rest)) ∙ turned ∙ (λ i. (names ++ x ∷ []) ++ page_left (most - sym (longer names) i) (sym none i) rest)
  where
    room : most - length names ≡ suc (most - (length names + 1))
    room = omega arith

    none : skip - passed ≡ 0
    none = omega arith

    longer : (xs : List A) → length (xs ++ x ∷ []) ≡ length xs + 1
    longer [] = refl
    longer (y ∷ ys) =
        let rest : length (ys ++ x ∷ []) ≡ length ys + 1 = longer ys in
        omega arith

pub page-full : {A : Type 0} (most skip : ℕ) (names rest : List A) → most ≤ length names → names ++ page_left (most - length names) skip rest ≡ names
page-full most skip names rest full = ap (λ n. names ++ page_left n skip rest) none ∙ nothing_more names
  where
    none : most - length names ≡ 0
    none = omega arith

pub page-ended : {A : Type 0} (most skip : ℕ) (names : List A) → names ++ page_left most skip [] ≡ names
page-ended zero zero names = nothing_more names
page-ended zero (suc skip) names = nothing_more names
page-ended (suc most) zero names = nothing_more names
page-ended (suc most) (suc skip) names = nothing_more names

pub page-started : {A : Type 0} (most skip : ℕ) (names rest : List A) → names ≡ [] → page_left most skip rest ≡ names ++ page_left (most - length names) (skip - 0) rest
page-started most skip names rest none = subst (λ ns. page_left most skip rest ≡ ns ++ page_left (most - length ns) (skip - 0) rest) (sym none) (λ i. page_left (less_none most i) (less_none skip i) rest)
  where
    less_none : (n : ℕ) → n ≡ n - 0
    less_none n = omega arith

-- what holds of a result holds of it in other words
pub if_ok : {A E : Type 0} {P Q : A → Type 0} (result : Result A E) → IfOk result P → ((x : A) → P x → Q x) → IfOk result Q
if_ok (Ok x) holds turn = turn x holds
if_ok (Err e) holds turn = tt

-- Which permissions a vector has that is made of others.
use Rattle.std.proofs.Common.{◌≡◌, ◌≢◌, ◌∙◌, ℕ, zero, suc, ◌+◌, ◌%◌, ◌<◌, min, max, Bool, true, false, not, cond, eqb, ltb, bit_and, bit_or, refl, sym, ap, arith}
use Rattle.std.specs.Prelude.{◌&&◌, ◌||◌, ◌==◌, bit_xor}
use Rattle.std.specs.Int.{bit_at}
use Rattle.std.proofs.lemmas.Bool.{lt-ltb, le-ltb, eqb-true, eq-eqb, false≢true}
use Rattle.std.proofs.lemmas.Bool.Decides.{nat_tests}
use Rattle.std.proofs.lemmas.Nat.Bits.{bit_at_or, bit_at_and, bit_at_xor, bit_at-lt}
use Rattle.access_vectors.specs.Vectors.{has, with_index}
use Rattle.access_vectors.proofs.Members.{has-empty, has-with_same, has-with_other}
use Rattle.policy_model.specs.Deciding.{vector_where}

-- a bit is 0 or 1
bit_is : (x : ℕ) → x < 2 → (P : ℕ → Type 0) → P 0 → P 1 → P x
bit_is zero h P p0 p1 = p0
bit_is (suc zero) h P p0 p1 = p1
bit_is (suc (suc x)) h P p0 p1 = absurd (omega (arith, h))

-- the greater of two bits is 1 where one of them is
or_bits : (x y : ℕ) → x < 2 → y < 2 → (max x y == 1) ≡ ((x == 1) || (y == 1))
or_bits x y hx hy =
    bit_is x hx (λ a. (max a y == 1) ≡ ((a == 1) || (y == 1)))
    (bit_is y hy (λ b. (max 0 b == 1) ≡ ((0 == 1) || (b == 1))) refl refl)
    (bit_is y hy (λ b. (max 1 b == 1) ≡ ((1 == 1) || (b == 1))) refl refl)

-- one bit without another
out_bits : (x y : ℕ) → x < 2 → y < 2 → ((x + min x y) % 2 == 1) ≡ ((x == 1) && not (y == 1))
out_bits x y hx hy =
    bit_is x hx (λ a. ((a + min a y) % 2 == 1) ≡ ((a == 1) && not (y == 1)))
    (bit_is y hy (λ b. ((0 + min 0 b) % 2 == 1) ≡ ((0 == 1) && not (b == 1))) refl refl)
    (bit_is y hy (λ b. ((1 + min 1 b) % 2 == 1) ≡ ((1 == 1) && not (b == 1))) refl refl)

-- what either vector has
pub has-or : (a b index : ℕ) → has (bit_or a b) index ≡ (has a index || has b index)
unfolding has
has-or a b index = ap (λ bit. bit == 1) (bit_at_or a b index) ∙ or_bits _ _ (bit_at-lt a index) (bit_at-lt b index)

-- what one vector has and the other has not
pub has-out : (a b index : ℕ) → has (bit_xor a (bit_and a b)) index ≡ (has a index && not (has b index))
unfolding has
has-out a b index =
    ap (λ bit. bit == 1) (bit_at_xor a (bit_and a b) index ∙ ap (λ bit. (bit_at a index + bit) % 2) (bit_at_and a b index))
    ∙ out_bits _ _ (bit_at-lt a index) (bit_at-lt b index)

-- the permission that a step is about
where_same : (v n : ℕ) (t : Bool) → has v n ≡ false → has (cond t (with_index v n) v) n ≡ t
where_same v n true none = has-with_same v n
where_same v n false none = none

-- every other permission
where_other : (v n index : ℕ) (t : Bool) → index ≢ n → has (cond t (with_index v n) v) index ≡ has v index
where_other v n index true apart = has-with_other v n index apart
where_other v n index false apart = refl

-- one step at the permission that it is about
step_same : (v n index : ℕ) (t b : Bool) → index ≡ n → t ≡ b → has v index ≡ (ltb index n && b) → has (cond t (with_index v n) v) index ≡ (ltb index (suc n) && b)
step_same v n index t b same test h =
    let over : ltb index n ≡ false = le-ltb index n (omega (arith, same)) in
    let under : ltb index (suc n) ≡ true = lt-ltb index (suc n) (omega (arith, same)) in
    let none : has v n ≡ false = rw (← same) (h ∙ ap (λ c. c && b) over) in
    let new : has (cond t (with_index v n) v) index ≡ t = rw same (where_same v n t none) in
    let side : (ltb index (suc n) && b) ≡ b = ap (λ c. c && b) under in
    new ∙ test ∙ sym side

-- one step at another permission
step_other : (v n index : ℕ) (t b : Bool) → index ≢ n → has v index ≡ (ltb index n && b) → has (cond t (with_index v n) v) index ≡ (ltb index (suc n) && b)
step_other v n index t b apart h =
    let same : ltb index n ≡ ltb index (suc n) = grind (arith, nat_tests) in
    where_other v n index t apart ∙ h ∙ ap (λ c. c && b) same

-- one step
step : (v n index : ℕ) (test : ℕ → Bool) (d : Bool) → eqb index n ≡ d → has v index ≡ (ltb index n && test index) → has (cond (test n) (with_index v n) v) index ≡ (ltb index (suc n) && test index)
step v n index test true at h =
    let same : index ≡ n = eqb-true index n at in
    step_same v n index (test n) (test index) same (ap test (sym same)) h
step v n index test false at h =
    let apart : index ≢ n = λ same. false≢true (sym at ∙ eq-eqb index n same) in
    step_other v n index (test n) (test index) apart h

-- a vector by its test has what passes the test
pub has-where : (n : ℕ) (test : ℕ → Bool) (index : ℕ) → has (vector_where n test) index ≡ (ltb index n && test index)
unfolding vector_where
has-where zero test index = has-empty index ∙ ap (λ t. t && test index) (sym (le-ltb index 0 (omega arith)))
has-where (suc n) test index = step (vector_where n test) n index test (eqb index n) refl (has-where n test index)

-- Which permissions are in a vector.
use Rattle.std.proofs.Common.{◌≡◌, ◌≢◌, ℕ, ◌-◌, ◌^◌, ◌<◌, ◌≤◌, true, false, bit_and, bit_or, min, max, ap, ◌∙◌, arith, w16}
use Rattle.std.specs.Prelude.{◌&&◌, ◌==◌}
use Rattle.std.specs.Int.{bit_at}
use Rattle.std.proofs.lemmas.Nat.Bits.{bit_at-zero, bit_at-lt, bit_at_and, bit_at_or, bit_at_not, bit_at-pow_same, bit_at-pow_other, bit_at_above, same_from_bits}
use Rattle.std.proofs.Math.Pow.{pow-lt}
use Rattle.std.proofs.lemmas.Bool.Decides.{nat_tests}
use Rattle.access_vectors.specs.Vectors.{has, with_index, without_index}

-- the lesser of two bits is 1 where both are
min_is : (x y : ℕ) → x < 2 → y < 2 → (min x y == 1) ≡ ((x == 1) && (y == 1))
min_is x y hx hy = grind (arith, nat_tests)

-- equal tests give equal bits
bit_from_test : (x y : ℕ) → x < 2 → y < 2 → (x == 1) ≡ (y == 1) → x ≡ y
bit_from_test x y hx hy same = grind (arith, nat_tests)

-- the empty vector has no permission
pub has-empty : (index : ℕ) → has 0 index ≡ false
unfolding has
has-empty index = ap (λ bit. bit == 1) (bit_at-zero index)

-- a vector has no permission at an index that is not below 16
pub has-above : (bits index : ℕ) → bits < 65536 → 16 ≤ index → has bits index ≡ false
unfolding has
has-above bits index small large = ap (λ bit. bit == 1) (bit_at_above bits 16 index small large)

-- what both vectors have
pub has-both : (a b index : ℕ) → has (bit_and a b) index ≡ (has a index && has b index)
unfolding has
has-both a b index =
    ap (λ bit. bit == 1) (bit_at_and a b index) ∙ min_is _ _ (bit_at-lt a index) (bit_at-lt b index)

-- the permission that was put in
pub has-with_same : (bits index : ℕ) → has (with_index bits index) index ≡ true
unfolding has with_index
has-with_same bits index =
    let at : bit_at (bit_or bits (2 ^ index)) index ≡ max (bit_at bits index) (bit_at (2 ^ index) index) = bit_at_or bits (2 ^ index) index in
    let one : bit_at (2 ^ index) index ≡ 1 = bit_at-pow_same index in
    let small : bit_at bits index < 2 = bit_at-lt bits index in
    let is_one : bit_at (bit_or bits (2 ^ index)) index ≡ 1 = omega arith in
    ap (λ bit. bit == 1) is_one

-- every other permission is as before
pub has-with_other : (bits index other : ℕ) → other ≢ index → has (with_index bits index) other ≡ has bits other
unfolding has with_index
has-with_other bits index other apart =
    let at : bit_at (bit_or bits (2 ^ index)) other ≡ max (bit_at bits other) (bit_at (2 ^ index) other) = bit_at_or bits (2 ^ index) other in
    let none : bit_at (2 ^ index) other ≡ 0 = bit_at-pow_other index other apart in
    let same : bit_at (bit_or bits (2 ^ index)) other ≡ bit_at bits other = omega arith in
    ap (λ bit. bit == 1) same

-- the number of one permission is one of 16 bits
pow_small : (index : ℕ) → index < 16 → 2 ^ index < 65536
pow_small index h = pow-lt {j = 16} h

-- the permission that was taken out
pub has-without_same : (bits index : ℕ) → index < 16 → has (without_index bits index) index ≡ false
unfolding has without_index
has-without_same bits index h =
    let at : bit_at (bit_and bits (65535 - 2 ^ index)) index ≡ min (bit_at bits index) (bit_at (65535 - 2 ^ index) index) = bit_at_and bits (65535 - 2 ^ index) index in
    let turned : bit_at (65535 - 2 ^ index) index ≡ 1 - bit_at (2 ^ index) index = bit_at_not w16 (2 ^ index) index (pow_small index h) h in
    let one : bit_at (2 ^ index) index ≡ 1 = bit_at-pow_same index in
    let none : bit_at (bit_and bits (65535 - 2 ^ index)) index ≡ 0 = omega arith in
    ap (λ bit. bit == 1) none

-- every other permission is as before
pub has-without_other : (bits index other : ℕ) → index < 16 → other < 16 → other ≢ index → has (without_index bits index) other ≡ has bits other
unfolding has without_index
has-without_other bits index other h within apart =
    let at : bit_at (bit_and bits (65535 - 2 ^ index)) other ≡ min (bit_at bits other) (bit_at (65535 - 2 ^ index) other) = bit_at_and bits (65535 - 2 ^ index) other in
    let turned : bit_at (65535 - 2 ^ index) other ≡ 1 - bit_at (2 ^ index) other = bit_at_not w16 (2 ^ index) other (pow_small index h) within in
    let none : bit_at (2 ^ index) other ≡ 0 = bit_at-pow_other index other apart in
    let small : bit_at bits other < 2 = bit_at-lt bits other in
    let same : bit_at (bit_and bits (65535 - 2 ^ index)) other ≡ bit_at bits other = omega arith in
    ap (λ bit. bit == 1) same

-- vectors with the same permissions are equal
pub same_from_has : (a b : ℕ) → ((index : ℕ) → has a index ≡ has b index) → a ≡ b
unfolding has
same_from_has a b same =
    same_from_bits a b (λ index. bit_from_test _ _ (bit_at-lt a index) (bit_at-lt b index) (same index))

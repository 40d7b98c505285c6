-- The value of a numeral, a digit at a time.
use Rattle.std.proofs.Common.{◌≡◌, ◌<◌, ◌≤◌, ◌+◌, ◌-◌, ◌*◌, ◌^◌, ℕ, true, leb, List, length, get_or, take, refl, arith, add-one}
use Rattle.std.specs.List.{list_all}
use Rattle.std.specs.Str.Parse.{digits_value}
use Rattle.std.proofs.Math.Nat.{pow-succ'}
use Rattle.std.proofs.lemmas.List.Folds.{list_all_more}
use Rattle.std.proofs.lemmas.Int.Digits.{digits_value_more}
use Rattle.std.proofs.lemmas.Str.{digit_value_digit}
use Rattle.std.proofs.lemmas.Bool.Decides.{nat_tests}
use Rattle.text_lines.specs.Numerals.{is_digit}

-- what a digit adds to the value
digit_is : (b : ℕ) → is_digit b ≡ true → (48 ≤ b) × (b ≤ 57)
digit_is b h =
    let low : leb 48 b ≡ true = grind (arith, h) in
    let high : leb b 57 ≡ true = grind (arith, h) in
    (grind (arith, nat_tests, low), grind (arith, nat_tests, high))

-- one digit more
pub value_more : (ds : List ℕ) (i value d : ℕ) → list_all is_digit (take i ds) ≡ true → is_digit (get_or ds i 0) ≡ true → i < length ds → value ≡ digits_value 10 (take i ds) → value < 10 ^ i → d ≡ get_or ds i 0 - 48 → (list_all is_digit (take (i + 1) ds) ≡ true) × (value * 10 + d ≡ digits_value 10 (take (i + 1) ds)) × (value * 10 + d < 10 ^ (i + 1))
value_more ds i value d all here within so_far small digit =
    let range = digit_is (get_or ds i 0) here in
    let adds = digit_value_digit (get_or ds i 0) range in
    let more = digits_value_more 10 ds i within in
    (rw (list_all_more is_digit ds i 0 within, all, here) refl, rw (more, ← so_far) (omega (arith, adds, range.0, range.1)), rw (add-one, pow-succ' 10 i) (omega (arith, range.0, range.1)))

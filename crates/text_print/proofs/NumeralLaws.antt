-- A number that was printed is read as that number.
use Rattle.std.proofs.Common.{◌≡◌, ◌<◌, ◌≤◌, ◌^◌, ℕ, true, ltb, leb, List, [], ◌∷◌, length, Some, refl, arith}
use Rattle.std.specs.Prelude.{decimal}
use Rattle.std.specs.List.{list_all}
use Rattle.std.specs.Str.Parse.{digits_value}
use Rattle.std.proofs.lemmas.Bool.{and_parts, and_from, lt-ltb, le-leb, leb-true}
use Rattle.std.proofs.lemmas.Fmt.{decimal_is_IsNumeral, length-decimal-le, digits_decimal, digits_value-decimal}
use Rattle.std.proofs.lemmas.Str.Parse.{IsDigitsTest, IsNumeralModel, numerals_by_value}
use Rattle.text_lines.specs.Lines.{is_word_byte, is_filled}
use Rattle.text_lines.specs.Numerals.{is_digit, numeral_of}
use Rattle.text_print.specs.Printed.{is_word}
use Rattle.text_print.proofs.WordLaws.{all_pass}

-- a digit lies in the range of the digits
digit_within : (b : ℕ) → is_digit b ≡ true → (48 ≤ b) × (b ≤ 57)
digit_within b h =
    let parts = and_parts (leb 48 b) (leb b 57) h in
    (leb-true 48 b parts.0, leb-true b 57 parts.1)

-- the test of digits, as std's laws on numerals ask for it
digits_test : IsDigitsTest (λ ds. list_all is_digit ds ≡ true)
digits_test = record {
  empty = refl;
  parts = λ c cs h. let both = and_parts (is_digit c) (list_all is_digit cs) h in (digit_within c both.0, both.1);
  more = λ c cs range h. and_from _ _ (and_from _ _ (le-leb 48 c range.0) (le-leb c 57 range.1)) h;
}

abbrev numerals : IsNumeralModel (λ ds. list_all is_digit ds ≡ true) (digits_value 10)
numerals = numerals_by_value (λ ds. list_all is_digit ds ≡ true) digits_test

-- a number of 32 bits is read again
pub numeral_of_decimal : (n : ℕ) → n < 2 ^ 32 → numeral_of (decimal n) ≡ Some n
unfolding numeral_of
numeral_of_decimal n small =
    let wide : n < 2 ^ 64 = omega arith in
    let some : ltb 0 (length (decimal n)) ≡ true = lt-ltb _ _ (decimal_is_IsNumeral n wide).0.0 in
    let short : leb (length (decimal n)) 10 ≡ true = le-leb _ _ (length-decimal-le 10 n (omega arith) (omega arith) wide) in
    let digits : list_all is_digit (decimal n) ≡ true = digits_decimal numerals n wide in
    rw (some, short, digits, digits_value-decimal numerals n wide) refl

-- a digit may stand in a word
digit_stands : (b : ℕ) → is_digit b ≡ true → is_word_byte b ≡ true
digit_stands b h =
    let range = digit_within b h in
    and_from (leb 33 b) (leb b 126) (le-leb 33 b (omega (arith, range.0))) (le-leb b 126 (omega (arith, range.1)))

-- bytes that are some are filled
filled : (bytes : List ℕ) → 0 < length bytes → is_filled bytes ≡ true
filled [] some = absurd (omega (arith, some))
filled (b ∷ bytes) some = refl

-- a printed number is a word
pub decimal_is_word : (n : ℕ) → n < 2 ^ 64 → is_word (decimal n) ≡ true
decimal_is_word n wide =
    and_from (is_filled (decimal n)) (list_all is_word_byte (decimal n)) (filled (decimal n) (decimal_is_IsNumeral n wide).0.0)
    (all_pass is_digit is_word_byte digit_stands (decimal n) (digits_decimal numerals n wide))

-- What a letter and a number make: a name, a part of a path, and a word.
use Rattle.std.proofs.Common.{◌≡◌, ◌∙◌, ◌<◌, ◌≤◌, ◌^◌, ℕ, Bool, true, false, cond, List, [], ◌∷◌, length, ltb, get_or, Some, None, refl, sym, ap, arith}
use Rattle.std.specs.Prelude.{◌||◌, ◌&&◌, nat_lt, nat_le, is_some, codes, decimal}
use Rattle.std.specs.List.{list_all}
use Rattle.std.proofs.lemmas.Bool.{and_parts, and_from, or_left, or_right, false≢true, ltb-true, leb-true, le-ltb}
use Rattle.std.proofs.lemmas.Bool.Decides.{nat_tests}
use Rattle.std.proofs.lemmas.List.Elements.{All-cons, All-nil}
use Rattle.std.proofs.lemmas.List.Sums.{AllPass-from_list_all}
use Rattle.flask_sid.specs.Names.{is_name_byte, is_lower, is_name_form, is_name, is_long}
use Rattle.text_lines.specs.Lines.{is_word_byte}
use Rattle.text_lines.specs.Numerals.{is_digit, numeral_of}
use Rattle.text_print.proofs.NumeralLaws.{numeral_of_decimal}
use Rattle.policy_model.proofs.GrowsLemmas.{all_more}
use Rattle.file_calls.specs.Formed.{IsPart, IsPath, is_path_byte}
use Rattle.session_generator.specs.Generated.{numbered, path_of}

-- what the digits of a number are
pub record AreDigits (word : List ℕ) : Type 0 where
  pub some : 0 < length word
  pub short : length word ≤ 10
  pub digits : list_all is_digit word ≡ true

-- a test that was passed
passed : {X : Type 0} (b : Bool) (x y : X) → cond b (Some x) None ≡ Some y → b ≡ true
passed true x y found = refl
passed false x y found = absurd (false≢true (ap is_some found))

pub decimal_digits : (n : ℕ) → n < 2 ^ 32 → AreDigits (decimal n)
unfolding numeral_of
decimal_digits n small =
    let test = passed ((nat_lt 0 (length (decimal n)) && nat_le (length (decimal n)) 10) && list_all is_digit (decimal n)) _ n (numeral_of_decimal n small) in
    let parts = and_parts (nat_lt 0 (length (decimal n)) && nat_le (length (decimal n)) 10) (list_all is_digit (decimal n)) test in
    let sizes = and_parts (nat_lt 0 (length (decimal n))) (nat_le (length (decimal n)) 10) parts.0 in
    record { some = ltb-true 0 (length (decimal n)) sizes.0; short = leb-true (length (decimal n)) 10 sizes.1; digits = parts.1 }

-- two numbers with the same digits are one
pub same_digits : (m n : ℕ) → m < 2 ^ 32 → n < 2 ^ 32 → decimal m ≡ decimal n → m ≡ n
same_digits m n small_m small_n same =
    some_inj (sym (numeral_of_decimal m small_m) ∙ ap numeral_of same ∙ numeral_of_decimal n small_n)
  where
    some_inj : Some m ≡ Some n → m ≡ n
    some_inj found = cc

-- digits may stand in names, in paths and in words
digit_in_name : (b : ℕ) → is_digit b ≡ true → is_name_byte b ≡ true
digit_in_name b is = or_left (is_lower b || is_digit b) _ (or_right (is_lower b) (is_digit b) is)

digit_in_path : (b : ℕ) → is_digit b ≡ true → is_path_byte b ≡ true
digit_in_path b is = grind (arith, nat_tests)

digit_in_word : (b : ℕ) → is_digit b ≡ true → is_word_byte b ≡ true
digit_in_word b is = grind (arith, nat_tests)

-- a letter and a number are a name
pub numbered_name : (letter n : ℕ) → is_lower letter ≡ true → n < 2 ^ 32 → is_name (numbered (letter ∷ []) n) ≡ true
unfolding is_name is_name_form is_long
numbered_name letter n lower small =
    let digits = decimal_digits n small in
    let long : ltb 32 (length (letter ∷ decimal n)) ≡ false = le-ltb 32 (length (letter ∷ decimal n)) (omega (arith, digits.short)) in
    and_from _ _ (and_from _ _ lower (all_more is_digit is_name_byte digit_in_name (decimal n) digits.digits)) (rw long refl)

-- a letter and a number are a word, and no long one
pub numbered_word : (letter n : ℕ) → is_word_byte letter ≡ true → n < 2 ^ 32 → list_all is_word_byte (numbered (letter ∷ []) n) ≡ true
numbered_word letter n is small =
    and_from _ _ is (all_more is_digit is_word_byte digit_in_word (decimal n) (decimal_digits n small).digits)

pub numbered_short : (letter n : ℕ) → n < 2 ^ 32 → length (numbered (letter ∷ []) n) ≤ 11
numbered_short letter n small = let digits = decimal_digits n small in omega (arith, digits.short)

pub numbered_some : (letter n : ℕ) → 0 < length (numbered (letter ∷ []) n)
numbered_some letter n = omega arith

-- a path's part of a file of that number is one
part_formed : (n : ℕ) → n < 2 ^ 32 → IsPart (numbered (codes "f") n)
part_formed n small =
    record {
      some = numbered_some 102 n;
      short = let short = numbered_short 102 n small in omega (arith, short);
      allowed = AllPass-from_list_all is_path_byte (numbered (codes "f") n) (and_from _ _ refl (all_more is_digit is_path_byte digit_in_path (decimal n) (decimal_digits n small).digits));
      not_dot = λ same. first_differs (codes ".") same refl;
      not_dots = λ same. first_differs (codes "..") same refl;
    }
  where
    first_differs : (other : List ℕ) → numbered (codes "f") n ≡ other → get_or other 0 0 ≡ 46 → ⊥
    first_differs other same dot = let first : 102 ≡ get_or other 0 0 = ap (λ word. get_or word 0 0) same in omega (arith, first, dot)

-- and so is its path
pub path_formed : (n : ℕ) → n < 2 ^ 32 → IsPath (path_of n)
path_formed n small = record { short = omega arith; parts = All-cons IsPart (numbered (codes "f") n) [] (part_formed n small) (All-nil IsPart) }

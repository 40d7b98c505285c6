-- A word that is no text, or begins with `-`, is no word of a command.
use Rattle.std.proofs.Common.{◌≡◌, ◌∙◌, ◌≤◌, ◌&&◌, ◌||◌, ◌==◌, ℕ, Bool, true, false, cond, true≢false, refl, ap, sym, arith, List, [], ◌∷◌, zero, suc, Option, Some, None, codes, length, nat_lt, nat_le}
use Rattle.std.specs.Prelude.{option_map, if◌then◌else◌}
use Rattle.std.specs.List.{list_all}
use Rattle.std.specs.Str.{IsAscii, IsUtf8, bytes_eq, chars, is_utf8}
use Rattle.std.specs.Char.{encode_utf8}
use Rattle.std.specs.Str.Parse.{digits_value}
use Rattle.std.proofs.lemmas.Bool.Decides.{nat_tests}
use Rattle.std.proofs.lemmas.Slice.Eq.{bytes_eq-Decides}
use Rattle.std.proofs.lemmas.Str.{IsUtf8-from_ascii, IsUtf8-from_is_utf8, is_utf8-from_IsUtf8}
use Rattle.std.proofs.lemmas.Str.Ascii.{IsAscii-nil}
use Rattle.clap.proofs.WalkLemmas.{both}
use Rattle.text_lines.specs.Numerals.{is_digit, numeral_of}
use Rattle.text_lines.specs.OptionSteps.{◌>>=◌}
use Rattle.command_line.specs.Arguments.{begins_with_dash, is_argument}
use Rattle.flask_sid.specs.Names.{is_lower, is_name, is_name_byte, is_name_form}
use Rattle.command_line.specs.Commands.{command_of, four_form, generate_form, most_clients, most_lines, most_seed, number_within, one_form, two_form, path_form}
use Rattle.command_line.specs.declared.command.Command.{Command}
use Rattle.command_line.specs.declared.command.PathAsked.{PathAsked}
use Rattle.command_line.specs.declared.command.Command.TheVariants as command

pub is_text : (bytes : List ℕ) → IsUtf8 bytes → is_utf8 bytes ≡ true
is_text bytes told = is_utf8-from_IsUtf8 bytes told

pub is_no_text : (bytes : List ℕ) → (IsUtf8 bytes → ⊥) → is_utf8 bytes ≡ false
is_no_text bytes told = by_test (is_utf8 bytes) refl
  where
    by_test : (test : Bool) → is_utf8 bytes ≡ test → is_utf8 bytes ≡ false
    by_test false is = is
    by_test true is = absurd (told (IsUtf8-from_is_utf8 bytes is))

-- ---- numerals

digit_is : (b : ℕ) → is_digit b ≡ true → (48 ≤ b) × (b ≤ 57)
digit_is b h =
    let parts = both (nat_le 48 b) (nat_le b 57) h in
    (grind (arith, nat_tests, parts.0), grind (arith, nat_tests, parts.1))

digits_are_ascii : (word : List ℕ) → list_all is_digit word ≡ true → IsAscii word
digits_are_ascii [] told i = IsAscii-nil i
digits_are_ascii (b ∷ bs) told zero = let range = digit_is b (both _ _ told).0 in omega (arith, range.1)
digits_are_ascii (b ∷ bs) told (suc i) = digits_are_ascii bs (both _ _ told).1 i

digits_have_no_dash : (word : List ℕ) → list_all is_digit word ≡ true → begins_with_dash word ≡ false
digits_have_no_dash [] told = refl
digits_have_no_dash (b ∷ bs) told = let range = digit_is b (both _ _ told).0 in grind (arith, nat_tests, range.0)

digits_are_argument : (word : List ℕ) → list_all is_digit word ≡ true → is_argument word ≡ true
unfolding is_argument
digits_are_argument word told = rw (digits_have_no_dash word told, is_text word (IsUtf8-from_ascii word (digits_are_ascii word told))) refl

never_digits : (word : List ℕ) → is_argument word ≡ false → list_all is_digit word ≡ false
never_digits word told = by_test (list_all is_digit word) refl
  where
    by_test : (test : Bool) → list_all is_digit word ≡ test → list_all is_digit word ≡ false
    by_test false is = is
    by_test true is = absurd (true≢false (sym (digits_are_argument word is) ∙ told))

never_number : (a b c : Bool) (number : Option ℕ) → c ≡ false → cond (a && b && c) number None ≡ None
never_number true true c number never = rw never refl
never_number true false c number never = refl
never_number false b c number never = refl

no_numeral : (word : List ℕ) → is_argument word ≡ false → numeral_of word ≡ None
unfolding numeral_of
no_numeral word told =
    never_number (nat_lt 0 (length word)) (nat_le (length word) 10) (list_all is_digit word) (Some (digits_value 10 word)) (never_digits word told)

not_within : (least most : ℕ) (word : List ℕ) → is_argument word ≡ false → number_within least most word ≡ None
unfolding number_within
not_within least most word told = rw (no_numeral word told) refl

-- ---- names

lower_is : (b : ℕ) → is_lower b ≡ true → (97 ≤ b) × (b ≤ 122)
lower_is b h =
    let parts = both (nat_le 97 b) (nat_le b 122) h in
    (grind (arith, nat_tests, parts.0), grind (arith, nat_tests, parts.1))

name_byte_is : (b : ℕ) → is_name_byte b ≡ true → b ≤ 122
name_byte_is b h = by_tests (is_lower b) (nat_le 48 b && nat_le b 57) (b == 95) refl refl refl h
  where
    by_tests : (lower digit line : Bool) → is_lower b ≡ lower → (nat_le 48 b && nat_le b 57) ≡ digit → (b == 95) ≡ line → (lower || digit || line) ≡ true → b ≤ 122
    by_tests true digit line is_l is_d is_u told = (lower_is b is_l).1
    by_tests false true line is_l is_d is_u told = let range = digit_is b is_d in omega (arith, range.1)
    by_tests false false true is_l is_d is_u told = grind (arith, nat_tests, is_u)
    by_tests false false false is_l is_d is_u told = absurd (true≢false (sym told))

name_bytes_are_ascii : (word : List ℕ) → list_all is_name_byte word ≡ true → IsAscii word
name_bytes_are_ascii [] told i = IsAscii-nil i
name_bytes_are_ascii (b ∷ bs) told zero = let range = name_byte_is b (both _ _ told).0 in omega (arith, range)
name_bytes_are_ascii (b ∷ bs) told (suc i) = name_bytes_are_ascii bs (both _ _ told).1 i

form_is_ascii : (word : List ℕ) → is_name_form word ≡ true → IsAscii word
unfolding is_name_form
form_is_ascii [] told i = IsAscii-nil i
form_is_ascii (b ∷ bs) told zero = let range = lower_is b (both _ _ told).0 in omega (arith, range.1)
form_is_ascii (b ∷ bs) told (suc i) = name_bytes_are_ascii bs (both _ _ told).1 i

form_has_no_dash : (word : List ℕ) → is_name_form word ≡ true → begins_with_dash word ≡ false
unfolding is_name_form
form_has_no_dash [] told = refl
form_has_no_dash (b ∷ bs) told = let range = lower_is b (both _ _ told).0 in grind (arith, nat_tests, range.0)

name_is_argument : (word : List ℕ) → is_name word ≡ true → is_argument word ≡ true
unfolding is_name is_argument
name_is_argument word told =
    let form = (both _ _ told).0 in
    rw (form_has_no_dash word form, is_text word (IsUtf8-from_ascii word (form_is_ascii word form))) refl

never_name : (word : List ℕ) → is_argument word ≡ false → is_name word ≡ false
never_name word told = by_test (is_name word) refl
  where
    by_test : (test : Bool) → is_name word ≡ test → is_name word ≡ false
    by_test false is = is
    by_test true is = absurd (true≢false (sym (name_is_argument word is) ∙ told))

-- ---- the commands

-- a word that is no argument is not one that is
never_named : (name word : List ℕ) → is_argument name ≡ false → is_argument word ≡ true → bytes_eq name word ≡ false
never_named name word told is = by_test (bytes_eq name word) refl
  where
    by_test : (test : Bool) → bytes_eq name word ≡ test → bytes_eq name word ≡ false
    by_test false never = never
    by_test true same =
        let named : name ≡ word = (bytes_eq-Decides name word).0 same in
        absurd (true≢false (sym is ∙ sym (ap is_argument named) ∙ told))

serial_is : is_argument (codes "serial") ≡ true
unfolding is_argument is_utf8 chars encode_utf8
serial_is = refl

threads_is : is_argument (codes "threads") ≡ true
unfolding is_argument is_utf8 chars encode_utf8
threads_is = refl

generate_is : is_argument (codes "generate") ≡ true
unfolding is_argument is_utf8 chars encode_utf8
generate_is = refl

flow_is : is_argument (codes "flow") ≡ true
unfolding is_argument is_utf8 chars encode_utf8
flow_is = refl

enter_is : is_argument (codes "enter") ≡ true
unfolding is_argument is_utf8 chars encode_utf8
enter_is = refl

learn_is : is_argument (codes "learn") ≡ true
unfolding is_argument is_utf8 chars encode_utf8
learn_is = refl

no_one : (name : List ℕ) → is_argument name ≡ false → one_form name ≡ None
unfolding one_form
no_one name told = rw (never_named name (codes "serial") told serial_is, never_named name (codes "threads") told threads_is) refl

-- one of the two is no argument
no_two : (name one : List ℕ) (n s : Bool) → is_argument name ≡ n → is_argument one ≡ s → (n && (s && true)) ≡ false → two_form name one ≡ None
unfolding two_form
no_two name one false s is_n is_s told = rw (never_named name (codes "learn") is_n learn_is) refl
no_two name one true true is_n is_s told = absurd (true≢false told)
no_two name one true false is_n is_s told = by_name (bytes_eq name (codes "learn"))
  where
    by_name : (learns : Bool) → (if learns then option_map command.Learn (numeral_of one) else None) ≡ None
    by_name true = ap (option_map command.Learn) (no_numeral one is_s)
    by_name false = refl

-- what is asked where each number is there
abbrev generated : Option ℕ → Option ℕ → Option ℕ → Option Command
generated seed clients lines = do
  s ← seed
  c ← clients
  l ← lines
  Some (command.Generate s c l)

lacks_clients : (seed lines : Option ℕ) → generated seed None lines ≡ None
lacks_clients None lines = refl
lacks_clients (Some s) lines = refl

lacks_lines : (seed clients : Option ℕ) → generated seed clients None ≡ None
lacks_lines None clients = refl
lacks_lines (Some s) None = refl
lacks_lines (Some s) (Some c) = refl

-- what is asked where the number is there, and both names are
abbrev pathed : Option ℕ → Bool → Bool → PathAsked → Option PathAsked
pathed version from to asked = do
  number ← version
  if from && to then Some (record { version = number; from = asked.from; to = asked.to }) else None

lacks_from : (version : Option ℕ) (to : Bool) (asked : PathAsked) → pathed version false to asked ≡ None
lacks_from None to asked = refl
lacks_from (Some number) to asked = refl

lacks_to : (version : Option ℕ) (from : Bool) (asked : PathAsked) → pathed version from false asked ≡ None
lacks_to None from asked = refl
lacks_to (Some number) false asked = refl
lacks_to (Some number) true asked = refl

module _ (one two three : List ℕ) where
  generate_none_by_one : is_argument one ≡ false → generate_form one two three ≡ None
  unfolding generate_form
  generate_none_by_one told = rw (not_within 0 most_seed one told) refl

  generate_none_by_two : is_argument two ≡ false → generate_form one two three ≡ None
  unfolding generate_form
  generate_none_by_two told =
      ap (λ c. generated (number_within 0 most_seed one) c (number_within 1 most_lines three)) (not_within 1 most_clients two told)
      ∙ lacks_clients (number_within 0 most_seed one) (number_within 1 most_lines three)

  generate_none_by_three : is_argument three ≡ false → generate_form one two three ≡ None
  unfolding generate_form
  generate_none_by_three told =
      ap (λ l. generated (number_within 0 most_seed one) (number_within 1 most_clients two) l) (not_within 1 most_lines three told)
      ∙ lacks_lines (number_within 0 most_seed one) (number_within 1 most_clients two)

  path_none_by_one : is_argument one ≡ false → path_form one two three ≡ None
  unfolding path_form
  path_none_by_one told = rw (no_numeral one told) refl

  path_none_by_two : is_argument two ≡ false → path_form one two three ≡ None
  unfolding path_form
  path_none_by_two told =
      ap (λ f. pathed (numeral_of one) f (is_name three) (record { version = 0; from = two; to = three })) (never_name two told)
      ∙ lacks_from (numeral_of one) (is_name three) (record { version = 0; from = two; to = three })

  path_none_by_three : is_argument three ≡ false → path_form one two three ≡ None
  unfolding path_form
  path_none_by_three told =
      ap (λ t. pathed (numeral_of one) (is_name two) t (record { version = 0; from = two; to = three })) (never_name three told)
      ∙ lacks_to (numeral_of one) (is_name two) (record { version = 0; from = two; to = three })

  -- where neither words behind `generate` nor words behind `flow` and `enter` are there
  none_by_form : (name : List ℕ) → generate_form one two three ≡ None → path_form one two three ≡ None → four_form name one two three ≡ None
  unfolding four_form
  none_by_form name generates paths = by_tests (bytes_eq name (codes "generate")) (bytes_eq name (codes "flow")) (bytes_eq name (codes "enter"))
    where
      by_tests : (first second third : Bool) → (if first then generate_form one two three
          else if second then option_map command.Flow (path_form one two three)
          else if third then option_map command.Enter (path_form one two three) else None) ≡ None
      by_tests true second third = generates
      by_tests false true third = rw paths refl
      by_tests false false true = rw paths refl
      by_tests false false false = refl

  none_by_name : (name : List ℕ) → is_argument name ≡ false → four_form name one two three ≡ None
  unfolding four_form
  none_by_name name told =
      rw (never_named name (codes "generate") told generate_is, never_named name (codes "flow") told flow_is, never_named name (codes "enter") told enter_is) refl

  -- one of the four is no argument
  no_four : (name : List ℕ) (n s c l : Bool) → is_argument name ≡ n → is_argument one ≡ s → is_argument two ≡ c → is_argument three ≡ l
      → (n && (s && (c && (l && true)))) ≡ false → four_form name one two three ≡ None
  no_four name false s c l is_n is_s is_c is_l told = none_by_name name is_n
  no_four name true false c l is_n is_s is_c is_l told = none_by_form name (generate_none_by_one is_s) (path_none_by_one is_s)
  no_four name true true false l is_n is_s is_c is_l told = none_by_form name (generate_none_by_two is_c) (path_none_by_two is_c)
  no_four name true true true false is_n is_s is_c is_l told = none_by_form name (generate_none_by_three is_l) (path_none_by_three is_l)
  no_four name true true true true is_n is_s is_c is_l told = absurd (true≢false told)

and_true : (a : Bool) → (a && true) ≡ false → a ≡ false
and_true true told = told
and_true false told = refl

pub no_command : (words : List (List ℕ)) → list_all is_argument words ≡ false → command_of words ≡ None
unfolding command_of
no_command [] told = refl
no_command (name ∷ []) told = no_one name (and_true (is_argument name) told)
no_command (name ∷ one ∷ []) told = no_two name one _ _ refl refl told
no_command (name ∷ one ∷ two ∷ []) told = refl
no_command (name ∷ one ∷ two ∷ three ∷ []) told = no_four one two three name _ _ _ _ refl refl refl refl told
no_command (name ∷ one ∷ two ∷ three ∷ more ∷ rest) told = refl

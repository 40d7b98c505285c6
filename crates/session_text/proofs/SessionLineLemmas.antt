-- A session line is told from another one by its first byte.
use Rattle.std.proofs.Common.{◌≡◌, ◌<◌, ℕ, Bool, true, false, not, eqb, List, [], ◌∷◌, length, slice_index_or, nat_eq, refl, ap, arith, codes}
use Rattle.std.specs.Prelude.{IsTrue}
use Rattle.std.specs.Char.{is_ascii_lowercase}
use Rattle.std.proofs.lemmas.Bool.{not-true}
use Rattle.std.specs.List.{filter, onto_first, slice_split}
use Rattle.std.specs.Str.{bytes_eq}
use Rattle.std.proofs.lemmas.List.Splits.{slice_split-cons_no}
use Rattle.std.proofs.lemmas.Bool.Decides.{nat_tests}
use Rattle.text_lines.specs.Lines.{is_filled, is_gap, is_word_byte, words_of}
use Rattle.session_text.specs.Reading.{is_session_line}

-- a line that begins with a byte of a word, but not with that of `session`, is none
begins_apart : (b : ℕ) (bs : List ℕ) → is_word_byte b ≡ true → eqb b 115 ≡ false → is_session_line (b ∷ bs) ≡ false
unfolding is_session_line words_of
begins_apart b bs word apart = rw (slice_split-cons_no is_gap b bs (ap not word)) (onto (slice_split is_gap bs))
  where
    begins : List (List ℕ) → Bool
    begins [] = false
    begins (first ∷ words) = bytes_eq first (codes "session")

    onto : (parts : List (List ℕ)) → begins (filter is_filled (onto_first b parts)) ≡ false
    onto [] = rw apart refl
    onto (part ∷ parts) = rw apart refl

-- the same of a small letter, where it is read by place
pub letter_apart : (bytes : List ℕ) → 0 < length bytes → is_ascii_lowercase (slice_index_or bytes 0 0) ≡ true → IsTrue (not (nat_eq (slice_index_or bytes 0 0) 115)) → is_session_line bytes ≡ false
letter_apart [] some small apart = absurd (omega (arith, some))
letter_apart (b ∷ bs) some small apart = begins_apart b bs small_is_word (not-true (eqb b 115) apart)
  where
    small_is_word : is_word_byte b ≡ true
    small_is_word = grind (arith, nat_tests, small)

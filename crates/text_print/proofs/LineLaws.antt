-- The lines of a text that was printed are the lines that it was printed of.
use Rattle.std.proofs.Common.{◌≡◌, ◌∙◌, ℕ, true, false, List, [], ◌∷◌, ◌++◌, map, refl, ap, append_assoc}
use Rattle.std.specs.List.{All, list_all, slice_split}
use Rattle.std.proofs.lemmas.Bool.{and_parts, ne_eqb}
use Rattle.std.proofs.lemmas.List.Splits.{slice_split_at}
use Rattle.text_lines.specs.Lines.{may_stand, is_line_end, lines_below, lines_of}
use Rattle.text_lines.proofs.LineLemmas.{line_cut}
use Rattle.text_print.specs.Printed.{is_word, spaced, ended, text_of}
use Rattle.text_print.proofs.WordLaws.{none_pass, spaced_stand}

-- a byte that may stand in a line does not end it
stays_inside : (b : ℕ) → may_stand b ≡ true → is_line_end b ≡ false
stays_inside b h = ne_eqb b 10 (λ end. let never = rw end at h in cc)

-- a line above a text
pub line_above_text : (words : List (List ℕ)) (rest : List ℕ) → list_all is_word words ≡ true → lines_of (ended words ++ rest) ≡ spaced words ∷ lines_of rest
line_above_text words rest all =
    let inside : All (λ b. is_line_end b ≡ false) (spaced words) = none_pass may_stand is_line_end stays_inside (spaced words) (spaced_stand words all) in
    let parts : slice_split is_line_end (spaced words ++ 10 ∷ rest) ≡ spaced words ∷ slice_split is_line_end rest = slice_split_at is_line_end (spaced words) 10 rest inside refl in
    ap lines_of (append_assoc (spaced words) (10 ∷ []) rest) ∙ line_cut (spaced words ++ 10 ∷ rest) (spaced words) rest parts

-- the lines of a printed text
pub lines_of_text : (lines : List (List (List ℕ))) → list_all (list_all is_word) lines ≡ true → lines_of (text_of lines) ≡ map spaced lines
unfolding lines_of lines_below
lines_of_text [] all = refl
lines_of_text (words ∷ lines) all =
    let parts = and_parts (list_all is_word words) (list_all (list_all is_word) lines) all in
    line_above_text words (text_of lines) parts.0 ∙ ap (λ below. spaced words ∷ below) (lines_of_text lines parts.1)

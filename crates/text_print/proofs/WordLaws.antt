-- The words of a line that was printed are the words that it was printed of.
use Rattle.std.proofs.Common.{◌≡◌, ◌≤◌, ◌∙◌, ℕ, Bool, true, false, not, ltb, List, [], ◌∷◌, ◌++◌, Ok, refl, ap}
use Rattle.std.specs.Prelude.{◌||◌, ◌==◌}
use Rattle.std.specs.List.{All, list_all, flat_map, slice_split}
use Rattle.std.proofs.lemmas.Bool.{and_parts, and_from, le-ltb}
use Rattle.std.proofs.lemmas.List.{append-nil}
use Rattle.std.proofs.lemmas.List.Elements.{All-nil, All-cons}
use Rattle.std.proofs.lemmas.List.Folds.{list_all-append}
use Rattle.std.proofs.lemmas.List.Splits.{slice_split_none, slice_split_at}
use Rattle.text_lines.specs.Lines.{is_word_byte, is_gap, may_stand, is_filled, is_comment, words_of, said_words, line_limit, line_words}
use Rattle.text_print.specs.Printed.{is_word, behind, spaced}

-- what each byte of one kind is not
pub none_pass : (p q : ℕ → Bool) → ((b : ℕ) → p b ≡ true → q b ≡ false) → (bytes : List ℕ) → list_all p bytes ≡ true → All (λ b. q b ≡ false) bytes
none_pass p q apart [] all = All-nil (λ b. q b ≡ false)
none_pass p q apart (b ∷ bytes) all =
    let parts = and_parts (p b) (list_all p bytes) all in
    All-cons (λ b. q b ≡ false) b bytes (apart b parts.0) (none_pass p q apart bytes parts.1)

-- what each byte of one kind is
pub all_pass : (p q : ℕ → Bool) → ((b : ℕ) → p b ≡ true → q b ≡ true) → (bytes : List ℕ) → list_all p bytes ≡ true → list_all q bytes ≡ true
all_pass p q more [] all = refl
all_pass p q more (b ∷ bytes) all =
    let parts = and_parts (p b) (list_all p bytes) all in
    and_from (q b) (list_all q bytes) (more b parts.0) (all_pass p q more bytes parts.1)

-- no byte of a word is a gap
no_gaps : (word : List ℕ) → is_word word ≡ true → All (λ b. is_gap b ≡ false) word
no_gaps word h =
    none_pass is_word_byte is_gap (λ b within. ap not within) word (and_parts (is_filled word) (list_all is_word_byte word) h).1

-- a word in front of other words
in_front : (word : List ℕ) (rest : List ℕ) (words : List (List ℕ)) → is_word word ≡ true → words_of rest ≡ words → words_of (word ++ 32 ∷ rest) ≡ word ∷ words
unfolding words_of
in_front word rest words h others =
    let some : is_filled word ≡ true = (and_parts (is_filled word) (list_all is_word_byte word) h).0 in
    let parts : slice_split is_gap (word ++ 32 ∷ rest) ≡ word ∷ slice_split is_gap rest = slice_split_at is_gap word 32 rest (no_gaps word h) refl in
    rw (parts, some, others) refl

-- a word alone
alone : (word : List ℕ) → is_word word ≡ true → words_of word ≡ word ∷ []
unfolding words_of
alone word h =
    let some : is_filled word ≡ true = (and_parts (is_filled word) (list_all is_word_byte word) h).0 in
    let part : slice_split is_gap word ≡ word ∷ [] = slice_split_none is_gap word (no_gaps word h) in
    rw (part, some) refl

-- the words of words with spaces between them are those words
pub words_of_spaced : (words : List (List ℕ)) → list_all is_word words ≡ true → words_of (spaced words) ≡ words
unfolding words_of
words_of_spaced [] all = refl
words_of_spaced (word ∷ []) all =
    let first = (and_parts (is_word word) true all).0 in
    rw (append-nil word) (alone word first)
words_of_spaced (word ∷ next ∷ words) all =
    let parts = and_parts (is_word word) (list_all is_word (next ∷ words)) all in
    in_front word (spaced (next ∷ words)) (next ∷ words) parts.0 (words_of_spaced (next ∷ words) parts.1)

-- a byte of a word may stand in a line
stands : (b : ℕ) → is_word_byte b ≡ true → may_stand b ≡ true
stands b h = ap (λ t. t || b == 32 || b == 9) h

-- each byte of a word may stand in a line
pub word_stands : (word : List ℕ) → is_word word ≡ true → list_all may_stand word ≡ true
word_stands word h = all_pass is_word_byte may_stand stands word (and_parts (is_filled word) (list_all is_word_byte word) h).1

-- each byte of words behind spaces may stand in a line
behind_stand : (words : List (List ℕ)) → list_all is_word words ≡ true → list_all may_stand (flat_map behind words) ≡ true
behind_stand [] all = refl
behind_stand (word ∷ words) all =
    let parts = and_parts (is_word word) (list_all is_word words) all in
    list_all-append may_stand word (flat_map behind words)
    ∙ and_from (list_all may_stand word) (list_all may_stand (flat_map behind words)) (word_stands word parts.0) (behind_stand words parts.1)

-- each byte of words with spaces between them may stand in a line
pub spaced_stand : (words : List (List ℕ)) → list_all is_word words ≡ true → list_all may_stand (spaced words) ≡ true
spaced_stand [] all = refl
spaced_stand (word ∷ words) all =
    let parts = and_parts (is_word word) (list_all is_word words) all in
    list_all-append may_stand word (flat_map behind words)
    ∙ and_from (list_all may_stand word) (list_all may_stand (flat_map behind words)) (word_stands word parts.0) (behind_stand words parts.1)

-- a line of words, of which the first begins no comment, says its words
pub line_words_spaced : (n : ℕ) (first : List ℕ) (words : List (List ℕ)) → n ≤ line_limit → list_all is_word (first ∷ words) ≡ true → is_comment first ≡ false → line_words n (spaced (first ∷ words)) ≡ Ok (first ∷ words)
unfolding line_words said_words
line_words_spaced n first words counted all plain =
    let within : ltb line_limit n ≡ false = le-ltb line_limit n counted in
    rw (within, spaced_stand (first ∷ words) all, words_of_spaced (first ∷ words) all, plain) refl

-- Printed texts: a text is a list of lines, and a line is a list of words.
use Rattle.std.specs.Prelude.{ℕ, ◌-◌, Bool, ◌&&◌, List, [], ◌∷◌, ◌++◌, slice_index_or}
use Rattle.std.specs.List.{list_all, flat_map}
use Rattle.flask_sid.specs.declared.context.ContextOf.{ContextOf}
use Rattle.text_lines.specs.Lines.{is_word_byte, is_filled}

-- a word: one or more bytes that words are made of
abbrev pub is_word : List ℕ → Bool
is_word word = is_filled word && list_all is_word_byte word

-- a word behind a space
abbrev pub behind : List ℕ → List ℕ
behind word = 32 ∷ word

-- words with one space between them
abbrev pub spaced : List (List ℕ) → List ℕ
spaced [] = []
spaced (word ∷ words) = word ++ flat_map behind words

-- a line of words, with its end
abbrev pub ended : List (List ℕ) → List ℕ
ended words = spaced words ++ 10 ∷ []

-- the text of lines of words
abbrev pub text_of : List (List (List ℕ)) → List ℕ
text_of lines = flat_map ended lines

-- the context of an identifier, by its place from 1; a number that is none has empty names
abbrev pub context_with : List (ContextOf (List ℕ)) → ℕ → ContextOf (List ℕ)
context_with contexts sid = slice_index_or contexts (sid - 1) (record { user = []; role = []; kind = [] })

-- Lines and words, as every text of this repository has them.
use Rattle.std.specs.Prelude.{◌≡◌, IsTrue, ℕ, Bool, true, false, ◌&&◌, ◌||◌, not, ◌==◌, nat_le, nat_lt, List, [], ◌∷◌, Result, Ok, Err, if◌then◌else◌}
use Rattle.std.specs.List.{list_all, filter, slice_split}
use Rattle.text_lines.specs.declared.fault.FaultKind.{FaultKind}
use Rattle.text_lines.specs.declared.fault.FaultKind.TheVariants.{Syntax, Limit}

-- a byte that words are made of
abbrev pub is_word_byte : ℕ → Bool
is_word_byte b = nat_le 33 b && nat_le b 126

-- a byte that divides words
abbrev pub is_gap : ℕ → Bool
is_gap b = not (is_word_byte b)

-- bytes that begin with a byte of a word
abbrev pub begins_word : List ℕ → Bool
begins_word [] = false
begins_word (b ∷ bs) = is_word_byte b

-- a byte that may stand in a line: one of a word, a space or a tab
abbrev pub may_stand : ℕ → Bool
may_stand b = is_word_byte b || b == 32 || b == 9

-- the byte that ends a line
abbrev pub is_line_end : ℕ → Bool
is_line_end b = b == 10

-- a byte that may stand in a text: one of a line, or one that ends a line
abbrev pub is_text_byte : ℕ → Bool
is_text_byte b = may_stand b || is_line_end b

-- where this is true, each byte of a line may stand in it
abbrev pub MayStand : Bool → List ℕ → Type 0
MayStand tested line = IsTrue tested → list_all may_stand line ≡ true

-- where this is true, each byte of each line may stand in it
abbrev pub MayAllStand : Bool → List (List ℕ) → Type 0
MayAllStand tested lines = IsTrue tested → list_all (list_all may_stand) lines ≡ true

-- the lines, whose last is none where no byte follows the last line end
unfoldable pub lines_below : List (List ℕ) → List (List ℕ)
lines_below [] = []
lines_below (line ∷ rest) = onto_lines line rest (lines_below rest)
  where
    onto_lines : List ℕ → List (List ℕ) → List (List ℕ) → List (List ℕ)
    onto_lines [] [] lines = []
    onto_lines line rest lines = line ∷ lines

-- the lines of a text, each without the byte 10 that ends it
unfoldable pub lines_of : List ℕ → List (List ℕ)
lines_of bytes = lines_below (slice_split is_line_end bytes)

-- a list with a member
abbrev pub is_filled : List ℕ → Bool
is_filled [] = false
is_filled (b ∷ bs) = true

-- the words of a line: the longest runs of bytes of words
unfoldable pub words_of : List ℕ → List (List ℕ)
words_of line = filter is_filled (slice_split is_gap line)

-- a word that begins a comment
abbrev pub is_comment : List ℕ → Bool
is_comment [] = false
is_comment (b ∷ bs) = b == 35

-- the words of a line that says something, and none where it is blank or a comment
unfoldable pub said_words : List (List ℕ) → List (List ℕ)
said_words [] = []
said_words (first ∷ words) = if is_comment first then [] else first ∷ words

-- the greatest number that a line may have
abbrev pub line_limit : ℕ
line_limit = 100000

-- what line number n says, or the fault that any text would find in it
unfoldable pub line_words : ℕ → List ℕ → Result (List (List ℕ)) FaultKind
line_words n line =
    if nat_lt line_limit n then Err Limit
    else if not (list_all may_stand line) then Err Syntax
    else Ok (said_words (words_of line))

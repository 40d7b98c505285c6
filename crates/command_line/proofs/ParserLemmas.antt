-- What the parser makes of one word that begins with no `-`, and of up to four of them.
use Rattle.std.proofs.Common.{◌≡◌, ◌∙◌, ℕ, false, cond, refl, ap, ap₂, List, [], ◌∷◌, Some, None, codes}
use Rattle.std.specs.Option.{option_map_or}
use Rattle.std.specs.Str.{bytes_eq}
use Rattle.clap.specs.Lexer.{long_of, short_of, strip_byte}
use Rattle.clap.specs.Walk.{Held, Row, Rule, Walk, arg_by_index, idle, long_or_other, nothing_held, short_or_plain, to_positional, trailing, value, walk, walked, word_met, after_step}
use Rattle.clap.specs.Simple.{Shape, built}
use Rattle.clap.specs.Faults.{bundle_fault, flag_word_fault, step_fault, turn_fault, word_fault}
use Rattle.clap.specs.Kinds.{or_else}
use Rattle.clap.specs.Values.{reading_of}
use Rattle.clap.specs.declared.builder.value_parser.ValueParser.TheVariants as vp
use Rattle.clap.specs.declared.parser.matches.ValueSource.TheVariants.{CommandLine}
use Rattle.command_line.specs.Arguments.{begins_with_dash}
use Rattle.command_line.specs.Parser.{program}

-- the built command
abbrev pub shape : Shape
shape = (built program).top

-- a walk that has come to a place, where no word waits for another
abbrev pub at : Held → ℕ → Walk
at held place = record { held = held; waiting = idle; position = place; is_trailing = false; stopped = None }

module _ (word : List ℕ) (plain : begins_with_dash word ≡ false) where
  no_strip : strip_byte 45 word ≡ None
  no_strip = by_cases word plain
    where
      by_cases : (w : List ℕ) → begins_with_dash w ≡ false → strip_byte 45 w ≡ None
      by_cases [] p = refl
      by_cases (b ∷ bs) p = ap (λ t. cond t (Some bs) None) p

  no_dashes : bytes_eq word (45 ∷ 45 ∷ []) ≡ false
  no_dashes = by_cases word plain
    where
      by_cases : (w : List ℕ) → begins_with_dash w ≡ false → bytes_eq w (45 ∷ 45 ∷ []) ≡ false
      by_cases [] p = refl
      by_cases (b ∷ bs) p = rw p refl

  no_long : long_of word ≡ None
  no_long = rw no_strip refl

  no_short : short_of word ≡ None
  no_short = rw no_strip refl

  pub word_is_value : (rules : List Rule) (place : ℕ) (held : Held) → word_met rules [] false idle place word held ≡ (held, value)
  word_is_value rules place held =
      ap (λ t. cond t (held, trailing place) (long_or_other rules idle word (long_of word) held)) no_dashes
      ∙ ap (λ o. long_or_other rules idle word o held) no_long
      ∙ ap (λ o. short_or_plain rules idle word o held) no_short

  pub word_walked : (rules : List Rule) (place : ℕ) (held : Held)
      → walked rules [] (at held place) word ≡ to_positional rules (arg_by_index rules place) word (at held place) held
  unfolding walked
  word_walked rules place held = ap (λ met. after_step rules word (at held place) met.0 met.1) (word_is_value rules place held)

  word_has_no_fault : (s : Shape) (held : Held) → word_fault s [] false idle word held ≡ []
  word_has_no_fault s held =
      ap (λ t. cond t [] (flag_word_fault s.rules s.args_override_self (long_of word) word held)) no_dashes
      ∙ ap (λ o. flag_word_fault s.rules s.args_override_self o word held) no_long
      ∙ ap (λ o. option_map_or (λ flags. bundle_fault s.rules s.args_override_self flags held) o []) no_short

  pub word_turn : (s : Shape) (place : ℕ) (held : Held) → turn_fault s [] (at held place) word ≡ step_fault s place held value
  word_turn s place held =
      ap₂ (λ kinds met. or_else kinds (step_fault s place met.0 met.1)) (word_has_no_fault s held) (word_is_value s.rules place held)

-- a positional that has its word, and what is held while it is the last one
abbrev row : List ℕ → List ℕ → Row
row id word = record { id = id; values = word ∷ []; count = None; source = Some CommandLine; reading = reading_of vp.String }

abbrev holding : List Row → List ℕ → List ℕ → Held
holding rows id word = record { rows = rows; pending = Some (id, word ∷ []); skip = 0 }

-- what is held after so many words
abbrev pub first : List ℕ → Held
first name = holding [] (codes "command") name

abbrev pub second : (name one : List ℕ) → Held
second name one = holding (row (codes "command") name ∷ []) (codes "one") one

abbrev pub third : (name one two : List ℕ) → Held
third name one two = holding (row (codes "command") name ∷ row (codes "one") one ∷ []) (codes "two") two

abbrev pub fourth : (name one two three : List ℕ) → Held
fourth name one two three =
    holding (row (codes "command") name ∷ row (codes "one") one ∷ row (codes "two") two ∷ []) (codes "three") three

-- each word goes to the next place
pub walked_first : (name : List ℕ) → begins_with_dash name ≡ false → walked shape.rules [] (at nothing_held 1) name ≡ at (first name) 2
walked_first name plain = word_walked name plain shape.rules 1 nothing_held

pub walked_second : (name one : List ℕ) → begins_with_dash one ≡ false
    → walked shape.rules [] (at (first name) 2) one ≡ at (second name one) 3
walked_second name one plain = word_walked one plain shape.rules 2 (first name)

pub walked_third : (name one two : List ℕ) → begins_with_dash two ≡ false
    → walked shape.rules [] (at (second name one) 3) two ≡ at (third name one two) 4
walked_third name one two plain = word_walked two plain shape.rules 3 (second name one)

pub walked_fourth : (name one two three : List ℕ) → begins_with_dash three ≡ false
    → walked shape.rules [] (at (third name one two) 4) three ≡ at (fourth name one two three) 5
walked_fourth name one two three plain = word_walked three plain shape.rules 4 (third name one two)

-- the walk over up to four words
pub walk_one : (name : List ℕ) → begins_with_dash name ≡ false → walk shape.rules [] nothing_held (name ∷ []) ≡ at (first name) 2
walk_one name n = walked_first name n

pub walk_two : (name one : List ℕ) → begins_with_dash name ≡ false → begins_with_dash one ≡ false
    → walk shape.rules [] nothing_held (name ∷ one ∷ []) ≡ at (second name one) 3
walk_two name one n s = ap (λ w. walked shape.rules [] w one) (walk_one name n) ∙ walked_second name one s

pub walk_three : (name one two : List ℕ) → begins_with_dash name ≡ false → begins_with_dash one ≡ false → begins_with_dash two ≡ false
    → walk shape.rules [] nothing_held (name ∷ one ∷ two ∷ []) ≡ at (third name one two) 4
walk_three name one two n s c = ap (λ w. walked shape.rules [] w two) (walk_two name one n s) ∙ walked_third name one two c

pub walk_four : (name one two three : List ℕ) → begins_with_dash name ≡ false → begins_with_dash one ≡ false → begins_with_dash two ≡ false
    → begins_with_dash three ≡ false → walk shape.rules [] nothing_held (name ∷ one ∷ two ∷ three ∷ []) ≡ at (fourth name one two three) 5
walk_four name one two three n s c l =
    ap (λ w. walked shape.rules [] w three) (walk_three name one two n s c) ∙ walked_fourth name one two three l

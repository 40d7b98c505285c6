-- The words of a line are words.
use Rattle.std.proofs.Common.{◌≡◌, ℕ, Bool, true, false, cond, List, [], ◌∷◌, Ok, Err, Result, refl}
use Rattle.std.specs.Prelude.{if◌then◌else◌, ◌&&◌, not, nat_lt}
use Rattle.std.specs.List.{list_all, filter, slice_split, onto_first}
use Rattle.std.proofs.lemmas.Bool.{and_from}
use Rattle.text_lines.specs.Lines.{is_word_byte, is_filled, is_comment, is_gap, may_stand, line_limit, line_words, said_words, words_of}
use Rattle.text_lines.specs.declared.fault.FaultKind.{FaultKind}
use Rattle.text_lines.specs.declared.fault.FaultKind.TheVariants.{Syntax, Limit}
use Rattle.session_forms.specs.ArgumentForms.{is_word}

-- each of these is a word
abbrev pub AreWords : List (List ℕ) → Type 0
AreWords words = list_all is_word words ≡ true

-- both of two
pub both : (a b : Bool) → (a && b) ≡ true → (a ≡ true) × (b ≡ true)
both true b is = (refl, is)
both false b is = cc

-- each of these has no gap
abbrev HaveNoGap : List (List ℕ) → Type 0
HaveNoGap parts = list_all (list_all is_word_byte) parts ≡ true

-- one byte of a word more in the first part
onto_words : (b : ℕ) (parts : List (List ℕ)) → is_word_byte b ≡ true → HaveNoGap parts → HaveNoGap (onto_first b parts)
onto_words b [] is all = rw is refl
onto_words b (part ∷ parts) is all = rw is all

-- what is cut at each gap has none
cut_words : (line : List ℕ) → HaveNoGap (slice_split is_gap line)
cut_words [] = refl
cut_words (b ∷ bs) =
    elim (is_word_byte b) as (λ (in_word : Bool). is_word_byte b ≡ in_word → HaveNoGap (cond (not in_word) ([] ∷ slice_split is_gap bs) (onto_first b (slice_split is_gap bs)))) [
      | true ↦ λ is. onto_words b (slice_split is_gap bs) is (cut_words bs)
      | false ↦ λ gap. cut_words bs
    ] refl

-- parts with bytes and without a gap are words
filter_words : (parts : List (List ℕ)) → HaveNoGap parts → AreWords (filter is_filled parts)
filter_words [] all = refl
filter_words ([] ∷ parts) all = filter_words parts all
filter_words ((b ∷ bs) ∷ parts) all =
    let apart = both (list_all is_word_byte (b ∷ bs)) (list_all (list_all is_word_byte) parts) all in
    and_from (list_all is_word_byte (b ∷ bs)) (list_all is_word (filter is_filled parts)) apart.0 (filter_words parts apart.1)

-- what a line says are words
said_are_words : (words : List (List ℕ)) → AreWords words → AreWords (said_words words)
unfolding said_words
said_are_words [] are = refl
said_are_words (first ∷ words) are =
    elim (is_comment first) as (λ (b : Bool). AreWords (if b then [] else first ∷ words)) [
      | true ↦ refl
      | false ↦ are
    ]

words_are_words : (line : List ℕ) → AreWords (said_words (words_of line))
unfolding words_of
words_are_words line = said_are_words (filter is_filled (slice_split is_gap line)) (filter_words (slice_split is_gap line) (cut_words line))

-- words without fault, and the same ones
abbrev no_fault : List (List ℕ) → Result (List (List ℕ)) FaultKind
no_fault words = Ok words

same_are_words : (words others : List (List ℕ)) → no_fault words ≡ Ok others → AreWords words → AreWords others
same_are_words words others same are = let is : words ≡ others = cc in rw (← is) are

-- the words of a line without fault
pub line_are_words : (n : ℕ) (line : List ℕ) (words : List (List ℕ)) → line_words n line ≡ Ok words → AreWords words
unfolding line_words
line_are_words n line words is =
    elim (nat_lt line_limit n) as (λ (b : Bool). (if b then Err Limit else if not (list_all may_stand line) then Err Syntax else Ok (said_words (words_of line))) ≡ Ok words → AreWords words) [
      | true ↦ λ none. cc
      | false ↦ elim (list_all may_stand line) as (λ (b : Bool). (if not b then Err Syntax else Ok (said_words (words_of line))) ≡ Ok words → AreWords words) [
        | true ↦ λ same. same_are_words (said_words (words_of line)) words same (words_are_words line)
        | false ↦ λ none. cc
      ]
    ] is

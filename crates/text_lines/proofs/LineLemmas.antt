-- Cutting a text into lines, and a line into words, from the front.
use Rattle.std.proofs.Common.{◌≡◌, ◌≢◌, ◌∙◌, ◌<◌, ◌≤◌, ◌+◌, ◌||◌, ℕ, zero, suc, true, false, not, cond, eqb, ltb, List, ◌∷◌, [], length, get_or, take, drop, min, refl, ap, sym, arith, Bool, Option, Some, None}
use Rattle.std.specs.List.{All, filter, list_all, onto_first, position, position_or_len, slice_split}
use Rattle.std.proofs.Math.Seq.{take-length, drop-length}
use Rattle.std.proofs.lemmas.List.Splits.{slice_split-cons_yes, slice_split-cons_no, slice_split_first, length-slice_split}
use Rattle.std.proofs.lemmas.List.Elements.{All-nil, All-cons, All-head, All-tail, All-weaker, All-filter}
use Rattle.std.proofs.lemmas.Bool.Decides.{nat_tests}
use Rattle.std.proofs.lemmas.List.Sums.{position_or_len_is, prefix_len-le-length}
use Rattle.std.proofs.lemmas.Bool.{and_parts, false_from_ne_true}
use Rattle.memchr.specs.Find.{IsFirstByte}
use Rattle.flask_sid.proofs.Cuts.{uncut}
use Rattle.text_lines.specs.Lines.{is_word_byte, is_gap, begins_word, is_filled, words_of, said_words, lines_below, lines_of, is_line_end, is_text_byte, may_stand, MayStand, MayAllStand}

-- a byte that divides words says nothing
pub words_of_gap : (b : ℕ) (bs : List ℕ) → is_word_byte b ≡ false → words_of (b ∷ bs) ≡ words_of bs
unfolding words_of
words_of_gap b bs gap = rw (slice_split-cons_yes is_gap b bs (ap not gap)) refl

-- the same, where the bytes are read by place
pub words_behind_gap : (bytes : List ℕ) (b : ℕ) → eqb (length bytes) 0 ≡ false → get_or bytes 0 0 ≡ b → is_word_byte b ≡ false → words_of (drop 1 bytes) ≡ words_of bytes
words_behind_gap [] b some read gap = cc
words_behind_gap (first ∷ rest) b some read gap = sym (words_of_gap first rest (rw read gap))

-- bytes that begin with a byte of a word, read by place
pub begins_at : (bytes : List ℕ) (b : ℕ) → eqb (length bytes) 0 ≡ false → get_or bytes 0 0 ≡ b → is_word_byte b ≡ true → begins_word bytes ≡ true
begins_at [] b some read word = cc
begins_at (first ∷ rest) b some read word = rw read word

-- bytes at whose front no gap is left, told by their first byte
pub none_begins : (bytes : List ℕ) → eqb (length bytes) 0 ≡ true → begins_word bytes ≡ is_filled bytes
none_begins [] none = refl
none_begins (b ∷ bs) none = absurd (grind (arith, nat_tests, none))

pub word_begins : (bytes : List ℕ) → eqb (length bytes) 0 ≡ false → is_word_byte (get_or bytes 0 0) ≡ true → begins_word bytes ≡ is_filled bytes
word_begins [] some word = cc
word_begins (b ∷ bs) some word = word

-- where bytes begin with a word, their first byte is no gap
pub begins_filled : (bytes : List ℕ) (k : ℕ) → begins_word bytes ≡ true → k < 1 → is_gap (get_or bytes k 0) ≡ false
begins_filled [] k begins first = cc
begins_filled (b ∷ bs) zero begins first = ap not begins
begins_filled (b ∷ bs) (suc k) begins first = absurd (omega (arith, first))

-- a word has a byte
pub begins_some : (bytes : List ℕ) → begins_word bytes ≡ true → 1 ≤ length bytes
begins_some [] begins = cc
begins_some (b ∷ bs) begins = omega arith

-- what words from a byte of a word on say is told by that byte
pub said_from : (b : ℕ) (bs : List ℕ) → is_word_byte b ≡ true → said_words (words_of (b ∷ bs)) ≡ cond (eqb b 35) [] (words_of (b ∷ bs))
unfolding words_of said_words
said_from b bs word = rw (slice_split-cons_no is_gap b bs (ap not word)) (said_onto b (slice_split is_gap bs))
  where
    said_onto : (b : ℕ) (parts : List (List ℕ)) → said_words (filter is_filled (onto_first b parts)) ≡ cond (eqb b 35) [] (filter is_filled (onto_first b parts))
    said_onto b [] = refl
    said_onto b (part ∷ parts) = refl

-- the same, where the byte is read by place
pub said_comment : (bytes : List ℕ) → begins_word bytes ≡ is_filled bytes → 0 < length bytes → get_or bytes 0 0 ≡ 35 → said_words (words_of bytes) ≡ []
said_comment [] begins some is = absurd (omega (arith, some))
said_comment (b ∷ bs) begins some is = said_from b bs begins ∙ rw is refl

pub said_other : (bytes : List ℕ) → begins_word bytes ≡ is_filled bytes → 0 < length bytes → get_or bytes 0 0 ≢ 35 → said_words (words_of bytes) ≡ words_of bytes
said_other [] begins some apart = absurd (omega (arith, some))
said_other (b ∷ bs) begins some apart =
    let no : eqb b 35 ≡ false = grind (arith, nat_tests, apart) in
    said_from b bs begins ∙ rw no refl

pub said_none : (bytes : List ℕ) → length bytes ≤ 0 → said_words (words_of bytes) ≡ []
unfolding words_of said_words
said_none [] none = refl
said_none (b ∷ bs) none = absurd (omega (arith, none))

-- no bytes have no word
pub no_word : (bytes : List ℕ) → eqb (length bytes) 0 ≡ true → words_of bytes ≡ []
unfolding words_of
no_word [] none = refl
no_word (b ∷ bs) none = absurd (grind (arith, nat_tests, none))

-- bytes up to the first gap, where they begin with a word
filled : (bytes : List ℕ) → begins_word bytes ≡ true → is_filled (take (position_or_len is_gap bytes) bytes) ≡ true
filled [] begins = begins
filled (b ∷ bs) begins =
    let some : 0 < position_or_len is_gap (b ∷ bs) = rw begins (omega arith) in
    some_front (position_or_len is_gap (b ∷ bs)) some
  where
    some_front : (n : ℕ) → 0 < n → is_filled (take n (b ∷ bs)) ≡ true
    some_front zero some = absurd (omega (arith, some))
    some_front (suc n) some = refl

-- the one word of bytes with no gap
whole_word : (bytes : List ℕ) → begins_word bytes ≡ true → position_or_len is_gap bytes ≡ length bytes → words_of bytes ≡ bytes ∷ words_of []
unfolding words_of
whole_word [] begins whole = cc
whole_word (b ∷ bs) begins whole = rw (uncut is_gap (b ∷ bs) (none_at whole)) refl
  where
    none_at : position_or_len is_gap (b ∷ bs) ≡ length (b ∷ bs) → position is_gap (b ∷ bs) ≡ None
    none_at whole =
        elim (ltb (position_or_len is_gap (b ∷ bs)) (length (b ∷ bs))) as (λ v. ltb (position_or_len is_gap (b ∷ bs)) (length (b ∷ bs)) ≡ v → cond v (Some (position_or_len is_gap (b ∷ bs))) None ≡ None) [
          | true ↦ λ low. absurd (grind (arith, nat_tests, low, whole))
          | false ↦ λ past. refl
        ] refl

-- the first word ends at the first gap
pub word_cut : (bytes : List ℕ) (i : ℕ) → begins_word bytes ≡ true → i ≡ position_or_len is_gap bytes → words_of bytes ≡ take i bytes ∷ words_of (drop (min (length bytes) (i + 1)) bytes)
unfolding words_of
word_cut bytes i begins at = by_end (ltb i (length bytes)) refl
  where
    by_end : (v : Bool) → ltb i (length bytes) ≡ v → words_of bytes ≡ take i bytes ∷ words_of (drop (min (length bytes) (i + 1)) bytes)
    by_end true low =
        let within : position_or_len is_gap bytes < length bytes = grind (arith, nat_tests, low, at) in
        let behind : min (length bytes) (i + 1) ≡ i + 1 = omega (arith, at, within) in
        rw (behind, at, slice_split_first is_gap bytes 0 within, filled bytes begins) refl
    by_end false past =
        let most : position_or_len is_gap bytes ≤ length bytes = prefix_len-le-length (λ b. not (is_gap b)) bytes in
        let whole : i ≡ length bytes = grind (arith, nat_tests, past, at, most) in
        let behind : min (length bytes) (i + 1) ≡ length bytes = omega (arith, whole) in
        rw (behind, whole, take-length bytes, drop-length bytes) (whole_word bytes begins (sym at ∙ whole))

-- a part with one byte more at its front, and the parts behind it
onto_within : (b n m : ℕ) (parts : List (List ℕ)) → n < m → All (λ (part : List ℕ). length part ≤ n) parts → All (λ (part : List ℕ). length part ≤ m) (onto_first b parts)
onto_within b n m [] low within = All-cons (λ (part : List ℕ). length part ≤ m) (b ∷ []) [] (omega (arith, low)) (All-nil (λ (part : List ℕ). length part ≤ m))
onto_within b n m (part ∷ parts) low within =
    let here : length part ≤ n = All-head (λ (one : List ℕ). length one ≤ n) part parts within in
    All-cons (λ (one : List ℕ). length one ≤ m) (b ∷ part) parts (omega (arith, here, low))
    (All-weaker (λ (one : List ℕ). length one ≤ n) (λ (one : List ℕ). length one ≤ m) (λ one h. omega (arith, h, low)) parts (All-tail (λ (one : List ℕ). length one ≤ n) part parts within))

-- no part of some bytes is longer than they are
parts_within : (bytes : List ℕ) → All (λ (part : List ℕ). length part ≤ length bytes) (slice_split is_gap bytes)
parts_within [] = All-cons (λ (part : List ℕ). length part ≤ 0) [] [] (omega arith) (All-nil (λ (part : List ℕ). length part ≤ 0))
parts_within (b ∷ bs) = by_gap (is_gap b) refl (parts_within bs)
  where
    more : (part : List ℕ) → length part ≤ length bs → length part ≤ length (b ∷ bs)
    more part h = omega (arith, h)

    by_gap : (v : Bool) → is_gap b ≡ v → All (λ (part : List ℕ). length part ≤ length bs) (slice_split is_gap bs) → All (λ (part : List ℕ). length part ≤ length (b ∷ bs)) (slice_split is_gap (b ∷ bs))
    by_gap true gap within = rw (slice_split-cons_yes is_gap b bs gap) (All-cons (λ (part : List ℕ). length part ≤ length (b ∷ bs)) [] (slice_split is_gap bs) (omega arith) (All-weaker (λ (part : List ℕ). length part ≤ length bs) (λ (part : List ℕ). length part ≤ length (b ∷ bs)) more (slice_split is_gap bs) within))
    by_gap false word within = rw (slice_split-cons_no is_gap b bs word) (onto_within b (length bs) (length (b ∷ bs)) (slice_split is_gap bs) (omega arith) within)

-- no word of some bytes is longer than they are
pub words_within : (bytes : List ℕ) (most : ℕ) → length bytes ≤ most → All (λ (word : List ℕ). length word ≤ most) (words_of bytes)
unfolding words_of
words_within bytes most short =
    All-filter is_filled (λ (word : List ℕ). length word ≤ most) (slice_split is_gap bytes)
    (All-weaker (λ (part : List ℕ). length part ≤ length bytes) (λ (part : List ℕ). length part ≤ most) (λ part h. omega (arith, h, short)) (slice_split is_gap bytes) (parts_within bytes))

-- no bytes have no line
pub no_line : (bytes : List ℕ) → eqb (length bytes) 0 ≡ true → lines_of bytes ≡ []
unfolding lines_of lines_below
no_line [] none = refl
no_line (b ∷ bs) none = absurd (grind (arith, nat_tests, none))

-- the one line of a text that has no line end
pub one_line : (bytes : List ℕ) → eqb (length bytes) 0 ≡ false → slice_split is_line_end bytes ≡ bytes ∷ [] → lines_of bytes ≡ bytes ∷ lines_of []
unfolding lines_of lines_below
one_line [] some one = cc
one_line (b ∷ bs) some one = rw one refl

-- a line above others
line_above : (line : List ℕ) (parts : List (List ℕ)) → 0 < length parts → lines_below (line ∷ parts) ≡ line ∷ lines_below parts
unfolding lines_below
line_above [] [] some = absurd (omega (arith, some))
line_above (b ∷ bs) [] some = absurd (omega (arith, some))
line_above [] (part ∷ parts) some = refl
line_above (b ∷ bs) (part ∷ parts) some = refl

-- the first line of a text that has a line end
pub line_cut : (bytes line rest : List ℕ) → slice_split is_line_end bytes ≡ line ∷ slice_split is_line_end rest → lines_of bytes ≡ line ∷ lines_of rest
unfolding lines_of
line_cut bytes line rest parts =
    rw parts (line_above line (slice_split is_line_end rest) (omega (arith, length-slice_split is_line_end rest)))

-- where all lines may stand the first one may, and those below it
pub first_stands : (tested : Bool) (line : List ℕ) (below all : List (List ℕ)) → all ≡ line ∷ below → MayAllStand tested all → MayStand tested line
first_stands tested line below all is stand test = (and_parts _ _ (rw is at (stand test))).0

pub others_stand : (tested : Bool) (line : List ℕ) (below all : List (List ℕ)) → all ≡ line ∷ below → MayAllStand tested all → MayAllStand tested below
others_stand tested line below all is stand test = (and_parts _ _ (rw is at (stand test))).1

-- the first byte that passes a test stands at its position
pub first_position : (p : ℕ → Bool) (xs : List ℕ) (r : Option ℕ) → IsFirstByte p xs r → r ≡ position p xs
first_position p xs None none =
    let at : position_or_len p xs ≡ length xs = position_or_len_is p xs (length xs) 0 (omega arith) (λ k low. false_from_ne_true _ (none k (omega arith) low)) (λ past. absurd (omega arith)) in
    grind (arith, nat_tests, at)
first_position p xs (Some i) first =
    let within : i < length xs = first.0.high in
    let at : position_or_len p xs ≡ i = position_or_len_is p xs i 0 (omega arith) (λ k low. false_from_ne_true _ (first.0.before k (omega arith) low)) (λ in_list. first.1) in
    grind (arith, nat_tests, at)

-- a part with one byte more at its front that may stand in a line, and the parts behind it
onto_stands : (b : ℕ) (parts : List (List ℕ)) → may_stand b ≡ true → list_all (list_all may_stand) parts ≡ true → list_all (list_all may_stand) (onto_first b parts) ≡ true
onto_stands b [] stands all = rw stands refl
onto_stands b (part ∷ parts) stands all = rw stands all

-- a byte of a text that ends no line may stand in one
stands_within : (b : ℕ) → is_line_end b ≡ false → is_text_byte b ≡ true → may_stand b ≡ true
stands_within b within here = or_first (may_stand b) (is_line_end b) within here
  where
    or_first : (x y : Bool) → y ≡ false → (x || y) ≡ true → x ≡ true
    or_first true y other either = refl
    or_first false y other either = sym other ∙ either

-- where each byte may stand in a text, each byte of its parts between line ends may stand in a line
parts_stand : (bytes : List ℕ) → list_all is_text_byte bytes ≡ true → list_all (list_all may_stand) (slice_split is_line_end bytes) ≡ true
parts_stand [] all = refl
parts_stand (b ∷ bs) all =
    let here = and_parts (is_text_byte b) (list_all is_text_byte bs) all in
    by_end (is_line_end b) refl here.0 (parts_stand bs here.1)
  where
    by_end : (v : Bool) → is_line_end b ≡ v → is_text_byte b ≡ true → list_all (list_all may_stand) (slice_split is_line_end bs) ≡ true → list_all (list_all may_stand) (slice_split is_line_end (b ∷ bs)) ≡ true
    by_end true ends here all = rw (slice_split-cons_yes is_line_end b bs ends) all
    by_end false within here all = rw (slice_split-cons_no is_line_end b bs within) (onto_stands b (slice_split is_line_end bs) (stands_within b within here) all)

-- the last part is no line where it is empty
lines_stand : (parts : List (List ℕ)) → list_all (list_all may_stand) parts ≡ true → list_all (list_all may_stand) (lines_below parts) ≡ true
unfolding lines_below
lines_stand [] all = refl
lines_stand ([] ∷ []) all = refl
lines_stand ([] ∷ (part ∷ parts)) all = lines_stand (part ∷ parts) all
lines_stand ((b ∷ bs) ∷ parts) all =
    let here = and_parts (list_all may_stand (b ∷ bs)) (list_all (list_all may_stand) parts) all in
    rw here.0 (lines_stand parts here.1)

-- where each byte may stand in a text, each byte of its lines may stand in a line
pub text_stands : (bytes : List ℕ) → list_all is_text_byte bytes ≡ true → list_all (list_all may_stand) (lines_of bytes) ≡ true
unfolding lines_of
text_stands bytes all = lines_stand (slice_split is_line_end bytes) (parts_stand bytes all)

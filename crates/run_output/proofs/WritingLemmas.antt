-- Adding to what was written, one front of a line after another.
use Rattle.std.proofs.Common.{◌≡◌, ℕ, ◌+◌, ◌-◌, ◌<◌, ◌≤◌, List, ◌∷◌, ◌++◌, length, take, drop, Option, None, Some, refl, ap, sym, ◌∙◌, append_assoc, append-nil, take-append-drop, [], arith}
use Rattle.std.proofs.lemmas.List.{length-append, length-drop}
use Rattle.flask_io.specs.Streams.{Adds, Offers}
use Rattle.run_output.specs.Writing.{IsOffered, AddsFront, IsRest, AreRests, OffersFirst, OffersWhole, IsUnderWay}

-- what is added to what was added
pub adds_more : (a b c : Option (List ℕ)) (xs ys : List ℕ) → Adds a b xs → Adds b c ys → Adds a c (xs ++ ys)
adds_more None b c xs ys first second = rw first at second
adds_more (Some bytes) b c xs ys first second = let two = rw first at second in two ∙ ap Some (append_assoc bytes xs ys)

-- a part of the rest was taken, and the rest behind it is still to be offered
pub offered_more : (before now later : Option (List ℕ)) (line rest left : List ℕ) (n : ℕ) → IsOffered before now line rest → Adds now later (take n rest) → left ≡ drop n rest → IsOffered before later line left
offered_more before now later line rest left n offered added cut =
    (offered.0 ++ take n rest, rw (append_assoc, cut, take-append-drop) offered.1, adds_more before now later offered.0 (take n rest) offered.2 added)

-- a part of the rest was written whole
pub written_more : (before now later : Option (List ℕ)) (whole part rest : List ℕ) → IsOffered before now whole (part ++ rest) → Adds now later part → IsOffered before later whole rest
written_more before now later whole part rest offered added =
    (offered.0 ++ part, offered.1 ∙ sym (append_assoc offered.0 part rest), adds_more before now later offered.0 part offered.2 added)

-- of a part of the rest a front was written
pub front_of_part : (before now later : Option (List ℕ)) (whole part rest : List ℕ) → IsOffered before now whole (part ++ rest) → AddsFront now later part → AddsFront before later whole
front_of_part before now later whole part rest offered added = (
  offered.0 ++ added.0,
  added.1 ++ rest,
  offered.1 ∙ ap (λ p. offered.0 ++ (p ++ rest)) added.2 ∙ ap (λ p. offered.0 ++ p) (append_assoc added.0 added.1 rest)
      ∙ sym (append_assoc offered.0 added.0 (added.1 ++ rest)),
  adds_more before now later offered.0 added.0 offered.2 added.3,
)

-- what was written so far is a front
pub front_so_far : (before now : Option (List ℕ)) (whole rest : List ℕ) → IsOffered before now whole rest → AddsFront before now whole
front_so_far before now whole rest offered = (offered.0, rest, offered.1, offered.2)

-- all is still to be written
pub nothing_written : (before : Option (List ℕ)) (whole : List ℕ) → IsOffered before before whole whole
nothing_written None whole = ([], refl, refl)
nothing_written (Some bytes) whole = ([], refl, ap Some (sym (append-nil bytes)))

-- a line was written whole, with which all is
pub all_written : (before now later : Option (List ℕ)) (whole part : List ℕ) → IsOffered before now whole part → Adds now later part → Adds before later whole
all_written before now later whole part offered added = rw offered.1 (adds_more before now later offered.0 part offered.2 added)

-- of the last line a front was written
pub last_failed : (before now later : Option (List ℕ)) (whole part : List ℕ) → IsOffered before now whole part → AddsFront now later part → AddsFront before later whole
last_failed before now later whole part offered added = (
  offered.0 ++ added.0,
  added.1,
  offered.1 ∙ ap (λ p. offered.0 ++ p) added.2 ∙ sym (append_assoc offered.0 added.0 added.1),
  adds_more before now later offered.0 added.0 offered.2 added.3,
)

-- ---- a line offered whole

-- nothing was offered of a line yet
pub not_begun : (before : Option (List (List ℕ))) (line : List ℕ) → IsUnderWay before before line line
not_begun before line = record { untouched = λ same. refl; begun = λ below. absurd (omega (arith, below)) }

one_rest_more : (line : List ℕ) (rests : List (List ℕ)) (rest : List ℕ) → AreRests line rests → IsRest line rest → AreRests line (rests ++ rest ∷ [])
one_rest_more line [] rest are is = (is, tt)
one_rest_more line (first ∷ rests) rest are is = (are.0, one_rest_more line rests rest are.1 is)

one_piece_more : (before now later : Option (List (List ℕ))) (line rest : List ℕ) → IsRest line rest → OffersFirst before now line → Offers now later rest → OffersFirst before later line
one_piece_more None now later line rest is whole offers = (whole.0 ++ rest ∷ [], one_rest_more line whole.0 rest whole.1 is, rw whole.2 at offers)
one_piece_more (Some pieces) now later line rest is whole offers =
    let two = rw whole.2 at offers in
    (whole.0 ++ rest ∷ [], one_rest_more line whole.0 rest whole.1 is, two ∙ ap Some (append_assoc pieces (line ∷ whole.0) (rest ∷ [])))

-- what was left of a line is offered: so the line was offered as one piece, now or before
pub offered_first : (before now later : Option (List (List ℕ))) (line rest front : List ℕ) → line ≡ front ++ rest → IsUnderWay before now line rest → Offers now later rest → OffersFirst before later line
offered_first before now later line rest [] split way offers = ([], tt, rw (way.untouched (sym split), sym split) at offers)
offered_first before now later line rest (first ∷ front) split way offers =
    let longer : length line ≡ length (first ∷ front) + length rest = ap length split ∙ length-append (first ∷ front) rest in
    one_piece_more before now later line rest ((first ∷ front), omega arith, split) (way.begun (omega (arith, longer))) offers

-- a part of what was left was taken
pub still_under_way : (before later : Option (List (List ℕ))) (line rest left front : List ℕ) (n : ℕ) → line ≡ front ++ rest → 0 < n → n ≤ length rest → left ≡ drop n rest
    → OffersFirst before later line → IsUnderWay before later line left
still_under_way before later line rest left front n split some few cut whole =
    let longer : length line ≡ length front + length rest = ap length split ∙ length-append front rest in
    let shorter : length left ≡ length rest - n = ap length cut ∙ length-drop n rest in
    record { untouched = λ same. absurd (omega (arith, ap length same, longer, shorter, some, few)); begun = λ below. whole }

-- the line has a byte
pub whole_of_first : (before now : Option (List (List ℕ))) (line : List ℕ) → 0 < length line → OffersFirst before now line → OffersWhole before now line
whole_of_first before now [] some first = absurd (omega (arith, some))
whole_of_first before now (byte ∷ bytes) some first = first

-- nothing is left
pub whole_at_end : (before now : Option (List (List ℕ))) (line rest : List ℕ) → length rest ≡ 0 → IsUnderWay before now line rest → OffersWhole before now line
whole_at_end before now [] [] none way = way.untouched refl
whole_at_end before now [] (byte ∷ bytes) none way = absurd (omega (arith, none))
whole_at_end before now (byte ∷ bytes) rest none way = way.begun (omega (arith, none))

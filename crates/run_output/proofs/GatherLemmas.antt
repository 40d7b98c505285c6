-- Lines gathered, and then put.
use Rattle.std.proofs.Common.{◌≡◌, ◌∙◌, ◌+◌, ◌<◌, ℕ, List, [], ◌++◌, length, Option, None, Some, inl, inr, take, get_or, refl, sym, ap, append-nil, append_assoc}
use Rattle.std.specs.List.{flat_map}
use Rattle.flask_io.specs.Streams.{Adds}
use Rattle.run_output.specs.Gathering.{PutsOrWaits}
use Rattle.run_output.specs.Writing.{AddsFront, IsOffered}
use Rattle.run_output.proofs.PartLemmas.{all_parts, cut_first, part_more}
use Rattle.run_output.proofs.WritingLemmas.{adds_more}

-- nothing was added
pub adds_nothing : (put : Option (List ℕ)) → Adds put put []
adds_nothing None = refl
adds_nothing (Some bytes) = ap Some (sym (append-nil bytes))

-- what was gathered went out, or waits
pub put_or_waits : (a b : Option (List ℕ)) (o p : Option (List (List ℕ))) (gathered left : List ℕ) → PutsOrWaits a b o p gathered left → IsOffered a b gathered left
put_or_waits a b o p gathered left (inl goes) = (gathered, rw goes.none_left (sym (append-nil gathered)), goes.adds)
put_or_waits a b o p gathered left (inr waits) = ([], sym waits.kept, rw waits.still (adds_nothing a))

-- more is gathered behind what waits
pub gathers : (a b : Option (List ℕ)) (whole rest more : List ℕ) → IsOffered a b whole rest → IsOffered a b (whole ++ more) (rest ++ more)
gathers a b whole rest more offered = (offered.0, ap (λ bytes. bytes ++ more) offered.1 ∙ append_assoc offered.0 rest more, offered.2)

-- of what waited a part went out
pub offered_on : (a b c : Option (List ℕ)) (whole rest left : List ℕ) → IsOffered a b whole rest → IsOffered b c rest left → IsOffered a c whole left
offered_on a b c whole rest left first second =
    (first.0 ++ second.0, first.1 ∙ ap (λ bytes. first.0 ++ bytes) second.1 ∙ sym (append_assoc first.0 second.0 left), adds_more a b c first.0 second.0 first.2 second.2)

-- a front of what the first members write is one of what all write
pub front_of_all : {X : Type 0} (text : X → List ℕ) (xs : List X) (i : ℕ) (a b : Option (List ℕ)) → AddsFront a b (flat_map text (take i xs)) → AddsFront a b (flat_map text xs)
front_of_all text xs i a b front = rw (all_parts text xs i) (cut_first a b (flat_map text (take i xs)) _ front)

-- one member more is gathered
pub one_gathered : {X : Type 0} (text : X → List ℕ) (xs : List X) (i : ℕ) (x : X) (a b : Option (List ℕ)) (rest : List ℕ) → i < length xs → x ≡ get_or xs i x
    → IsOffered a b (flat_map text (take i xs)) rest → IsOffered a b (flat_map text (take (i + 1) xs)) (rest ++ text x)
one_gathered text xs i x a b rest within is offered = rw (part_more text xs i x within is) (gathers a b (flat_map text (take i xs)) rest (text x) offered)

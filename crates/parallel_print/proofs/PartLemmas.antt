-- The texts of a list in parts.
use Rattle.std.proofs.Common.{◌≡◌, ◌∙◌, ℕ, List, [], ◌∷◌, ◌++◌, ◌<◌, length, get_or, take, drop, Ok, refl, sym, ap}
use Rattle.std.specs.List.{All, AllZip, flat_map}
use Rattle.std.proofs.lemmas.Grind.{flat_map-append}
use Rattle.std.proofs.lemmas.List.Elements.{All-cons, All-nil}
use Rattle.run_output.proofs.PartLemmas.{all_parts}
use Rattle.parallel_print.specs.Parts.{HasText, IsWorded, items_of, text_in}
use Rattle.parallel_print.specs.declared.parts.Part.{Part}

-- the texts of the parts are those of all items
pub all_texts : {T : Type 0} (text : T → List ℕ) (parts : List (Part T)) → flat_map (text_in text) parts ≡ flat_map text (flat_map items_of parts)
all_texts text [] = refl
all_texts text (part ∷ parts) = ap (λ rest. text_in text part ++ rest) (all_texts text parts) ∙ sym (flat_map-append text (items_of part) (flat_map items_of parts))

-- parts that were worded have the items that they had, and their texts
pub worded_all : {T : Type 0} (text : T → List ℕ) (before after : List (Part T)) (items : List T) → AllZip (IsWorded text) before after → flat_map items_of before ≡ items
    → (flat_map items_of after ≡ items) × All (HasText text) after
worded_all text [] [] items zip is = (is, All-nil (HasText text))
worded_all text [] (part ∷ after) items zip is = absurd zip
worded_all text (part ∷ before) [] items zip is = absurd zip
worded_all text (part ∷ before) (now ∷ after) items zip is =
    let behind = worded_all text before after (flat_map items_of before) zip.1 refl in
    (rw (zip.0.items, behind.0) is, All-cons (HasText text) now after (rw zip.0.items zip.0.text_is) behind.1)

-- the text of a part that has one is that of its items
pub text_at : {T : Type 0} (text : T → List ℕ) (parts : List (Part T)) (i : ℕ) (part : Part T) (said : List ℕ) → All (HasText text) parts → i < length parts → part ≡ get_or parts i part → part.text ≡ Ok said → said ≡ text_in text part
text_at text parts i part said all within at is =
    let has : HasText text part = rw (sym at) at (all i part within) in
    rw is at has

-- what the items that are left write is what the next ones write, and what is left behind these
pub rest_parts : {T : Type 0} (text : T → List ℕ) (rest round behind : List T) (n : ℕ) → round ≡ take n rest → behind ≡ drop n rest → flat_map text rest ≡ flat_map text round ++ flat_map text behind
rest_parts text rest round behind n front back = rw (front, back) (all_parts text rest n)

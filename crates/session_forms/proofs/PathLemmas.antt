-- Paths and their texts.
use Rattle.std.proofs.Common.{◌≡◌, ltb, None, Some, ◌<◌, ◌+◌, ◌-◌, ◌∙◌, ℕ, Bool, true, false, cond, List, [], ◌∷◌, ◌++◌, length, take, drop, refl, sym, ap, subst, arith, length-append, drop-cons, add-one, get_or}
use Rattle.std.specs.Prelude.{◌≢◌, ◌&&◌, ◌||◌, map}
use Rattle.std.specs.List.{All, list_any, position, position_or_len, slice_split, onto_first, join_with_byte}
use Rattle.std.specs.Str.{bytes_eq}
use Rattle.std.specs.Cmp.Lexicographic.{pointwise}
use Rattle.std.proofs.Math.Seq.{take-append_seam}
use Rattle.std.proofs.lemmas.List.{length-map}
use Rattle.std.proofs.lemmas.Bool.{le-ltb}
use Rattle.std.proofs.lemmas.Bool.Decides.{same_from_decides}
use Rattle.std.proofs.lemmas.Slice.Eq.{bytes_eq-Decides, slice_eq-Decides}
use Rattle.std.proofs.lemmas.List.{take-append-drop}
use Rattle.std.proofs.lemmas.List.Splits.{slice_split-cons_yes, slice_split-cons_no, slice_split_none, join_with_byte-slice_split}
use Rattle.file_calls.specs.Paths.{same_path}
use Rattle.file_calls.specs.Openings.{parent_of}
use Rattle.session_forms.specs.PathForms.{is_slash, HasNoSlash, IsLastSlash}

-- the parts of a text are at least one
record Some_parts (parts : List (List ℕ)) : Type 0 where
  first : List ℕ
  others : List (List ℕ)
  is : parts ≡ first ∷ others

some_parts : (text : List ℕ) → Some_parts (slice_split is_slash text)
some_parts [] = record { first = []; others = []; is = refl }
some_parts (c ∷ text) = onto c (some_parts text)
  where
    onto : (c : ℕ) → Some_parts (slice_split is_slash text) → Some_parts (slice_split is_slash (c ∷ text))
    onto c some = by_byte (is_slash c) refl
      where
        by_byte : (b : Bool) → is_slash c ≡ b → Some_parts (slice_split is_slash (c ∷ text))
        by_byte true is = record { first = []; others = slice_split is_slash text; is = slice_split-cons_yes is_slash c text is }
        by_byte false is = record { first = c ∷ some.first; others = some.others; is = slice_split-cons_no is_slash c text is ∙ ap (onto_first c) some.is }

-- what comes behind the last `/` is the last part
pub parts_around : (front back : List ℕ) → slice_split is_slash (front ++ 47 ∷ back) ≡ slice_split is_slash front ++ slice_split is_slash back
parts_around [] back = refl
parts_around (c ∷ front) back = by_byte (is_slash c) refl (parts_around front back)
  where
    by_byte : (b : Bool) → is_slash c ≡ b → slice_split is_slash (front ++ 47 ∷ back) ≡ slice_split is_slash front ++ slice_split is_slash back → slice_split is_slash (c ∷ (front ++ 47 ∷ back)) ≡ slice_split is_slash (c ∷ front) ++ slice_split is_slash back
    by_byte true is below =
        rw (slice_split-cons_yes is_slash c (front ++ 47 ∷ back) is, slice_split-cons_yes is_slash c front is, below) refl
    by_byte false is below =
        let some = some_parts front in
        rw (slice_split-cons_no is_slash c (front ++ 47 ∷ back) is, slice_split-cons_no is_slash c front is, below, some.is) refl

-- a list without its last member
parent-snoc : (path : List (List ℕ)) (part : List ℕ) → parent_of (path ++ part ∷ []) ≡ path
parent-snoc path part =
    let size : length (path ++ part ∷ []) ≡ length path + 1 = length-append path (part ∷ []) in
    let less : length (path ++ part ∷ []) - 1 ≡ length path = omega (arith, size) in
    rw less (take-append_seam path (part ∷ []))

-- the directory of a path whose last part stands behind this `/`
pub above_last : (front back : List ℕ) → HasNoSlash back → slice_split is_slash front ≡ parent_of (slice_split is_slash (front ++ 47 ∷ back))
above_last front back none =
    rw (parts_around front back, slice_split_none is_slash back none) (sym (parent-snoc (slice_split is_slash front) back))

-- the directory of a path whose last part stands behind this place
pub above_at : (text : List ℕ) (at : ℕ) → IsLastSlash text at → slice_split is_slash (take at text) ≡ parent_of (slice_split is_slash text)
above_at text at is =
    let here : drop at text ≡ 47 ∷ drop (at + 1) text = drop-cons text at 0 is.within ∙ rw (add-one at, is.slash) refl in
    let whole : take at text ++ 47 ∷ drop (at + 1) text ≡ text = ap (λ back. take at text ++ back) (sym here) ∙ take-append-drop at text in
    above_last (take at text) (drop (at + 1) text) is.last ∙ ap (λ t. parent_of (slice_split is_slash t)) whole

-- the directory of a path of one part is the root
pub above_only : (text : List ℕ) → HasNoSlash text → [] ≡ parent_of (slice_split is_slash text)
above_only text none = rw (slice_split_none is_slash text none) refl

-- two texts are the same where their parts are
parts_apart : (a b : List ℕ) → slice_split is_slash a ≡ slice_split is_slash b → a ≡ b
parts_apart a b same = sym (join_with_byte-slice_split 47 a) ∙ (ap (join_with_byte 47) same ∙ join_with_byte-slice_split 47 b)

-- two paths are the same where their texts are
text_told : (a b : List ℕ) → bytes_eq a b ≡ same_path (slice_split is_slash b) (slice_split is_slash a)
text_told a b =
    let by_parts = slice_eq-Decides bytes_eq-Decides (slice_split is_slash b) (slice_split is_slash a) (same_path (slice_split is_slash b) (slice_split is_slash a)) refl in
    same_from_decides (bytes_eq a b) (same_path (slice_split is_slash b) (slice_split is_slash a)) (bytes_eq-Decides a b)
    ((λ h. sym (parts_apart b a (by_parts.0 h))), (λ e. by_parts.1 (ap (slice_split is_slash) (sym e))))

-- a path is among paths as its text is among their texts
pub any_text : (texts : List (List ℕ)) (text : List ℕ) → list_any (bytes_eq text) texts ≡ list_any (λ kept. same_path kept (slice_split is_slash text)) (map (slice_split is_slash) texts)
any_text [] text = refl
any_text (one ∷ texts) text = rw (text_told text one, any_text texts text) refl

-- a path of some text is not the root
pub no_root : (texts : List (List ℕ)) → list_any (λ kept. same_path kept []) (map (slice_split is_slash) texts) ≡ false
no_root [] = refl
no_root (one ∷ texts) = let some = some_parts one in rw (some.is, no_root texts) refl

-- how many members stand before the first that passes, by what each member has
places_of : {X Y : Type 0} (of : X → Y) (p : X → Bool) (q : Y → Bool) → ((x : X) → p x ≡ q (of x)) → (xs : List X) → position_or_len p xs ≡ position_or_len q (map of xs)
places_of of p q same [] = refl
places_of of p q same (x ∷ xs) = rw (same x, places_of of p q same xs) refl

-- the first place that passes, by what each member has
pub place_of : {X Y : Type 0} (of : X → Y) (p : X → Bool) (q : Y → Bool) → ((x : X) → p x ≡ q (of x)) → (xs : List X) → position p xs ≡ position q (map of xs)
place_of of p q same xs = rw (places_of of p q same xs, length-map xs of) refl

-- a path's place among paths is that of its text among their texts
pub place_of_text : (texts : List (List ℕ)) (text : List ℕ) → position (bytes_eq text) texts ≡ position (λ kept. same_path kept (slice_split is_slash text)) (map (slice_split is_slash) texts)
place_of_text texts text =
    place_of (slice_split is_slash) (bytes_eq text) (λ kept. same_path kept (slice_split is_slash text)) (text_told text) texts

-- where no member passes, all members stand before the first that does
none_passes : {X : Type 0} (p : X → Bool) (xs : List X) → list_any p xs ≡ false → position_or_len p xs ≡ length xs
none_passes p [] none = refl
none_passes p (x ∷ xs) none = grind (arith, none_passes p xs)

-- where no member passes, there is no place
pub none_placed : {X : Type 0} (p : X → Bool) (xs : List X) → list_any p xs ≡ false → position p xs ≡ None
none_placed p xs none = by_length (none_passes p xs none)
  where
    by_length : position_or_len p xs ≡ length xs → position p xs ≡ None
    by_length same = let past : ltb (length xs) (length xs) ≡ false = le-ltb (length xs) (length xs) (omega arith) in rw (same, past) refl

-- the root has no place among paths of some text
pub root_nowhere : (texts : List (List ℕ)) → position (λ kept. same_path kept []) (map (slice_split is_slash) texts) ≡ None
root_nowhere texts = none_placed (λ kept. same_path kept []) (map (slice_split is_slash) texts) (no_root texts)

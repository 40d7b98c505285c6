-- Paths, modes, data and numbers are words, and are read as what they were.
use Rattle.std.proofs.Common.{◌≡◌, ◌∙◌, ◌<◌, ◌≤◌, ℕ, Bool, true, false, ltb, length, List, [], ◌∷◌, ◌++◌, Some, Result, Ok, Err, inl, inr, refl, ap, arith}
use Rattle.std.specs.Prelude.{◌&&◌, ◌||◌, ◌==◌, decimal, codes}
use Rattle.std.specs.List.{All, list_all, list_any, flat_map, slice_split}
use Rattle.std.specs.Str.{bytes_eq}
use Rattle.std.proofs.lemmas.Bool.{and_parts, and_from, or_from, ne_eqb, eqb-true, lt-ltb, le-ltb, false_from_ne_true, agree_below, agree_below_at}
use Rattle.std.proofs.lemmas.Bool.Decides.{nat_tests}
use Rattle.std.proofs.lemmas.List.{append-nil}
use Rattle.std.proofs.lemmas.List.Elements.{All-head, All-tail}
use Rattle.std.proofs.lemmas.List.Folds.{list_all-append}
use Rattle.std.proofs.lemmas.List.Splits.{slice_split_none, slice_split_at}
use Rattle.std.proofs.lemmas.List.Sums.{list_all-from_AllPass}
use Rattle.std.proofs.lemmas.Slice.Eq.{bytes_eq-Decides}
use Rattle.flask_sid.specs.Names.{is_long}
use Rattle.text_lines.specs.Lines.{is_word_byte, is_filled}
use Rattle.text_lines.specs.Numerals.{numeral_of}
use Rattle.text_lines.specs.declared.fault.FaultKind.{FaultKind}
use Rattle.text_print.specs.Printed.{is_word}
use Rattle.text_print.proofs.WordLaws.{none_pass, all_pass}
use Rattle.text_print.proofs.NumeralLaws.{numeral_of_decimal, decimal_is_word}
use Rattle.file_calls.specs.Formed.{is_path_byte, IsPart, IsPath, IsEntryPath, IsFileMode}
use Rattle.port_calls.specs.Formed.{IsBindMode, IsConnectMode}
use Rattle.session_forms.specs.Arguments.{is_root}
use Rattle.session_forms.specs.PathForms.{is_part_form, path_form, is_long_path}
use Rattle.session_forms.specs.ArgumentTypes.{number_of, datum_of, path_of, entry_of, mode_of, bind_mode_of, connect_mode_of}
use Rattle.session_forms.specs.Ranges.{is_long_word}
use Rattle.session_text.specs.Sessions.{AreWordBytes}
use Rattle.session_print.specs.Words.{part_text, path_word, mode_word, bind_word, connect_word}

-- a part has its form
part_form : (part : List ℕ) → IsPart part → is_part_form part ≡ true
unfolding is_part_form
part_form part formed =
    let some : ltb 0 (length part) ≡ true = lt-ltb 0 (length part) formed.some in
    let bytes : list_all is_path_byte part ≡ true = list_all-from_AllPass is_path_byte part formed.allowed in
    let dot : bytes_eq part (codes ".") ≡ false = false_from_ne_true _ (λ is. formed.not_dot ((bytes_eq-Decides part (codes ".")).0 is)) in
    let dots : bytes_eq part (codes "..") ≡ false = false_from_ne_true _ (λ is. formed.not_dots ((bytes_eq-Decides part (codes "..")).0 is)) in
    rw (some, bytes, dot, dots) refl

-- and is not too long
part_short : (part : List ℕ) → IsPart part → is_long part ≡ false
unfolding is_long
part_short part formed = le-ltb 32 (length part) formed.short

-- the parts of a path have their form
parts_formed : (path : List (List ℕ)) → All IsPart path → list_all is_part_form path ≡ true
parts_formed [] all = refl
parts_formed (part ∷ parts) all = and_from _ _ (part_form part (All-head IsPart part parts all)) (parts_formed parts (All-tail IsPart part parts all))

-- and none is too long
parts_short : (path : List (List ℕ)) → All IsPart path → list_any is_long path ≡ false
parts_short [] all = refl
parts_short (part ∷ parts) all = or_from _ _ (part_short part (All-head IsPart part parts all)) (parts_short parts (All-tail IsPart part parts all))

-- what the form of a part says
part_bytes : (part : List ℕ) → is_part_form part ≡ true → (is_filled part ≡ true) × (list_all is_path_byte part ≡ true)
unfolding is_part_form
part_bytes [] form = cc
part_bytes (b ∷ bs) form =
    let bytes : list_all is_path_byte (b ∷ bs) ≡ true = grind (arith, form) in
    (refl, bytes)

-- a byte of a path may stand in a word
path_byte_stands : (b : ℕ) → is_path_byte b ≡ true → is_word_byte b ≡ true
path_byte_stands b h = grind (arith, nat_tests, h)

-- and is no `/`
no_slash : (b : ℕ) → is_path_byte b ≡ true → (b == 47) ≡ false
no_slash b h = ne_eqb b 47 (λ slash. let never = rw slash at h in cc)

-- parts behind one another, cut at each `/`
split_parts : (part : List ℕ) (parts : List (List ℕ)) → list_all is_part_form (part ∷ parts) ≡ true → slice_split (λ c. c == 47) (part ++ flat_map part_text parts) ≡ part ∷ parts
split_parts part [] formed =
    let bytes = (part_bytes part (and_parts (is_part_form part) true formed).0).1 in
    rw (append-nil part) (slice_split_none (λ c. c == 47) part (none_pass is_path_byte (λ c. c == 47) no_slash part bytes))
split_parts part (next ∷ parts) formed =
    let both = and_parts (is_part_form part) (list_all is_part_form (next ∷ parts)) formed in
    slice_split_at (λ c. c == 47) part 47 (next ++ flat_map part_text parts) (none_pass is_path_byte (λ c. c == 47) no_slash part (part_bytes part both.0).1) refl
    ∙ ap (λ others. part ∷ others) (split_parts next parts both.1)

-- a printed path is read again
path_again : (path : List (List ℕ)) → list_all is_part_form path ≡ true → path_form (path_word path) ≡ Some path
unfolding path_form
path_again [] formed = refl
path_again ([] ∷ parts) formed =
    let never : is_filled [] ≡ true = (part_bytes [] (and_parts (is_part_form []) (list_all is_part_form parts) formed).0).0 in
    cc
path_again ((b ∷ bs) ∷ parts) formed = rw (split_parts (b ∷ bs) parts formed, formed) refl

-- each byte of parts behind one another may stand in a word
parts_stand : (parts : List (List ℕ)) → list_all is_part_form parts ≡ true → list_all is_word_byte (flat_map part_text parts) ≡ true
parts_stand [] formed = refl
parts_stand (part ∷ parts) formed =
    let both = and_parts (is_part_form part) (list_all is_part_form parts) formed in
    list_all-append is_word_byte part (flat_map part_text parts)
    ∙ and_from _ _ (all_pass is_path_byte is_word_byte path_byte_stands part (part_bytes part both.0).1) (parts_stand parts both.1)

-- a printed path is a word
path_is_word : (path : List (List ℕ)) → list_all is_part_form path ≡ true → is_word (path_word path) ≡ true
path_is_word [] formed = refl
path_is_word (part ∷ parts) formed = parts_stand (part ∷ parts) formed

-- the word of a path, and the path that it is
pub record IsPathWord (path : List (List ℕ)) (word : List ℕ) : Type 0 where
  pub is_word : is_word word ≡ true
  pub read : path_form word ≡ Some path
  pub short : is_long_path path ≡ false

-- a path, printed
pub path_printed : (path : List (List ℕ)) → IsPath path → IsPathWord path (path_word path)
unfolding is_long_path
path_printed path formed =
    let forms : list_all is_part_form path ≡ true = parts_formed path formed.parts in
    record {
      is_word = path_is_word path forms;
      read = path_again path forms;
      short = or_from _ _ (le-ltb 16 (length path) formed.short) (parts_short path formed.parts);
    }

-- a path below the root is not the root's
pub not_root : (path : List (List ℕ)) → 0 < length path → is_root path ≡ false
not_root [] below = absurd (omega (arith, below))
not_root (part ∷ parts) below = refl

-- a path is read as an argument
pub path_reads : (path : List (List ℕ)) → IsPath path → path_of (path_word path) ≡ Ok path
unfolding path_of
path_reads path formed = let word = path_printed path formed in rw (word.read, word.short) refl

-- and a path below the root as one
pub entry_reads : (path : List (List ℕ)) → IsEntryPath path → entry_of (path_word path) ≡ Ok path
unfolding entry_of
entry_reads path formed = rw (path_reads path formed.formed, not_root path formed.some) refl

-- a datum is a word
pub datum_is_word : (bytes : List ℕ) → 0 < length bytes → AreWordBytes bytes → is_word bytes ≡ true
datum_is_word [] some written = absurd (omega (arith, some))
datum_is_word (b ∷ bytes) some written = written

-- and is not too long
pub datum_short : (bytes : List ℕ) → length bytes ≤ 1024 → is_long_word bytes ≡ false
datum_short bytes short = le-ltb 1024 (length bytes) short

-- it is read as an argument
pub datum_reads : (bytes : List ℕ) → length bytes ≤ 1024 → datum_of bytes ≡ Ok bytes
datum_reads bytes short = rw (datum_short bytes short) refl

-- a mode that was read
abbrev is_mode : ℕ → Result ℕ FaultKind → Bool
is_mode mode (Ok read) = read == mode
is_mode mode (Err kind) = false

-- a mode's word is one, and is read as that mode, unless the mode is empty
abbrev reads_mode : ℕ → Bool
reads_mode mode = mode == 0 || (is_word (mode_word mode) && is_mode mode (mode_of (mode_word mode)))

-- each mode
modes_read : agree_below reads_mode (λ mode. true) 8 ≡ true
unfolding mode_word mode_of
modes_read = refl

-- the mode that was read is that one
mode_is : (mode : ℕ) (read : Result ℕ FaultKind) → is_mode mode read ≡ true → read ≡ Ok mode
mode_is mode (Ok read) h = let is : read ≡ mode = eqb-true read mode h in rw is refl
mode_is mode (Err kind) h = cc

-- a mode of an open file is a word, and is read again
pub mode_again : (mode : ℕ) → IsFileMode mode → (is_word (mode_word mode) ≡ true) × (mode_of (mode_word mode) ≡ Ok mode)
mode_again mode formed =
    let reads : reads_mode mode ≡ true = agree_below_at reads_mode (λ mode. true) 8 mode modes_read formed.1 in
    let some : (mode == 0) ≡ false = ne_eqb mode 0 (λ none. absurd (omega (arith, none, formed.0))) in
    let both = and_parts (is_word (mode_word mode)) (is_mode mode (mode_of (mode_word mode))) (rw some at reads) in
    (both.0, mode_is mode (mode_of (mode_word mode)) both.1)

-- a mode of a bound port
pub bind_again : (mode : ℕ) → IsBindMode mode → (is_word (bind_word mode) ≡ true) × (bind_mode_of (bind_word mode) ≡ Ok mode)
unfolding bind_word bind_mode_of
bind_again mode (inl bind) = rw bind (refl, refl)
bind_again mode (inr recv) = rw recv (refl, refl)

-- a mode of a connection
pub connect_again : (mode : ℕ) → IsConnectMode mode → (is_word (connect_word mode) ≡ true) × (connect_mode_of (connect_word mode) ≡ Ok mode)
unfolding connect_word connect_mode_of
connect_again mode (inl connect) = rw connect (refl, refl)
connect_again mode (inr send) = rw send (refl, refl)

-- the word of a number, and the number that it is
pub record IsNumberWord (n : ℕ) (word : List ℕ) : Type 0 where
  pub is_word : is_word word ≡ true
  pub read : numeral_of word ≡ Some n

-- a number of 32 bits, printed
pub number_printed : (n : ℕ) → n < 4294967296 → IsNumberWord n (decimal n)
number_printed n small = record { is_word = decimal_is_word n (omega arith); read = numeral_of_decimal n (omega arith) }

-- a number that is read as an argument from this range
pub record IsInRange (least most n : ℕ) (word : List ℕ) : Type 0 where
  pub is_word : is_word word ≡ true
  pub read : number_of least most word ≡ Ok n

-- a number from a range of 32 bits, printed
pub range_printed : (least most n : ℕ) → least ≤ n → n ≤ most → most < 4294967296 → IsInRange least most n (decimal n)
unfolding number_of
range_printed least most n low high small =
    let number = number_printed n (omega (arith, high, small)) in
    record { is_word = number.is_word; read = rw (number.read, le-ltb n least low, le-ltb most n high) refl }

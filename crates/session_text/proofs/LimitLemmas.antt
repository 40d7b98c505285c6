-- Arguments within their limits, whose words have their form, and what is found among the lines above.
use Rattle.std.proofs.Common.{◌≡◌, ◌<◌, ◌+◌, ℕ, Bool, true, false, cond, List, [], ◌∷◌, length, All, Option, None, Some, refl, arith}
use Rattle.std.specs.Prelude.{IfSome, if◌then◌else◌, option_and_then, ◌||◌, not, nat_lt, ◌≢◌, codes}
use Rattle.std.specs.List.{list_all, list_any, position, position_or_len}
use Rattle.std.specs.Str.{bytes_eq}
use Rattle.std.proofs.lemmas.Bool.Decides.{nat_tests}
use Rattle.std.proofs.lemmas.List.Elements.{All-cons, All-nil}
use Rattle.std.proofs.lemmas.List.Sums.{AllPass-from_list_all}
use Rattle.std.proofs.lemmas.Slice.Eq.{bytes_eq-Decides}
use Rattle.flask_sid.specs.Names.{is_long}
use Rattle.flask_sid.specs.declared.context.ContextOf.{ContextOf}
use Rattle.text_lines.specs.Lines.{is_filled, is_word_byte}
use Rattle.policy_model.specs.Declarations.{same_context}
use Rattle.policy_model.specs.declared.policy.ContextLine.{ContextLine}
use Rattle.file_calls.specs.Formed.{IsData, IsPart, IsPath, is_path_byte}
use Rattle.session_forms.specs.PathForms.{is_part_form, is_long_path}
use Rattle.session_forms.specs.Ranges.{is_past_place, is_long_word}
use Rattle.session_forms.specs.ArgumentForms.{IsWord, IsPathForm}
use Rattle.session_forms.proofs.WordLemmas.{both}
use Rattle.session_text.specs.Above.{sid_at, context_sid, client_number}
use Rattle.session_text.specs.Sessions.{AreWordBytes, IsSidOf}
use Rattle.session_text.specs.declared.session.ClientLine.{ClientLine}

-- neither of two
pub neither : (a b : Bool) → (a || b) ≡ false → (a ≡ false) × (b ≡ false)
neither true b is = cc
neither false b is = (refl, is)

-- a word that was found not to be another is not
is_not : (word other : List ℕ) → not (bytes_eq word other) ≡ true → word ≢ other
is_not word other is = λ same. grind (arith, bytes_eq-Decides)

-- a part that is not too long
part_formed : (part : List ℕ) → is_part_form part ≡ true → is_long part ≡ false → IsPart part
unfolding is_part_form is_long
part_formed part formed short =
    let dots = both _ (not (bytes_eq part (codes ".."))) formed in
    let dot = both _ (not (bytes_eq part (codes "."))) dots.0 in
    let bytes = both (nat_lt 0 (length part)) (list_all is_path_byte part) dot.0 in
    record {
      some = grind (arith, nat_tests);
      short = grind (arith, nat_tests);
      allowed = AllPass-from_list_all is_path_byte part bytes.1;
      not_dot = is_not part (codes ".") dot.1;
      not_dots = is_not part (codes "..") dots.1;
    }

-- parts of which none is too long
parts_formed : (parts : List (List ℕ)) → list_all is_part_form parts ≡ true → list_any is_long parts ≡ false → All IsPart parts
parts_formed [] formed short = All-nil IsPart
parts_formed (part ∷ parts) formed short =
    let form = both (is_part_form part) (list_all is_part_form parts) formed in
    let length = neither (is_long part) (list_any is_long parts) short in
    All-cons IsPart part parts (part_formed part form.0 length.0) (parts_formed parts form.1 length.1)

-- a path within its limits
pub path_formed : (parts : List (List ℕ)) → IsPathForm parts → is_long_path parts ≡ false → IsPath parts
unfolding is_long_path
path_formed parts formed short =
    let apart = neither (nat_lt 16 (length parts)) (list_any is_long parts) short in
    record { short = grind (arith, nat_tests); parts = parts_formed parts formed apart.1 }

-- a word can be written
pub written : (bytes : List ℕ) → IsWord bytes → AreWordBytes bytes
written bytes word = (both (is_filled bytes) (list_all is_word_byte bytes) word).1

-- a datum within its limit
pub data_formed : (bytes : List ℕ) → IsWord bytes → is_long_word bytes ≡ false → IsData bytes
data_formed [] word short = cc
data_formed (b ∷ bs) word short = (omega arith, grind (arith, nat_tests), AllPass-from_list_all is_word_byte (b ∷ bs) (written (b ∷ bs) word))

-- the number of a process or a port
pub place_formed : (number : ℕ) → is_past_place number ≡ false → (0 < number) × (number < 65536)
place_formed number within = (grind (arith, nat_tests), grind (arith, nat_tests))

-- what is found is one of them
found_within : {X : Type 0} (p : X → Bool) (xs : List X) → IfSome (position p xs) (λ at. at < length xs)
found_within p xs =
    elim (nat_lt (position_or_len p xs) (length xs)) as (λ (b : Bool). nat_lt (position_or_len p xs) (length xs) ≡ b → IfSome (cond b (Some (position_or_len p xs)) None) (λ at. at < length xs)) [
      | true ↦ λ below. grind (arith, nat_tests)
      | false ↦ λ none. tt
    ] refl

pub client_within : (clients : List ClientLine) (name : List ℕ) → IfSome (client_number clients name) (λ number. number < length clients)
unfolding client_number
client_within clients name = found_within (λ client. bytes_eq client.name name) clients

pub sid_within : (contexts : List ContextLine) (context : ContextOf (List ℕ)) → IfSome (context_sid contexts context) (IsSidOf contexts)
unfolding context_sid
sid_within contexts context = of_place (position (λ line. same_context line.context context) contexts) (found_within (λ line. same_context line.context context) contexts)
  where
    of_place : (found : Option ℕ) → IfSome found (λ at. at < length contexts) → IfSome (option_and_then sid_at found) (IsSidOf contexts)
    of_place None within = tt
    of_place (Some at) within =
        elim (nat_lt at 4095) as (λ (b : Bool). IfSome (if b then Some (at + 1) else None) (IsSidOf contexts)) [
          | true ↦ (omega arith, omega arith)
          | false ↦ tt
        ]

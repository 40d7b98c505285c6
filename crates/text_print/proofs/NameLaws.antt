-- Names and contexts that were printed are words, and are read as what they were.
use Rattle.std.proofs.Common.{◌≡◌, ◌∙◌, ℕ, true, false, leb, List, [], ◌∷◌, ◌++◌, Some, refl, ap, arith, append_assoc}
use Rattle.std.specs.Prelude.{◌&&◌, ◌||◌, ◌==◌, codes}
use Rattle.std.specs.List.{All, list_all}
use Rattle.std.proofs.lemmas.Bool.{and_parts, and_from, ne_eqb}
use Rattle.std.proofs.lemmas.Bool.Decides.{nat_tests}
use Rattle.std.proofs.lemmas.List.Folds.{list_all-append}
use Rattle.std.proofs.lemmas.List.Splits.{slice_split_none, slice_split_at}
use Rattle.flask_sid.specs.Names.{is_lower, is_name_byte, is_name_form, is_name, is_kind_form}
use Rattle.flask_sid.specs.Contexts.{context_of_parts, context_form, context_text}
use Rattle.flask_sid.specs.declared.context.ContextOf.{ContextOf}
use Rattle.text_lines.specs.Lines.{is_word_byte, is_filled, is_comment}
use Rattle.text_print.specs.Printed.{is_word}
use Rattle.text_print.proofs.WordLaws.{all_pass, none_pass}

-- a lower-case letter may stand in a name
lower_in_name : (b : ℕ) → is_lower b ≡ true → is_name_byte b ≡ true
lower_in_name b h = ap (λ t. t || (leb 48 b && leb b 57) || b == 95) h

-- each byte of a name, the first too, may stand in a name
pub name_bytes : (name : List ℕ) → is_name_form name ≡ true → list_all is_name_byte name ≡ true
unfolding is_name_form
name_bytes [] h = cc
name_bytes (b ∷ bytes) h =
    let parts = and_parts (is_lower b) (list_all is_name_byte bytes) h in
    and_from (is_name_byte b) (list_all is_name_byte bytes) (lower_in_name b parts.0) parts.1

-- a byte of a name may stand in a word
name_byte_stands : (b : ℕ) → is_name_byte b ≡ true → is_word_byte b ≡ true
name_byte_stands b h = grind (arith, nat_tests, h)

-- a name is a word, however long it is
pub name_is_word : (name : List ℕ) → is_name_form name ≡ true → is_word name ≡ true
unfolding is_name_form
name_is_word [] h = cc
name_is_word (b ∷ bytes) h = all_pass is_name_byte is_word_byte name_byte_stands (b ∷ bytes) (name_bytes (b ∷ bytes) h)

-- a name begins no comment
pub name_is_no_comment : (name : List ℕ) → is_name_form name ≡ true → is_comment name ≡ false
unfolding is_name_form
name_is_no_comment [] h = cc
name_is_no_comment (b ∷ bytes) h = ne_eqb b 35 (λ hash. let never = rw hash at h in cc)

-- the form of a name
pub form_of_name : (name : List ℕ) → is_name name ≡ true → is_name_form name ≡ true
unfolding is_name
form_of_name name h = grind (arith, h)

-- the form of a type's name
pub form_of_kind : (name : List ℕ) → is_kind_form name ≡ true → is_name_form name ≡ true
unfolding is_kind_form
form_of_kind name h = grind (arith, h)

-- a name's byte divides no context
no_colon : (b : ℕ) → is_name_byte b ≡ true → (b == 58) ≡ false
no_colon b h = ne_eqb b 58 (λ colon. let never = rw colon at h in cc)

-- no byte of a name divides a context
no_colons : (name : List ℕ) → is_name_form name ≡ true → All (λ b. (b == 58) ≡ false) name
no_colons name h = none_pass is_name_byte (λ b. b == 58) no_colon name (name_bytes name h)

-- the text of a context, from its front
text_from_front : (context : ContextOf (List ℕ)) → context_text context ≡ context.user ++ 58 ∷ (context.role ++ 58 ∷ context.kind)
unfolding context_text
text_from_front context =
    append_assoc (context.user ++ codes ":" ++ context.role) (codes ":") context.kind
    ∙ append_assoc (context.user ++ codes ":") context.role (58 ∷ context.kind)
    ∙ append_assoc context.user (codes ":") (context.role ++ 58 ∷ context.kind)

-- a printed context is read again
pub context_form_text : (context : ContextOf (List ℕ)) → is_name_form context.user ≡ true → is_name_form context.role ≡ true → is_kind_form context.kind ≡ true → context_form (context_text context) ≡ Some context
unfolding context_form context_of_parts
context_form_text context user role kind =
    let behind_user = slice_split_at (λ b. b == 58) context.user 58 (context.role ++ 58 ∷ context.kind) (no_colons context.user user) refl in
    let behind_role = slice_split_at (λ b. b == 58) context.role 58 context.kind (no_colons context.role role) refl in
    let last = slice_split_none (λ b. b == 58) context.kind (no_colons context.kind (form_of_kind context.kind kind)) in
    rw (text_from_front context, behind_user, behind_role, last, user, role, kind) refl

-- two words with a colon between them are a word
joined : (front back : List ℕ) → is_word front ≡ true → is_word back ≡ true → is_word (front ++ 58 ∷ back) ≡ true
joined [] back f b = cc
joined (c ∷ front) back f b =
    let bytes : list_all is_word_byte (c ∷ front) ≡ true = f in
    let others : list_all is_word_byte back ≡ true = (and_parts (is_filled back) (list_all is_word_byte back) b).1 in
    list_all-append is_word_byte (c ∷ front) (58 ∷ back) ∙ and_from (list_all is_word_byte (c ∷ front)) (list_all is_word_byte (58 ∷ back)) bytes others

-- a printed context is a word
pub context_is_word : (context : ContextOf (List ℕ)) → is_name_form context.user ≡ true → is_name_form context.role ≡ true → is_kind_form context.kind ≡ true → is_word (context_text context) ≡ true
context_is_word context user role kind =
    rw (text_from_front context) (joined context.user (context.role ++ 58 ∷ context.kind) (name_is_word context.user user)
    (joined context.role context.kind (name_is_word context.role role) (name_is_word context.kind (form_of_kind context.kind kind))))

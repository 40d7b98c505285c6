-- Texts of contexts: different contexts to which a policy leads have different texts.
use Rattle.std.proofs.Common.{◌≡◌, ◌<◌, ◌∙◌, ℕ, zero, suc, Bool, true, false, cond, List, [], ◌∷◌, ◌++◌, length, get_or, map, Option, Some, None, refl, sym, ap, subst, arith, append_assoc}
use Rattle.std.specs.Prelude.{not, ◌==◌}
use Rattle.std.specs.List.{list_all, slice_split}
use Rattle.std.proofs.lemmas.Bool.{and_parts, and_from, not-true, not_from_false, false_from_ne_true, eqb-true}
use Rattle.flask_sid.specs.Names.{is_lower, is_name_byte, is_name_form, is_long, is_name, is_kind_form}
use Rattle.flask_sid.specs.Contexts.{context_text}
use Rattle.flask_sid.specs.declared.context.ContextOf.{ContextOf}
use Rattle.access_vectors.specs.declared.class.Class.{Class}
use Rattle.policy_model.specs.declared.policy.KindLine.{KindLine}
use Rattle.policy_model.specs.declared.policy.ContextLine.{ContextLine}
use Rattle.policy_model.specs.declared.policy.PolicyParts.{PolicyParts}
use Rattle.policy_model.specs.declared.policy.Labelling.TheVariants.{Member}
use Rattle.policy_model.specs.Declarations.{is_kind}
use Rattle.policy_model.specs.Deciding.{given_kind, label_of, member_of, takes_after_maker, object_role}
use Rattle.policy_model.specs.Kept.{Grows, is_kind_name, MayKind, MayContext, IsWholePolicy}
use Rattle.policy_versions.specs.Closure.{IsDerivable, declared, label, member}
use Rattle.policy_versions.proofs.NameLemmas.{place_of_kind}
use Rattle.policy_versions.proofs.GrowsLemmas.{grows_at}
use Rattle.policy_versions.proofs.KindLemmas.{no_kind}
use Rattle.policy_versions.proofs.ContextLemmas.{kind_declared}

-- no byte is a colon
abbrev pub has_no_colon : List ℕ → Bool
has_no_colon bytes = list_all (λ b. not (b == 58)) bytes

-- a byte of a name is no colon
name_byte : (b : ℕ) → is_name_byte b ≡ true → not (b == 58) ≡ true
name_byte b is = not_from_false (b == 58) (false_from_ne_true (b == 58) (λ e.
    let same : b ≡ 58 = eqb-true b 58 e in
    let wrong : is_name_byte 58 ≡ true = subst (λ n. is_name_byte n ≡ true) same is in
    cc))

first_byte : (b : ℕ) → is_lower b ≡ true → not (b == 58) ≡ true
first_byte b is = not_from_false (b == 58) (false_from_ne_true (b == 58) (λ e.
    let same : b ≡ 58 = eqb-true b 58 e in
    let wrong : is_lower 58 ≡ true = subst (λ n. is_lower n ≡ true) same is in
    cc))

name_bytes : (bytes : List ℕ) → list_all is_name_byte bytes ≡ true → has_no_colon bytes ≡ true
name_bytes [] all = refl
name_bytes (b ∷ bs) all =
    let parts = and_parts (is_name_byte b) (list_all is_name_byte bs) all in
    and_from _ _ (name_byte b parts.0) (name_bytes bs parts.1)

form_colon : (name : List ℕ) → is_name_form name ≡ true → has_no_colon name ≡ true
unfolding is_name_form
form_colon [] is = refl
form_colon (b ∷ bs) is =
    let parts = and_parts (is_lower b) (list_all is_name_byte bs) is in
    and_from _ _ (first_byte b parts.0) (name_bytes bs parts.1)

name_colon : (name : List ℕ) → is_name name ≡ true → has_no_colon name ≡ true
unfolding is_name
name_colon name is = form_colon name (and_parts (is_name_form name) (not (is_long name)) is).0

kind_colon : (name : List ℕ) → is_kind_name name ≡ true → has_no_colon name ≡ true
unfolding is_kind_name is_kind_form
kind_colon name is = form_colon name (and_parts (is_name_form name) _ (and_parts _ (not (is_long name)) is).0).0

-- the parts of a text at its colons
colon_split : (bytes rest : List ℕ) → has_no_colon bytes ≡ true → slice_split (λ b. b == 58) (bytes ++ 58 ∷ rest) ≡ bytes ∷ slice_split (λ b. b == 58) rest
colon_split [] rest none = refl
colon_split (b ∷ bs) rest none =
    let parts = and_parts (not (b == 58)) (has_no_colon bs) none in
    let other : (b == 58) ≡ false = not-true (b == 58) parts.0 in
    rw (other, colon_split bs rest parts.1) refl

colon_none : (bytes : List ℕ) → has_no_colon bytes ≡ true → slice_split (λ b. b == 58) bytes ≡ bytes ∷ []
colon_none [] none = refl
colon_none (b ∷ bs) none =
    let parts = and_parts (not (b == 58)) (has_no_colon bs) none in
    let other : (b == 58) ≡ false = not-true (b == 58) parts.0 in
    rw (other, colon_none bs parts.1) refl

-- a context whose names have no colon
pub record HasNames (context : ContextOf (List ℕ)) : Type 0 where
  pub user : has_no_colon context.user ≡ true
  pub role : has_no_colon context.role ≡ true
  pub kind : has_no_colon context.kind ≡ true

text_parts : (context : ContextOf (List ℕ)) → HasNames context → slice_split (λ b. b == 58) (context_text context) ≡ context.user ∷ context.role ∷ context.kind ∷ []
unfolding context_text
text_parts context names =
    let inner : slice_split (λ b. b == 58) (context.role ++ 58 ∷ context.kind) ≡ context.role ∷ context.kind ∷ [] = colon_split context.role context.kind names.role ∙ ap (λ parts. context.role ∷ parts) (colon_none context.kind names.kind) in
    let outer : slice_split (λ b. b == 58) (context.user ++ 58 ∷ (context.role ++ 58 ∷ context.kind)) ≡ context.user ∷ context.role ∷ context.kind ∷ [] = colon_split context.user (context.role ++ 58 ∷ context.kind) names.user ∙ ap (λ parts. context.user ∷ parts) inner in
    simp append_assoc outer

-- contexts of one text are one
pub one_text : (a b : ContextOf (List ℕ)) → HasNames a → HasNames b → context_text a ≡ context_text b → a ≡ b
one_text a b of_a of_b same =
    let parts : a.user ∷ a.role ∷ a.kind ∷ [] ≡ b.user ∷ b.role ∷ b.kind ∷ [] = sym (text_parts a of_a) ∙ ap (slice_split (λ b. b == 58)) same ∙ text_parts b of_b in
    let user : a.user ≡ b.user = cc in
    let role : a.role ≡ b.role = cc in
    let kind : a.kind ≡ b.kind = cc in
    ap (λ u. record { user = u; role = a.role; kind = a.kind }) user ∙ ap (λ r. record { user = b.user; role = r; kind = a.kind }) role ∙ ap (λ k. record { user = b.user; role = b.role; kind = k }) kind

-- the names of users and roles of contexts to which a policy leads
record HasHolder (context : ContextOf (List ℕ)) : Type 0 where
  user : has_no_colon context.user ≡ true
  role : has_no_colon context.role ≡ true

declared_holder : (kinds : List KindLine) (seen contexts : List ContextLine) → Grows (MayContext kinds) seen contexts → (k : ℕ) (d : ContextOf (List ℕ)) → k < length (map (λ (line : ContextLine). line.context) contexts) → HasHolder (get_or (map (λ (line : ContextLine). line.context) contexts) k d)
declared_holder kinds seen [] grows k d within = absurd (omega arith)
declared_holder kinds seen (line ∷ contexts) grows zero d within = record { user = name_colon _ grows.0.user; role = name_colon _ grows.0.role }
declared_holder kinds seen (line ∷ contexts) grows (suc k) d within = declared_holder kinds (seen ++ line ∷ []) contexts grows.1 k d (omega arith)

label_holder : (policy : PolicyParts) (version : ℕ) (s t : ContextOf (List ℕ)) (class : Class) → HasHolder s → HasHolder (label_of policy version s t class)
unfolding label_of
label_holder policy version s t class of_s = record {
  user = of_s.user;
  role = elim (takes_after_maker class) as (λ b. has_no_colon (cond b s.role object_role) ≡ true) [ true ↦ of_s.role | false ↦ refl ];
}

member_holder : (policy : PolicyParts) (version : ℕ) (s t : ContextOf (List ℕ)) (class : Class) → HasHolder s → HasHolder t → HasHolder (member_of policy version s t class)
unfolding member_of
member_holder policy version s t class of_s of_t = by_given _ refl
  where
    by_given : (given : Option (List ℕ)) → given_kind Member policy version s.kind t.kind class ≡ given → HasHolder (member_of policy version s t class)
    by_given None e = rw e of_t
    by_given (Some name) e = rw e (record { user = of_s.user; role = refl })

holder : (policy : PolicyParts) → IsWholePolicy policy → (context : ContextOf (List ℕ)) → IsDerivable policy context → HasHolder context
holder policy kept _ (declared context is) =
    subst HasHolder is.2 (declared_holder policy.kinds [] policy.contexts kept.grown.contexts is.0 context is.1)
holder policy kept _ (label version s t class below of_s of_t) = label_holder policy version s t class (holder policy kept s of_s)
holder policy kept _ (member version s t class below of_s of_t) = member_holder policy version s t class (holder policy kept s of_s) (holder policy kept t of_t)

-- the name of a declared type has no colon
kind_named : (kinds seen : List KindLine) → Grows MayKind seen kinds → (name : List ℕ) → is_kind kinds name ≡ true → has_no_colon name ≡ true
kind_named kinds seen grows name is =
    let found = place_of_kind kinds name is in
    let may = grows_at MayKind seen kinds grows found.0 no_kind found.1.within in
    subst (λ one. has_no_colon one ≡ true) found.1.named (kind_colon _ may.named)

pub has_names : (policy : PolicyParts) → IsWholePolicy policy → (context : ContextOf (List ℕ)) → IsDerivable policy context → HasNames context
has_names policy kept context derives =
    let names = holder policy kept context derives in
    record { user = names.user; role = names.role; kind = kind_named policy.kinds [] kept.grown.kinds context.kind (kind_declared policy kept context derives) }

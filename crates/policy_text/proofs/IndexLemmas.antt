-- What a policy declares, by its indexes.
use Rattle.std.proofs.Common.{◌≡◌, ◌∙◌, ℕ, Bool, true, false, List, [], ◌∷◌, ◌++◌, refl, sym, ap}
use Rattle.std.specs.Prelude.{◌&&◌, ◌||◌, map, Option, Some, None, MatchOption}
use Rattle.std.specs.List.{list_any}
use Rattle.std.specs.Str.{bytes_eq}
use Rattle.std.proofs.lemmas.Cmp.{nat_list_eq_equiv}
use Rattle.std.proofs.lemmas.List.{map-append}
use Rattle.flask_sid.specs.declared.context.ContextOf.{ContextOf}
use Rattle.flask_sid.specs.SidTables.{is_same_context}
use Rattle.policy_model.specs.declared.policy.KindLine.{KindLine}
use Rattle.policy_model.specs.declared.policy.AttributeLine.{AttributeLine}
use Rattle.policy_model.specs.declared.policy.ContextLine.{ContextLine}
use Rattle.policy_model.specs.Declarations.{is_kind, is_attribute, same_context, has_context}
use Rattle.policy_text.specs.Above.{contexts_in}

-- three tests, in whatever order two of them are joined
and_joined : (a b c : Bool) → (a && (b && c)) ≡ (a && b && c)
and_joined true b c = refl
and_joined false b c = refl

-- two contexts are the same, whichever comes first
same_turned : (a b : ContextOf (List ℕ)) → is_same_context a b ≡ same_context b a
same_turned a b =
    rw (nat_list_eq_equiv.symm a.user b.user, nat_list_eq_equiv.symm a.role b.role, nat_list_eq_equiv.symm a.kind b.kind)
    (and_joined (bytes_eq b.user a.user) (bytes_eq b.role a.role) (bytes_eq b.kind a.kind))

-- a context is among contexts, whichever comes first
pub any_turned : (context : ContextOf (List ℕ)) (kept : List (ContextOf (List ℕ))) → list_any (is_same_context context) kept ≡ list_any (λ one. same_context one context) kept
any_turned context [] = refl
any_turned context (one ∷ kept) = rw (same_turned context one, any_turned context kept) refl

-- a name is among the names of lines
any_named : {X : Type 0} (name_of : X → List ℕ) (lines : List X) (name : List ℕ) → list_any (bytes_eq name) (map name_of lines) ≡ list_any (λ line. bytes_eq (name_of line) name) lines
any_named name_of [] name = refl
any_named name_of (line ∷ lines) name = rw (nat_list_eq_equiv.symm name (name_of line), any_named name_of lines name) refl

-- a type by the index of types
pub kind_indexed : (kinds : List KindLine) (index : List (List ℕ)) (name : List ℕ) → index ≡ map (λ line. line.name) kinds → list_any (bytes_eq name) index ≡ is_kind kinds name
unfolding is_kind
kind_indexed kinds index name is = rw is (any_named (λ (line : KindLine). line.name) kinds name)

-- an attribute by the index of attributes
pub attribute_indexed : (attributes : List AttributeLine) (index : List (List ℕ)) (name : List ℕ) → index ≡ map (λ line. line.name) attributes → list_any (bytes_eq name) index ≡ is_attribute attributes name
unfolding is_attribute
attribute_indexed attributes index name is = rw is (any_named (λ (line : AttributeLine). line.name) attributes name)

-- a context is among the contexts of lines
any_context : (lines : List ContextLine) (context : ContextOf (List ℕ)) → list_any (λ kept. same_context kept context) (contexts_in lines) ≡ list_any (λ line. same_context line.context context) lines
any_context [] context = refl
any_context (line ∷ lines) context = ap (λ b. same_context line.context context || b) (any_context lines context)

-- a context by the index of contexts
pub context_indexed : (lines : List ContextLine) (index : List (ContextOf (List ℕ))) (context : ContextOf (List ℕ)) → index ≡ contexts_in lines → list_any (λ kept. same_context kept context) index ≡ has_context lines context
unfolding has_context
context_indexed lines index context is = rw is (any_context lines context)

-- an index grows with the list whose members it has
pub indexed_more : {X Y : Type 0} (of : X → Y) (lines : List X) (index : List Y) (line : X) (y : Y) → index ≡ map of lines → of line ≡ y → index ++ y ∷ [] ≡ map of (lines ++ line ∷ [])
indexed_more of lines index line y is same = rw (map-append of lines (line ∷ []), same, is) refl

-- a list without its last member
abbrev but_last : {X : Type 0} → List X → List X
but_last [] = []
but_last (x ∷ []) = []
but_last (x ∷ y ∷ ys) = x ∷ but_last (y ∷ ys)

but_last-snoc : {X : Type 0} (xs : List X) (x : X) → but_last (xs ++ x ∷ []) ≡ xs
but_last-snoc [] x = refl
but_last-snoc (y ∷ []) x = refl
but_last-snoc (y ∷ z ∷ zs) x = ap (λ ys. y ∷ ys) (but_last-snoc (z ∷ zs) x)

-- a list that lost the member that it had got is as before
pub taken_off : {X : Type 0} (before after : List X) (got lost : X) → before ++ got ∷ [] ≡ after ++ lost ∷ [] → after ≡ before
taken_off before after got lost same = sym (but_last-snoc after lost) ∙ (ap but_last (sym same) ∙ but_last-snoc before got)

-- the list that had got a member, and then lost its last one
pub popped : {X : Type 0} (before after got : List X) (member : X) (lost : Option X) → got ≡ before ++ member ∷ [] → MatchOption lost ((got ≡ []) × (after ≡ [])) (λ one. got ≡ after ++ one ∷ []) → after ≡ before
popped [] after got member None grown h = let never : member ∷ [] ≡ [] = sym grown ∙ h.0 in cc
popped (x ∷ xs) after got member None grown h = let never : x ∷ (xs ++ member ∷ []) ≡ [] = sym grown ∙ h.0 in cc
popped before after got member (Some one) grown h = taken_off before after member one (sym grown ∙ h)

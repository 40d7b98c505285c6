-- What policies have in common that say the same.
use Rattle.std.proofs.Common.{◌≡◌, ◌∙◌, ◌+◌, ℕ, Bool, not, List, [], ◌∷◌, ◌++◌, map, length, refl, sym, ap}
use Rattle.std.specs.Prelude.{◌&&◌, ◌||◌, ◌==◌}
use Rattle.std.specs.List.{list_all, list_any, position}
use Rattle.std.specs.Str.{bytes_eq}
use Rattle.std.proofs.lemmas.List.{length-map, map-append}
use Rattle.flask_sid.specs.declared.context.ContextOf.{ContextOf}
use Rattle.access_vectors.proofs.Places.{position-map}
use Rattle.policy_model.specs.declared.policy.WhoOf.{WhoOf}
use Rattle.policy_model.specs.declared.policy.WhoOf.TheVariants.{Named, Any, Itself}
use Rattle.policy_model.specs.declared.policy.ContextLine.{ContextLine}
use Rattle.policy_model.specs.declared.policy.PolicyParts.{PolicyParts}
use Rattle.policy_model.specs.Declarations.{is_kind, is_attribute, same_context, has_context, is_known_who, listed_count}
use Rattle.policy_text.specs.Above.{has_version}
use Rattle.policy_print.specs.Same.{bare_context, bare_kind, bare_attribute, bare_pattern, bare_version, IsSamePolicy}

-- lists that are the same but for their lines are of one length
pub same_length : {X : Type 0} (bare : X → X) (xs ys : List X) → map bare xs ≡ map bare ys → length xs ≡ length ys
same_length bare xs ys same = sym (length-map xs bare) ∙ ap length same ∙ length-map ys bare

-- a test that looks at no line
any_bare : {X : Type 0} (bare : X → X) (p : X → Bool) → ((x : X) → p (bare x) ≡ p x) → (xs : List X) → list_any p (map bare xs) ≡ list_any p xs
any_bare bare p blind [] = refl
any_bare bare p blind (x ∷ xs) = ap (λ t. t || list_any p (map bare xs)) (blind x) ∙ ap (λ t. p x || t) (any_bare bare p blind xs)

-- such a test tells the same of lists that are the same
same_any : {X : Type 0} (bare : X → X) (p : X → Bool) → ((x : X) → p (bare x) ≡ p x) → (xs ys : List X) → map bare xs ≡ map bare ys → list_any p xs ≡ list_any p ys
same_any bare p blind xs ys same = sym (any_bare bare p blind xs) ∙ ap (λ zs. list_any p zs) same ∙ any_bare bare p blind ys

-- one member more
pub same_snoc : {X : Type 0} (bare : X → X) (xs ys : List X) (x y : X) → map bare xs ≡ map bare ys → bare x ≡ bare y → map bare (xs ++ x ∷ []) ≡ map bare (ys ++ y ∷ [])
same_snoc bare xs ys x y same one =
    map-append bare xs (x ∷ []) ∙ ap (λ zs. zs ++ bare x ∷ []) same ∙ ap (λ z. map bare ys ++ z ∷ []) one ∙ sym (map-append bare ys (y ∷ []))

-- equal tests of each member
all_same : {X : Type 0} (p q : X → Bool) → ((x : X) → p x ≡ q x) → (xs : List X) → list_all p xs ≡ list_all q xs
all_same p q same [] = refl
all_same p q same (x ∷ xs) = ap (λ t. t && list_all p xs) (same x) ∙ ap (λ t. q x && t) (all_same p q same xs)

-- the same types are declared
pub kind_same : (one other : PolicyParts) → IsSamePolicy one other → (name : List ℕ) → is_kind one.kinds name ≡ is_kind other.kinds name
unfolding is_kind
kind_same one other same name = same_any bare_kind (λ kind. bytes_eq kind.name name) (λ kind. refl) one.kinds other.kinds same.kinds

-- the same attributes are declared
pub attribute_same : (one other : PolicyParts) → IsSamePolicy one other → (name : List ℕ) → is_attribute one.attributes name ≡ is_attribute other.attributes name
unfolding is_attribute
attribute_same one other same name = same_any bare_attribute (λ line. bytes_eq line.name name) (λ line. refl) one.attributes other.attributes same.attributes

-- the same contexts are declared
pub context_same : (one other : PolicyParts) → IsSamePolicy one other → (context : ContextOf (List ℕ)) → has_context one.contexts context ≡ has_context other.contexts context
unfolding has_context
context_same one other same context = same_any bare_context (λ line. same_context line.context context) (λ line. refl) one.contexts other.contexts same.contexts

-- a line may speak of the same
pub known_same : (one other : PolicyParts) → IsSamePolicy one other → (who : WhoOf (List ℕ)) → is_known_who one.kinds one.attributes who ≡ is_known_who other.kinds other.attributes who
known_same one other same (Named name) =
    ap (λ t. t || is_attribute one.attributes name) (kind_same one other same name) ∙ ap (λ t. is_kind other.kinds name || t) (attribute_same one other same name)
known_same one other same Any = refl
known_same one other same Itself = refl

-- the same members are declared
pub members_same : (one other : PolicyParts) → IsSamePolicy one other → (names : List (List ℕ)) → list_all (is_kind one.kinds) names ≡ list_all (is_kind other.kinds) names
members_same one other same names = all_same (is_kind one.kinds) (is_kind other.kinds) (kind_same one other same) names

-- a version has begun in both or in none
pub begun_same : (one other : PolicyParts) → IsSamePolicy one other → has_version one ≡ has_version other
begun_same one other same = ap (λ n. not (n == 0)) (same_length bare_version one.versions other.versions same.versions)

-- as many lines on permissions stand outside the versions
pub listed_same : (one other : PolicyParts) → IsSamePolicy one other → listed_count one ≡ listed_count other
listed_same one other same =
    ap (λ n. n + length one.silent + length one.loud) (same_length bare_pattern one.nevers other.nevers same.nevers)
    ∙ ap (λ n. length other.nevers + n + length one.loud) (same_length bare_pattern one.silent other.silent same.silent)
    ∙ ap (λ n. length other.nevers + length other.silent + n) (same_length bare_pattern one.loud other.loud same.loud)

-- lists without lines, seen by what looks at no line
map_bare : {X Y : Type 0} (bare : X → X) (f : X → Y) → ((x : X) → f (bare x) ≡ f x) → (xs : List X) → map f (map bare xs) ≡ map f xs
map_bare bare f blind [] = refl
map_bare bare f blind (x ∷ xs) = ap (λ y. y ∷ map f (map bare xs)) (blind x) ∙ ap (λ ys. f x ∷ ys) (map_bare bare f blind xs)

-- the same contexts in the same order
pub contexts_same : (one other : PolicyParts) → IsSamePolicy one other → map (λ (line : ContextLine). line.context) one.contexts ≡ map (λ (line : ContextLine). line.context) other.contexts
contexts_same one other same =
    sym (map_bare bare_context (λ (line : ContextLine). line.context) (λ line. refl) one.contexts)
    ∙ ap (λ lines. map (λ (line : ContextLine). line.context) lines) same.contexts
    ∙ map_bare bare_context (λ (line : ContextLine). line.context) (λ line. refl) other.contexts

-- a context has the same place in both
pub context_place_same : (one other : PolicyParts) → IsSamePolicy one other → (context : ContextOf (List ℕ)) → position (λ line. same_context line.context context) one.contexts ≡ position (λ line. same_context line.context context) other.contexts
context_place_same one other same context =
    sym (position-map (λ one. same_context one context) (λ (line : ContextLine). line.context) one.contexts)
    ∙ ap (λ contexts. position (λ one. same_context one context) contexts) (contexts_same one other same)
    ∙ position-map (λ one. same_context one context) (λ (line : ContextLine). line.context) other.contexts

-- a policy says the same as itself
pub same_itself : (policy : PolicyParts) → IsSamePolicy policy policy
same_itself policy = record { contexts = refl; kinds = refl; attributes = refl; nevers = refl; silent = refl; loud = refl; versions = refl }

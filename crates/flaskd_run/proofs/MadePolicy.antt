-- The policy of the sessions fits: it leads to six contexts at most, and has no `neverallow` line.
use Rattle.std.proofs.Common.{◌≡◌, ◌∙◌, ◌≤◌, ◌⊎◌, inl, inr, ℕ, zero, suc, Bool, true, false, cond, List, [], ◌∷◌, length, slice_get, Some, None, codes, refl, sym, subst, arith}
use Rattle.std.specs.List.{All, Contains, list_all}
use Rattle.std.specs.Set.{is_member}
use Rattle.std.proofs.lemmas.Bool.{and_parts}
use Rattle.std.proofs.lemmas.List.Elements.{All-contains, All-from_recursion}
use Rattle.std.proofs.lemmas.Map.Views.{Contains-from_any}
use Rattle.std.proofs.lemmas.Map.Made.{length-le_from_is_member}
use Rattle.flask_sid.specs.declared.context.ContextOf.{ContextOf}
use Rattle.flask_sid.specs.SidTables.{is_same_context}
use Rattle.access_vectors.specs.declared.class.Class.{Class}
use Rattle.policy_model.specs.declared.policy.Labelling.{Labelling}
use Rattle.policy_model.specs.declared.policy.Labelling.TheVariants as labelling
use Rattle.policy_model.specs.declared.policy.AttributeLine.{AttributeLine}
use Rattle.policy_model.specs.declared.policy.RuleLine.{RuleLine}
use Rattle.policy_model.specs.declared.policy.Verdict.{Verdict}
use Rattle.policy_model.specs.declared.policy.Verdict.TheVariants.{Allow, Withhold, Transition, Member}
use Rattle.policy_model.specs.declared.policy.Version.{Version}
use Rattle.policy_model.specs.Declarations.{rules_of}
use Rattle.policy_model.specs.Matching.{matches}
use Rattle.policy_model.specs.Deciding.{last_said, kind_given, gives_kind, rules_at, given_kind, takes_after_maker, object_role, label_of, member_of}
use Rattle.policy_text.proofs.OnLiterals.{policies_on_literals}
use Rattle.policy_versions.specs.Closure.{declared_contexts, IsDerivable, declared, label, member, HasTooMany}
use Rattle.policy_versions.specs.Nevers.{break_in, first_break}
use Rattle.policy_versions.specs.Judging.{Judged, TooMany, Broken, Fits, IsJudged}
use Rattle.policy_versions.proofs.NeverLemmas.{below_none}
use Rattle.policy_versions.proofs.RoundLemmas.{same_context}
use Rattle.policy_versions.proofs.IdentifierLemmas.{same_context_equiv}
use Rattle.session_generator.specs.Generated.{policy}

-- a verdict that gives no type
abbrev gives_no_type : Verdict → Bool
gives_no_type (Allow perms) = true
gives_no_type (Withhold perms) = true
gives_no_type (Transition kind) = false
gives_no_type (Member kind) = false

-- rule lines none of which gives a type
abbrev give_no_type : List RuleLine → Bool
give_no_type rules = list_all (λ rule. gives_no_type rule.verdict) rules

-- versions none of whose rule lines gives a type
abbrev have_no_type : List Version → Bool
have_no_type versions = list_all (λ version. give_no_type version.rules) versions

-- the same on both branches
either : {X : Type 0} (b : Bool) (x : X) → cond b x x ≡ x
either true x = refl
either false x = refl

-- such a verdict gives a new object no type, and a member none
none_of_verdict : (which : Labelling) (verdict : Verdict) → gives_no_type verdict ≡ true → kind_given which verdict ≡ None
none_of_verdict labelling.Transition (Allow perms) none = refl
none_of_verdict labelling.Transition (Withhold perms) none = refl
none_of_verdict labelling.Transition (Transition kind) none = cc
none_of_verdict labelling.Transition (Member kind) none = refl
none_of_verdict labelling.Member (Allow perms) none = refl
none_of_verdict labelling.Member (Withhold perms) none = refl
none_of_verdict labelling.Member (Transition kind) none = refl
none_of_verdict labelling.Member (Member kind) none = cc

-- nor does its line give one, whether it matches or not
none_of_rule : (which : Labelling) (attributes : List AttributeLine) (s t : List ℕ) (class : Class) (rule : RuleLine) → gives_no_type rule.verdict ≡ true → gives_kind which attributes s t class rule ≡ None
unfolding gives_kind
none_of_rule which attributes s t class rule none =
    rw (none_of_verdict which rule.verdict none) (either (matches attributes rule s t class) None)

-- nor do several such lines
none_of_rules : (which : Labelling) (attributes : List AttributeLine) (s t : List ℕ) (class : Class) (rules : List RuleLine) → give_no_type rules ≡ true → last_said (gives_kind which attributes s t class) rules ≡ None
none_of_rules which attributes s t class [] none = refl
none_of_rules which attributes s t class (rule ∷ rules) none =
    let parts = and_parts (gives_no_type rule.verdict) (give_no_type rules) none in
    rw (none_of_rules which attributes s t class rules parts.1) (none_of_rule which attributes s t class rule parts.0)

-- the lines of one of several such versions, and of none where there is no such version
rules_at_version : (versions : List Version) (version : ℕ) → have_no_type versions ≡ true → give_no_type (rules_of (slice_get versions version)) ≡ true
rules_at_version [] version none = refl
rules_at_version (one ∷ versions) zero none = (and_parts (give_no_type one.rules) (have_no_type versions) none).0
rules_at_version (one ∷ versions) (suc version) none = rules_at_version versions version (and_parts (give_no_type one.rules) (have_no_type versions) none).1

-- no rule line of the policy gives a type
policy_has_no_type : have_no_type policy.versions ≡ true
unfolding policies_on_literals policy
policy_has_no_type = refl

-- so no version gives one
none_given : (which : Labelling) (version : ℕ) (s t : List ℕ) (class : Class) → given_kind which policy version s t class ≡ None
unfolding given_kind rules_at
none_given which version s t class =
    none_of_rules which policy.attributes s t class (rules_of (slice_get policy.versions version)) (rules_at_version policy.versions version policy_has_no_type)

-- the roles of the contexts that the policy leads to
abbrev IsRole : List ℕ → Type 0
IsRole role = (role ≡ codes "r") ⊎ (role ≡ object_role)

-- their types
abbrev IsType : List ℕ → Type 0
IsType kind = (kind ≡ codes "a_t") ⊎ (kind ≡ codes "b_t") ⊎ (kind ≡ codes "d_t")

-- a context of the one user, and of such a role and type
record IsOneOfSix (context : ContextOf (List ℕ)) : Type 0 where
  user : context.user ≡ codes "u"
  role : IsRole context.role
  kind : IsType context.kind

-- the context of the one user with a role and a type
abbrev context_by : List ℕ → List ℕ → ContextOf (List ℕ)
context_by role kind = record { user = codes "u"; role = role; kind = kind }

-- the declared contexts
abbrev three : List (ContextOf (List ℕ))
three = context_by (codes "r") (codes "a_t") ∷ context_by (codes "r") (codes "b_t") ∷ context_by object_role (codes "d_t") ∷ []

-- they are what the policy declares
policy_declares_three : declared_contexts policy ≡ three
unfolding policies_on_literals policy
policy_declares_three = refl

-- each of them is such a one
three_are_of_six : All IsOneOfSix three
three_are_of_six = All-from_recursion IsOneOfSix three (
  record { user = refl; role = inl refl; kind = inl refl },
  (
    record { user = refl; role = inl refl; kind = inr (inl refl) },
    (record { user = refl; role = inr refl; kind = inr (inr refl) }, tt),
  ),
)

-- the label of a new object has the user and the role of its maker, or `object_r`, and the type of one of the two
label_is_of_six : (version : ℕ) (s t : ContextOf (List ℕ)) (class : Class) → IsOneOfSix s → IsOneOfSix t → IsOneOfSix (label_of policy version s t class)
unfolding label_of
label_is_of_six version s t class of_s of_t = record {
  user = of_s.user;
  role = by_role (takes_after_maker class);
  kind = rw (none_given labelling.Transition version s.kind t.kind class) (by_kind (takes_after_maker class));
}
  where
    by_role : (own : Bool) → IsRole (cond own s.role object_role)
    by_role true = of_s.role
    by_role false = inr refl

    by_kind : (own : Bool) → IsType (cond own s.kind t.kind)
    by_kind true = of_s.kind
    by_kind false = of_t.kind

-- the member of a set is the set
member_is_of_six : (version : ℕ) (s t : ContextOf (List ℕ)) (class : Class) → IsOneOfSix t → IsOneOfSix (member_of policy version s t class)
unfolding member_of
member_is_of_six version s t class of_t = rw (none_given labelling.Member version s.kind t.kind class) of_t

-- so each context that the policy leads to is such a one
derivable_is_of_six : (context : ContextOf (List ℕ)) → IsDerivable policy context → IsOneOfSix context
derivable_is_of_six _ (declared context is) = All-contains IsOneOfSix (declared_contexts policy) context (subst (All IsOneOfSix) (sym policy_declares_three) three_are_of_six) is
derivable_is_of_six _ (label version s t class below of_s of_t) = label_is_of_six version s t class (derivable_is_of_six s of_s) (derivable_is_of_six t of_t)
derivable_is_of_six _ (member version s t class below of_s of_t) = member_is_of_six version s t class (derivable_is_of_six t of_t)

-- all contexts of the one user, such a role and such a type
abbrev six : List (ContextOf (List ℕ))
six =
    context_by (codes "r") (codes "a_t") ∷ context_by (codes "r") (codes "b_t") ∷ context_by (codes "r") (codes "d_t")
    ∷ context_by object_role (codes "a_t") ∷ context_by object_role (codes "b_t") ∷ context_by object_role (codes "d_t") ∷ []

-- such a context is one of them
six_have : (context : ContextOf (List ℕ)) → IsOneOfSix context → is_member is_same_context six context ≡ true
six_have context is = by_parts is.role is.kind
  where
    by_parts : IsRole context.role → IsType context.kind → is_member is_same_context six context ≡ true
    by_parts (inl role) (inl kind) = rw (is.user, role, kind) refl
    by_parts (inl role) (inr (inl kind)) = rw (is.user, role, kind) refl
    by_parts (inl role) (inr (inr kind)) = rw (is.user, role, kind) refl
    by_parts (inr role) (inl kind) = rw (is.user, role, kind) refl
    by_parts (inr role) (inr (inl kind)) = rw (is.user, role, kind) refl
    by_parts (inr role) (inr (inr kind)) = rw (is.user, role, kind) refl

-- the policy does not lead to too many contexts
pub has_room : HasTooMany policy → ⊥
has_room many =
    let within : length many.contexts ≤ 6 = length-le_from_is_member same_context_equiv many.contexts six many.distinct (λ context is.
    (let among : Contains many.contexts context = Contains-from_any same_context context many.contexts is in
    six_have context (derivable_is_of_six context (All-contains (IsDerivable policy) many.contexts context many.sound among)))) in
    omega (arith, many.many, within)

-- it has no `neverallow` line
policy_forbids_nothing : policy.nevers ≡ []
unfolding policies_on_literals policy
policy_forbids_nothing = refl

-- so no version breaks one
pub none_broken : first_break policy ≡ None
unfolding first_break break_in
none_broken = below_none (break_in policy) (length policy.versions) (λ version below. rw policy_forbids_nothing refl)

-- so it is judged to fit
pub fits : (judged : Judged) → IsJudged policy judged → (contexts : List (ContextOf (List ℕ))) × (judged ≡ Fits contexts)
fits TooMany many = absurd (has_room many)
fits (Broken found) is =
    let both : None ≡ Some found = sym none_broken ∙ is.1 in
    cc
fits (Fits contexts) is = (contexts, refl)

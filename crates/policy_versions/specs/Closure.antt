-- The contexts that a policy leads to.
use Rattle.std.specs.Prelude.{◌≡◌, ℕ, ◌<◌, List, ◌++◌, length, map}
use Rattle.std.specs.declared.cmp.Ordering.{Ordering}
use Rattle.std.specs.List.{All, Contains}
use Rattle.std.specs.List.Sorted.{IsStrictlySortedBy}
use Rattle.std.specs.Cmp.Lexicographic.{slice_cmp}
use Rattle.std.specs.Ordering.{nat_cmp}
use Rattle.flask_sid.specs.Contexts.{context_text}
use Rattle.flask_sid.specs.SidTables.{AreDistinct}
use Rattle.flask_sid.specs.declared.context.ContextOf.{ContextOf}
use Rattle.access_vectors.specs.declared.class.Class.{Class}
use Rattle.policy_model.specs.Deciding.{label_of, member_of}
use Rattle.policy_model.specs.declared.policy.PolicyParts.{PolicyParts}

-- the declared contexts, in their order
abbrev pub declared_contexts : PolicyParts → List (ContextOf (List ℕ))
declared_contexts policy = map (λ line. line.context) policy.contexts

-- a policy leads to a context: it declares the context, or the context is the label of a new object or the member of a set
-- that one of its versions gives for a class and two contexts that it leads to
pub data IsDerivable (policy : PolicyParts) : ContextOf (List ℕ) → Type 0 where
  declared : (context : ContextOf (List ℕ)) → Contains (declared_contexts policy) context → IsDerivable policy context
  label : (version : ℕ) (s t : ContextOf (List ℕ)) (class : Class) → version < length policy.versions → IsDerivable policy s → IsDerivable policy t
      → IsDerivable policy (label_of policy version s t class)
  member : (version : ℕ) (s t : ContextOf (List ℕ)) (class : Class) → version < length policy.versions → IsDerivable policy s → IsDerivable policy t
      → IsDerivable policy (member_of policy version s t class)

-- contexts in byte order of their texts
abbrev pub text_order : ContextOf (List ℕ) → ContextOf (List ℕ) → Ordering
text_order a b = slice_cmp nat_cmp (context_text a) (context_text b)

-- contexts that a policy leads to besides the declared ones: they follow one another strictly in byte order of their
-- texts, and with the declared ones they are all different, and all that the policy leads to
pub record AreDerived (policy : PolicyParts) (derived : List (ContextOf (List ℕ))) : Type 0 where
  pub ordered : IsStrictlySortedBy text_order derived
  pub distinct : AreDistinct (declared_contexts policy ++ derived)
  pub sound : (context : ContextOf (List ℕ)) → Contains derived context → IsDerivable policy context
  pub whole : (context : ContextOf (List ℕ)) → IsDerivable policy context → Contains (declared_contexts policy ++ derived) context

-- a policy's contexts in the order of their identifiers: the declared ones first, then the others
pub record AreContexts (policy : PolicyParts) (contexts : List (ContextOf (List ℕ))) : Type 0 where
  pub derived : List (ContextOf (List ℕ))
  pub are_derived : AreDerived policy derived
  pub all : contexts ≡ declared_contexts policy ++ derived

-- more contexts than there are identifiers: 4,096 different ones
pub record HasTooMany (policy : PolicyParts) : Type 0 where
  pub contexts : List (ContextOf (List ℕ))
  pub many : length contexts ≡ 4096
  pub distinct : AreDistinct contexts
  pub sound : All (IsDerivable policy) contexts

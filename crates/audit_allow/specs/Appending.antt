-- What a policy decides with the lines of grants behind those of a version.
use Rattle.std.specs.Prelude.{◌≡◌, ℕ, zero, suc, ◌<◌, Bool, true, false, List, [], ◌∷◌, ◌++◌, length, map, slice_get, Some, bit_or}
use Rattle.flask_sid.specs.declared.context.ContextOf.{ContextOf}
use Rattle.access_vectors.specs.declared.asked.Asked.{Asked}
use Rattle.access_vectors.specs.declared.class.Class.{Class}
use Rattle.access_vectors.specs.Vectors.{has}
use Rattle.policy_model.specs.declared.policy.Pattern.{Pattern}
use Rattle.policy_model.specs.declared.policy.PolicyParts.{PolicyParts}
use Rattle.policy_model.specs.declared.policy.RuleLine.{RuleLine}
use Rattle.policy_model.specs.declared.policy.Verdict.TheVariants as verdict
use Rattle.policy_model.specs.declared.policy.Version.{Version}
use Rattle.policy_model.specs.declared.policy.WhoOf.TheVariants.{Named}
use Rattle.policy_model.specs.Deciding.{rules_at, vector_of, label_of, member_of}
use Rattle.policy_versions.specs.Nevers.{is_broken}
use Rattle.policy_versions.specs.Places.{kind_at}
use Rattle.audit_allow.specs.declared.grant.Grant.{Grant}
use Rattle.audit_allow.specs.declared.grant.GrantKind.TheVariants.{Allow}
use Rattle.audit_allow.specs.Denials.{Lesson, source_of, target_of, is_forbidden}
use Rattle.audit_allow.specs.Grants.{learned_vector}

-- the `allow` line of a grant
abbrev pub line_of : PolicyParts → Grant → RuleLine
line_of policy grant = record {
  line = 0;
  source = Named (kind_at policy grant.s);
  target = Named (kind_at policy grant.t);
  class = grant.class;
  verdict = verdict.Allow grant.perms;
}

-- versions with lines behind those of the one that has this number
abbrev pub versions_with : List Version → ℕ → List RuleLine → List Version
versions_with [] version lines = []
versions_with (first ∷ others) zero lines = record { line = first.line; rules = first.rules ++ lines } ∷ others
versions_with (first ∷ others) (suc version) lines = first ∷ versions_with others version lines

-- a policy with the lines of grants behind those of a version
unfoldable pub appended : PolicyParts → ℕ → List Grant → PolicyParts
appended policy version grants = record {
  contexts = policy.contexts;
  kinds = policy.kinds;
  attributes = policy.attributes;
  nevers = policy.nevers;
  silent = policy.silent;
  loud = policy.loud;
  versions = versions_with policy.versions version (map (line_of policy) grants);
}

-- what these lines change: in that version each pair of types and each class has the permissions that were denied and that no
-- `neverallow` line matches besides its own. Nothing else changes, and no `neverallow` line that held is broken
pub record Teaches (lesson : Lesson) (version : ℕ) (after : PolicyParts) : Type 0 where
  pub vectors : (s t : ℕ) (class : Class) → s < length lesson.policy.kinds → t < length lesson.policy.kinds
      → vector_of after version (kind_at lesson.policy s) (kind_at lesson.policy t) class
      ≡ bit_or (vector_of lesson.policy version (kind_at lesson.policy s) (kind_at lesson.policy t) class)
      (learned_vector Allow lesson (kind_at lesson.policy s) (kind_at lesson.policy t) class)
  pub others : (other : ℕ) → (other ≡ version → ⊥) → rules_at after other ≡ rules_at lesson.policy other
  pub labels : (number : ℕ) (s t : ContextOf (List ℕ)) (class : Class) → label_of after number s t class ≡ label_of lesson.policy number s t class
  pub members : (number : ℕ) (s t : ContextOf (List ℕ)) (class : Class) → member_of after number s t class ≡ member_of lesson.policy number s t class
  pub nevers : (pattern : Pattern) (at s t index : ℕ) → slice_get lesson.policy.nevers at ≡ Some pattern
      → s < length lesson.policy.kinds → t < length lesson.policy.kinds → is_broken after version pattern s t index ≡ true
      → is_broken lesson.policy version pattern s t index ≡ true

-- each question that was answered no is one that the version denies
abbrev pub AreDenials : Lesson → ℕ → Type 0
AreDenials lesson version =
    (at : ℕ) (asked : Asked) → slice_get lesson.asked at ≡ Some asked → asked.yes ≡ false
    → has (vector_of lesson.policy version (source_of lesson.contexts asked) (target_of lesson.contexts asked) asked.perm.class) asked.perm.index ≡ false

-- a question was denied that no `neverallow` line matches, and that a policy still denies
pub record Lacks (lesson : Lesson) (version : ℕ) (after : PolicyParts) : Type 0 where
  pub at : ℕ
  pub asked : Asked
  pub is_asked : slice_get lesson.asked at ≡ Some asked
  pub denied : asked.yes ≡ false
  pub free : is_forbidden lesson.policy (source_of lesson.contexts asked) (target_of lesson.contexts asked) asked.perm ≡ false
  pub missing : has (vector_of after version (source_of lesson.contexts asked) (target_of lesson.contexts asked) asked.perm.class) asked.perm.index ≡ false

-- without any one of these grants a denied question is still denied, where the version denies each of them
abbrev pub AreLeast : Lesson → ℕ → List Grant → Type 0
AreLeast lesson version grants =
    AreDenials lesson version → (front back : List Grant) (grant : Grant) → grants ≡ front ++ grant ∷ back
    → Lacks lesson version (appended lesson.policy version (front ++ back))

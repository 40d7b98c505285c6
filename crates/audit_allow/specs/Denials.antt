-- What was denied between two types, and which of it no version may allow.
use Rattle.std.specs.Prelude.{ℕ, Bool, not, ◌&&◌, ◌==◌, List}
use Rattle.std.specs.List.{list_any}
use Rattle.std.specs.Str.{bytes_eq}
use Rattle.flask_sid.specs.declared.context.ContextOf.{ContextOf}
use Rattle.access_vectors.specs.Table.{Permission}
use Rattle.access_vectors.specs.declared.asked.Asked.{Asked}
use Rattle.policy_model.specs.declared.policy.PolicyParts.{PolicyParts}
use Rattle.policy_model.specs.Matching.{is_same_class, matches_permission}
use Rattle.policy_versions.specs.Judging.{context_with}

-- what is learned from: a policy, its contexts by their identifiers, and questions with their answers
pub record Lesson : Type 0 where
  pub policy : PolicyParts
  pub contexts : List (ContextOf (List ℕ))
  pub asked : List Asked

-- the types of a question's source and of its target
abbrev pub source_of : List (ContextOf (List ℕ)) → Asked → List ℕ
source_of contexts asked = (context_with contexts asked.s).kind

abbrev pub target_of : List (ContextOf (List ℕ)) → Asked → List ℕ
target_of contexts asked = (context_with contexts asked.t).kind

-- a question was about this permission
abbrev pub is_about : Permission → Asked → Bool
is_about perm asked = is_same_class asked.perm.class perm.class && asked.perm.index == perm.index

-- a question was about a source of one type and a target of another
abbrev pub is_between : List (ContextOf (List ℕ)) → List ℕ → List ℕ → Asked → Bool
is_between contexts s t asked = bytes_eq (source_of contexts asked) s && bytes_eq (target_of contexts asked) t

-- a question denied a source of one type this permission on a target of another
unfoldable pub is_denial_of : List (ContextOf (List ℕ)) → List ℕ → List ℕ → Permission → Asked → Bool
is_denial_of contexts s t perm asked = not asked.yes && (is_between contexts s t asked && is_about perm asked)

-- one of these questions did
unfoldable pub is_denied : List (ContextOf (List ℕ)) → List Asked → List ℕ → List ℕ → Permission → Bool
is_denied contexts asked s t perm = list_any (is_denial_of contexts s t perm) asked

-- some `neverallow` line matches a permission of a source of one type on a target of another
unfoldable pub is_forbidden : PolicyParts → List ℕ → List ℕ → Permission → Bool
is_forbidden policy s t perm = list_any (λ pattern. matches_permission policy.attributes pattern s t perm) policy.nevers

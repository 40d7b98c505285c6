-- A first policy, and what the definitions say of it.
use Rattle.std.specs.Prelude.{◌≡◌, ℕ, List, [], ◌∷◌, Ok, codes}
use Rattle.access_vectors.specs.declared.class.Class.TheVariants.{File, Dir, Process}
use Rattle.policy_model.specs.declared.policy.PolicyParts.{PolicyParts}
use Rattle.policy_model.specs.declared.policy.WhoOf.TheVariants.{Named}
use Rattle.policy_model.specs.declared.policy.Verdict.TheVariants.{Allow}
use Rattle.policy_text.specs.Grammar.{policy_of}
use Rattle.policy_model.specs.Deciding.{vector_of}

-- one context, and one version of two rule lines
abbrev pub smallest_text : List ℕ
smallest_text = codes "policy 1\ncontext u:r:t\nversion\nallow t t file read\nallow t t dir search\n"

-- what those lines say
abbrev pub smallest_policy : PolicyParts
smallest_policy = record {
  contexts = record { line = 2; context = record { user = codes "u"; role = codes "r"; kind = codes "t" } } ∷ [];
  kinds = record { line = 2; name = codes "t" } ∷ [];
  attributes = [];
  nevers = [];
  silent = [];
  loud = [];
  versions = record {
    line = 3;
    rules = record { line = 4; source = Named (codes "t"); target = Named (codes "t"); class = File; verdict = Allow 1 }
        ∷ record { line = 5; source = Named (codes "t"); target = Named (codes "t"); class = Dir; verdict = Allow 2 }
        ∷ [];
  } ∷ [];
}

-- the text is that policy, whose only version allows t to read a file and to search a directory of type t, and nothing
-- else: neither with a process of type t, nor with a file of any other type
pub record AnswersOfSmallest (text : List ℕ) : Type 0 where
  pub policy : policy_of text ≡ Ok smallest_policy
  pub file : vector_of smallest_policy 0 (codes "t") (codes "t") File ≡ 1
  pub dir : vector_of smallest_policy 0 (codes "t") (codes "t") Dir ≡ 2
  pub process : vector_of smallest_policy 0 (codes "t") (codes "t") Process ≡ 0
  pub other : vector_of smallest_policy 0 (codes "t") (codes "u") File ≡ 0

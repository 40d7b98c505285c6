-- A policy and the indexes of what it declares.
use Rattle.std.specs.Prelude.{◌≡◌, ℕ, List, map}
use Rattle.std.specs.List.{All}
use Rattle.flask_sid.specs.declared.context.ContextOf.{ContextOf}
use Rattle.policy_model.specs.declared.policy.PolicyParts.{PolicyParts}
use Rattle.policy_text.specs.Above.{contexts_in}
use Rattle.policy_text.specs.Plain.{IsPlain}

-- the indexes have what the policy declares, in its order: the names of types and of attributes, and the contexts; and
-- nothing is wrong with the plain names
pub record IsIndexed (policy : PolicyParts) (kind_index attribute_index : List (List ℕ)) (context_index : List (ContextOf (List ℕ))) (plain_names : List (List ℕ)) : Type 0 where
  pub kinds : kind_index ≡ map (λ line. line.name) policy.kinds
  pub attributes : attribute_index ≡ map (λ line. line.name) policy.attributes
  pub contexts : context_index ≡ contexts_in policy.contexts
  pub plain : All (IsPlain policy.kinds policy.attributes) plain_names

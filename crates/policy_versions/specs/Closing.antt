-- What the closing starts from, and what it ends with.
use Rattle.std.specs.Prelude.{◌≡◌, ℕ, ◌<◌, true, List, length, map}
use Rattle.std.specs.List.{All}
use Rattle.flask_sid.specs.declared.context.ContextOf.{ContextOf}
use Rattle.policy_model.specs.declared.policy.PolicyParts.{PolicyParts}
use Rattle.policy_versions.specs.Closure.{IsDerivable}
use Rattle.policy_versions.specs.Numbers.{context_at, has_place, Derives}
use Rattle.policy_versions.specs.declared.user_role.UserRole.{UserRole}
use Rattle.policy_versions.specs.declared.place.Place.{Place}

-- the contexts of places
abbrev pub contexts_of : PolicyParts → List UserRole → List Place → List (ContextOf (List ℕ))
contexts_of policy users places = map (λ place. context_at policy users place.row place.kind) places

-- the policy leads to the context of each place
abbrev pub AllDerive : PolicyParts → List UserRole → List Place → Type 0
AllDerive policy users places = All (λ place. Derives policy users place.row place.kind) places

-- a context has a place among these
pub record HasContext (policy : PolicyParts) (users : List UserRole) (places : List Place) (context : ContextOf (List ℕ)) : Type 0 where
  pub row : ℕ
  pub kind : ℕ
  pub within : row < length users
  pub small : kind < 128
  pub has : has_place places row kind ≡ true
  pub is : context_at policy users row kind ≡ context

-- the places are those of the contexts to which the policy leads
pub record AreWhole (policy : PolicyParts) (users : List UserRole) (places : List Place) : Type 0 where
  pub sound : AllDerive policy users places
  pub whole : (context : ContextOf (List ℕ)) → IsDerivable policy context → HasContext policy users places context

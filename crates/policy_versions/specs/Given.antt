-- The types that a policy's versions give, by the places of types.
use Rattle.std.specs.Prelude.{◌≡◌, ℕ, ◌<◌, List, length, Option, IfSome}
use Rattle.std.specs.Option.{option_map}
use Rattle.access_vectors.specs.declared.class.Class.{Class}
use Rattle.policy_model.specs.declared.policy.PolicyParts.{PolicyParts}
use Rattle.policy_model.specs.declared.policy.Labelling.{Labelling}
use Rattle.policy_model.specs.declared.policy.Labelling.TheVariants.{Transition, Member}
use Rattle.policy_model.specs.Deciding.{given_kind}
use Rattle.policy_versions.specs.declared.given.GivenRows.{GivenRows}
use Rattle.policy_versions.specs.Places.{kind_at}
use Rattle.policy_versions.specs.Changes.{place_in}
use Rattle.policy_versions.specs.Cells.{cell_at}

-- the place of the type that rows give, if they give one, by a line of a kind, for a version, the places of a source's and
-- a target's type, and a class
abbrev pub given_at : GivenRows → Labelling → ℕ → ℕ → ℕ → Class → Option ℕ
given_at rows Transition version s t class = place_in (cell_at rows.transitions version s t class)
given_at rows Member version s t class = place_in (cell_at rows.members version s t class)

-- what is given is a declared type, and it is the one of that name, if there is one
pub record IsGiven (policy : PolicyParts) (place : Option ℕ) (name : Option (List ℕ)) : Type 0 where
  pub declared : IfSome place (λ at. at < length policy.kinds)
  pub named : option_map (kind_at policy) place ≡ name

-- for any two declared types rows give the types that a policy's versions give
abbrev pub AreGivenOf : PolicyParts → GivenRows → Type 0
AreGivenOf policy rows =
    (kind : Labelling) (version s t : ℕ) (class : Class) → s < length policy.kinds → t < length policy.kinds
    → IsGiven policy (given_at rows kind version s t class) (given_kind kind policy version (kind_at policy s) (kind_at policy t) class)

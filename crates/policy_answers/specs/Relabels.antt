-- Where two versions of a policy give different types, to new objects or as members.
use Rattle.std.specs.Prelude.{ℕ, ◌==◌, Bool, true, false, List, [], ◌∷◌, ◌++◌, length, Option, Some, None, if◌then◌else◌}
use Rattle.std.specs.List.{flat_map}
use Rattle.std.specs.Str.{bytes_eq}
use Rattle.access_vectors.specs.declared.class.Class.{Class}
use Rattle.access_vectors.specs.Table.{classes}
use Rattle.audit_allow.specs.Grants.{joined_below}
use Rattle.policy_model.specs.declared.policy.PolicyParts.{PolicyParts}
use Rattle.policy_model.specs.declared.policy.Labelling.{Labelling}
use Rattle.policy_model.specs.declared.policy.Labelling.TheVariants.{Transition, Member}
use Rattle.policy_model.specs.Deciding.{given_kind}
use Rattle.policy_versions.specs.Places.{kind_at}
use Rattle.policy_answers.specs.Deciders.{labelling_line}
use Rattle.policy_answers.specs.declared.relabelling.Relabel.{Relabel}

-- two versions give the same type, or both give none
abbrev pub is_same_given : Option (List ℕ) → Option (List ℕ) → Bool
is_same_given None None = true
is_same_given (Some kind) (Some other) = bytes_eq kind other
is_same_given given other = false

-- two places are the same, or there is neither
abbrev pub is_same_place : Option ℕ → Option ℕ → Bool
is_same_place None None = true
is_same_place (Some place) (Some other) = place == other
is_same_place place other = false

-- two versions give the same type between the types at two places
abbrev pub gives_same : PolicyParts → ℕ → ℕ → ℕ → ℕ → Class → Labelling → Bool
gives_same policy v w s t class labelling =
    is_same_given (given_kind labelling policy v (kind_at policy s) (kind_at policy t) class) (given_kind labelling policy w (kind_at policy s) (kind_at policy t) class)

-- the lines by which two versions give a type between the types at two places
abbrev pub relabel_on : PolicyParts → ℕ → ℕ → ℕ → ℕ → Class → Labelling → Relabel
relabel_on policy v w s t class labelling = record {
  s = s;
  t = t;
  class = class;
  labelling = labelling;
  before = labelling_line labelling policy v (kind_at policy s) (kind_at policy t) class;
  after = labelling_line labelling policy w (kind_at policy s) (kind_at policy t) class;
}

-- the same, where they do not give the same
abbrev pub relabel_at : PolicyParts → ℕ → ℕ → ℕ → ℕ → Class → Labelling → List Relabel
relabel_at policy v w s t class labelling = if gives_same policy v w s t class labelling then [] else relabel_on policy v w s t class labelling ∷ []

-- in a class: the types of new objects, then those of members
abbrev pub relabels_in : PolicyParts → ℕ → ℕ → ℕ → ℕ → Class → List Relabel
relabels_in policy v w s t class = relabel_at policy v w s t class Transition ++ relabel_at policy v w s t class Member

-- between the types at two places, by class code
abbrev pub relabels_between : PolicyParts → ℕ → ℕ → ℕ → ℕ → List Relabel
relabels_between policy v w s t = flat_map (relabels_in policy v w s t) classes

-- for a source's type, by target
abbrev pub relabels_from : PolicyParts → ℕ → ℕ → ℕ → List Relabel
relabels_from policy v w s = joined_below (length policy.kinds) (relabels_between policy v w s)

-- all types and classes for which two versions give different types, by source and target in the order of declaration, then by class code
unfoldable pub relabels : PolicyParts → ℕ → ℕ → List Relabel
relabels policy v w = joined_below (length policy.kinds) (relabels_from policy v w)

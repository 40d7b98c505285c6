-- When two policies say the same: all but the numbers of their lines.
use Rattle.std.specs.Prelude.{◌≡◌, ℕ, List, map, Option, Some, None, Ok}
use Rattle.policy_model.specs.declared.policy.ContextLine.{ContextLine}
use Rattle.policy_model.specs.declared.policy.KindLine.{KindLine}
use Rattle.policy_model.specs.declared.policy.AttributeLine.{AttributeLine}
use Rattle.policy_model.specs.declared.policy.Pattern.{Pattern}
use Rattle.policy_model.specs.declared.policy.RuleLine.{RuleLine}
use Rattle.policy_model.specs.declared.policy.Version.{Version}
use Rattle.policy_model.specs.declared.policy.PolicyParts.{PolicyParts}
use Rattle.policy_text.specs.Grammar.{policy_of}

-- members of a policy without the numbers of their lines
abbrev pub bare_context : ContextLine → ContextLine
bare_context line = record line { line = 0 }

abbrev pub bare_kind : KindLine → KindLine
bare_kind kind = record kind { line = 0 }

abbrev pub bare_attribute : AttributeLine → AttributeLine
bare_attribute line = record line { line = 0 }

abbrev pub bare_pattern : Pattern → Pattern
bare_pattern pattern = record pattern { line = 0 }

abbrev pub bare_rule : RuleLine → RuleLine
bare_rule rule = record rule { line = 0 }

abbrev pub bare_version : Version → Version
bare_version version = record { line = 0; rules = map bare_rule version.rules }

-- the same policy apart from the numbers of lines
pub record IsSamePolicy (one other : PolicyParts) : Type 0 where
  pub contexts : map bare_context one.contexts ≡ map bare_context other.contexts
  pub kinds : map bare_kind one.kinds ≡ map bare_kind other.kinds
  pub attributes : map bare_attribute one.attributes ≡ map bare_attribute other.attributes
  pub nevers : map bare_pattern one.nevers ≡ map bare_pattern other.nevers
  pub silent : map bare_pattern one.silent ≡ map bare_pattern other.silent
  pub loud : map bare_pattern one.loud ≡ map bare_pattern other.loud
  pub versions : map bare_version one.versions ≡ map bare_version other.versions

-- the same, or no policy yet
abbrev pub IsSameAbove : Option PolicyParts → Option PolicyParts → Type 0
IsSameAbove (Some one) (Some other) = IsSamePolicy one other
IsSameAbove None None = Unit {0}
IsSameAbove one other = ⊥

-- a text is a policy that says the same as this one
abbrev pub IsTextOf : PolicyParts → List ℕ → Type 0
IsTextOf policy bytes = (next : PolicyParts) × (policy_of bytes ≡ Ok next) × IsSamePolicy next policy

-- Rule lines that are read at first sight.
use Rattle.std.specs.Prelude.{◌≡◌, ℕ, true, false, List, length, Some, Ok, nat_le}
use Rattle.flask_sid.specs.Names.{is_kind_form, is_long}
use Rattle.policy_model.specs.declared.policy.WhoOf.TheVariants.{Named}
use Rattle.policy_model.specs.declared.policy.KindLine.{KindLine}
use Rattle.policy_model.specs.declared.policy.AttributeLine.{AttributeLine}
use Rattle.policy_model.specs.declared.policy.RuleLine.{RuleLine}
use Rattle.policy_model.specs.declared.policy.PolicyParts.{PolicyParts}
use Rattle.policy_model.specs.Declarations.{rule_limit, is_known_who}
use Rattle.policy_text.specs.declared.form.Decision.{Decision}
use Rattle.policy_text.specs.Forms.{decided_form}
use Rattle.policy_text.specs.Above.{has_version, newest_rules}
use Rattle.policy_text.specs.Grammar.{with_rule, formed_read}

-- a name with which nothing is wrong: it has its form, is not too long, and is declared
pub record IsPlain (kinds : List KindLine) (attributes : List AttributeLine) (name : List ℕ) : Type 0 where
  pub form : is_kind_form name ≡ true
  pub short : is_long name ≡ false
  pub known : is_known_who kinds attributes (Named name) ≡ true

-- the rule line that the words of line n add where a version has begun and has room
abbrev pub IsRuleRead : ℕ → Decision → List (List ℕ) → PolicyParts → RuleLine → Type 0
IsRuleRead n decision words policy rule =
    has_version policy ≡ true → nat_le rule_limit (length (newest_rules policy.versions)) ≡ false
    → formed_read n (decided_form decision words) (Some policy) ≡ Ok (Some (record policy { versions = with_rule rule policy.versions }))

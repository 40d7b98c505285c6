-- What the names in a line stand for, where the lines above and the table of classes know them.
use Rattle.std.specs.Prelude.{ℕ, ◌-◌, ◌^◌, ◌&&◌, List, [], ◌∷◌, Option, Some, None, if◌then◌else◌}
use Rattle.access_vectors.specs.declared.class.Class.{Class}
use Rattle.access_vectors.specs.Table.{class_named, perm_named, perm_count}
use Rattle.access_vectors.specs.Vectors.{with_index}
use Rattle.text_lines.specs.OptionSteps.{◌>>=◌}
use Rattle.policy_model.specs.declared.policy.Pattern.{Pattern}
use Rattle.policy_model.specs.declared.policy.Verdict.{Verdict}
use Rattle.policy_model.specs.declared.policy.Verdict.TheVariants as verdict
use Rattle.policy_model.specs.declared.policy.RuleLine.{RuleLine}
use Rattle.policy_model.specs.declared.policy.PolicyParts.{PolicyParts}
use Rattle.policy_text.specs.declared.form.Decision.{Decision}
use Rattle.policy_text.specs.declared.form.Decision.TheVariants.{Allow, Withhold}
use Rattle.policy_model.specs.declared.policy.Labelling.{Labelling}
use Rattle.policy_model.specs.declared.policy.Labelling.TheVariants.{Transition, Member}
use Rattle.policy_text.specs.declared.form.PatternForm.{PatternForm}
use Rattle.policy_text.specs.declared.form.LabelForm.{LabelForm}
use Rattle.policy_text.specs.Forms.{is_star}
use Rattle.policy_model.specs.Declarations.{is_kind, is_known_who}

-- all permissions of a class
unfoldable pub whole_row : Class → ℕ
whole_row class = 2 ^ perm_count class - 1

-- the vector with these permissions besides, where the class has each of them; one that is named twice counts once
abbrev pub perms_named : Class → ℕ → List (List ℕ) → Option ℕ
perms_named class vector [] = Some vector
perms_named class vector (name ∷ names) = perm_named class name >>= λ perm. perms_named class (with_index vector perm.index) names

-- the permissions that words name: `*` is all that the class has
unfoldable pub perms_of : Class → List (List ℕ) → Option ℕ
perms_of class [] = Some 0
perms_of class (first ∷ names) = if is_star first then Some (whole_row class) else perms_named class 0 (first ∷ names)

-- the line on permissions that the words of line n are
unfoldable pub pattern_of : ℕ → PatternForm → PolicyParts → Option Pattern
pattern_of n form policy =
    if is_known_who policy.kinds policy.attributes form.source && is_known_who policy.kinds policy.attributes form.target then known else None
  where
    known : Option Pattern
    known = do
      class ← class_named form.class
      perms ← perms_of class form.perms
      Some (record { line = n; source = form.source; target = form.target; class = class; perms = perms })

-- what a line on permissions decides
abbrev pub decided : Decision → ℕ → Verdict
decided Allow perms = verdict.Allow perms
decided Withhold perms = verdict.Withhold perms

-- the rule line that a line on permissions is
abbrev pub deciding_rule : Decision → Pattern → RuleLine
deciding_rule decision pattern =
    record { line = pattern.line; source = pattern.source; target = pattern.target; class = pattern.class; verdict = decided decision pattern.perms }

-- what a line that gives a type decides
abbrev pub labelled : Labelling → List ℕ → Verdict
labelled Transition kind = verdict.Transition kind
labelled Member kind = verdict.Member kind

-- the rule line that the words of line n are, which give a type
unfoldable pub labelling_rule : ℕ → Labelling → LabelForm → PolicyParts → Option RuleLine
labelling_rule n labelling form policy =
    if is_known_who policy.kinds policy.attributes form.source && is_known_who policy.kinds policy.attributes form.target && is_kind policy.kinds form.kind then known else None
  where
    known : Option RuleLine
    known = do
      class ← class_named form.class
      Some (record { line = n; source = form.source; target = form.target; class = class; verdict = labelled labelling form.kind })

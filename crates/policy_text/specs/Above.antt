-- What a line asks of the lines above it: the length of its names, and how many lines may stand there.
use Rattle.std.specs.Prelude.{ℕ, ◌-◌, Bool, false, ◌&&◌, ◌||◌, not, ◌==◌, nat_le, List, length, map, slice_get}
use Rattle.std.specs.List.{list_any}
use Rattle.flask_sid.specs.Names.{is_long}
use Rattle.flask_sid.specs.declared.context.ContextOf.{ContextOf}
use Rattle.policy_model.specs.declared.policy.WhoOf.{WhoOf}
use Rattle.policy_model.specs.declared.policy.WhoOf.TheVariants.{Named, Any, Itself}
use Rattle.policy_model.specs.declared.policy.ContextLine.{ContextLine}
use Rattle.policy_model.specs.declared.policy.Version.{Version}
use Rattle.policy_model.specs.declared.policy.RuleLine.{RuleLine}
use Rattle.policy_model.specs.declared.policy.PolicyParts.{PolicyParts}
use Rattle.policy_model.specs.Declarations.{context_limit, kind_limit, is_kind, rules_of}
use Rattle.policy_text.specs.declared.form.PatternForm.{PatternForm}
use Rattle.policy_text.specs.declared.form.LabelForm.{LabelForm}

-- a name longer than names may be
abbrev pub is_long_who : WhoOf (List ℕ) → Bool
is_long_who (Named name) = is_long name
is_long_who Any = false
is_long_who Itself = false

-- a line on permissions with such a name
unfoldable pub is_long_pattern : PatternForm → Bool
is_long_pattern form = is_long_who form.source || is_long_who form.target || is_long form.class || list_any is_long form.perms

-- a line that gives a type, with such a name
unfoldable pub is_long_label : LabelForm → Bool
is_long_label form = is_long_who form.source || is_long_who form.target || is_long form.class || is_long form.kind

-- a version has begun
abbrev pub has_version : PolicyParts → Bool
has_version policy = not (length policy.versions == 0)

-- the rule lines of the newest version
unfoldable pub newest_rules : List Version → List RuleLine
newest_rules versions = rules_of (slice_get versions (length versions - 1))

-- no context more may be declared, or no type where the context's type is new
unfoldable pub is_full_for : PolicyParts → ContextOf (List ℕ) → Bool
is_full_for policy context =
    nat_le context_limit (length policy.contexts) || (not (is_kind policy.kinds context.kind) && nat_le kind_limit (length policy.kinds))

-- the contexts of lines, in their order
abbrev pub contexts_in : List ContextLine → List (ContextOf (List ℕ))
contexts_in lines = map (λ line. line.context) lines

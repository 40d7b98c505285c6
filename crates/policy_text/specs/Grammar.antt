-- What a line of a policy text asks of the lines above it, and what it adds to them: the policy that a text is, or its
-- first faulty line.
use Rattle.std.specs.Prelude.{ℕ, ◌+◌, Bool, ◌&&◌, ◌||◌, not, ◌==◌, nat_le, List, [], ◌∷◌, ◌++◌, length, Option, Some, None, Result, Ok, Err, if◌then◌else◌}
use Rattle.std.specs.List.{list_all, list_any}
use Rattle.flask_sid.specs.Names.{is_long}
use Rattle.flask_sid.specs.Contexts.{is_long_context}
use Rattle.flask_sid.specs.declared.context.ContextOf.{ContextOf}
use Rattle.text_lines.specs.declared.fault.FaultKind.{FaultKind}
use Rattle.text_lines.specs.declared.fault.FaultKind.TheVariants.{Syntax, Order, Limit, Unknown, Twice, Ended}
use Rattle.text_lines.specs.Lines.{lines_of, line_words}
use Rattle.text_lines.specs.ResultSteps.{◌>>=◌, found_or, LineFault, lines_fold}
use Rattle.policy_model.specs.declared.policy.Pattern.{Pattern}
use Rattle.policy_model.specs.declared.policy.RuleLine.{RuleLine}
use Rattle.policy_model.specs.declared.policy.Version.{Version}
use Rattle.policy_model.specs.declared.policy.PolicyParts.{PolicyParts}
use Rattle.policy_text.specs.declared.form.Form.{Form}
use Rattle.policy_text.specs.declared.form.Form.TheVariants as form
use Rattle.policy_text.specs.declared.form.Listing.{Listing}
use Rattle.policy_text.specs.declared.form.Listing.TheVariants.{Never, Silent, Loud}
use Rattle.policy_text.specs.declared.form.Decision.{Decision}
use Rattle.policy_model.specs.declared.policy.Labelling.{Labelling}
use Rattle.policy_text.specs.declared.form.PatternForm.{PatternForm}
use Rattle.policy_text.specs.declared.form.LabelForm.{LabelForm}
use Rattle.policy_text.specs.Forms.{line_form}
use Rattle.policy_model.specs.Declarations.{kind_limit, attribute_limit, listed_limit, version_limit, rule_limit, is_kind, is_attribute, has_context, listed_count}
use Rattle.policy_text.specs.Above.{is_long_pattern, is_long_label, has_version, newest_rules, is_full_for}
use Rattle.policy_text.specs.Known.{pattern_of, deciding_rule, labelling_rule}

-- a policy with one type more
abbrev pub with_kind : ℕ → List ℕ → PolicyParts → PolicyParts
with_kind n name policy = record policy { kinds = policy.kinds ++ record { line = n; name = name } ∷ [] }

-- a policy in which a context's type is declared
abbrev pub with_kind_of : ℕ → List ℕ → PolicyParts → PolicyParts
with_kind_of n name policy = if is_kind policy.kinds name then policy else with_kind n name policy

-- a policy with one context more, and its type where that is new
unfoldable pub with_context : ℕ → ContextOf (List ℕ) → PolicyParts → PolicyParts
with_context n context policy =
    record (with_kind_of n context.kind policy) { contexts = policy.contexts ++ record { line = n; context = context } ∷ [] }

-- a policy with one attribute more
abbrev pub with_attribute : ℕ → List ℕ → List (List ℕ) → PolicyParts → PolicyParts
with_attribute n name members policy =
    record policy { attributes = policy.attributes ++ record { line = n; name = name; members = members } ∷ [] }

-- a policy with one more line on permissions outside the versions
abbrev pub with_listed : Listing → Pattern → PolicyParts → PolicyParts
with_listed Never pattern policy = record policy { nevers = policy.nevers ++ pattern ∷ [] }
with_listed Silent pattern policy = record policy { silent = policy.silent ++ pattern ∷ [] }
with_listed Loud pattern policy = record policy { loud = policy.loud ++ pattern ∷ [] }

-- a policy with one version more
abbrev pub with_version : ℕ → PolicyParts → PolicyParts
with_version n policy = record policy { versions = policy.versions ++ record { line = n; rules = [] } ∷ [] }

-- versions of which the newest has one rule line more
unfoldable pub with_rule : RuleLine → List Version → List Version
with_rule rule [] = []
with_rule rule (version ∷ versions) = with_rule_at version versions (with_rule rule versions)
  where
    with_rule_at : Version → List Version → List Version → List Version
    with_rule_at version [] newer = record version { rules = version.rules ++ rule ∷ [] } ∷ []
    with_rule_at version (next ∷ versions) newer = version ∷ newer

-- a `context` line
unfoldable pub context_read : ℕ → ContextOf (List ℕ) → PolicyParts → Result PolicyParts FaultKind
context_read n context policy =
    if has_version policy then Err Order
    else if is_long_context context || is_full_for policy context then Err Limit
    else if has_context policy.contexts context || is_attribute policy.attributes context.kind then Err Twice
    else Ok (with_context n context policy)

-- a `type` line
unfoldable pub kind_read : ℕ → List ℕ → PolicyParts → Result PolicyParts FaultKind
kind_read n name policy =
    if has_version policy then Err Order
    else if is_long name || nat_le kind_limit (length policy.kinds) then Err Limit
    else if is_kind policy.kinds name || is_attribute policy.attributes name then Err Twice
    else Ok (with_kind n name policy)

-- an `attribute` line
unfoldable pub attribute_read : ℕ → List ℕ → List (List ℕ) → PolicyParts → Result PolicyParts FaultKind
attribute_read n name members policy =
    if has_version policy then Err Order
    else if is_long name || list_any is_long members || nat_le attribute_limit (length policy.attributes) then Err Limit
    else if not (list_all (is_kind policy.kinds) members) then Err Unknown
    else if is_kind policy.kinds name || is_attribute policy.attributes name then Err Twice
    else Ok (with_attribute n name members policy)

-- a `neverallow`, `dontaudit` or `auditallow` line
unfoldable pub listed_read : ℕ → Listing → PatternForm → PolicyParts → Result PolicyParts FaultKind
listed_read n listing form policy =
    if has_version policy then Err Order
    else if is_long_pattern form || nat_le listed_limit (listed_count policy) then Err Limit
    else found_or Unknown (pattern_of n form policy) >>= λ pattern. Ok (with_listed listing pattern policy)

-- a `version` line
unfoldable pub version_read : ℕ → PolicyParts → Result PolicyParts FaultKind
version_read n policy = if nat_le version_limit (length policy.versions) then Err Limit else Ok (with_version n policy)

-- an `allow` or `withhold` line
unfoldable pub decided_read : ℕ → Decision → PatternForm → PolicyParts → Result PolicyParts FaultKind
decided_read n decision form policy =
    if not (has_version policy) then Err Order
    else if is_long_pattern form || nat_le rule_limit (length (newest_rules policy.versions)) then Err Limit
    else found_or Unknown (pattern_of n form policy) >>= λ pattern. Ok (record policy { versions = with_rule (deciding_rule decision pattern) policy.versions })

-- a `transition` or `member` line
unfoldable pub labelled_read : ℕ → Labelling → LabelForm → PolicyParts → Result PolicyParts FaultKind
labelled_read n labelling form policy =
    if not (has_version policy) then Err Order
    else if is_long_label form || nat_le rule_limit (length (newest_rules policy.versions)) then Err Limit
    else found_or Unknown (labelling_rule n labelling form policy) >>= λ rule. Ok (record policy { versions = with_rule rule policy.versions })

-- a line below `policy 1`
unfoldable pub below_header : ℕ → Form → PolicyParts → Result PolicyParts FaultKind
below_header n form.Header policy = Err Order
below_header n (form.Context context) policy = context_read n context policy
below_header n (form.Kind name) policy = kind_read n name policy
below_header n (form.Attribute name members) policy = attribute_read n name members policy
below_header n (form.Listed listing pattern) policy = listed_read n listing pattern policy
below_header n form.Version policy = version_read n policy
below_header n (form.Decided decision pattern) policy = decided_read n decision pattern policy
below_header n (form.Labelled labelling label) policy = labelled_read n labelling label policy

-- the policy that says nothing
abbrev pub no_parts : PolicyParts
no_parts = record { contexts = []; kinds = []; attributes = []; nevers = []; silent = []; loud = []; versions = [] }

-- a line of this form; above `policy 1` there is no policy yet, and it alone may stand there
unfoldable pub form_read : ℕ → Form → Option PolicyParts → Result (Option PolicyParts) FaultKind
form_read n form.Header None = Ok (Some no_parts)
form_read n form None = Err Order
form_read n form (Some policy) = below_header n form policy >>= λ next. Ok (Some next)

-- a line that may have no form
abbrev pub formed_read : ℕ → Option Form → Option PolicyParts → Result (Option PolicyParts) FaultKind
formed_read n formed above = found_or Syntax formed >>= λ form. form_read n form above

-- what a line says, if anything
unfoldable pub words_read : ℕ → List (List ℕ) → Option PolicyParts → Result (Option PolicyParts) FaultKind
words_read n [] above = Ok above
words_read n (first ∷ words) above = found_or Syntax (line_form first words) >>= λ form. form_read n form above

-- line number n, below lines that say this much
unfoldable pub line_read : ℕ → List ℕ → Option PolicyParts → Result (Option PolicyParts) FaultKind
line_read n line above = line_words n line >>= λ words. words_read n words above

-- a policy with a context and a version
unfoldable pub is_whole : PolicyParts → Bool
is_whole policy = not (length policy.contexts == 0) && not (length policy.versions == 0)

-- a text that ends above line n
unfoldable pub end_read : ℕ → Option PolicyParts → Result PolicyParts LineFault
end_read n None = Err (record { line = n; kind = Ended })
end_read n (Some policy) = if is_whole policy then Ok policy else Err (record { line = n; kind = Ended })

-- the policy that a text is, or its first faulty line
unfoldable pub policy_of : List ℕ → Result PolicyParts LineFault
policy_of bytes = lines_fold line_read 1 (lines_of bytes) None >>= λ above. end_read (1 + length (lines_of bytes)) above

-- A kept policy that was printed is read as the same policy again.
use Rattle.std.proofs.Common.{◌≡◌, ◌∙◌, ◌<◌, ◌≤◌, ◌+◌, ℕ, true, not, List, map, length, Option, Some, None, Ok, refl, ap, arith}
use Rattle.std.specs.Prelude.{◌==◌}
use Rattle.std.proofs.lemmas.Bool.{ne_eqb}
use Rattle.std.proofs.lemmas.List.{length-map}
use Rattle.text_lines.specs.Lines.{line_limit, lines_of}
use Rattle.text_lines.specs.ResultSteps.{lines_fold}
use Rattle.text_print.specs.Printed.{spaced}
use Rattle.text_print.proofs.LineLaws.{lines_of_text}
use Rattle.text_print.proofs.LeadLaws.{lead_lines}
use Rattle.policy_model.specs.declared.policy.PolicyParts.{PolicyParts}
use Rattle.policy_text.specs.Grammar.{line_read, is_whole, end_read, policy_of}
use Rattle.policy_model.specs.Kept.{Grown, IsWholePolicy}
use Rattle.policy_print.specs.Printed.{policy_lines, printed}
use Rattle.policy_print.specs.Same.{bare_context, bare_version, IsSamePolicy, IsSameAbove, IsTextOf}
use Rattle.policy_print.proofs.SameLaws.{same_length}
use Rattle.policy_print.proofs.PolicyLaws.{policy_lines_lead, policy_lines_words}

-- some members of one list, some of one that is as long
some_left : {X : Type 0} (xs ys : List X) → length xs ≡ length ys → 0 < length ys → not (length xs == 0) ≡ true
some_left xs ys same some = ap not (ne_eqb (length xs) 0 (λ none. omega (arith, none, same, some)))

-- a text may end below a policy that is the same as a kept one
pub end_same : (n : ℕ) (next policy : PolicyParts) → IsWholePolicy policy → IsSamePolicy next policy → end_read n (Some next) ≡ Ok next
unfolding end_read is_whole
end_same n next policy kept same =
    let context = some_left next.contexts policy.contexts (same_length bare_context next.contexts policy.contexts same.contexts) kept.context in
    let version = some_left next.versions policy.versions (same_length bare_version next.versions policy.versions same.versions) kept.version in
    rw (context, version) refl

-- a printed policy has as many lines as it was printed of
lines_printed : (policy : PolicyParts) → Grown policy → lines_of (printed policy) ≡ map spaced (policy_lines policy)
unfolding printed
lines_printed policy grown =
    lines_of_text (policy_lines policy) (policy_lines_words policy grown)

-- a kept policy that was printed in no more lines than a text may have is read as the same policy again
pub printed_again : (policy : PolicyParts) → IsWholePolicy policy → length (lines_of (printed policy)) ≤ line_limit → IsTextOf policy (printed policy)
unfolding policy_of
printed_again policy kept short =
    let lines = lines_printed policy kept.grown in
    let count : length (lines_of (printed policy)) ≡ length (policy_lines policy) = ap length lines ∙ length-map (policy_lines policy) spaced in
    let read = lead_lines line_read IsSameAbove (policy_lines policy) None (Some policy) (policy_lines_lead policy kept.grown) 1 None tt (omega (arith, count, short)) in
    by_state read.0 (ap (λ ls. lines_fold line_read 1 ls None) lines ∙ read.1) read.2
  where
    by_state : (next : Option PolicyParts) → lines_fold line_read 1 (lines_of (printed policy)) None ≡ Ok next → IsSameAbove next (Some policy) → IsTextOf policy (printed policy)
    by_state None is same = absurd same
    by_state (Some next) is same = (next, rw is (end_same (1 + length (lines_of (printed policy))) next policy kept same), same)

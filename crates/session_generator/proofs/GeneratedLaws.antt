-- The session that is made of three numbers is what the reader makes of its text, apart from the numbers of lines.
use Rattle.std.proofs.Common.{◌≡◌, ◌∙◌, ◌+◌, ℕ, true, zero, suc, List, [], ◌∷◌, length, Option, Some, None, Result, Ok, Err, refl, ap, arith}
use Rattle.std.specs.Prelude.{IfOk}
use Rattle.std.proofs.lemmas.List.{length-map}
use Rattle.command_line.specs.Commands.{IsWithin}
use Rattle.text_lines.specs.Lines.{lines_of}
use Rattle.text_lines.specs.ResultSteps.{◌>>=◌, at_line, lines_fold}
use Rattle.text_lines.specs.declared.fault.FaultKind.{FaultKind}
use Rattle.policy_model.specs.Kept.{GrownAbove, IsWholePolicy}
use Rattle.policy_model.specs.declared.policy.PolicyParts.{PolicyParts}
use Rattle.policy_text.specs.Grammar.{line_read, is_whole}
use Rattle.policy_text.proofs.KeptLemmas.{line_keeps, whole_kept}
use Rattle.policy_text.proofs.OnLiterals.{policies_on_literals}
use Rattle.policy_print.specs.Printed.{policy_lines}
use Rattle.session_print.specs.Printed.{setup_lines, run_lines, run_line_words, client_words, printed}
use Rattle.session_print.specs.Same.{IsTextOf}
use Rattle.session_print.proofs.AgainLaws.{printed_again, printed_count}
use Rattle.session_generator.specs.Generated.{policy_text, policy, clients_to, lines_from, state_behind, lines_above, generated}
use Rattle.session_generator.proofs.ClientLaws.{clients_count}
use Rattle.session_generator.proofs.SessionLaws.{is_session}

-- a line keeps what holds above it, where those behind it do
behind : (lines : List (List ℕ)) (n : ℕ) → ((next : Option PolicyParts) → GrownAbove next → IfOk (lines_fold line_read (n + 1) lines next) GrownAbove)
    → (said : Result (Option PolicyParts) FaultKind) → IfOk said GrownAbove → IfOk (at_line n said >>= λ next. lines_fold line_read (n + 1) lines next) GrownAbove
behind lines n keep (Ok next) kept = keep next kept
behind lines n keep (Err kind) kept = tt

-- lines of a policy keep what holds above them
lines_keep : (lines : List (List ℕ)) (n : ℕ) (above : Option PolicyParts) → GrownAbove above → IfOk (lines_fold line_read n lines above) GrownAbove
lines_keep [] n above kept = kept
lines_keep (line ∷ lines) n above kept = behind lines n (λ next is. lines_keep lines (n + 1) next is) (line_read n line above) (line_keeps n line above kept)

-- the lines of the policy's text make the policy
policy_is_made : lines_fold line_read 1 (lines_of policy_text) None ≡ Ok (Some policy)
unfolding policies_on_literals policy
policy_is_made = refl

-- so it is whole
policy_ends : is_whole policy ≡ true
unfolding policies_on_literals policy
policy_ends = refl

policy_whole : IsWholePolicy policy
policy_whole = whole_kept policy (rw policy_is_made at (lines_keep (lines_of policy_text) 1 None tt)) policy_ends

-- how many lines its text has: `policy 1`, three types, three contexts, three versions, and ten rules
policy_count : length (policy_lines policy) ≡ 20
unfolding policies_on_literals policy policy_lines
policy_count = refl

-- how many lines run
lines_count : (clients x first n : ℕ) → length (lines_from clients x first n) ≡ n
lines_count clients x first zero = refl
lines_count clients x first (suc n) = ap suc (lines_count clients (state_behind x) (first + 1) n)

-- the session of three numbers in their ranges, printed, is read as the same session
pub generated_again : (seed clients lines : ℕ) → IsWithin seed clients lines → IsTextOf (generated seed clients lines) (printed (generated seed clients lines))
unfolding generated setup_lines run_lines
generated_again seed clients lines within =
    let is = is_session seed clients lines within in
    let count = printed_count (generated seed clients lines) policy_whole is in
    let setups = length-map (clients_to clients) (client_words policy.contexts) ∙ clients_count clients in
    let runs = length-map (lines_from clients seed (lines_above + clients + 2) lines) (run_line_words policy.contexts (clients_to clients)) ∙ lines_count clients seed (lines_above + clients + 2) lines in
    printed_again (generated seed clients lines) policy_whole is (omega (arith, count, policy_count, setups, runs, within.few_clients, within.few_lines))

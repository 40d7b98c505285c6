use Rattle.std.proofs.Common.{◌≡◌, ◌∙◌, refl}
use Rattle.policy_print.specs.Printed
use Rattle.policy_print.proofs.AgainLaws.{printed_again}
use Rattle.policy_print.proofs.policy.print.Goals as goal

pub returns-clause-again : goal.returns-clause-again
returns-clause-again c =
    let text : c.put_policy.new.out ≡ Printed.printed c.args.policy.now = c.in_ok-put_policy.ensures.ok ∙ rw (c.new-out.ensures, c.parts.ensures.parts) refl in
    rw (c.into_piece.ensures ∙ text) (printed_again c.args.policy.now c.parts.ensures.kept)

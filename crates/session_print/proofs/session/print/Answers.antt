use Rattle.std.proofs.Common.{◌≡◌, ◌∙◌, refl}
use Rattle.policy_model.specs.Kept.{IsWholePolicy}
use Rattle.session_print.specs.Printed
use Rattle.session_print.proofs.PrintedLaws.{printed_parts}
use Rattle.session_print.proofs.AgainLaws.{printed_again}
use Rattle.session_print.proofs.session.print.Goals as goal

pub returns-clause-text : goal.returns-clause-text
returns-clause-text c =
    c.into_piece.ensures ∙ c.in_ok-put_below_policy.ensures.ok
    ∙ rw (c.in_ok-put_policy.ensures.ok, c.new-out.ensures, c.parts.ensures.parts, c.parts-session.ensures.parts, printed_parts c.args.session.now) refl

pub returns-clause-again : goal.returns-clause-again
returns-clause-again c =
    let kept : IsWholePolicy c.args.session.now.policy = rw c.parts-session.ensures.parts at c.parts.ensures.kept in
    let text : c.into_piece.result ≡ Printed.printed c.args.session.now =
    c.into_piece.ensures ∙ c.in_ok-put_below_policy.ensures.ok
    ∙ rw (c.in_ok-put_policy.ensures.ok, c.new-out.ensures, c.parts.ensures.parts, c.parts-session.ensures.parts, printed_parts c.args.session.now) refl in
    rw text (printed_again c.args.session.now kept c.parts-session.ensures.kept)

use Rattle.std.proofs.Common.{◌∙◌, ◌+◌, arith}
use Rattle.session_generator.proofs.SessionLaws.{none_made, one_made, all_made}
use Rattle.session_generator.proofs.making.lines_from.Goals as goal

pub lines-init : goal.lines-init
lines-init c = λ left is. none_made _ c.args.clients c.args.state c.args.first left c.args.count c.in_ok-lines.ensures.items is

pub lines-preserved : goal.lines-preserved
lines-preserved c = λ left is.
    one_made c.lines.lines.items _ c.args.clients c.lines.state _ c.args.first c.lines.place left _ _ c.in_ok-push.ensures.items c.in_ok-run.ensures.run c.in_ok-run.ensures.behind
    (c.lines.invariant (left + 1) (omega (arith, is)))

pub returns : goal.returns
returns c = c.from_vec.ensures ∙ all_made c.lines.lines.items c.args.clients c.lines.state (c.args.first + c.lines.place) _ (c.lines.invariant 0 (omega (arith, c.lines-test.false, c.lines.auto.place-end)))

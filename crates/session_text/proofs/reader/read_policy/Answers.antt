use Rattle.std.proofs.Common.{sym, refl}
use Rattle.session_text.specs.Reading.{read_end}
use Rattle.session_text.proofs.ReadingLemmas.{below_line, fails_at, at_end, policy_line, policy_fails, session_read}
use Rattle.session_text.proofs.reader.read_policy.Goals as goal

pub lines-init : goal.lines-init
lines-init c = rw c.new-policy.ensures refl

pub lines-preserved : goal.lines-preserved
lines-preserved c =
    below_line _ _ _ _ _ _ c.lines.invariant c.in-Some.ensures
    (policy_line c.lines.policy c.read_line.new.self _ (sym c.if-is_session_line.ensures) c.in-Ok.ensures.read)

pub returns-then-is_session_line-clause-said : goal.returns-then-is_session_line-clause-said
returns-then-is_session_line-clause-said c =
    session_read c.lines.policy _ _ _ c.session_line_read.result _ c.lines.invariant c.in-Some.ensures (sym c.if-is_session_line.ensures) c.session_line_read.ensures.said

pub returns-in-Err-clause-said : goal.returns-in-Err-clause-said
returns-in-Err-clause-said c =
    fails_at _ _ _ _ c.in-Err.fault _ c.lines.invariant c.in-Some.ensures
    (policy_fails c.lines.policy _ c.in-Err.fault (sym c.if-is_session_line.ensures) c.in-Err.ensures.read)

pub returns-clause-said : goal.returns-clause-said
unfolding read_end
returns-clause-said c = rw (c.fault_at.ensures, c.number.ensures, at_end _ _ _ c.lines.invariant c.in_default.ensures.0) refl

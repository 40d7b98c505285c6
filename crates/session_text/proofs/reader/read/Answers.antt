use Rattle.std.proofs.Common.{◌<◌, ◌∙◌, ap, arith}
use Rattle.std.proofs.lemmas.List.Elements.{All-nil}
use Rattle.session_text.specs.declared.session.RunLine.{RunLine}
use Rattle.policy_text.specs.Reading.{begun as policy_begun}
use Rattle.session_text.specs.Readers as part
use Rattle.session_text.specs.Reading.{read_end, read_lines, session_of}
use Rattle.session_text.proofs.LineLemmas.{next_above}
use Rattle.session_text.proofs.ReadingLemmas.{below_line, fails_at, at_end, run_line, run_refused}
use Rattle.session_text.proofs.reader.read.Goals as goal

pub lines-init : goal.lines-init
unfolding session_of
lines-init c = record {
  so_far = rw c.in-Ok.ensures.value
      (c.in_ok-number.ensures.said ∙ c.in_ok-first.ensures.said ∙ ap (read_lines (part.Policy policy_begun)) c.of-lines.ensures);
  counted = c.in_ok-number.ensures.counted;
  above = rw c.in-Ok.ensures.idle (All-nil (λ (line : RunLine). line.line < c.in_ok-number.number));
}

pub lines-preserved : goal.lines-preserved
lines-preserved c =
    let counted = c.in-Ok-run_line_read.ensures.counted in
    record {
      so_far = below_line _ _ _ _ _ _ c.lines.invariant.so_far c.in-Some.ensures (run_line c.lines.number c.lines.running c.run_line_read.new.running _ c.in-Ok-run_line_read.ensures.said);
      counted = omega (arith, counted);
      above = next_above c.lines.number _ c.lines.running c.run_line_read.new.running c.lines.invariant.above c.in-Ok-run_line_read.ensures.said;
    }

pub returns-in-Err-run_line_read : goal.returns-in-Err-run_line_read
returns-in-Err-run_line_read c =
    fails_at _ _ _ _ c.refused_at.result _ c.lines.invariant.so_far c.in-Some.ensures
    (run_refused c.lines.number c.lines.running _ c.in-Err-run_line_read.refusal c.refused_at.result c.in-Err-run_line_read.ensures.said c.refused_at.ensures)

pub returns : goal.returns
unfolding read_end
returns c = rw c.finish.ensures (at_end _ _ _ c.lines.invariant.so_far c.in_default.ensures.0)

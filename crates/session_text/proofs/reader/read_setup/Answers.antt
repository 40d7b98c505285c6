use Rattle.std.proofs.Common.{refl, arith}
use Rattle.session_text.specs.Reading.{read_end}
use Rattle.session_text.proofs.ReadingLemmas.{below_line, fails_at, at_end, setup_line, setup_refused}
use Rattle.session_text.proofs.reader.read_setup.Goals as goal

pub lines-init : goal.lines-init
lines-init c = record { so_far = refl; counted = c.requires }

pub lines-preserved : goal.lines-preserved
lines-preserved c =
    let said = rw c.in-Ok-false.field-0-test at c.in-Ok-false.ensures.said in
    let counted = c.in-Ok-false.ensures.counted in
    record {
      so_far = below_line _ _ _ _ _ _ c.lines.invariant.so_far c.in-Some.ensures (setup_line c.lines.number c.lines.setup _ _ said);
      counted = omega (arith, counted);
    }

pub returns-in-Ok-true-clause-said : goal.returns-in-Ok-true-clause-said
returns-in-Ok-true-clause-said c =
    let said = rw c.in-Ok-true.field-0-test at c.in-Ok-true.ensures.said in
    below_line _ _ _ _ _ _ c.lines.invariant.so_far c.in-Some.ensures (setup_line c.lines.number c.lines.setup _ _ said)

pub returns-in-Err-clause-said : goal.returns-in-Err-clause-said
returns-in-Err-clause-said c =
    fails_at _ _ _ _ c.refused_at.result _ c.lines.invariant.so_far c.in-Some.ensures
    (setup_refused c.lines.number c.lines.setup _ c.in-Err.refusal c.refused_at.result c.in-Err.ensures.said c.refused_at.ensures)

pub returns-clause-said : goal.returns-clause-said
unfolding read_end
returns-clause-said c = rw (c.fault_at.ensures, at_end _ _ _ c.lines.invariant.so_far c.in_default.ensures.0) refl

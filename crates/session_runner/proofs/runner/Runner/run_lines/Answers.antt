use Rattle.std.proofs.Common.{◌≡◌, ◌+◌, length, ap, arith, ◌∙◌}
use Rattle.std.specs.Vec.Iter.{into_iter_items}
use Rattle.std.proofs.lemmas.Result.{err_from_is_err_and}
use Rattle.session_runner.specs.Runs.{state_after}
use Rattle.session_runner.proofs.RecorderLemmas.{took_line, passed_line, stopped_line}
use Rattle.session_runner.proofs.RunnerLemmas.{may_more}
use Rattle.session_runner.proofs.runner.Runner.run_lines.Goals as goal

pub lines-preserved : goal.lines-preserved
lines-preserved g c =
    let kept = c.lines.invariant in
    let step = c.in-Some.ensures.steps in
    let ran = c.in_ok-run_line.ensures in
    let decides = g.D.Decider.decides in
    let same = ap decides kept.decider in
    let d = decides c.args.self.now.decider in
    let items = into_iter_items c.lines.line-iterator in
    let rest = into_iter_items c.next.new.self in
    let line = c.in-Some.line in
    let behind : length items ≡ length rest + 1 = ap length step.0 ∙ omega arith in
    let state_is : c.run_line.new.self.state ≡ state_after d c.lines.self.state line.run = rw same at ran.state in
    let took = rw same at ran.taken in
    record {
      counted = omega (arith, step.1, kept.counted, behind);
      decider = ran.same.decider ∙ kept.decider;
      clients = ran.same.clients ∙ kept.clients;
      may = may_more d (decides c.lines.self.decider) c.args.self.now.clients c.lines.self.state c.run_line.new.self.state items rest line kept.may step.0 same ran.state;
      serves = ran.serving c.args.self.now.clients kept.serves;
      state = rw state_is (rw step.0 at kept.state);
      leads = took_line g.E.Recorder.takes c.args.recorder.now c.args.out.now _ c.lines.recorder c.run_line.new.recorder c.lines.out c.run_line.new.out d c.lines.self.state c.run_line.new.self.state line items rest
          step.0 state_is took kept.leads;
      breaks = passed_line g.E.Recorder.takes g.E.Recorder.stops _ c.args.recorder.now c.args.out.now _ c.lines.recorder c.run_line.new.recorder c.lines.out c.run_line.new.out d c.lines.self.state c.run_line.new.self.state line items rest
          step.0 state_is took kept.breaks;
    }

pub returns-in_err-run_line-clause-stopped : goal.returns-in_err-run_line-clause-stopped
returns-in_err-run_line-clause-stopped g c =
    let kept = c.lines.invariant in
    let step = c.in-Some.ensures.steps in
    let decides = g.D.Decider.decides in
    let same = ap decides kept.decider in
    let p = err_from_is_err_and c.from_residual.result c.from_residual.ensures.1 in
    rw p.1
    (stopped_line g.E.Recorder.takes g.E.Recorder.stops _ c.args.recorder.now c.args.out.now _ c.lines.recorder c.lines.out c.run_line.new.out (decides c.args.self.now.decider) c.lines.self.state c.in-Some.line
    (into_iter_items c.lines.line-iterator) (into_iter_items c.next.new.self) c.in_err-run_line.field-0.0 p.0 step.0 p.2 (rw same at c.in_err-run_line.ensures.stopped) kept.breaks)

use Rattle.std.proofs.Common.{◌≡◌, length}
use Rattle.std.specs.Vec.Iter.{into_iter_items, into_iter_len}
use Rattle.flask_sid.specs.declared.memory.Memory.{Memory}
use Rattle.session_runner.specs.Runs.{lines_shown, state_below}
use Rattle.session_runner.specs.Underway.{MayRun}
use Rattle.session_runner.proofs.RecorderLemmas.{Leads, Breaks}
use Rattle.session_runner.proofs.runner.Runner.run_lines.Given as goal

abbrev pub invariant-lines : goal.invariant-lines
invariant-lines g l =
    let d = g.D.Decider.decides l.fn.self.decider in
    record {
      counted : into_iter_len l.line-iterator ≡ length (into_iter_items l.line-iterator);
      decider : l.self.decider ≡ l.fn.self.decider;
      clients : l.self.clients ≡ l.fn.self.clients;
      may : MayRun d l.fn.self.clients l.self.state (into_iter_items l.line-iterator);
      serves : g.E.Recorder.serves l.recorder l.fn.self.clients;
      state : state_below d l.self.state (into_iter_items l.line-iterator) ≡ state_below d l.fn.self.state l.fn.lines.items;
      leads : Leads g.E.Recorder.takes l.fn.recorder l.fn.out (lines_shown d l.fn.self.state l.fn.lines.items) l.recorder l.out (lines_shown d l.self.state (into_iter_items l.line-iterator));
      breaks : Breaks g.E.Recorder.takes g.E.Recorder.stops (λ stop. (memory : Memory) × g.E.Stop.From.from_gives memory stop) l.fn.recorder l.fn.out (lines_shown d l.fn.self.state l.fn.lines.items) l.recorder l.out (lines_shown d l.self.state (into_iter_items l.line-iterator));
    }

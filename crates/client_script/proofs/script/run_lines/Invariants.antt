use Rattle.std.proofs.Common.{◌≡◌, length}
use Rattle.std.specs.List.{All}
use Rattle.std.specs.Vec.Iter.{into_iter_items, into_iter_len}
use Rattle.session_text.specs.declared.session.RunLine.{RunLine}
use Rattle.client_script.specs.Clients.{AreSeated, IsFormedFor, standings_of}
use Rattle.client_script.specs.Underway.{AreAlong, IsPosted}
use Rattle.client_script.proofs.script.run_lines.Given as goal

abbrev pub invariant-lines : goal.invariant-lines
invariant-lines g l =
    record {
      seated : AreSeated l.stations l.seats;
      along : AreAlong l.fn.pen.number l.fn.lines.items (into_iter_items l.line-iterator) (standings_of l.seats);
      posted : IsPosted l.worker.audit.now l.fn.pen.number l.fn.lines.items (into_iter_items l.line-iterator) (standings_of l.seats) l.pen.lines;
      queue : l.pen.queue ≡ l.fn.pen.queue;
      number : l.pen.number ≡ l.fn.pen.number;
      formed : All (λ (line : RunLine). IsFormedFor g.D.Decider.decides l.stations l.fn.pen.number line.run) (into_iter_items l.line-iterator);
      counted : into_iter_len l.line-iterator ≡ length (into_iter_items l.line-iterator);
    }

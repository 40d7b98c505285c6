use Rattle.std.proofs.Common.{◌≡◌, take}
use Rattle.std.specs.List.{All, flat_map}
use Rattle.flask_io.specs.Streams.{Adds}
use Rattle.parallel_print.specs.Parts.{HasText, items_of, text_in}
use Rattle.parallel_print.proofs.rounds.write_round.Given as goal

abbrev pub invariant-parts : goal.invariant-parts
invariant-parts g l =
    record {
      items : flat_map items_of l.part-items ≡ l.items;
      texts : All (HasText (g.W.Wording.text l.wording)) l.part-items;
      written : Adds (g.K.Sink.written l.fn.sink) (g.K.Sink.written l.sink) (flat_map (text_in (g.W.Wording.text l.wording)) (take l.part-index l.part-items));
      quiet : g.K.Sink.faults l.sink ≡ g.K.Sink.faults l.fn.sink;
    }

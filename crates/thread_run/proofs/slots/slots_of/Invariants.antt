use Rattle.std.proofs.Common.{◌≡◌, ◌++◌, ◌+◌, length}
use Rattle.std.specs.Vec.Iter.{into_iter_items, into_iter_len}
use Rattle.thread_run.specs.Runs.{slots_of}
use Rattle.thread_run.proofs.slots.slots_of.Given as goal

abbrev pub invariant-places : goal.invariant-places
invariant-places g l =
    record {
      on : l.slots.items ++ slots_of l.queue (length l.slots.items) (into_iter_items l.own-iterator) (into_iter_items l.scripts) ≡ slots_of l.queue 0 l.fn.seats.items l.fn.scripts.items;
      taker : l.taker ≡ record l.fn.taker { made = length l.slots.items };
      many : length l.slots.items + length (into_iter_items l.own-iterator) ≡ length l.fn.seats.items;
      counted : into_iter_len l.own-iterator ≡ length (into_iter_items l.own-iterator);
      scripts_counted : into_iter_len l.scripts ≡ length (into_iter_items l.scripts);
    }

use Rattle.std.proofs.Common.{length}
use Rattle.slot_tables.specs.Slots.{map_of}
use Rattle.retained_rights.proofs.MarkLemmas.{IsMarked}
use Rattle.retained_rights.proofs.marks.mark_rows.Given as goal

abbrev pub invariant-loop-key : goal.invariant-loop-key
invariant-loop-key g l =
    IsMarked (g.D.Decider.decides l.decider) l.class l.old l.new (map_of l.table) l.by_pair (length l.fn.stale) l.stale l.key-iterator l.asked.pair l.asked.differs

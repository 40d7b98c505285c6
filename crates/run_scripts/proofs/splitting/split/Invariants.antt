use Rattle.std.proofs.Common.{◌≡◌, length}
use Rattle.std.specs.Vec.Iter.{into_iter_items, into_iter_len}
use Rattle.run_scripts.specs.Splits.{AreOnTheWay}
use Rattle.run_scripts.proofs.splitting.split.Given as goal

abbrev pub invariant-lines : goal.invariant-lines
invariant-lines l = AreOnTheWay l.fn.clients l.fn.lines.items (into_iter_items l.line-iterator) l.scripts × (into_iter_len l.line-iterator ≡ length (into_iter_items l.line-iterator))

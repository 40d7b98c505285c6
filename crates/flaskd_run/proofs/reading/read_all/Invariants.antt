use Rattle.std.proofs.Common.{◌≡◌, ◌≤◌, ◌-◌, vec_len}
use Rattle.flask_io.specs.Streams.{Takes}
use Rattle.flaskd_run.proofs.reading.read_all.Given as goal

abbrev pub invariant-reading : goal.invariant-reading
invariant-reading g l =
    Takes (g.S.Source.left l.fn.source) (g.S.Source.left l.source) l.bytes.items
    × (g.S.Source.faults l.source ≡ g.S.Source.faults l.fn.source)
    × (vec_len l.bytes ≤ 4194305)

abbrev pub decreases-reading : goal.decreases-reading
decreases-reading g l = 4194305 - vec_len l.bytes

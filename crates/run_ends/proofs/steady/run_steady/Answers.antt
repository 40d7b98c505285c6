use Rattle.std.proofs.Common.{arith}
use Rattle.flask_io.specs.Streams.{Rose}
use Rattle.run_ends.proofs.CompleteLaws.{complete_from}
use Rattle.run_ends.proofs.steady.run_steady.Goals as goal

-- the constant 0 never rose
never_rose : Rose 0 0 → ⊥
never_rose rose = omega (arith, rose)

pub returns : goal.returns
returns g c =
    complete_from _ _ _ _ _ _ _ c.new-source.ensures c.flaskd.ensures.ran (λ is. never_rose (c.flaskd.ensures.read_fault.rose is)) (λ is. never_rose (c.flaskd.ensures.write_fault.rose is))

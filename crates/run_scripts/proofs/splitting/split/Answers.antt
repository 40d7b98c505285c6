use Rattle.std.proofs.Common.{arith}
use Rattle.std.specs.Vec.Iter.{into_iter_items}
use Rattle.run_scripts.proofs.Gaining.{all_split, no_lines}
use Rattle.run_scripts.proofs.splitting.split.Goals as goal

pub returns : goal.returns
returns c =
    let kept = c.lines.invariant in
    all_split c.args.clients c.args.lines.items (into_iter_items c.lines.line-iterator) c.lines.scripts
    (no_lines (into_iter_items c.lines.line-iterator) (omega (arith, kept.1, c.in-None.ensures.steps.0))) kept.0

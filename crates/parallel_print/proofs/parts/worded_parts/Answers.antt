use Rattle.parallel_print.proofs.PartLemmas.{worded_all}
use Rattle.parallel_print.proofs.parts.worded_parts.Goals as goal

pub returns-clause-items : goal.returns-clause-items
returns-clause-items g c =
    let both = worded_all (g.W.Wording.text c.args.wording.now) c.in_ok-parts.parts.items c.worded.result.items c.args.items.now c.worded.ensures c.in_ok-parts.ensures in
    both.0

pub returns-clause-texts : goal.returns-clause-texts
returns-clause-texts g c =
    let both = worded_all (g.W.Wording.text c.args.wording.now) c.in_ok-parts.parts.items c.worded.result.items c.args.items.now c.worded.ensures c.in_ok-parts.ensures in
    both.1

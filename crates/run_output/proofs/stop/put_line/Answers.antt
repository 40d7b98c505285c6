use Rattle.std.proofs.Common.{length, ap, arith}
use Rattle.std.proofs.lemmas.List.{length-append}
use Rattle.run_output.proofs.WritingLemmas.{offered_more, whole_of_first, whole_at_end, offered_first, still_under_way}
use Rattle.run_output.proofs.stop.put_line.Goals as goal

pub returns-in-Failed-clause-whole : goal.returns-in-Failed-clause-whole
returns-in-Failed-clause-whole g c =
    let split = c.offers.invariant.0 in
    whole_of_first _ _ _ (Prim.grind (arith, ap length split.1, length-append split.0 c.offers.rest.now, c.offers-test.true, c.is_empty.ensures)) (offered_first _ _ _ _ _ split.0 split.1 c.offers.invariant.1 c.write.ensures.offers)

pub offers-preserved : goal.offers-preserved
offers-preserved g c =
    let split = c.offers.invariant.0 in
    let took = c.in-Took.ensures.writes in (
      offered_more _ _ _ _ _ _ _ split took.2 c.split_at.ensures.back,
      still_under_way _ _ _ _ _ split.0 _ split.1 took.0 took.1 c.split_at.ensures.back (offered_first _ _ _ _ _ split.0 split.1 c.offers.invariant.1 c.write.ensures.offers),
      omega (arith, c.offers.invariant.2, c.write.ensures.cause.later, c.write.ensures.cause.quiet (λ is. cc)),
    )

pub returns-clause-whole : goal.returns-clause-whole
returns-clause-whole g c = whole_at_end _ _ _ _ (Prim.grind (arith, c.offers-test.false, c.is_empty.ensures)) c.offers.invariant.1

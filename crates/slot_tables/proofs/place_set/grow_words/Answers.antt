use Rattle.std.proofs.Common.{◌∙◌, arith}
use Rattle.slot_tables.proofs.BitLemmas.{holds-pushed}
use Rattle.slot_tables.proofs.place_set.grow_words.Goals as goal

pub loop-words-preserved : goal.loop-words-preserved
loop-words-preserved c = record {
  held = λ q. rw c.in_ok-push.ensures.items (holds-pushed c.loop-words.words.items q ∙ c.loop-words.invariant.held q);
  more = omega (arith, c.loop-words.invariant.more, c.push.ensures.lower_bound);
  limit = λ limit below was. omega (arith, c.loop-words.invariant.limit limit below was);
}

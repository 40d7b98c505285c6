use Rattle.policy_versions.proofs.KindLemmas.{kinds_few, kinds_apart}
use Rattle.policy_versions.proofs.kinds.Kinds.of.Goals as goal

pub places_of-requires : goal.places_of-requires
places_of-requires c = rw (c.as_slice.ensures, c.parts-parts.ensures.parts) (kinds_few c.args.policy.now c.parts-parts.ensures.kept)

pub sets_of-requires-clause-apart : goal.sets_of-requires-clause-apart
sets_of-requires-clause-apart c = rw c.parts-parts.ensures.parts (kinds_apart c.args.policy.now c.parts-parts.ensures.kept)

pub returns : goal.returns
returns c = record {
  few = kinds_few c.args.policy.now c.parts-parts.ensures.kept;
  apart = kinds_apart c.args.policy.now c.parts-parts.ensures.kept;
  places = rw (c.as_slice.ensures, c.parts-parts.ensures.parts) at c.in_ok-places.ensures;
  sets = rw c.parts-parts.ensures.parts at c.in_ok-sets.ensures;
  named = rw c.parts-parts.ensures.parts at c.in_ok-named.ensures;
  every = c.every.ensures;
  none = c.none.ensures;
}

pub named_sets-requires : goal.named_sets-requires
named_sets-requires c = c.in_ok-sets.ensures

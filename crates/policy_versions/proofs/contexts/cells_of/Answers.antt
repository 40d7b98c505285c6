use Rattle.std.proofs.Common.{◌∙◌, arith}
use Rattle.std.proofs.lemmas.List.{length-set}
use Rattle.policy_versions.proofs.IdentifierLemmas.{counted_more}
use Rattle.policy_versions.proofs.contexts.cells_of.Goals as goal

pub places-preserved : goal.places-preserved
places-preserved c =
    rw (c.from-in-places.ensures, c.from-in-places-2.ensures, c.place.ensures.value) (record {
      size = length-set _ _ _ ∙ c.places.invariant.size;
      counted = counted_more c.args.places.now c.args.rows _ c.places.at c.index-places-at.result c.requires.inside c.requires.distinct c.places.invariant.size (omega arith) c.index-places-at.is c.places.invariant.counted;
    })

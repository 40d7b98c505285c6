use Rattle.policy_versions.proofs.IdentifierLemmas.{sids_next}
use Rattle.policy_versions.proofs.contexts.sids_of.Goals as goal

pub places-preserved : goal.places-preserved
places-preserved c =
    sids_next _ _ c.args.places.now c.places.place-index c.place-item.result c.in_ok-context.context _ _ c.requires.distinct c.places-test.true c.place-item.is c.in_ok-context.ensures c.places.invariant c.in-Ok.ensures.kept

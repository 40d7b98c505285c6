use Rattle.std.proofs.Common.{◌≡◌, take}
use Rattle.policy_versions.specs.Closing.{contexts_of}
use Rattle.policy_versions.proofs.contexts.sids_of.Given as goal

abbrev pub invariant-places : goal.invariant-places
invariant-places l = l.sids ≡ contexts_of l.policy l.users (take l.place-index l.places)

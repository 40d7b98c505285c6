use Rattle.std.proofs.Common.{arith}
use Rattle.std.proofs.lemmas.Bool.{both_ways}
use Rattle.policy_versions.specs.Kinds.{IsPlaceOf}
use Rattle.policy_versions.proofs.names.declared_kind.Goals as goal

pub unreachable-requires : goal.unreachable-requires
unreachable-requires c = both_ways _ (c.in-None.ensures c.args.policy.now c.requires.kinds) c.requires.declared

pub returns : goal.returns
returns c =
    let place : IsPlaceOf c.args.policy.now.kinds c.args.name.now c.in-Some.kind = c.in-Some.ensures c.args.policy.now c.requires.kinds in
    record { name = place.named; within = omega (arith, place.within, c.requires.kinds.few) }

use Rattle.policy_versions.proofs.kinds.named_sets.Goals as goal

pub kinds-preserved : goal.kinds-preserved
kinds-preserved c = c.in_ok-add_set.ensures c.args.policy.now c.requires c.kinds.invariant

pub attributes-preserved : goal.attributes-preserved
attributes-preserved c = c.in_ok-add_set-2.ensures c.args.policy.now c.requires c.attributes.invariant

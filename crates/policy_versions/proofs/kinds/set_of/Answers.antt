use Rattle.std.proofs.Common.{◌≡◌, ◌<◌, true, false, length}
use Rattle.std.specs.Str.{bytes_eq}
use Rattle.policy_versions.specs.Sets.{has_place}
use Rattle.policy_versions.proofs.KindLemmas.{own_begun, joined, not_joined}
use Rattle.policy_versions.proofs.kinds.set_of.Goals as goal
use Rattle.policy_versions.proofs.kinds.set_of.Goals.{then-eq, else-eq}

pub attributes-init : goal.attributes-init
attributes-init c =
    own_begun c.args.policy.now.kinds c.args.name.now (has_place c.own_set-set.result.words) (c.own_set-set.ensures c.args.policy.now.kinds c.requires.apart c.requires.places)

pub attributes-preserved : goal.attributes-preserved
attributes-preserved c =
    let within : c.attributes.attribute-index < length c.args.policy.now.attributes = rw c.as_slice-attribute-items.ensures at c.attributes-test.true in
    let read = rw c.as_slice-attribute-items.ensures at c.attribute-item.is in
    elim c.if-eq.branch [
      | then-eq w ↦
          let named : bytes_eq c.attribute-item.result.name c.args.name.now ≡ true = cc in
          rw w.set-is (joined c.args.policy.now.kinds c.args.policy.now.attributes c.attributes.attribute-index c.attribute-item.result c.args.name.now (has_place c.attributes.set.words) (has_place w.add_members.new.set.words) within read named (w.add_members.ensures c.args.policy.now.kinds c.requires.apart c.requires.places) c.attributes.invariant)
      | else-eq w ↦
          let other : bytes_eq c.attribute-item.result.name c.args.name.now ≡ false = cc in
          rw w.set-is (not_joined c.args.policy.now.kinds c.args.policy.now.attributes c.attributes.attribute-index c.attribute-item.result c.args.name.now (has_place c.attributes.set.words) within read other c.attributes.invariant)
    ]

use Rattle.std.proofs.Common.{◌<◌, ◌∙◌, cond, [], length, Some, refl, ap}
use Rattle.std.specs.Str.{bytes_eq}
use Rattle.std.specs.HashMap.{get}
use Rattle.policy_versions.proofs.KindLemmas.{sets_none, sets_more_kind, sets_more_attribute}
use Rattle.policy_versions.proofs.kinds.sets_of.Goals as goal

pub kinds-init : goal.kinds-init
kinds-init c = sets_none c.args.policy.now (get bytes_eq c.new-sets.result) (λ name. rw c.new-sets.ensures.empty refl)

pub kinds-preserved : goal.kinds-preserved
kinds-preserved c =
    let within : c.kinds.kind-index < length c.args.policy.now.kinds = rw c.as_slice-kind-items.ensures at c.kinds-test.true in
    let read = rw c.as_slice-kind-items.ensures at c.kind-item.is in
    sets_more_kind c.args.policy.now [] c.kinds.kind-index c.kind-item.result c.set_of.result (get bytes_eq c.kinds.sets) (get bytes_eq c.insert.new.self) within read
    (λ name. c.in_ok-insert.ensures.updates.0 name ∙ ap (λ key. cond (bytes_eq key name) (Some c.set_of.result) (get bytes_eq c.kinds.sets name)) c.in_ok-copy.ensures)
    c.set_of.ensures c.kinds.invariant

pub attributes-preserved : goal.attributes-preserved
attributes-preserved c =
    let within : c.attributes.attribute-index < length c.args.policy.now.attributes = rw c.as_slice-attribute-items.ensures at c.attributes-test.true in
    let read = rw c.as_slice-attribute-items.ensures at c.attribute-item.is in
    sets_more_attribute c.args.policy.now c.attributes.attribute-index c.attribute-item.result c.set_of-in-attributes.result (get bytes_eq c.attributes.sets) (get bytes_eq c.insert-in-attributes.new.self) within read
    (λ name. c.in_ok-insert-2.ensures.updates.0 name ∙ ap (λ key. cond (bytes_eq key name) (Some c.set_of-in-attributes.result) (get bytes_eq c.attributes.sets name)) c.in_ok-copy-2.ensures)
    c.set_of-in-attributes.ensures c.attributes.invariant

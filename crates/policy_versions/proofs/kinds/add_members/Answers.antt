use Rattle.std.proofs.Common.{◌<◌, ◌≤◌, length, subst}
use Rattle.std.proofs.lemmas.List.{take_all}
use Rattle.std.specs.Str.{bytes_eq}
use Rattle.std.specs.HashMap.{get}
use Rattle.policy_versions.specs.Sets.{has_place}
use Rattle.policy_versions.proofs.KindLemmas.{HasMembers, members_begun, members_more}
use Rattle.policy_versions.proofs.kinds.add_members.Goals as goal

pub members-init : goal.members-init
members-init c = members_begun (get bytes_eq c.args.places.now) (has_place c.args.set.now.words)

pub members-preserved : goal.members-preserved
members-preserved c =
    let within : c.members.member-index < length c.args.attribute.now.members = rw c.as_slice-member-items.ensures at c.members-test.true in
    let read = rw c.as_slice-member-items.ensures at c.member-item.is in
    members_more (get bytes_eq c.args.places.now) c.args.attribute.now.members c.members.member-index c.member-item.result (has_place c.args.set.now.words) (has_place c.members.set.words) (has_place c.add_named.new.set.words)
    within read c.add_named.ensures c.members.invariant

pub returns : goal.returns
returns c =
    let past : length c.args.attribute.now.members ≤ c.members.member-index = rw c.as_slice-member-items.ensures at c.members-test.false in
    subst (λ ms. HasMembers (get bytes_eq c.args.places.now) ms (has_place c.args.set.now.words) (has_place c.members.set.words)) (take_all c.members.member-index c.args.attribute.now.members past) c.members.invariant

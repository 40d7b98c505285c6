use Rattle.std.proofs.Common.{take}
use Rattle.std.specs.Str.{bytes_eq}
use Rattle.std.specs.HashMap.{get}
use Rattle.policy_versions.specs.Sets.{has_place}
use Rattle.policy_versions.proofs.KindLemmas.{HasMembers}
use Rattle.policy_versions.proofs.kinds.add_members.Given as goal

abbrev pub invariant-members : goal.invariant-members
invariant-members l = HasMembers (get bytes_eq l.places) (take l.member-index l.attribute.members) (has_place l.initial.set.words) (has_place l.set.words)

use Rattle.std.proofs.Common.{◌≡◌, take}
use Rattle.std.specs.List.{flat_map}
use Rattle.policy_answers.specs.Changes.{changes_of}
use Rattle.policy_answers.proofs.changing.changes.Given as goal

abbrev pub invariant-differences : goal.invariant-differences
invariant-differences l = l.found ≡ flat_map (changes_of l.policy l.before l.after) (take l.difference-index l.all)

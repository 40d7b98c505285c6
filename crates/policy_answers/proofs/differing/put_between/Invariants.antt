use Rattle.std.proofs.Common.{◌≡◌, ◌++◌, take}
use Rattle.std.specs.List.{flat_map}
use Rattle.access_vectors.specs.Table.{classes}
use Rattle.policy_answers.specs.Differences.{differences_in}
use Rattle.policy_answers.proofs.differing.put_between.Given as goal

abbrev pub invariant-classes : goal.invariant-classes
invariant-classes l = l.found ≡ l.fn.found ++ flat_map (differences_in l.policy l.versions.before l.versions.after l.places.s l.places.t) (take l.class-index classes)

use Rattle.policy_versions.specs.Sets.{has_place}
use Rattle.policy_versions.proofs.KindLemmas.{named_added, named_missed}
use Rattle.policy_versions.proofs.kinds.add_named.Goals as goal

pub returns-in-Some : goal.returns-in-Some
returns-in-Some c = λ kinds apart places.
    let found = places c.args.name.now in
    named_added kinds c.args.name.now c.in-Some.kind.now (has_place c.args.set.now.words) (has_place c.add.new.self.words) apart (rw (← c.in-Some.ensures.value) at found) (rw (c.from.ensures, c.place.ensures.value) at c.add.ensures)

pub returns-in-None : goal.returns-in-None
returns-in-None c = λ kinds apart places.
    let found = places c.args.name.now in
    named_missed kinds c.args.name.now (has_place c.args.set.now.words) (rw (← c.in-None.ensures.value) at found)

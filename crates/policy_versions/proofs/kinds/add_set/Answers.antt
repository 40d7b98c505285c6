use Rattle.policy_versions.proofs.KindLemmas.{named_more}
use Rattle.policy_versions.proofs.kinds.add_set.Goals as goal

pub returns-in_ok-add-in-Some : goal.returns-in_ok-add-in-Some
returns-in_ok-add-in-Some c = λ policy sets before.
    let found = sets c.args.name.now in
    rw (c.in_ok-add-in-Some.ensures, c.in_ok-copy-in-Some.ensures)
    (named_more policy c.args.named.now c.args.name.now c.in-Some.set.now before (rw (← c.in-Some.ensures.value) at found))

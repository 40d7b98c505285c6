use Rattle.std.proofs.Common.{◌∙◌, sym}
use Rattle.policy_versions.proofs.KindLemmas.{means_none}
use Rattle.policy_versions.proofs.kinds.Kinds.indexed.Goals as goal

pub returns-in-Some : goal.returns-in-Some
returns-in-Some c = λ policy kinds place within.
    let found = kinds.sets c.args.name.now in
    (rw (← c.in-Some.ensures.value) at found) place within

pub returns-in-None : goal.returns-in-None
returns-in-None c = λ policy kinds place within.
    let found = kinds.sets c.args.name.now in
    kinds.none place ∙ sym (means_none policy c.args.name.now (rw (← c.in-None.ensures.value) at found) place within)

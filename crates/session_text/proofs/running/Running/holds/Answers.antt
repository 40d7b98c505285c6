use Rattle.session_text.proofs.PassLemmas.{held_says}
use Rattle.session_text.proofs.running.Running.holds.Goals as goal

pub returns-in-Some : goal.returns-in-Some
returns-in-Some c =
    rw (c.has.ensures, c.passes_of.ensures, ← c.self.view_is)
    (held_says c.self.inside.held c.self.inside.parts c.args.name.now c.in-Some.client c.args.manager c.self.invariant.held
    (rw (← c.self.view_is) at c.in-Some.ensures.within) (rw (← c.self.view_is) at c.in-Some.ensures.value))

use Rattle.std.proofs.Common.{sym}
use Rattle.policy_versions.proofs.KindLemmas.{named_at}
use Rattle.policy_versions.proofs.named_sets.NamedSets.find.Goals as goal

pub returns-then-eq : goal.returns-then-eq
returns-then-eq c = λ policy all.
    named_at policy c.self.inside.sets c.place.result c.in-Some.named.now c.args.name.now (sym c.in-Some.ensures) (sym c.if-eq.ensures) (rw (← c.self.view_is) at all)

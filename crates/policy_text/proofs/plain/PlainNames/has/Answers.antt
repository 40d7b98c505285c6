use Rattle.std.proofs.Common.{◌∙◌, sym}
use Rattle.policy_text.proofs.PlainLemmas.{there}
use Rattle.policy_text.proofs.plain.PlainNames.has.Goals as goal

pub returns-in-Some : goal.returns-in-Some
returns-in-Some c = λ said.
    rw (← c.self.view_is)
    (there c.self.inside.names c.place.result c.in-Some.kept.now c.args.name.now (sym c.in-Some.ensures) (rw c.as_bytes-in-Some.ensures at (sym c.is.ensures ∙ said)))

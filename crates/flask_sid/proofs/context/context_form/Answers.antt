use Rattle.std.proofs.Common.{◌==◌, sym}
use Rattle.flask_sid.specs.Contexts.{context_form}
use Rattle.flask_sid.proofs.ContextLemmas.{four_parts}
use Rattle.flask_sid.proofs.context.context_form.Goals as goal

pub returns-in-Some : goal.returns-in-Some
unfolding context_form
returns-in-Some c =
    rw (c.in_ok-user.ensures, c.in_ok-role.ensures, c.in-Some.ensures) (sym (four_parts (λ b. b == 58) c.in_ok-user.user.now c.in_ok-role.role.now c.in-Some._more.now c.in-Some._after.now))

use Rattle.session_text.proofs.IndexLemmas.{client_placed}
use Rattle.session_text.proofs.running.Running.number.Goals as goal

pub returns-in-None-clause-value : goal.returns-in-None-clause-value
returns-in-None-clause-value c =
    rw (c.client_number.ensures.value, ← c.self.view_is) (client_placed c.self.inside.parts.clients c.self.inside.clients c.args.name.now c.self.invariant.clients)

use Rattle.session_text.proofs.IndexLemmas.{context_placed}
use Rattle.session_text.proofs.running.Running.sid.Goals as goal

pub returns-clause-value : goal.returns-clause-value
returns-clause-value c =
    rw (c.context_sid.ensures, ← c.self.view_is) (context_placed c.self.inside.parts.policy.contexts c.self.inside.contexts c.args.context.now c.self.invariant.contexts)

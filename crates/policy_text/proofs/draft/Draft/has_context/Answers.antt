use Rattle.policy_text.proofs.IndexLemmas.{context_indexed}
use Rattle.policy_text.proofs.draft.Draft.has_context.Goals as goal

pub returns : goal.returns
returns c =
    rw (c.has.ensures, ← c.self.view_is) (context_indexed c.self.inside.policy.contexts c.self.inside.contexts c.args.context.now c.self.invariant.contexts)

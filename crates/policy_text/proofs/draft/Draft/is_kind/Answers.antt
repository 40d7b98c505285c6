use Rattle.policy_text.proofs.IndexLemmas.{kind_indexed}
use Rattle.policy_text.proofs.draft.Draft.is_kind.Goals as goal

pub returns : goal.returns
returns c =
    rw (c.has.ensures, ← c.self.view_is) (kind_indexed c.self.inside.policy.kinds c.self.inside.kinds c.args.name.now c.self.invariant.kinds)

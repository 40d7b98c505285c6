use Rattle.policy_text.proofs.IndexLemmas.{attribute_indexed}
use Rattle.policy_text.proofs.draft.Draft.is_attribute.Goals as goal

pub returns : goal.returns
returns c =
    rw (c.has.ensures, ← c.self.view_is) (attribute_indexed c.self.inside.policy.attributes c.self.inside.attributes c.args.name.now c.self.invariant.attributes)

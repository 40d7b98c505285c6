use Rattle.policy_text.proofs.PlainLemmas.{plain_in}
use Rattle.policy_text.proofs.draft.Draft.is_plain.Goals as goal

pub returns : goal.returns
returns c = λ said. rw (← c.self.view_is) (plain_in c.self.inside.policy c.self.inside.plain c.args.name.now c.self.invariant.plain (c.has.ensures said))

use Rattle.std.proofs.Common.{◌∙◌}
use Rattle.policy_text.proofs.IndexLemmas.{context_indexed, popped}
use Rattle.policy_text.proofs.draft.Draft.add_context_line.Goals as goal

pub add-requires : goal.add-requires
add-requires c =
    context_indexed c.self.inside.policy.contexts c.self.inside.contexts c.args.context.now c.self.invariant.contexts ∙ (rw (← c.self.view_is) at c.requires)

pub invariant_of-self-in-Err : goal.invariant_of-self-in-Err
invariant_of-self-in-Err c =
    let as_before = popped c.self.inside.policy.contexts c.pop-line.new.self c.push.new.self _ c.pop-line.result c.in_ok-push.ensures.ok c.pop-line.ensures in
    record {
      kinds = c.self.invariant.kinds;
      attributes = c.self.invariant.attributes;
      contexts = rw (as_before, c.in-Err.ensures.err) c.self.invariant.contexts;
      plain = c.self.invariant.plain;
    }

use Rattle.std.proofs.Common.{refl, ◌∙◌}
use Rattle.file_calls.specs.declared.opening.Node.{Node}
use Rattle.policy_text.proofs.IndexLemmas.{indexed_more}
use Rattle.session_text.proofs.Growth.{node_grows}
use Rattle.session_text.proofs.IndexLemmas.{node_there}
use Rattle.session_text.proofs.setup.Setup.add_node.Goals as goal

pub add-requires-clause-new : goal.add-requires-clause-new
add-requires-clause-new c =
    node_there c.self.inside.parts.nodes c.self.inside.nodes c.args.path.now c.self.invariant.nodes ∙ (rw (← c.self.view_is) at c.requires).place.2

pub invariant_of-self-in-Ok : goal.invariant_of-self-in-Ok
invariant_of-self-in-Ok c =
    rw (c.in_ok-push.ensures.ok, c.in_ok-kept.ensures, c.in-Ok.ensures.ok) (record {
      set_up = node_grows c.args.path.now c.args.sid c.args.bytes c.self.inside.parts c.self.invariant.set_up (rw (← c.self.view_is) at c.requires);
      contexts = c.self.invariant.contexts;
      clients = c.self.invariant.clients;
      nodes = indexed_more (λ (node : Node). node.path) c.self.inside.parts.nodes c.self.inside.nodes _ c.args.path.now c.self.invariant.nodes refl;
    })

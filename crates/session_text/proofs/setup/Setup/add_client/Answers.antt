use Rattle.std.proofs.Common.{refl, ◌∙◌}
use Rattle.policy_text.proofs.IndexLemmas.{indexed_more}
use Rattle.session_text.specs.declared.session.ClientLine.{ClientLine}
use Rattle.session_text.proofs.Growth.{client_grows}
use Rattle.session_text.proofs.IndexLemmas.{client_there}
use Rattle.session_text.proofs.setup.Setup.add_client.Goals as goal

pub add-requires : goal.add-requires
add-requires c =
    client_there c.self.inside.parts.clients c.self.inside.clients c.args.name.now c.self.invariant.clients ∙ (rw (← c.self.view_is) at c.requires).new

pub invariant_of-self-in-Ok : goal.invariant_of-self-in-Ok
invariant_of-self-in-Ok c =
    rw (c.in_ok-push.ensures.ok, c.in_ok-kept.ensures, c.in-Ok.ensures.ok) (record {
      set_up = client_grows c.args.name.now c.args.sid c.self.inside.parts c.self.invariant.set_up (rw (← c.self.view_is) at c.requires);
      contexts = c.self.invariant.contexts;
      clients = indexed_more (λ (client : ClientLine). client.name) c.self.inside.parts.clients c.self.inside.clients _ c.args.name.now c.self.invariant.clients refl;
      nodes = c.self.invariant.nodes;
    })

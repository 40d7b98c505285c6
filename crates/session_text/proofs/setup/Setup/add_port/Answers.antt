use Rattle.session_text.proofs.Growth.{port_grows}
use Rattle.session_text.proofs.setup.Setup.add_port.Goals as goal

pub invariant_of-self : goal.invariant_of-self
invariant_of-self c = rw c.in_err-push.ensures.err c.self.invariant

pub invariant_of-self-2 : goal.invariant_of-self-2
invariant_of-self-2 c =
    rw c.in_ok-push.ensures.ok (record {
      set_up = port_grows c.args.port c.args.sid c.self.inside.parts c.self.invariant.set_up (rw (← c.self.view_is) at c.requires);
      contexts = c.self.invariant.contexts;
      clients = c.self.invariant.clients;
      nodes = c.self.invariant.nodes;
    })

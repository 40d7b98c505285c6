use Rattle.session_text.proofs.IndexLemmas.{client_there}
use Rattle.session_text.proofs.setup.Setup.has_client.Goals as goal

pub returns : goal.returns
returns c = rw (c.has.ensures, ← c.self.view_is) (client_there c.self.inside.parts.clients c.self.inside.clients c.args.name.now c.self.invariant.clients)

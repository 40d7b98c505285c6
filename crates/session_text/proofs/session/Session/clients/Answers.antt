use Rattle.session_text.proofs.SessionLemmas.{few_clients}
use Rattle.session_text.proofs.session.Session.clients.Goals as goal

pub returns-clause-few : goal.returns-clause-few
returns-clause-few c = rw c.as_slice.ensures (few_clients c.self.inside.parts c.self.invariant)

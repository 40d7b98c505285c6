use Rattle.std.proofs.Common.{length}
use Rattle.session_text.proofs.IndexLemmas.{names_few}
use Rattle.session_text.proofs.PassLemmas.{none_held}
use Rattle.session_text.proofs.running.Running.begun.Goals as goal

pub invariant_of-result : goal.invariant_of-result
invariant_of-result c =
    let session = c.finish-session.result.0 in
    let clients = rw (← c.finish-session.ensures.value) at c.finish-session.ensures.clients in
    rw c.into_parts.ensures.value (record {
      kept = c.into_parts.ensures.kept;
      held = rw (c.in_ok-held.ensures, c.clients.ensures.value, c.finish-session.ensures.idle) (none_held (length session.clients));
      contexts = rw (← c.finish-session.ensures.value) at c.finish-session.ensures.contexts;
      clients = clients;
      few = names_few session.clients c.finish-session.result.2 clients (rw c.clients.ensures.value at c.clients.ensures.few);
    })

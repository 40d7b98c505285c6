use Rattle.std.proofs.Common.{sym, ◌∙◌}
use Rattle.session_text.proofs.PlaceLemmas.{client_may}
use Rattle.session_text.proofs.setup_lines.client_read.Goals as goal

pub add_client-requires : goal.add_client-requires
add_client-requires c =
    client_may c.args.name c.args.context c.args.setup.now.session c.in_ok-sid.sid c.requires
    (rw (c.len.ensures, c.parts.ensures) at (sym c.is_past_client.ensures ∙ c.if-is_past_client.false)) c.in_ok-sid.ensures

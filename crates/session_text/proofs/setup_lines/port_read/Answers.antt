use Rattle.std.proofs.Common.{sym, ◌∙◌}
use Rattle.session_text.proofs.PlaceLemmas.{port_may}
use Rattle.session_text.proofs.setup_lines.port_read.Goals as goal

pub add_port-requires : goal.add_port-requires
add_port-requires c =
    port_may c.args.number c.args.context c.args.setup.now.session c.in-Some.sid
    (rw (c.len.ensures, c.parts.ensures) at (sym c.is_past_port_line.ensures.value ∙ c.if-is_past_port_line.false))
    c.in-Some.ensures.known
    (rw (c.as_slice.ensures, c.parts-2.ensures) at (sym c.has_port.ensures ∙ c.if-has_port.false))

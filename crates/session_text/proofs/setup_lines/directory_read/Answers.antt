use Rattle.std.proofs.Common.{sym, ◌∙◌, None}
use Rattle.session_text.proofs.PlaceLemmas.{node_may}
use Rattle.session_text.proofs.setup_lines.directory_read.Goals as goal

pub add_node-requires : goal.add_node-requires
add_node-requires c =
    node_may c.args.path c.args.context c.args.setup.now.session c.in_ok-sid.sid None c.requires
    (rw (c.len.ensures, c.parts.ensures) at (sym c.is_past_node.ensures ∙ c.if-is_past_node.false)) c.in_ok-sid.ensures tt

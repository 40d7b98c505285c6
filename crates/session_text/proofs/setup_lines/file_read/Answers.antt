use Rattle.std.proofs.Common.{sym, ◌∙◌}
use Rattle.session_text.proofs.PlaceLemmas.{file_may}
use Rattle.session_text.proofs.setup_lines.file_read.Goals as goal

pub add_node-requires : goal.add_node-requires
add_node-requires c =
    rw c.in_ok-bytes.ensures
    (file_may c.args.path c.args.context c.args.setup.now.session c.in_ok-sid.sid c.args.bytes c.requires.path c.requires.bytes
    (rw (c.len.ensures, c.parts.ensures) at (sym c.is_past_node.ensures ∙ c.if-is_past_node.false))
    (sym c.is_long_data.ensures ∙ c.if-is_long_data.false) c.in_ok-sid.ensures)

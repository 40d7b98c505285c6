use Rattle.std.proofs.Common.{sym}
use Rattle.session_forms.proofs.SetupLemmas.{setup_formed}
use Rattle.session_text.proofs.reader.numbered_line_read.Goals as goal

pub setup_form_read-requires : goal.setup_form_read-requires
setup_form_read-requires c =
    setup_formed c.args.number c.args.line.now c.in-Some.first c.next.new.self _ (rw c.in-Some.ensures at (sym c.in-Ok.ensures.said)) (sym c.in-Some-setup_form.ensures)

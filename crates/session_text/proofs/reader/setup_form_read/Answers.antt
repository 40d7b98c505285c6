use Rattle.session_text.proofs.ReadingLemmas.{setup_leads, setup_fails}
use Rattle.session_text.proofs.reader.setup_form_read.Goals as goal

pub returns-in-Ok : goal.returns-in-Ok
returns-in-Ok c =
    rw c.is_run-is_last.ensures (setup_leads c.args.number c.args.form c.args.setup.now c.setup_read.new.setup c.in-Ok.ensures)

pub returns-in-Err : goal.returns-in-Err
returns-in-Err c = setup_fails c.args.number c.args.form c.args.setup.now c.in-Err.refusal c.in-Err.ensures

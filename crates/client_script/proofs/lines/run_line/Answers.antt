use Rattle.std.proofs.Common.{◌∙◌, [], sym}
use Rattle.client_script.specs.Clients.{standings_of}
use Rattle.client_script.proofs.Posted.{none_told}
use Rattle.client_script.proofs.lines.run_line.Goals as goal

pub returns-in-Begin-clause-ok : goal.returns-in-Begin-clause-ok
returns-in-Begin-clause-ok g c = rw (c.in-Begin.is) (c.begin_at.ensures.done c.args.line.line _)

pub returns-in-End-clause-ok : goal.returns-in-End-clause-ok
returns-in-End-clause-ok g c = rw (c.in-End.is) (c.end_at.ensures.done c.args.line.line _)

pub returns-in-Begin-clause-told : goal.returns-in-Begin-clause-told
returns-in-Begin-clause-told g c =
    c.new.ensures ∙ sym (none_told c.args.worker.now.audit.now 0 [] (standings_of c.args.seats.now) (standings_of c.begin_at.new.seats) c.begin_at.ensures.same)

pub returns-in-End-clause-told : goal.returns-in-End-clause-told
returns-in-End-clause-told g c =
    c.new-in-End.ensures ∙ sym (none_told c.args.worker.now.audit.now 0 [] (standings_of c.args.seats.now) (standings_of c.end_at.new.seats) c.end_at.ensures.same)

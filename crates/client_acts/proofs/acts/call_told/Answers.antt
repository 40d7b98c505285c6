use Rattle.std.proofs.Common.{sym, ap}
use Rattle.gate_rule.specs.Views.{number_of, caller_of}
use Rattle.client_acts.proofs.Told.{lines_told}
use Rattle.client_acts.proofs.acts.call_told.Goals as goal

pub returns-clause-told : goal.returns-clause-told
returns-clause-told g c =
    lines_told c.args.worker.now.audit.now g.C.Core.use_of c.args.mark c.args.call c.lines_asked.result c.in_ok-asked.field-0-0 c.in_ok-asked.asked c.as_slice.result.now c.number-client.result c.in-Some.number
    c.args.seat.now c.call_asked.new.seat c.if-not-audit.false c.in_ok-asked.ensures.ok c.as_slice.ensures (sym (ap caller_of c.number-client.ensures)) (ap number_of c.in-Some.ensures.pass) c.lines_asked.ensures

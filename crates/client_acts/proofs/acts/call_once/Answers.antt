use Rattle.std.proofs.Common.{◌∙◌, sym}
use Rattle.client_acts.proofs.Called.{held_none, held_one, once_given, once_kept, refused_given, refused_kept}
use Rattle.client_acts.proofs.acts.call_once.Goals as goal

pub returns-then-not-holds-clause-ok : goal.returns-then-not-holds-clause-ok
returns-then-not-holds-clause-ok g c =
    let opened = c.args.station.now.fixed.opening.core in
    once_given g.C.Core.plain g.C.Core.formed (g.D.Decider.decides c.args.station.now.fixed.decider) (g.C.Core.opening opened) g.C.Core.use_of c.args.mark c.args.call c.args.seat.now c.begin.new.seat
    c.call_told-answer.new.seat c.end.new.seat c.begin.ensures.taken c.call_told-answer.ensures.kept c.call_told-answer.ensures.sound.lawful
    (held_none c.args.seat.now.view.rights.pass c.pass.result c.pass.ensures.pass (sym c.is_some-holds.ensures ∙ c.if-not-holds.true)) c.end.ensures.given c.call_told-answer.result c.call_told-answer.ensures.ok

pub returns-then-not-holds-clause-err : goal.returns-then-not-holds-clause-err
returns-then-not-holds-clause-err g c =
    let opened = c.args.station.now.fixed.opening.core in
    refused_given g.C.Core.plain g.C.Core.formed (g.D.Decider.decides c.args.station.now.fixed.decider) (g.C.Core.opening opened) g.C.Core.use_of c.args.mark c.args.call c.args.seat.now c.begin.new.seat
    c.call_told-answer.new.seat c.end.new.seat c.begin.ensures.taken c.call_told-answer.ensures.kept c.call_told-answer.ensures.sound.lawful
    (held_none c.args.seat.now.view.rights.pass c.pass.result c.pass.ensures.pass (sym c.is_some-holds.ensures ∙ c.if-not-holds.true)) c.end.ensures.given c.call_told-answer.result c.call_told-answer.ensures.err

pub returns-else-not-holds-clause-ok : goal.returns-else-not-holds-clause-ok
returns-else-not-holds-clause-ok g c =
    let opened = c.args.station.now.fixed.opening.core in
    let held = held_one c.args.seat.now.view.rights.pass c.pass.result c.pass.ensures.pass (sym c.is_some-holds.ensures ∙ c.if-not-holds.false) in
    once_kept g.C.Core.plain g.C.Core.formed (g.D.Decider.decides c.args.station.now.fixed.decider) (g.C.Core.opening opened) g.C.Core.use_of c.args.mark c.args.call c.args.seat.now c.begin.new.seat
    c.call_told-answer.new.seat c.begin.ensures.taken c.call_told-answer.ensures.kept c.call_told-answer.ensures.sound.lawful held.0 held.1 c.call_told-answer.result c.call_told-answer.ensures.ok

pub returns-else-not-holds-clause-err : goal.returns-else-not-holds-clause-err
returns-else-not-holds-clause-err g c =
    let opened = c.args.station.now.fixed.opening.core in
    let held = held_one c.args.seat.now.view.rights.pass c.pass.result c.pass.ensures.pass (sym c.is_some-holds.ensures ∙ c.if-not-holds.false) in
    refused_kept g.C.Core.plain g.C.Core.formed (g.D.Decider.decides c.args.station.now.fixed.decider) (g.C.Core.opening opened) g.C.Core.use_of c.args.mark c.args.call c.args.seat.now c.begin.new.seat
    c.call_told-answer.new.seat c.begin.ensures.taken c.call_told-answer.ensures.kept c.call_told-answer.ensures.sound.lawful held.0 held.1 c.call_told-answer.result c.call_told-answer.ensures.err

use Rattle.std.proofs.Common.{refl}
use Rattle.policy_versions.specs.Compiling.{sids_of, decides_of}
use Rattle.session_runner.proofs.OpeningLemmas.{declared_known, opened_may, opened_shown}
use Rattle.session_questions.proofs.KeepingLemmas.{kept_all, run_is}
use Rattle.session_questions.proofs.running.run_session.Goals as goal

pub open-requires-clause-known : goal.open-requires-clause-known
open-requires-clause-known g c =
    declared_known c.args.session.policy (sids_of c.args.catalogue.now) (decides_of c.args.catalogue.now) c.requires.compiled.judged.1 c.requires.compiled.decides

pub run_lines-requires-clause-may : goal.run_lines-requires-clause-may
run_lines-requires-clause-may g c =
    let opened = c.in_ok-runner.field-0 in
    opened_may decides_of c.args.catalogue.now c.args.session opened opened.runner opened.lines.items c.in_ok-runner.ensures refl refl

pub returns : goal.returns
returns g c =
    let opened = c.in_ok-runner.field-0 in
    let is = c.in_ok-runner.ensures in
    run_is c.args.session (decides_of c.args.catalogue.now) opened.policy opened.clients c.new-kept.result c.run_lines.new.out _ is.policy_is is.clients_are c.new-kept.ensures
    (kept_all _ c.run_lines.new.recorder c.new-kept.result c.run_lines.new.out _ c.in_ok-run_lines.ensures.taken)
    (opened_shown decides_of c.args.catalogue.now c.args.session opened opened.runner opened.lines.items is refl refl)

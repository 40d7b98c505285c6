use Rattle.std.proofs.Common.{◌∙◌, refl, ap}
use Rattle.audit_allow.specs.Grants.{grants}
use Rattle.audit_allow.specs.declared.grant.GrantKind.TheVariants.{Allow, Refused}
use Rattle.policy_versions.specs.Compiling.{sids_of, decides_of}
use Rattle.session_runner.proofs.OpeningLemmas.{declared_known, opened_shown}
use Rattle.session_runner.specs.Runs.{first_state}
use Rattle.session_lessons.proofs.LearningLemmas.{learned_all, lesson_is}
use Rattle.session_lessons.proofs.ToldLemmas.{lines_told}
use Rattle.session_lessons.proofs.learning.learn.Goals as goal

pub open-requires-clause-known : goal.open-requires-clause-known
open-requires-clause-known g c =
    declared_known c.args.session.policy (sids_of c.args.catalogue.now) (decides_of c.args.catalogue.now) c.requires.compiled.judged.1 c.requires.compiled.decides

pub returns : goal.returns
returns g c =
    let opened = c.in_ok-runner.field-0 in
    let is = c.in_ok-runner.ensures in
    let kept = learned_all _ c.run_lines.new.recorder c.new-denied.result c.run_lines.new.out _ c.in_ok-run_lines.ensures.taken in
    let shown = opened_shown decides_of c.args.catalogue.now c.args.session opened opened.runner opened.lines.items is refl refl in
    let lesson = lesson_is c.args.version c.args.session (sids_of c.args.catalogue.now) c.sids.result.now c.sids-2.result.now (decides_of c.args.catalogue.now)
    c.parts.result.now opened.policy _ c.new-denied.result c.as_slice.result.now c.run_lines.new.out
    (c.parts.ensures.parts ∙ is.policy_is) is.policy_is c.sids.ensures c.sids-2.ensures shown c.new-denied.ensures c.as_slice.ensures kept in
    record {
      policy_is = is.policy_is;
      allow_is = c.in_ok-learned.ensures.allow ∙ ap (grants Allow) lesson;
      refused_is = c.in_ok-learned.ensures.refused ∙ ap (grants Refused) lesson;
      told = lines_told (decides_of c.args.catalogue.now) c.args.version c.args.session.policy (sids_of c.args.catalogue.now) (first_state c.args.session) c.args.session.lines;
    }

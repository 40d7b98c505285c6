use Rattle.std.proofs.Common.{arith}
use Rattle.policy_versions.proofs.StepLemmas.{versions_next, versions_same}
use Rattle.policy_versions.proofs.steps.Steps.of.Goals as goal
use Rattle.policy_versions.proofs.steps.Steps.of.Goals.{then-version-eq0, else-version-eq0+else-not-gives_as}

pub versions-preserved : goal.versions-preserved
versions-preserved c =
    elim c.if-version-eq0.branch [
      | then-version-eq0 w ↦ rw w.steps-is (record {
        takes = versions_next _ c.args.present.now c.versions.version _ _ _ _ w.take_sources.ensures.own w.take_sources.ensures.object c.versions.invariant.takes w.take_sources.ensures.takes;
        due = w.take_sources.ensures.due c.args.versions c.versions-test.true c.versions.invariant.due;
      })
      | else-version-eq0+else-not-gives_as w ↦ rw w.steps-is (record {
        takes = versions_same _ c.args.present.now c.versions.version _ _ (omega (arith, w.if-version-eq0.false)) (w.gives_as.ensures w.if-not-gives_as.false) c.versions.invariant.takes;
        due = c.versions.invariant.due;
      })
    ]

pub returns-clause-takes : goal.returns-clause-takes
returns-clause-takes c = λ version below. c.versions.invariant.takes version (omega arith)

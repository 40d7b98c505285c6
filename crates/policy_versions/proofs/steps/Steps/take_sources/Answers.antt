use Rattle.std.proofs.Common.{◌∙◌, sym, arith}
use Rattle.policy_versions.proofs.StepLemmas.{sources_next, sources_skip}
use Rattle.policy_versions.proofs.steps.Steps.take_sources.Goals as goal
use Rattle.policy_versions.proofs.steps.Steps.take_sources.Goals.{then-has, else-has}

pub sources-preserved : goal.sources-preserved
sources-preserved c =
    elim c.if-has.branch [
      | then-has w ↦ rw w.self-is (record {
        own = λ row kind marked. w.take_targets.ensures.own row kind (c.sources.invariant.own row kind marked);
        object = λ row kind marked. w.take_targets.ensures.object row kind (c.sources.invariant.object row kind marked);
        takes = sources_next _ c.args.present.now _ c.sources.s _ _ _ _ w.take_targets.ensures.own w.take_targets.ensures.object c.sources.invariant.takes (rw c.at-source.ensures at w.take_targets.ensures.takes);
        due = λ versions below due. w.take_targets.ensures.due versions below (c.sources.invariant.due versions below due);
      })
      | else-has w ↦ rw w.self-is (record {
        own = c.sources.invariant.own;
        object = c.sources.invariant.object;
        takes = sources_skip _ c.args.present.now _ c.sources.s _ _ (rw c.at-source.ensures at (sym c.has.ensures.value ∙ w.if-has.false)) c.sources.invariant.takes;
        due = c.sources.invariant.due;
      })
    ]

pub returns-clause-takes : goal.returns-clause-takes
returns-clause-takes c = λ s small. c.sources.invariant.takes s (omega arith)

use Rattle.std.proofs.Common.{◌∙◌, sym, arith}
use Rattle.policy_versions.proofs.StepLemmas.{targets_next, targets_skip, due_more}
use Rattle.policy_versions.proofs.steps.Steps.take_targets.Goals as goal
use Rattle.policy_versions.proofs.steps.Steps.take_targets.Goals.{then-has, else-has}

pub targets-preserved : goal.targets-preserved
targets-preserved c =
    elim c.if-has.branch [
      | then-has w ↦ rw w.self-is (record {
        own = λ row kind marked. w.take.ensures.own row kind (c.targets.invariant.own row kind marked);
        object = λ row kind marked. w.take.ensures.object row kind (c.targets.invariant.object row kind marked);
        takes = targets_next _ c.args.present.now _ _ c.targets.t _ _ _ _ w.take.ensures.own w.take.ensures.object c.targets.invariant.takes (rw c.at-target.ensures at w.take.ensures.takes);
        due = λ versions below due. due_more _ versions _ _ _ _ _ _ _ _ below (rw c.at-target.ensures c.targets-test.true) (sym c.has.ensures.value ∙ w.if-has.true) w.take.ensures.only (c.targets.invariant.due versions below due);
      })
      | else-has w ↦ rw w.self-is (record {
        own = c.targets.invariant.own;
        object = c.targets.invariant.object;
        takes = targets_skip _ c.args.present.now _ _ c.targets.t _ _ (rw c.at-target.ensures at (sym c.has.ensures.value ∙ w.if-has.false)) c.targets.invariant.takes;
        due = c.targets.invariant.due;
      })
    ]

pub returns-clause-takes : goal.returns-clause-takes
returns-clause-takes c = λ t small. c.targets.invariant.takes t (omega arith)

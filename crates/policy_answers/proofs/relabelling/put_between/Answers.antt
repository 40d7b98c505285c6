use Rattle.policy_answers.specs.Relabels.{relabels_in}
use Rattle.policy_answers.proofs.AnswerLemmas.{classes_more}
use Rattle.policy_answers.proofs.relabelling.put_between.Goals as goal

pub classes-preserved : goal.classes-preserved
classes-preserved c =
    classes_more (relabels_in c.args.policy.now c.args.versions.before c.args.versions.after c.args.places.s c.args.places.t) c.classes.class-index c.args.found.now c.classes.found c.put_in.new.found c.classes-test.true c.classes.invariant c.in_ok-put_in.ensures

use Rattle.policy_versions.specs.Steps.{StayMarked}
use Rattle.policy_versions.proofs.StepLemmas.{either_stays, only_both}
use Rattle.policy_versions.proofs.steps.Steps.take_class.Goals as goal

pub returns-clause-own : goal.returns-clause-own
returns-clause-own c = rw c.take_member.ensures.own c.take_label.ensures.own

pub returns-clause-takes : goal.returns-clause-takes
returns-clause-takes c =
    let own : StayMarked c.take_label.new.self.own c.take_member.new.self.own = rw c.take_member.ensures.own (λ row kind marked. marked) in
    record {
      label = either_stays _ _ _ _ _ _ _ own c.take_member.ensures.object c.take_label.ensures.label;
      member = c.take_member.ensures.member;
    }

pub returns-clause-only : goal.returns-clause-only
returns-clause-only c = only_both _ _ _ _ _ _ _ _ _ _ c.take_label.ensures.only c.take_member.ensures.only

use Rattle.policy_versions.specs.Given.{given_at}
use Rattle.policy_versions.specs.Steps.{StayMarked, TakesClass}
use Rattle.access_vectors.specs.declared.class.Class.TheVariants.{File, Dir, Process, Port, Security}
use Rattle.policy_versions.proofs.StepLemmas.{only_both, takes_class_stays}
use Rattle.policy_versions.proofs.steps.Steps.take.Goals as goal

pub returns-clause-takes : goal.returns-clause-takes
returns-clause-takes c =
    let own4 : StayMarked c.take_class-4.new.self.own c.take_class-5.new.self.own = c.take_class-5.ensures.own in
    let own3 : StayMarked c.take_class-3.new.self.own c.take_class-5.new.self.own = λ row kind marked. own4 row kind (c.take_class-4.ensures.own row kind marked) in
    let own2 : StayMarked c.take_class-2.new.self.own c.take_class-5.new.self.own = λ row kind marked. own3 row kind (c.take_class-3.ensures.own row kind marked) in
    let own1 : StayMarked c.take_class.new.self.own c.take_class-5.new.self.own = λ row kind marked. own2 row kind (c.take_class-2.ensures.own row kind marked) in
    let object4 : StayMarked c.take_class-4.new.self.object c.take_class-5.new.self.object = c.take_class-5.ensures.object in
    let object3 : StayMarked c.take_class-3.new.self.object c.take_class-5.new.self.object = λ row kind marked. object4 row kind (c.take_class-4.ensures.object row kind marked) in
    let object2 : StayMarked c.take_class-2.new.self.object c.take_class-5.new.self.object = λ row kind marked. object3 row kind (c.take_class-3.ensures.object row kind marked) in
    let object1 : StayMarked c.take_class.new.self.object c.take_class-5.new.self.object = λ row kind marked. object2 row kind (c.take_class-2.ensures.object row kind marked) in
    λ class. elim class as (λ one. TakesClass (given_at c.args.given.now) c.args.version c.args.s c.args.t one c.take_class-5.new.self.own c.take_class-5.new.self.object) [
      | File ↦ takes_class_stays _ _ _ _ File _ _ _ _ own1 object1 c.take_class.ensures.takes
      | Dir ↦ takes_class_stays _ _ _ _ Dir _ _ _ _ own2 object2 c.take_class-2.ensures.takes
      | Process ↦ takes_class_stays _ _ _ _ Process _ _ _ _ own3 object3 c.take_class-3.ensures.takes
      | Port ↦ takes_class_stays _ _ _ _ Port _ _ _ _ own4 object4 c.take_class-4.ensures.takes
      | Security ↦ c.take_class-5.ensures.takes
    ]

pub returns-clause-only : goal.returns-clause-only
returns-clause-only c =
    let two = only_both _ _ _ _ _ _ _ _ _ _ c.take_class.ensures.only c.take_class-2.ensures.only in
    let three = only_both _ _ _ _ _ _ _ _ _ _ two c.take_class-3.ensures.only in
    let four = only_both _ _ _ _ _ _ _ _ _ _ three c.take_class-4.ensures.only in
    only_both _ _ _ _ _ _ _ _ _ _ four c.take_class-5.ensures.only

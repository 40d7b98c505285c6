use Rattle.std.proofs.Common.{arith, ◌∙◌, below_more}
use Rattle.policy_versions.specs.Steps.{IsFollowedTo}
use Rattle.policy_versions.proofs.FoundLemmas.{front_of_front, followed_front, followed_all}
use Rattle.policy_versions.proofs.found.Found.follow_from.Goals as goal

pub kinds-preserved : goal.kinds-preserved
kinds-preserved c = record {
  rows = c.in_ok-follow_to.ensures.rows ∙ c.kinds.invariant.rows;
  front = front_of_front _ _ _ c.in_ok-follow_to.ensures.front c.kinds.invariant.front;
  led = λ start leads led. c.in_ok-follow_to.ensures.led start leads (c.kinds.invariant.led start leads led);
  followed = below_more (λ kind. IsFollowedTo c.args.users.now c.args.steps.now.own c.args.steps.now.object c.follow_to.new.self.places (record { row = c.args.row; kind = c.args.s }) kind) c.kinds.k
      (λ kind before. followed_front _ _ _ _ _ _ _ c.in_ok-follow_to.ensures.front (c.kinds.invariant.followed kind before))
      (rw c.at.ensures at c.in_ok-follow_to.ensures.ok);
}

pub returns-clause-ok : goal.returns-clause-ok
returns-clause-ok c = followed_all c.args.users.now c.args.steps.now.own c.args.steps.now.object c.kinds.self.places (record { row = c.args.row; kind = c.args.s }) c.kinds.k _ (omega arith) c.bound-k-end.ensures.own c.bound-k-end.ensures.object c.kinds.invariant.followed

use Rattle.std.proofs.Common.{◌≤◌, ◌∙◌, length, refl, sym, ap, arith, Err}
use Rattle.policy_versions.specs.Founds.{begun}
use Rattle.policy_versions.proofs.FoundLemmas.{front_itself, front_of_front, has_at, led_at, at_position, followed_next, front_shorter, none_from}
use Rattle.policy_versions.proofs.found.Found.follow.Goals as goal

pub places-init : goal.places-init
places-init c = record {
  rows = refl;
  front = front_itself _;
  led = λ k d within. begun _ _ (has_at _ k d within);
  below = omega arith;
  followed = λ k d none. absurd (omega arith);
}

pub returns-in_err-follow_from-clause-led : goal.returns-in_err-follow_from-clause-led
returns-in_err-follow_from-clause-led c =
    c.in_err-follow_from.ensures.led _ (led_at _ _ _ _ _ _ _ c.places.invariant.led c.in-Some.ensures.value) c.places.invariant.led

pub returns-in_err-follow_from-clause-full : goal.returns-in_err-follow_from-clause-full
returns-in_err-follow_from-clause-full c = λ e.
    let told = rw e at c.from_residual.ensures.1 in
    c.in_err-follow_from.ensures.full _ (led_at _ _ _ _ _ _ _ c.places.invariant.led c.in-Some.ensures.value) (ap Err (sym told))

pub places-smaller : goal.places-smaller
places-smaller c =
    let stands = at_position _ _ c.in-Some.place c.places.at c.in-Some.ensures.value in
    omega (arith, stands.0, c.in-Some.ensures.few)

pub places-preserved : goal.places-preserved
places-preserved c =
    let stands = at_position _ _ c.in-Some.place c.places.at c.in-Some.ensures.value in
    record {
      rows = c.in_ok-follow_from.ensures.rows ∙ c.places.invariant.rows;
      front = front_of_front _ _ _ c.in_ok-follow_from.ensures.front c.places.invariant.front;
      led = c.in_ok-follow_from.ensures.led _ (led_at _ _ _ _ _ _ _ c.places.invariant.led c.in-Some.ensures.value) c.places.invariant.led;
      below = (let longer = front_shorter _ _ c.in_ok-follow_from.ensures.front in omega (arith, longer, stands.0));
      followed = followed_next _ _ _ _ _ c.in-Some.place c.places.at c.places.invariant.followed c.in_ok-follow_from.ensures.front c.in-Some.ensures.value c.in_ok-follow_from.ensures.ok;
    }

pub returns-clause-ok : goal.returns-clause-ok
returns-clause-ok c = let past : length c.places.self.places ≤ c.places.at = none_from _ _ c.in_default.ensures.value in λ k d within. c.places.invariant.followed k d (omega arith)

use Rattle.std.proofs.Common.{◌≡◌, ◌∙◌, true, sym, ap, Err}
use Rattle.policy_versions.specs.Numbers.{object_row, has_place}
use Rattle.policy_versions.specs.Users.{HasFront}
use Rattle.policy_versions.specs.Founds.{to_own, to_object, AllLed}
use Rattle.policy_versions.specs.declared.user_role.UserRole.{UserRole}
use Rattle.policy_versions.proofs.FoundLemmas.{front_where, front_of_front, has_where, led_where, has_front}
use Rattle.policy_versions.proofs.found.Found.follow_to.Goals as goal

pub returns-in_err-add_where-clause-full : goal.returns-in_err-add_where-clause-full
returns-in_err-add_where-clause-full c = λ start leads e.
    let told = rw e at c.from_residual.ensures.1 in
    let full = c.in_err-add_where.ensures.full (ap Err (sym told)) in
    record {
      row = c.args.row;
      kind = c.args.kind;
      within = rw c.requires.rows at c.requires.row;
      small = c.to_own.ensures.within;
      led = to_own _ _ _ leads c.to_own.ensures.within (sym c.to_own.ensures.value ∙ full.0);
      full = rw c.in_err-add_where.ensures.err (rw c.requires.rows at full.1);
    }

pub returns-in_err-add_where-2-clause-led : goal.returns-in_err-add_where-2-clause-led
returns-in_err-add_where-2-clause-led c = λ start leads led.
    rw (c.in_err-add_where-2.ensures.err, c.in_ok-add_where.ensures.ok)
    (led_where _ _ _ start c.to_own.result _ (record { row = c.args.row; kind = c.args.kind }) led (λ e. to_own _ _ _ leads c.to_own.ensures.within (sym c.to_own.ensures.value ∙ e)))

pub returns-in_err-add_where-2-clause-full : goal.returns-in_err-add_where-2-clause-full
returns-in_err-add_where-2-clause-full c = λ start leads e.
    let told = rw e at c.from_residual-in_err-add_where-2.ensures.1 in
    let full = c.in_err-add_where-2.ensures.full (ap Err (sym told)) in
    let of : c.at.result.now.object ≡ object_row c.args.users.now c.args.row = ap (λ (u : UserRole). u.object) c.at.ensures.value in
    record {
      row = object_row c.args.users.now c.args.row;
      kind = c.args.kind;
      within = c.at.ensures.object;
      small = c.to_own.ensures.within;
      led = to_object _ _ _ leads c.to_own.ensures.within (sym c.to_object.ensures.value ∙ full.0);
      full = rw c.in_err-add_where-2.ensures.err (rw (of, c.in_ok-add_where.ensures.rows, c.requires.rows) at full.1);
    }

pub returns-clause-front : goal.returns-clause-front
returns-clause-front c =
    let one : HasFront c.add_where.new.self.places c.args.self.now.places = rw c.in_ok-add_where.ensures.ok (front_where c.to_own.result _ _) in
    let two : HasFront c.add_where-2.new.self.places c.add_where.new.self.places = rw c.in_ok-add_where-2.ensures.ok (front_where c.to_object.result _ _) in
    front_of_front _ _ _ two one

pub returns-clause-led : goal.returns-clause-led
returns-clause-led c = λ start leads led.
    let of : c.at.result.now.object ≡ object_row c.args.users.now c.args.row = ap (λ (u : UserRole). u.object) c.at.ensures.value in
    let one : AllLed c.args.users.now c.args.steps.now.own c.args.steps.now.object start c.add_where.new.self.places =
    rw c.in_ok-add_where.ensures.ok (led_where _ _ _ start c.to_own.result _ (record { row = c.args.row; kind = c.args.kind }) led (λ e. to_own _ _ _ leads c.to_own.ensures.within (sym c.to_own.ensures.value ∙ e))) in
    rw c.in_ok-add_where-2.ensures.ok
    (led_where _ _ _ start c.to_object.result _ (record { row = c.at.result.now.object; kind = c.args.kind }) one (λ e. rw of (to_object _ _ _ leads c.to_own.ensures.within (sym c.to_object.ensures.value ∙ e))))

pub returns-clause-ok : goal.returns-clause-ok
returns-clause-ok c =
    let of : c.at.result.now.object ≡ object_row c.args.users.now c.args.row = ap (λ (u : UserRole). u.object) c.at.ensures.value in
    let two : HasFront c.add_where-2.new.self.places c.add_where.new.self.places = rw c.in_ok-add_where-2.ensures.ok (front_where c.to_object.result _ _) in
    record {
      to_own = λ marked. has_front _ _ two c.args.row c.args.kind (rw c.in_ok-add_where.ensures.ok (has_where c.to_own.result _ (record { row = c.args.row; kind = c.args.kind }) (c.to_own.ensures.value ∙ marked)));
      to_object = λ marked.
          (let has : has_place c.add_where-2.new.self.places c.at.result.now.object c.args.kind ≡ true = rw c.in_ok-add_where-2.ensures.ok (has_where c.to_object.result _ (record { row = c.at.result.now.object; kind = c.args.kind }) (c.to_object.ensures.value ∙ marked)) in
          rw of at has);
    }

use Rattle.std.proofs.Common.{◌≡◌, ◌≤◌, ◌<◌, ◌∙◌, ℕ, length, refl, sym, ap, subst, arith, Err}
use Rattle.std.specs.List.{All}
use Rattle.policy_model.specs.declared.policy.PolicyParts.{PolicyParts}
use Rattle.policy_versions.specs.Given.{given_at}
use Rattle.policy_versions.specs.Steps.{TakesVersions}
use Rattle.policy_versions.specs.Founds.{IsInside, Leads}
use Rattle.policy_versions.proofs.NameLemmas.{few_versions}
use Rattle.policy_versions.proofs.FoundLemmas.{front_itself, front_of_front, all_has}
use Rattle.policy_versions.proofs.ClosingLemmas.{IsGood, begun_good, round_good, has_all}
use Rattle.policy_versions.proofs.RoundLemmas.{too_many, grew}
use Rattle.policy_versions.proofs.closing.close.Goals as goal

pub overflow_cast-versions : goal.overflow_cast-versions
overflow_cast-versions c =
    let few : length c.args.policy.now.versions ≤ 64 = few_versions _ c.parts.ensures.kept in
    rw (c.len-versions.ensures, c.parts.ensures.parts) (omega (arith, few))

pub rounds-init : goal.rounds-init
rounds-init c = record {
  rows = refl;
  front = front_itself _;
  good = begun_good _ _ _ c.requires.begun c.requires.inside;
}

pub returns-in_err-follow-clause-full : goal.returns-in_err-follow-clause-full
returns-in_err-follow-clause-full c = λ e.
    let told = rw e at c.from_residual-in_err-follow.ensures.1 in
    let versions : c.len-versions.result ≡ length c.args.policy.now.versions = c.len-versions.ensures ∙ ap (λ (p : PolicyParts). length p.versions) c.parts.ensures.parts in
    too_many _ _ c.parts.ensures.kept c.requires.users c.in_ok-steps.steps.own c.in_ok-steps.steps.object c.rounds.found.places c.follow.new.self.places
    (λ row kind leads. (round_good _ _ c.parts.ensures.kept c.requires.users (given_at c.args.given.now) c.requires.given _ versions _ _ _ _ c.in_ok-steps.ensures.due c.in_ok-present.ensures.kinds c.rounds.invariant.good row kind leads).derives)
    c.in_err-follow.ensures.led
    (c.in_err-follow.ensures.full (ap Err (sym told)))

pub returns-then-are_present-clause-ok : goal.returns-then-are_present-clause-ok
returns-then-are_present-clause-ok c =
    let versions : c.len-versions.result ≡ length c.args.policy.now.versions = c.len-versions.ensures ∙ ap (λ (p : PolicyParts). length p.versions) c.parts.ensures.parts in
    let good : (row kind : ℕ) → Leads c.args.users.now c.in_ok-steps.steps.own c.in_ok-steps.steps.object c.rounds.found.places row kind → IsGood c.args.policy.now c.args.users.now row kind =
    round_good _ _ c.parts.ensures.kept c.requires.users (given_at c.args.given.now) c.requires.given _ versions _ _ _ _ c.in_ok-steps.ensures.due c.in_ok-present.ensures.kinds c.rounds.invariant.good in
    let rows : c.follow.new.self.rows ≡ length c.args.users.now = c.in_ok-follow.ensures.rows ∙ c.rounds.invariant.rows ∙ c.requires.rows in
    let inside : All (IsInside (length c.args.users.now)) c.follow.new.self.places = rw rows at c.are_present.ensures.inside in
    let takes : TakesVersions (given_at c.args.given.now) c.in_ok-present.present (length c.args.policy.now.versions) c.in_ok-steps.steps.own c.in_ok-steps.steps.object =
    subst (λ n. TakesVersions (given_at c.args.given.now) c.in_ok-present.present n c.in_ok-steps.steps.own c.in_ok-steps.steps.object) versions c.in_ok-steps.ensures.takes in
    record {
      sound = λ k d within. (good _ _ (c.in_ok-follow.ensures.led k d within)).derives;
      whole = has_all _ _ c.parts.ensures.kept c.requires.users (given_at c.args.given.now) c.requires.given c.in_ok-present.present _ _ c.args.found.now.places _
          c.requires.begun (front_of_front _ _ _ c.in_ok-follow.ensures.front c.rounds.invariant.front) inside (λ k d within. (good _ _ (c.in_ok-follow.ensures.led k d within)).derives)
          (sym c.are_present.ensures.value ∙ c.if-are_present.true) takes c.in_ok-follow.ensures.ok;
    }

pub rounds-smaller : goal.rounds-smaller
rounds-smaller c =
    let more : length c.rounds.found.places < length c.follow.new.self.places = grew _ _ _ _ c.in_ok-follow.ensures.front c.are_present.ensures.inside c.in_ok-present.ensures.kinds (sym c.are_present.ensures.value ∙ c.if-are_present.false) in
    let few : length c.follow.new.self.places ≤ 4095 = c.are_present.ensures.few in
    omega (arith, more, few)

pub rounds-preserved : goal.rounds-preserved
rounds-preserved c =
    let versions : c.len-versions.result ≡ length c.args.policy.now.versions = c.len-versions.ensures ∙ ap (λ (p : PolicyParts). length p.versions) c.parts.ensures.parts in
    record {
      rows = c.in_ok-follow.ensures.rows ∙ c.rounds.invariant.rows;
      front = front_of_front _ _ _ c.in_ok-follow.ensures.front c.rounds.invariant.front;
      good = λ row kind has. round_good _ _ c.parts.ensures.kept c.requires.users (given_at c.args.given.now) c.requires.given _ versions _ _ _ _ c.in_ok-steps.ensures.due c.in_ok-present.ensures.kinds c.rounds.invariant.good row kind
          (all_has (Leads c.args.users.now c.in_ok-steps.steps.own c.in_ok-steps.steps.object c.rounds.found.places) c.follow.new.self.places c.in_ok-follow.ensures.led row kind has);
    }

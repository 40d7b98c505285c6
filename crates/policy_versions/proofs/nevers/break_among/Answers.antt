use Rattle.std.proofs.Common.{◌≡◌, ◌<◌, ◌≤◌, ◌∙◌, true, false, length, sym, arith}
use Rattle.policy_model.specs.Matching.{matches_target}
use Rattle.policy_versions.specs.Sets.{has_place}
use Rattle.policy_versions.specs.Places.{kind_at}
use Rattle.policy_versions.specs.Nevers.{break_at, break_from}
use Rattle.policy_versions.proofs.NeverLemmas.{below_zero, below_found, below_next, below_full, unbroken_target}
use Rattle.policy_versions.proofs.nevers.break_among.Goals as goal
use Rattle.policy_versions.proofs.nevers.break_among.Goals.{then-has+in_default, else-has}

pub targets-init : goal.targets-init
targets-init c = below_zero (break_at c.args.policy.now c.args.version c.args.pattern.now c.args.s)

pub returns-in-Some : goal.returns-in-Some
unfolding break_from
returns-in-Some c =
    let policy = c.args.policy.now in
    let within : c.targets.place < length policy.kinds = omega (arith, c.len-place-end.ensures) in
    let has : has_place c.args.targets.now.words c.targets.place ≡ true = rw c.at-t.ensures at (sym c.if-has.ensures) in
    let target : matches_target policy.attributes c.args.pattern.now.target (kind_at policy c.args.s) (kind_at policy c.targets.place) ≡ true = sym (c.requires.targets (kind_at policy c.args.s) c.targets.place within) ∙ has in
    let found = (rw c.at-t.ensures at c.in-Some.ensures) policy c.requires.vectors c.requires.source within c.requires.matched target in
    sym (below_found (break_at policy c.args.version c.args.pattern.now c.args.s) (length policy.kinds) c.targets.place c.in-Some.found within c.targets.invariant (sym found))

pub targets-preserved : goal.targets-preserved
targets-preserved c =
    let policy = c.args.policy.now in
    let within : c.targets.place < length policy.kinds = omega (arith, c.len-place-end.ensures) in
    let is = c.requires.targets (kind_at policy c.args.s) c.targets.place within in
    below_next (break_at policy c.args.version c.args.pattern.now c.args.s) c.targets.place c.targets.invariant
    (elim c.if-has.branch [
      | then-has+in_default w ↦
          let has : has_place c.args.targets.now.words c.targets.place ≡ true = rw c.at-t.ensures at (sym w.if-has.ensures) in
          sym ((rw c.at-t.ensures at w.in_default.ensures) policy c.requires.vectors c.requires.source within c.requires.matched (sym is ∙ has))
      | else-has w ↦
          let has : has_place c.args.targets.now.words c.targets.place ≡ false = rw c.at-t.ensures at (sym w.if-has.ensures) in
          unbroken_target policy c.args.version c.args.pattern.now c.args.s c.targets.place c.requires.matched (sym is ∙ has)
    ])

pub returns : goal.returns
unfolding break_from
returns c =
    let policy = c.args.policy.now in
    let past : length policy.kinds ≤ c.targets.place = omega (arith, c.len-place-end.ensures) in
    let within : c.targets.place ≤ length policy.kinds = omega (arith, c.len-place-end.ensures) in
    sym (below_full (break_at policy c.args.version c.args.pattern.now c.args.s) c.targets.place (length policy.kinds) past within c.targets.invariant)

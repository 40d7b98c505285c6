use Rattle.std.proofs.Common.{◌≡◌, ◌<◌, ◌≤◌, ◌∙◌, false, length, sym, arith}
use Rattle.policy_versions.specs.Sets.{has_place}
use Rattle.policy_versions.specs.Nevers.{break_from, break_of}
use Rattle.policy_versions.proofs.NeverLemmas.{below_zero, below_found, below_next, below_full, unbroken_from}
use Rattle.policy_versions.proofs.nevers.break_of.Goals as goal
use Rattle.policy_versions.proofs.nevers.break_of.Goals.{then-has+in_default, else-has}

pub sources-init : goal.sources-init
sources-init c = below_zero (break_from c.args.policy.now c.args.version c.args.pattern.now)

pub returns-in-Some : goal.returns-in-Some
unfolding break_of
returns-in-Some c =
    let policy = c.args.policy.now in
    let within : c.sources.place < length policy.kinds = omega (arith, c.len-place-end.ensures) in
    sym (below_found (break_from policy c.args.version c.args.pattern.now) (length policy.kinds) c.sources.place c.in-Some.found within c.sources.invariant (sym (rw c.at-s.ensures at c.in-Some.ensures)))

pub sources-preserved : goal.sources-preserved
sources-preserved c =
    let policy = c.args.policy.now in
    let within : c.sources.place < length policy.kinds = omega (arith, c.len-place-end.ensures) in
    below_next (break_from policy c.args.version c.args.pattern.now) c.sources.place c.sources.invariant
    (elim c.if-has.branch [
      | then-has+in_default w ↦ sym (rw c.at-s.ensures at w.in_default.ensures)
      | else-has w ↦
          let has : has_place c.sources-sources.result.now.words c.sources.place ≡ false = rw c.at-s.ensures at (sym w.if-has.ensures) in
          unbroken_from policy c.args.version c.args.pattern.now c.sources.place (sym (c.sources-sources.ensures policy c.requires.kinds c.sources.place within) ∙ has)
    ])

pub returns : goal.returns
unfolding break_of
returns c =
    let policy = c.args.policy.now in
    let past : length policy.kinds ≤ c.sources.place = omega (arith, c.len-place-end.ensures) in
    let within : c.sources.place ≤ length policy.kinds = omega (arith, c.len-place-end.ensures) in
    sym (below_full (break_from policy c.args.version c.args.pattern.now) c.sources.place (length policy.kinds) past within c.sources.invariant)

use Rattle.std.proofs.Common.{◌<◌, ◌≤◌, ◌∙◌, length, sym, ap}
use Rattle.std.proofs.lemmas.List.{take_all}
use Rattle.policy_versions.specs.Nevers.{first_of, break_of, break_in}
use Rattle.policy_versions.proofs.NeverLemmas.{of_next, of_found}
use Rattle.policy_versions.proofs.nevers.break_in.Goals as goal

pub returns-in-Some : goal.returns-in-Some
unfolding break_in
returns-in-Some c =
    let policy = c.args.policy.now in
    let within : c.lines.pattern-index < length policy.nevers = rw c.as_slice-pattern-items.ensures at c.lines-test.true in
    let read = rw c.as_slice-pattern-items.ensures at c.pattern-item.is in
    sym (of_found (break_of policy c.args.version) policy.nevers c.lines.pattern-index c.pattern-item.result c.in-Some.found within read c.lines.invariant (sym c.in-Some.ensures))

pub lines-preserved : goal.lines-preserved
lines-preserved c =
    let policy = c.args.policy.now in
    let within : c.lines.pattern-index < length policy.nevers = rw c.as_slice-pattern-items.ensures at c.lines-test.true in
    let read = rw c.as_slice-pattern-items.ensures at c.pattern-item.is in
    of_next (break_of policy c.args.version) policy.nevers c.lines.pattern-index c.pattern-item.result within read c.lines.invariant (sym c.in_default.ensures)

pub returns : goal.returns
unfolding break_in
returns c =
    let policy = c.args.policy.now in
    let past : length policy.nevers ≤ c.lines.pattern-index = rw c.as_slice-pattern-items.ensures at c.lines-test.false in
    sym (ap (first_of (break_of policy c.args.version)) (sym (take_all c.lines.pattern-index policy.nevers past)) ∙ c.lines.invariant)

use Rattle.std.proofs.Common.{◌≡◌, ◌+◌, ◌-◌, ◌≤◌, ◌<◌, length, refl, arith}
use Rattle.std.proofs.lemmas.Result.{on_ok_weaker}
use Rattle.policy_text.proofs.VersionLemmas.{with_rule_none, with_rule_last}
use Rattle.policy_text.proofs.draft.add_to_last.Goals as goal

pub returns-in_default : goal.returns-in_default
returns-in_default c =
    let tells = rw c.in_default.is at c.last_mut.ensures.variant in
    let none : length c.args.versions.now.items ≤ 0 = grind (arith, tells, c.args.versions.now.ok.0) in
    with_rule_none c.args.rule c.args.versions.now.items none

pub returns : goal.returns
returns c =
    let tells = rw c.in-Some.is at c.last_mut.ensures.variant in
    let some : 0 < c.args.versions.now.len = tells.0 refl in
    let place : (c.args.versions.now.len - 1) + 1 ≡ length c.args.versions.now.items = omega (arith, some, c.args.versions.now.ok.0) in
    let value = rw c.in-Some.is at c.last_mut.ensures.value in
    on_ok_weaker c.push.result (with_rule_last c.args.rule c.args.versions.now.items (c.args.versions.now.len - 1) c.in-Some.newest.now c.push.new.self place value) c.push.ensures.ok

use Rattle.std.proofs.Common.{◌≡◌, ◌+◌, ◌<◌, ◌≤◌, ◌∙◌, length, ap, arith}
use Rattle.std.proofs.lemmas.List.{length_push}
use Rattle.policy_model.specs.declared.policy.PolicyParts.{PolicyParts}
use Rattle.policy_versions.specs.Changes.{AreRules}
use Rattle.policy_versions.proofs.TableLemmas.{blank_on, versions_few, version_rules, rules_at-read, told_below, table_told}
use Rattle.policy_versions.proofs.table.Table.compile.Goals as goal

pub draw_version-requires : goal.draw_version-requires
draw_version-requires c =
    let few : length c.args.policy.now.versions ≤ 64 = versions_few c.args.policy.now c.parts.ensures.kept in
    let same : length c.as_slice-version-items.result.now ≡ length c.args.policy.now.versions = ap length c.as_slice-version-items.ensures ∙ ap (λ (p : PolicyParts). length p.versions) c.parts.ensures.parts in
    let rows = c.versions.invariant.0 in
    record { few = omega arith; blank = c.versions.invariant.3 }

pub versions-preserved : goal.versions-preserved
versions-preserved c =
    let policy = c.args.policy.now in
    let i = c.versions.version-index in
    let within : i < length policy.versions = rw (c.as_slice-version-items.ensures, c.parts.ensures.parts) at c.versions-test.true in
    let read = rw (c.as_slice-version-items.ensures, c.parts.ensures.parts) at c.version-item.is in
    let rows = c.versions.invariant.0 in
    let size = c.versions.invariant.1 in
    let drawn : length c.draw_version.new.rows.items ≤ length c.versions.rows.items + 640 = c.in_ok-before.ensures.few in
    let rules : AreRules policy c.version-item.result.rules = version_rules policy c.parts.ensures.kept i c.version-item.result within read in
    let told = (rw c.as_slice-rules.ensures at c.in_ok-before.ensures.tell) policy c.requires rules in
    rw c.in_ok-push.ensures.items (
      omega arith,
      length_push c.versions.firsts.items c.in_ok-before.before ∙ ap (λ n. n + 1) size,
      told_below c.args.content policy c.versions.rows.items c.draw_version.new.rows.items c.versions.firsts.items i c.in_ok-before.before c.requires.few size c.in_ok-before.ensures.keeps
          (rw (rules_at-read policy i c.version-item.result within read) told) c.versions.invariant.2,
      blank_on _ _ c.in_ok-before.ensures.keeps c.versions.invariant.3,
    )

pub returns : goal.returns
returns c =
    let policy = c.args.policy.now in
    let same : length c.as_slice-version-items.result.now ≡ length policy.versions = ap length c.as_slice-version-items.ensures ∙ ap (λ (p : PolicyParts). length p.versions) c.parts.ensures.parts in
    let past : length policy.versions ≤ c.versions.version-index = omega arith in
    let size : length c.versions.firsts.items ≡ length policy.versions = omega (arith, c.versions.invariant.1) in
    table_told c.args.content policy (record { firsts = c.versions.firsts; rows = c.versions.rows }) c.versions.version-index size past c.versions.invariant.2

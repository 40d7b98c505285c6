use Rattle.std.proofs.Common.{◌≡◌, ◌<◌, ◌≤◌, ◌∙◌, length, sym, ap, arith}
use Rattle.policy_model.specs.declared.policy.PolicyParts.{PolicyParts}
use Rattle.policy_versions.specs.Nevers.{first_break, break_in}
use Rattle.policy_versions.proofs.NeverLemmas.{below_zero, below_found, below_next, below_full}
use Rattle.policy_versions.proofs.TableLemmas.{versions_few}
use Rattle.policy_versions.proofs.nevers.first_break.Goals as goal

pub versions-init : goal.versions-init
versions-init c = below_zero (break_in c.args.policy.now)

pub overflow_cast-version : goal.overflow_cast-version
overflow_cast-version c =
    let few : length c.args.policy.now.versions ≤ 64 = versions_few c.args.policy.now c.parts-parts.ensures.kept in
    let same : c.len-version-end.result ≡ length c.args.policy.now.versions = c.len-version-end.ensures ∙ ap (λ (p : PolicyParts). length p.versions) c.parts-parts.ensures.parts in
    omega arith

pub returns-in-Some : goal.returns-in-Some
unfolding first_break
returns-in-Some c =
    let policy = c.args.policy.now in
    let same : c.len-version-end.result ≡ length policy.versions = c.len-version-end.ensures ∙ ap (λ (p : PolicyParts). length p.versions) c.parts-parts.ensures.parts in
    let within : c.versions.version < length policy.versions = omega arith in
    sym (below_found (break_in policy) (length policy.versions) c.versions.version c.in-Some.found within c.versions.invariant (sym (rw c.parts-parts.ensures.parts at c.in-Some.ensures)))

pub versions-preserved : goal.versions-preserved
versions-preserved c = below_next (break_in c.args.policy.now) c.versions.version c.versions.invariant (sym (rw c.parts-parts.ensures.parts at c.in_default.ensures))

pub returns : goal.returns
unfolding first_break
returns c =
    let policy = c.args.policy.now in
    let same : c.len-version-end.result ≡ length policy.versions = c.len-version-end.ensures ∙ ap (λ (p : PolicyParts). length p.versions) c.parts-parts.ensures.parts in
    let past : length policy.versions ≤ c.versions.version = omega arith in
    let within : c.versions.version ≤ length policy.versions = omega arith in
    sym (below_full (break_in policy) c.versions.version (length policy.versions) past within c.versions.invariant)

use Rattle.std.proofs.Common.{◌≤◌, ◌∙◌, length, ap, arith}
use Rattle.policy_model.specs.declared.policy.PolicyParts.{PolicyParts}
use Rattle.policy_versions.proofs.DeclaredLemmas.{line_kind, contexts_more, inside_more, read_all, declared_few, declared_distinct}
use Rattle.policy_versions.proofs.NameLemmas.{few_contexts}
use Rattle.policy_versions.proofs.declared.declared_places.Goals as goal

pub row-requires : goal.row-requires
row-requires c =
    let few = few_contexts _ c.parts.ensures.kept in
    let lines : length c.as_slice-line-items.result.now ≤ 4095 = rw (c.as_slice-line-items.ensures, c.parts.ensures.parts) few in
    omega (arith, lines)

pub returns-in_err-row-clause-few : goal.returns-in_err-row-clause-few
returns-in_err-row-clause-few c =
    let few = few_contexts _ c.parts.ensures.kept in
    let lines : length c.as_slice-line-items.result.now ≤ 4095 = rw (c.as_slice-line-items.ensures, c.parts.ensures.parts) few in
    omega (arith, lines, c.in_err-row.ensures.few)

pub declared_kind-kind-requires-clause-declared : goal.declared_kind-kind-requires-clause-declared
declared_kind-kind-requires-clause-declared c =
    line_kind _ c.parts.ensures.kept c.as_slice-line-items.result.now (c.as_slice-line-items.ensures ∙ ap (λ (p : PolicyParts). p.contexts) c.parts.ensures.parts) c.lines.line-index c.line-item.result c.lines-test.true c.line-item.is

pub returns-in_err-push-clause-few : goal.returns-in_err-push-clause-few
returns-in_err-push-clause-few c =
    let few = few_contexts _ c.parts.ensures.kept in
    let lines : length c.as_slice-line-items.result.now ≤ 4095 = rw (c.as_slice-line-items.ensures, c.parts.ensures.parts) few in
    omega (arith, lines, c.in_ok-row.ensures.few)

pub lines-preserved : goal.lines-preserved
lines-preserved c =
    let row = c.in_ok-row.ensures.row in
    record {
      few = omega (arith, c.in_ok-row.ensures.few);
      contexts = rw c.in_ok-push.ensures.items (contexts_more _ _ _ _ _ c.lines.line-index c.line-item.result c.in_ok-row.row c.declared_kind-kind.result c.in_ok-row.ensures.front c.lines.invariant.inside c.lines.invariant.contexts row c.declared_kind-kind.ensures.name c.lines-test.true c.line-item.is);
      inside = rw c.in_ok-push.ensures.items (inside_more _ _ _ c.in_ok-row.row c.declared_kind-kind.result c.in_ok-row.ensures.front c.lines.invariant.inside row.within c.declared_kind-kind.ensures.within);
    }

pub returns-clause-few : goal.returns-clause-few
returns-clause-few c =
    let few = few_contexts _ c.parts.ensures.kept in
    let lines : length c.as_slice-line-items.result.now ≤ 4095 = rw (c.as_slice-line-items.ensures, c.parts.ensures.parts) few in
    omega (arith, lines)

pub returns-clause-few_places : goal.returns-clause-few_places
returns-clause-few_places c =
    declared_few c.args.policy.now _ _ (read_all _ _ _ c.as_slice-line-items.result.now c.lines.line-index (c.as_slice-line-items.ensures ∙ ap (λ (p : PolicyParts). p.contexts) c.parts.ensures.parts) c.lines.invariant.contexts c.lines-test.false) (few_contexts _ c.parts.ensures.kept)

pub returns-clause-distinct : goal.returns-clause-distinct
returns-clause-distinct c =
    declared_distinct c.args.policy.now c.parts.ensures.kept _ _ (read_all _ _ _ c.as_slice-line-items.result.now c.lines.line-index (c.as_slice-line-items.ensures ∙ ap (λ (p : PolicyParts). p.contexts) c.parts.ensures.parts) c.lines.invariant.contexts c.lines-test.false)

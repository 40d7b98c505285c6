use Rattle.std.proofs.Common.{◌≡◌, ◌≤◌, ◌∙◌, length, ap, arith}
use Rattle.policy_model.specs.declared.policy.PolicyParts.{PolicyParts}
use Rattle.policy_versions.proofs.NameLemmas.{few_versions}
use Rattle.policy_versions.proofs.JudgingLemmas.{decides_same, tables_closed, places_many, kinds_same, has_room}
use Rattle.policy_versions.proofs.compiling.catalogue.Goals as goal

pub overflow_cast-versions : goal.overflow_cast-versions
overflow_cast-versions c =
    let few : length c.args.policy.now.versions ≤ 64 = few_versions _ c.parts.ensures.kept in
    rw (c.len-versions.ensures, c.parts.ensures.parts) (omega (arith, few))

pub invariant_of-result : goal.invariant_of-result
invariant_of-result c =
    let versions : c.len-versions.result ≡ length c.args.policy.now.versions = c.len-versions.ensures ∙ ap (λ (p : PolicyParts). length p.versions) c.parts.ensures.parts in
    record {
      closed = tables_closed _ c.args.contexts c.args.given c.parts.ensures.kept c.requires.given c.requires.contexts _ c.args.vectors versions c.requires.vectors;
      placed = places_many _ c.args.contexts c.args.given c.parts.ensures.kept c.requires.given c.requires.contexts _ c.args.vectors versions c.requires.vectors;
      inside = c.requires.contexts.inside;
    }

pub returns : goal.returns
returns c =
    let versions : c.len-versions.result ≡ length c.args.policy.now.versions = c.len-versions.ensures ∙ ap (λ (p : PolicyParts). length p.versions) c.parts.ensures.parts in
    record {
      judged = (has_room _ _ c.requires.contexts.contexts c.requires.contexts.few, c.requires.contexts.contexts, c.requires.breaks);
      decides = decides_same _ c.args.contexts c.args.given c.parts.ensures.kept c.requires.given c.requires.contexts _ c.args.vectors versions c.requires.vectors;
      kinds = kinds_same _ c.args.contexts c.args.given c.parts.ensures.kept c.requires.given c.requires.contexts;
      vectors = c.requires.vectors;
    }

use Rattle.std.proofs.Common.{◌∙◌, refl, sym}
use Rattle.policy_versions.specs.Places.{kind_at}
use Rattle.policy_versions.specs.Vectors.{vector_at}
use Rattle.policy_versions.proofs.BlockLemmas.{target_as_source}
use Rattle.policy_versions.proofs.NeverLemmas.{broken_own, own_matches, unmet}
use Rattle.policy_versions.proofs.nevers.break_from.Goals as goal

pub break_among-requires : goal.break_among-requires
break_among-requires c = record {
  few = c.requires.kinds.few;
  vectors = c.requires.vectors;
  targets = λ s place h. c.sources-targets.ensures c.args.policy.now c.requires.kinds place h ∙ sym (target_as_source c.args.policy.now.attributes c.args.pattern.now.target s (kind_at c.args.policy.now place) c.in_default.not-Itself);
  source = c.requires.source;
  matched = c.requires.matched;
}

pub returns-in-Itself : goal.returns-in-Itself
returns-in-Itself c =
    let policy = c.args.policy.now in
    c.break_at.ensures policy c.requires.vectors c.requires.source c.requires.source c.requires.matched (own_matches policy c.args.pattern.now.target (kind_at policy c.args.s) c.in-Itself.is)
    ∙ sym (broken_own policy c.args.version c.args.pattern.now c.args.s c.requires.kinds.apart c.requires.source c.requires.matched c.in-Itself.is)

pub returns-else-meets : goal.returns-else-meets
returns-else-meets c =
    let policy = c.args.policy.now in
    sym (unmet policy c.args.version c.args.pattern.now c.args.s c.sources-targets.result.now.words
    (λ t. vector_at c.args.vectors.now c.args.version c.args.s t c.args.pattern.now.class)
    c.requires.kinds.few
    (λ s place h. c.sources-targets.ensures policy c.requires.kinds place h ∙ sym (target_as_source policy.attributes c.args.pattern.now.target s (kind_at policy place) c.in_default.not-Itself))
    c.requires.matched
    (λ t h. c.requires.vectors c.args.version c.args.s t c.args.pattern.now.class c.requires.source h)
    (c.if-meets.ensures refl))

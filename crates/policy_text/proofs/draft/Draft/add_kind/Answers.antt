use Rattle.std.proofs.Common.{◌∙◌, refl}
use Rattle.policy_model.specs.declared.policy.KindLine.{KindLine}
use Rattle.policy_text.proofs.IndexLemmas.{kind_indexed, indexed_more}
use Rattle.policy_text.proofs.PlainLemmas.{plain_kinds, kind_known}
use Rattle.policy_text.proofs.draft.Draft.add_kind.Goals as goal

pub add-requires : goal.add-requires
add-requires c =
    kind_indexed c.self.inside.policy.kinds c.self.inside.kinds c.args.name.now c.self.invariant.kinds ∙ (rw (← c.self.view_is) at c.requires)

pub invariant_of-self-in_default : goal.invariant_of-self-in_default
invariant_of-self-in_default c =
    let kind : KindLine = record { line = c.args.line; name = c.args.name.now } in
    rw (c.in_ok-push.ensures.ok, c.in_default.ensures.ok, c.in_ok-kept.ensures) (record {
      kinds = indexed_more (λ (line : KindLine). line.name) c.self.inside.policy.kinds c.self.inside.kinds kind c.args.name.now c.self.invariant.kinds refl;
      attributes = c.self.invariant.attributes;
      contexts = c.self.invariant.contexts;
      plain = plain_kinds c.self.inside.policy.kinds kind c.self.inside.policy.attributes c.self.inside.plain c.self.invariant.plain;
    })

pub add_plain-requires : goal.add_plain-requires
add_plain-requires c =
    rw (c.in_ok-push.ensures.ok, c.in_ok-kept.ensures)
    (kind_known c.self.inside.policy.kinds (record { line = c.args.line; name = c.args.name.now }) c.self.inside.policy.attributes)

use Rattle.std.proofs.Common.{◌∙◌, refl}
use Rattle.policy_model.specs.declared.policy.AttributeLine.{AttributeLine}
use Rattle.policy_text.proofs.IndexLemmas.{attribute_indexed, indexed_more}
use Rattle.policy_text.proofs.PlainLemmas.{plain_attributes, attribute_known}
use Rattle.policy_text.proofs.draft.Draft.add_attribute.Goals as goal

pub add-requires : goal.add-requires
add-requires c =
    attribute_indexed c.self.inside.policy.attributes c.self.inside.attributes c.args.name.now c.self.invariant.attributes ∙ (rw (← c.self.view_is) at c.requires)

pub invariant_of-self-in_default : goal.invariant_of-self-in_default
invariant_of-self-in_default c =
    let line : AttributeLine = record { line = c.args.line; name = c.args.name.now; members = c.args.members } in
    rw (c.in_ok-push.ensures.ok, c.in_default.ensures.ok, c.in_ok-kept.ensures, c.in_ok-members.ensures) (record {
      kinds = c.self.invariant.kinds;
      attributes = indexed_more (λ (one : AttributeLine). one.name) c.self.inside.policy.attributes c.self.inside.attributes line c.args.name.now c.self.invariant.attributes refl;
      contexts = c.self.invariant.contexts;
      plain = plain_attributes c.self.inside.policy.kinds c.self.inside.policy.attributes line c.self.inside.plain c.self.invariant.plain;
    })

pub add_plain-requires : goal.add_plain-requires
add_plain-requires c =
    rw (c.in_ok-push.ensures.ok, c.in_ok-kept.ensures, c.in_ok-members.ensures)
    (attribute_known c.self.inside.policy.kinds c.self.inside.policy.attributes (record { line = c.args.line; name = c.args.name.now; members = c.args.members }))

use Rattle.std.proofs.Common.{◌∙◌}
use Rattle.policy_model.specs.Deciding.{given_kind}
use Rattle.policy_versions.specs.Given.{IsGiven}
use Rattle.policy_versions.specs.Places.{kind_at}
use Rattle.policy_answers.proofs.RelabelLemmas.{same_given}
use Rattle.policy_answers.proofs.relabelling.gives_same.Goals as goal

pub returns : goal.returns
returns c =
    let before : IsGiven c.args.policy.now c.given-before.result (given_kind c.args.labelling c.args.policy.now c.args.versions.before (kind_at c.args.policy.now c.args.places.s) (kind_at c.args.policy.now c.args.places.t) c.args.class) =
    rw (c.given-before.ensures, c.type_at-s.ensures, c.type_at-t.ensures) (c.requires.given c.args.labelling c.args.versions.before c.args.places.s c.args.places.t c.args.class c.requires.source c.requires.target) in
    let after : IsGiven c.args.policy.now c.given-after.result (given_kind c.args.labelling c.args.policy.now c.args.versions.after (kind_at c.args.policy.now c.args.places.s) (kind_at c.args.policy.now c.args.places.t) c.args.class) =
    rw (c.given-after.ensures, c.type_at-s.ensures, c.type_at-t.ensures) (c.requires.given c.args.labelling c.args.versions.after c.args.places.s c.args.places.t c.args.class c.requires.source c.requires.target) in
    c.is_same_place.ensures ∙ same_given c.args.policy.now c.kind_count-few.ensures.kept c.given-before.result c.given-after.result _ _ before after

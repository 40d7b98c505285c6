use Rattle.std.proofs.Common.{◌≡◌, ◌∙◌, ◌++◌, ◌∷◌, [], eqb, get_or, ap}
use Rattle.access_vectors.specs.declared.class.Class.{Class}
use Rattle.access_vectors.specs.declared.class.Class.TheVariants.{File}
use Rattle.access_vectors.specs.Table.{classes}
use Rattle.policy_answers.specs.declared.differing.Difference.{Difference}
use Rattle.policy_answers.specs.Differences.{difference_of, differences_in, vector_between}
use Rattle.policy_answers.proofs.AnswerLemmas.{more_unless, classes_more}
use Rattle.policy_answers.proofs.differing.put_between.Goals as goal

pub classes-preserved : goal.classes-preserved
classes-preserved c =
    let class : Class = get_or classes c.classes.class-index File in
    let before : c.vector_between-before.result ≡ vector_between c.args.policy.now c.args.versions.before c.args.places.s c.args.places.t class = c.vector_between-before.ensures in
    let after : c.vector_between-after.result ≡ vector_between c.args.policy.now c.args.versions.after c.args.places.s c.args.places.t class = c.vector_between-after.ensures in
    let one : Difference = record { s = c.args.places.s; t = c.args.places.t; class = class; before = c.vector_between-before.result; after = c.vector_between-after.result } in
    classes_more (differences_in c.args.policy.now c.args.versions.before c.args.versions.after c.args.places.s c.args.places.t) c.classes.class-index c.args.found.now c.classes.found c.put_difference.new.found c.classes-test.true c.classes.invariant
    (c.in_ok-put_difference.ensures ∙ more_unless (eqb c.vector_between-before.result c.vector_between-after.result) c.classes.found (one ∷ [])
    ∙ ap (λ more. c.classes.found ++ more)
    (ap (λ b. difference_of c.args.places.s c.args.places.t class b c.vector_between-after.result) before
    ∙ ap (λ a. difference_of c.args.places.s c.args.places.t class (vector_between c.args.policy.now c.args.versions.before c.args.places.s c.args.places.t class) a) after))

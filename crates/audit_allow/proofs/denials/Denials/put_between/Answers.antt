use Rattle.std.proofs.Common.{◌≡◌, ◌∙◌, ◌++◌, ◌∷◌, [], ℕ, Bool, true, false, not, eqb, List, length, get_or, refl, sym, ap}
use Rattle.std.proofs.lemmas.List.{append-nil}
use Rattle.access_vectors.specs.declared.class.Class.{Class}
use Rattle.access_vectors.specs.declared.class.Class.TheVariants.{File}
use Rattle.access_vectors.specs.Table.{classes}
use Rattle.policy_versions.specs.Places.{kind_at}
use Rattle.audit_allow.specs.declared.grant.Grant.{Grant}
use Rattle.audit_allow.specs.Grants.{grants_of, grant_of, learned_vector}
use Rattle.audit_allow.proofs.GrantLemmas.{grant_some, grant_none, classes_more}
use Rattle.audit_allow.proofs.denials.Denials.put_between.Goals as goal
use Rattle.audit_allow.proofs.denials.Denials.put_between.Goals.{then-ne+in_ok-push, else-ne}

pub classes-preserved : goal.classes-preserved
classes-preserved c =
    let class : Class = get_or classes c.classes.class-index File in
    let perms : c.vector-perms.result ≡ learned_vector c.args.list c.args.self.now (kind_at c.args.self.now.policy c.args.s) (kind_at c.args.self.now.policy c.args.t) class = c.vector-perms.ensures in
    let test : c.ne.result ≡ not (eqb c.vector-perms.result 0) = c.ne.ensures ∙ ap (λ n. not (eqb c.vector-perms.result n)) c.empty.ensures in
    classes_more (grants_of c.args.list c.args.self.now c.args.s c.args.t) c.classes.class-index c.args.grants.now c.classes.grants c.if-ne.grants c.classes-test.true c.classes.invariant
    (elim c.if-ne.branch [
      | then-ne+in_ok-push w ↦ w.grants-is ∙ w.in_ok-push.ensures.ok ∙ ap (λ more. c.classes.grants ++ more) (grant_some c.args.s c.args.t class c.vector-perms.result (sym test ∙ w.if-ne.true) ∙ ap (grant_of c.args.s c.args.t class) perms)
      | else-ne w ↦ w.grants-is ∙ sym (append-nil c.classes.grants) ∙ ap (λ more. c.classes.grants ++ more) (grant_none c.args.s c.args.t class c.vector-perms.result (sym test ∙ w.if-ne.false) ∙ ap (grant_of c.args.s c.args.t class) perms)
    ])

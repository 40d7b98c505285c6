use Rattle.std.proofs.Common.{◌≡◌, ◌∙◌, length, Bool, true, false, cond, sym, ap, subst}
use Rattle.std.proofs.lemmas.Bool.{eqb-true}
use Rattle.access_vectors.specs.Vectors.{with_index}
use Rattle.policy_versions.specs.Places.{kind_at}
use Rattle.audit_allow.specs.Cells.{vector_at, cell_key, AreDenied}
use Rattle.audit_allow.specs.Grants.{is_learned}
use Rattle.audit_allow.proofs.VectorLemmas.{where_zero, where_more, none_learned}
use Rattle.audit_allow.proofs.denials.Denials.vector.Goals as goal
use Rattle.audit_allow.proofs.denials.Denials.vector.Goals.{then-is_learned, else-is_learned}

pub returns-then-eq : goal.returns-then-eq
returns-then-eq c =
    let are : AreDenied c.args.self.now c.self.inside.cells = subst (λ lesson. AreDenied lesson c.self.inside.cells) c.self.view_is c.self.invariant.1 in
    let empty : vector_at c.self.inside.cells (cell_key c.args.s c.args.t c.args.class) ≡ 0 = sym c.vector.ensures ∙ eqb-true c.vector.result c.empty-perms.result (sym c.if-eq.ensures) ∙ c.empty-perms.ensures in
    c.empty-perms.ensures ∙ sym (none_learned c.args.list c.args.self.now c.self.inside.cells c.args.s c.args.t c.args.class are c.requires.source c.requires.target empty)

pub indexes-init : goal.indexes-init
indexes-init c = c.empty-perms.ensures ∙ sym (where_zero _)

pub indexes-preserved : goal.indexes-preserved
indexes-preserved c =
    where_more _ c.indexes.index c.indexes.perms c.if-is_learned.perms c.is_learned.result c.indexes.invariant
    (rw c.perm_at.ensures at c.is_learned.ensures)
    (elim c.if-is_learned.branch [
      | then-is_learned w ↦ w.perms-is ∙ w.with-perms.ensures ∙ sym (ap (λ b. cond b (with_index c.indexes.perms c.indexes.index) c.indexes.perms) w.if-is_learned.true)
      | else-is_learned w ↦ w.perms-is ∙ sym (ap (λ b. cond b (with_index c.indexes.perms c.indexes.index) c.indexes.perms) w.if-is_learned.false)
    ])

use Rattle.std.proofs.Common.{◌<◌, ◌∙◌, refl, sym, arith}
use Rattle.access_vectors.specs.Table.{perm_count}
use Rattle.policy_versions.specs.Nevers.{common}
use Rattle.policy_versions.proofs.NeverLemmas.{below_zero, below_found, below_next, some_if}
use Rattle.policy_versions.proofs.nevers.first_common.Goals as goal
use Rattle.policy_versions.proofs.nevers.first_common.Goals.{else-has-via-then-has+else-has-2, else-has-via-else-has}

pub indexes-init : goal.indexes-init
indexes-init c = below_zero (common c.args.class c.args.forbidden c.args.allowed)

pub returns-then-has-2 : goal.returns-then-has-2
returns-then-has-2 c =
    let within : c.indexes.index < perm_count c.args.class = omega (arith, c.perm_count-index-end.ensures.value) in
    let is = some_if c.of.result _ (record { class = c.args.class; index = c.indexes.index }) c.of.ensures within in
    is ∙ sym (below_found (common c.args.class c.args.forbidden c.args.allowed) (perm_count c.args.class) c.indexes.index (record { class = c.args.class; index = c.indexes.index }) within c.indexes.invariant (rw (← c.if-has.ensures, ← c.if-has-2.ensures) refl))

pub indexes-preserved : goal.indexes-preserved
indexes-preserved c =
    below_next (common c.args.class c.args.forbidden c.args.allowed) c.indexes.index c.indexes.invariant
    (elim c.else-has.branch [
      | else-has-via-then-has+else-has-2 w ↦ rw (← w.if-has.ensures, ← w.if-has-2.ensures) refl
      | else-has-via-else-has w ↦ rw (← w.if-has.ensures) refl
    ])

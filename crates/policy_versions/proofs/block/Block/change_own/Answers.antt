use Rattle.std.proofs.Common.{◌≡◌, ◌<◌, ◌+◌, ◌∙◌, true, false, length, get_or, ap, sym, arith}
use Rattle.std.specs.Prelude.{◌&&◌, ◌==◌}
use Rattle.std.proofs.lemmas.Bool.{and_left}
use Rattle.std.proofs.lemmas.Bool.Decides.{nat_tests}
use Rattle.std.proofs.lemmas.List.{get_or_read}
use Rattle.policy_versions.specs.declared.row.Row.{Row}
use Rattle.policy_versions.specs.Sets.{has_place, IsLink}
use Rattle.policy_versions.specs.Changes.{changed_if, cell_of, no_row, AreChanged}
use Rattle.policy_versions.proofs.BlockLemmas.{below, rows_more, rows_skip, rows_skip_to}
use Rattle.policy_versions.proofs.block.Block.change_own.Goals as goal
use Rattle.policy_versions.proofs.block.Block.change_own.Goals.{then-sources-s-ne0, else-sources-s-ne0}

pub sources-preserved : goal.sources-preserved
sources-preserved c =
    let i = c.sources.s in
    let words = c.args.sources.now.words in
    let rows = c.sources.self.rows.items in
    let link : IsLink words (i + 1) c.from-s-in-sources.result = rw c.from-s-in-sources.ensures (c.args.sources.now.linked (i + 1) (omega arith)) in
    let now : AreChanged (below (i + 1) (λ s t. has_place words s && (s == t))) c.args.change c.args.self.now.rows.items c.if-sources-s-ne0.self.rows.items =
    elim c.if-sources-s-ne0.branch [
      | then-sources-s-ne0 w ↦
          let within : i < length rows = omega (arith, c.sources.self.whole) in
          let has : has_place words i ≡ true = grind (arith, nat_tests, w.if-sources-s-ne0.true) in
          let read : w.index_mut-row.result.now ≡ get_or rows i no_row = get_or_read rows i w.index_mut-row.result.now within w.index_mut-row.ensures.value no_row in
          rw w.self-is (rows_more (λ s t. has_place words s && (s == t)) c.args.change i _ rows w.change_one.new.self within
          (λ t ht. w.change_one.ensures t ht
          ∙ ap (λ (row : Row). changed_if ((i == t)) c.args.change (get_or row.cells t 0)) read
          ∙ ap (λ b. changed_if (b && (i == t)) c.args.change (cell_of rows i t)) (sym has))
          c.sources.invariant.2)
      | else-sources-s-ne0 w ↦
          let none : has_place words i ≡ false = grind (arith, nat_tests) in
          rw w.self-is (rows_skip (λ s t. has_place words s && (s == t)) c.args.change i _ _ (λ t. and_left _ _ none) c.sources.invariant.2)
    ] in (
      link.within,
      elim c.if-sources-s-ne0.branch [ then-sources-s-ne0 w ↦ rw w.self-is c.sources.invariant.1 | else-sources-s-ne0 w ↦ rw w.self-is c.sources.invariant.1 ],
      rows_skip_to (λ s t. has_place words s && (s == t)) c.args.change (i + 1) c.from-s-in-sources.result _ _ link.later (λ s t low high. and_left _ _ (link.none s low high)) now,
    )

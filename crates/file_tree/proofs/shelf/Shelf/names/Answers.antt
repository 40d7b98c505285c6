use Rattle.std.proofs.Common.{◌∙◌, ◌-◌, ◌++◌, ◌∷◌, [], length, map, take, drop, sym, ap, arith}
use Rattle.std.specs.Ordering.{nat_cmp}
use Rattle.std.specs.Cmp.Lexicographic.{slice_cmp, nat_list_cmp_total}
use Rattle.std.specs.FinMap.{nat_cmp-IsAntisymmetric, slice_cmp-IsAntisymmetric}
use Rattle.std.specs.Map.Iter.{deref}
use Rattle.std.proofs.lemmas.Map.Iter.{rest_more, rest_all}
use Rattle.file_tree.proofs.RowLemmas.{keys-map_by}
use Rattle.file_tree.proofs.Paths.{page_left, page-started, page-full, page-skipped, page-taken, page-ended}
use Rattle.file_tree.proofs.shelf.Shelf.names.Goals as goal

pub loop-name-init : goal.loop-name-init
loop-name-init c =
    let left = c.into_iter-name-iterator.ensures.into_iter_gives ∙ c.keys-name-items.ensures.rest in (
      ap (λ keys. take c.args.most (drop c.args.skip keys)) (rw (← c.self.view_is) (keys-map_by (λ name. name.items) (slice_cmp nat_cmp) nat_list_cmp_total (slice_cmp-IsAntisymmetric nat_cmp-IsAntisymmetric) c.self.inside.rows.entries c.keys-name-items.ensures.ordered)
          ∙ ap (map (λ name. name.items)) (sym left))
          ∙ page-started c.args.most c.args.skip c.new-names.result (map (λ name. name.items) c.into_iter-name-iterator.result) c.new-names.ensures,
      omega arith,
    )

pub returns-then-len-most : goal.returns-then-len-most
returns-then-len-most c = sym (c.loop-name.invariant.0 ∙ page-full c.args.most (c.args.skip - c.loop-name.passed) c.loop-name.names (map (λ name. name.items) c.loop-name.name-iterator) (omega (arith, c.len.ensures)))

pub loop-name-preserved-then-passed-skip : goal.loop-name-preserved-then-passed-skip
loop-name-preserved-then-passed-skip c =
    let names = c.loop-name.names in
    let rest = rest_more deref _ _ _ c.in-Some.name c.in-Some.is c.next.ensures.steps in (
      c.loop-name.invariant.0 ∙ ap (λ keys. names ++ page_left (c.args.most - length names) (c.args.skip - c.loop-name.passed) (map (λ name. name.items) keys)) rest
          ∙ ap (λ left. names ++ left) (page-skipped (c.args.most - length names) c.args.skip c.loop-name.passed c.in-Some.name.now.items (map (λ name. name.items) c.next.new.self) (omega arith)),
      omega arith,
    )

pub returns : goal.returns
returns c =
    let rest = rest_all deref _ _ _ c.in-None.is c.next.ensures.steps in
    sym (c.loop-name.invariant.0 ∙ ap (λ keys. c.loop-name.names ++ page_left (c.args.most - length c.loop-name.names) (c.args.skip - c.loop-name.passed) (map (λ name. name.items) keys)) rest
    ∙ page-ended (c.args.most - length c.loop-name.names) (c.args.skip - c.loop-name.passed) c.loop-name.names)

pub loop-name-preserved : goal.loop-name-preserved
loop-name-preserved c =
    let names = c.loop-name.names in
    let rest = rest_more deref _ _ _ c.in-Some.name c.in-Some.is c.next.ensures.steps in
    let added = c.in_ok-push.ensures.ok ∙ (λ i. names ++ (c.in_ok-of.ensures ∙ c.as_slice.ensures.value) i ∷ []) in (
      c.loop-name.invariant.0 ∙ ap (λ keys. names ++ page_left (c.args.most - length names) (c.args.skip - c.loop-name.passed) (map (λ name. name.items) keys)) rest
          ∙ page-taken c.args.most c.args.skip c.loop-name.passed names c.in-Some.name.now.items (map (λ name. name.items) c.next.new.self) (omega arith) (omega (arith, c.len.ensures))
          ∙ ap (λ ns. ns ++ page_left (c.args.most - length ns) (c.args.skip - c.loop-name.passed) (map (λ name. name.items) c.next.new.self)) (sym added),
      c.loop-name.invariant.1,
    )

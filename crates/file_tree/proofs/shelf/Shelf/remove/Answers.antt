use Rattle.std.specs.Ordering.{nat_cmp}
use Rattle.std.specs.Cmp.Lexicographic.{slice_cmp, nat_list_cmp_total}
use Rattle.std.specs.FinMap.{nat_cmp-IsAntisymmetric, slice_cmp-IsAntisymmetric}
use Rattle.file_tree.proofs.RowLemmas.{removed}
use Rattle.file_tree.proofs.shelf.Shelf.remove.Goals as goal

pub returns : goal.returns
returns c = rw (← c.self.view_is) (removed (λ name. name.items) (slice_cmp nat_cmp) nat_list_cmp_total (slice_cmp-IsAntisymmetric nat_cmp-IsAntisymmetric) c.self.inside.rows.entries c.remove.new.self.entries c.args.name.now c.remove.ensures.updates.1 c.remove.ensures.updates.3)

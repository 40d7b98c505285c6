use Rattle.std.specs.Ordering.{nat_cmp}
use Rattle.std.specs.Cmp.Lexicographic.{slice_cmp, nat_list_cmp_total}
use Rattle.std.specs.FinMap.{nat_cmp-IsAntisymmetric, slice_cmp-IsAntisymmetric}
use Rattle.file_tree.proofs.RowLemmas.{inserted}
use Rattle.file_tree.proofs.shelf.Shelf.insert.Goals as goal

pub returns-clause-ok : goal.returns-clause-ok
returns-clause-ok c = rw (← c.self.view_is) (inserted (λ name. name.items) (slice_cmp nat_cmp) nat_list_cmp_total (slice_cmp-IsAntisymmetric nat_cmp-IsAntisymmetric) c.self.inside.rows.entries c.insert.new.self.entries c.args.name.items c.args.number c.in_ok-insert.ensures.updates.1 c.in_ok-insert.ensures.updates.3)

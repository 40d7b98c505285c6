use Rattle.std.proofs.Common.{◌∙◌, ap, Some, cond, rules}
use Rattle.std.specs.Ordering.{nat_cmp}
use Rattle.std.specs.Str.{bytes_eq}
use Rattle.std.specs.FinMap as maps
use Rattle.std.specs.FinMap.{nat_cmp-IsAntisymmetric}
use Rattle.std.specs.Cmp.{nat_cmp_total}
use Rattle.std.specs.Cmp.Lexicographic.{slice_cmp}
use Rattle.file_tree.specs.Shelves.{number_on}
use Rattle.file_tree.proofs.RowLemmas.{rewritten}
use Rattle.file_tree.proofs.EntryLemmas.{changed, number-inserted}
use Rattle.file_tree.proofs.entries.EntryIndex.add.Goals as goal

pub returns-in-Some-clause-ok : goal.returns-in-Some-clause-ok
returns-in-Some-clause-ok c =
    let name = c.args.name.items in
    let after = (c.get_mut.follows.holds c.insert.new.self).3 (search rules) in
    rw (← c.self.view_is) (changed c.self.inside.shelves.entries (c.get_mut.follows.lender c.insert.new.self).entries c.args.place c.insert.new.self name (Some c.args.number) after.1 after.3
    (λ q. ap (λ s. maps.get s q) c.in-Ok.ensures.ok ∙ number-inserted c.in-Some.shelf.now name c.args.number q ∙ ap (λ s. cond (bytes_eq q name) (Some c.args.number) (number_on s q)) c.in-Some.ensures.value))

pub returns-clause-ok : goal.returns-clause-ok
returns-clause-ok c =
    let name = c.args.name.items in
    rw (← c.self.view_is) (changed c.self.inside.shelves.entries c.insert-3.new.self.entries c.args.place c.insert-2.new.self name (Some c.args.number) c.in_ok-insert-2.ensures.updates.1 (rw c.get_mut.follows.holds-at-none at c.in_ok-insert-2.ensures.updates.3)
    (λ q. ap (λ s. maps.get s q) (c.in_ok-insert.ensures.ok ∙ ap (λ s. maps.insert s name c.args.number) c.new-shelf.ensures) ∙ number-inserted maps.empty name c.args.number q
    ∙ ap (cond (bytes_eq q name) (Some c.args.number)) (maps.get-empty (slice_cmp nat_cmp) q ∙ ap (λ s. number_on s q) c.in_default.ensures.value)))

pub returns-in_default-insert-clause-err : goal.returns-in_default-insert-clause-err
returns-in_default-insert-clause-err c =
    let after = (c.get_mut.follows.holds c.insert.new.self).3 (search rules) in
    rw (← c.self.view_is) (rewritten (λ at. at) nat_cmp nat_cmp_total nat_cmp-IsAntisymmetric c.self.inside.shelves.entries (c.get_mut.follows.lender c.insert.new.self).entries c.args.place
    (after.1 ∙ ap Some c.in_default-insert.ensures.err ∙ c.in-Some.ensures.value) after.3)

use Rattle.std.proofs.Common.{◌∙◌, sym, ap, None, cond, rules}
use Rattle.std.specs.Str.{bytes_eq}
use Rattle.std.specs.FinMap as maps
use Rattle.file_tree.specs.Shelves.{number_on}
use Rattle.file_tree.proofs.EntryLemmas.{changed, unchanged, number-removed}
use Rattle.file_tree.proofs.entries.EntryIndex.remove.Goals as goal

pub returns-in_default : goal.returns-in_default
returns-in_default c = rw (← c.self.view_is) (rw c.get_mut.follows.holds-at-none (unchanged c.self.inside.shelves.entries c.args.place c.args.name.now (sym c.in_default.ensures.value)))

pub returns : goal.returns
returns c =
    let name = c.args.name.now in
    let after = (c.get_mut.follows.holds c.remove.new.self).3 (search rules) in
    rw (← c.self.view_is) (changed c.self.inside.shelves.entries (c.get_mut.follows.lender c.remove.new.self).entries c.args.place c.remove.new.self name None after.1 after.3
    (λ q. ap (λ s. maps.get s q) c.remove.ensures ∙ number-removed c.in-Some.shelf.now name q ∙ ap (λ s. cond (bytes_eq q name) None (number_on s q)) c.in-Some.ensures.value))

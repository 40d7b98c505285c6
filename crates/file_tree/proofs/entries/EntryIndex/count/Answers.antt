use Rattle.std.proofs.Common.{◌∙◌, sym, ap}
use Rattle.file_tree.specs.Shelves.{count_on}
use Rattle.file_tree.proofs.EntryLemmas.{get-places}
use Rattle.file_tree.proofs.entries.EntryIndex.count.Goals as goal

pub returns-in-Some : goal.returns-in-Some
returns-in-Some c = rw (← c.self.view_is) (c.len.ensures ∙ sym (ap count_on (get-places c.self.inside.shelves.entries c.args.place ∙ sym c.in-Some.ensures.value)))

pub returns-in-None : goal.returns-in-None
returns-in-None c = rw (← c.self.view_is) (sym (ap count_on (get-places c.self.inside.shelves.entries c.args.place ∙ sym c.in-None.ensures.value)))

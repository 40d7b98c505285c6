use Rattle.std.proofs.Common.{◌∙◌, sym, ap}
use Rattle.file_tree.specs.Shelves.{number_on}
use Rattle.file_tree.proofs.EntryLemmas.{number-rows}
use Rattle.file_tree.proofs.entries.EntryIndex.get.Goals as goal

pub returns-in_err-get : goal.returns-in_err-get
returns-in_err-get c = rw (← c.self.view_is) (c.from_residual.ensures ∙ sym (number-rows c.self.inside.shelves.entries c.args.place c.args.name.now ∙ ap (λ s. number_on s c.args.name.now) (sym c.in_err-get.ensures.value)))

pub returns : goal.returns
returns c = rw (← c.self.view_is) (c.get-2.ensures ∙ sym (number-rows c.self.inside.shelves.entries c.args.place c.args.name.now ∙ ap (λ s. number_on s c.args.name.now) (sym c.in_ok-get.ensures.value)))

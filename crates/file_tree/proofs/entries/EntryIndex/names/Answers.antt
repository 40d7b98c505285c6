use Rattle.std.proofs.Common.{◌≡◌, ◌∙◌, sym, ap, subst, take, drop, IfOk, []}
use Rattle.file_tree.specs.Shelves.{names_on}
use Rattle.file_tree.proofs.EntryLemmas.{get-places}
use Rattle.file_tree.proofs.Paths.{page-ended}
use Rattle.file_tree.proofs.entries.EntryIndex.names.Goals as goal

pub returns-in-Some : goal.returns-in-Some
returns-in-Some c = rw (← c.self.view_is) (subst (λ shelf. IfOk c.names.result (λ names. names ≡ take c.args.most (drop c.args.skip (names_on shelf))))
    (c.in-Some.ensures.value ∙ sym (get-places c.self.inside.shelves.entries c.args.place)) c.names.ensures)

pub returns-in-None : goal.returns-in-None
returns-in-None c = rw (← c.self.view_is) (c.new.ensures ∙ sym (page-ended c.args.most c.args.skip [])
    ∙ ap (λ shelf. take c.args.most (drop c.args.skip (names_on shelf))) (c.in-None.ensures.value ∙ sym (get-places c.self.inside.shelves.entries c.args.place)))

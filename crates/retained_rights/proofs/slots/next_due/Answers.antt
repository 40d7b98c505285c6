use Rattle.std.proofs.Common.{inr, sym, ◌∙◌}
use Rattle.retained_rights.proofs.FitLemmas.{no_places}
use Rattle.retained_rights.proofs.slots.next_due.Goals as goal

pub returns-then-left-eq0-2 : goal.returns-then-left-eq0-2
returns-then-left-eq0-2 c = inr (λ other above. no_places c.args.store.now.words (sym c.left.ensures ∙ c.if-left-eq0-2.true) other)

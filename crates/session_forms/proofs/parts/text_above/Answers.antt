use Rattle.std.proofs.Common.{sym}
use Rattle.session_forms.proofs.PathLemmas.{above_only, above_at}
use Rattle.session_forms.proofs.parts.text_above.Goals as goal

pub returns-in-None : goal.returns-in-None
returns-in-None c = above_only c.args.text.now c.in-None.ensures

pub returns-in-Some : goal.returns-in-Some
returns-in-Some c = rw c.split_at.ensures.front (above_at c.args.text.now c.in-Some.at c.in-Some.ensures)

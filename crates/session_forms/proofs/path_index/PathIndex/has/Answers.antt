use Rattle.std.proofs.Common.{sym}
use Rattle.session_forms.proofs.PathLemmas.{any_text, no_root}
use Rattle.session_forms.proofs.path_index.PathIndex.has.Goals as goal

pub returns-in-None : goal.returns-in-None
returns-in-None c = rw (c.in-None.ensures, ← c.self.view_is) (sym (no_root c.self.inside.texts))

pub returns-in-Some : goal.returns-in-Some
returns-in-Some c = rw (c.has.ensures, c.in-Some.ensures, ← c.self.view_is) (any_text c.self.inside.texts c.in-Some.text)

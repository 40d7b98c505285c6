use Rattle.std.proofs.Common.{sym}
use Rattle.session_forms.proofs.PathLemmas.{place_of_text, root_nowhere}
use Rattle.session_forms.proofs.path_index.PathIndex.place.Goals as goal

pub returns-in-None : goal.returns-in-None
returns-in-None c = rw (c.in-None.ensures, ← c.self.view_is) (sym (root_nowhere c.self.inside.texts))

pub returns-in-Some : goal.returns-in-Some
returns-in-Some c = rw (c.place.ensures.value, c.in-Some.ensures, ← c.self.view_is) (place_of_text c.self.inside.texts c.in-Some.text)

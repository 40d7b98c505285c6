use Rattle.std.proofs.Common.{◌∙◌}
use Rattle.session_forms.proofs.PathLemmas.{any_text}
use Rattle.session_forms.proofs.path_index.PathIndex.add.Goals as goal

pub add-requires : goal.add-requires
add-requires c = any_text c.self.inside.texts c.in-Some.text ∙ (rw (c.in-Some.ensures, ← c.self.view_is) at c.requires.new)

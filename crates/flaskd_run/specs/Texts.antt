-- A permission, as lines have it.
use Rattle.std.specs.Prelude.{ℕ, List, ◌++◌, codes}
use Rattle.access_vectors.specs.Table.{Permission, class_word, perm_word}

-- a permission with its class
abbrev pub perm_text : Permission → List ℕ
perm_text perm = class_word perm.class ++ codes " " ++ perm_word perm

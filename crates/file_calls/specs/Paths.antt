-- Paths, as lists of their parts, and as the steps by which they stand in the tree.
use Rattle.std.specs.Prelude.{ℕ, Bool, List}
use Rattle.std.specs.Cmp.Lexicographic.{pointwise}
use Rattle.std.specs.Str.{bytes_eq}
use Rattle.file_tree.specs.PlainTree.{same_step}
use Rattle.file_tree.specs.declared.step.Step.{Step}

-- two paths have the same parts
abbrev pub same_path : List (List ℕ) → List (List ℕ) → Bool
same_path = pointwise bytes_eq

-- two paths of the tree have the same steps
abbrev pub same_steps : List Step → List Step → Bool
same_steps = pointwise same_step

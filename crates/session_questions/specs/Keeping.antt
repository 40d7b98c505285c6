-- What is kept of each line.
use Rattle.std.specs.Prelude.{◌≡◌, List, [], ◌∷◌, ◌++◌}
use Rattle.session_runner.specs.Runs.{Shown}
use Rattle.session_questions.specs.LineRuns.{run_of}
use Rattle.session_questions.specs.declared.lines.Keeper.{Keeper}
use Rattle.session_questions.specs.declared.lines.LineRun.{LineRun}

-- a line is kept behind those above it
abbrev pub Keeps : Keeper → List LineRun → Shown → Keeper → List LineRun → Type 0
Keeps keeper kept one after later = (after ≡ keeper) × (later ≡ kept ++ run_of one ∷ [])

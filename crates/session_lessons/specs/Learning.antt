-- What is kept of each line.
use Rattle.std.specs.Prelude.{◌≡◌, List, ◌++◌}
use Rattle.access_vectors.specs.declared.asked.Asked.{Asked}
use Rattle.session_runner.specs.Runs.{Shown}
use Rattle.session_lessons.specs.Lessons.{line_denials}
use Rattle.session_lessons.specs.declared.learner.Learner.{Learner}

-- what a line was denied, but for what goes without an audit line, is kept behind that of the lines above it
abbrev pub Learns : Learner → List Asked → Shown → Learner → List Asked → Type 0
Learns learner denied one after later = (after ≡ learner) × (later ≡ denied ++ line_denials learner.version learner.policy.now learner.contexts.now one)

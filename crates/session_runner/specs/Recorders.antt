-- What recorders make of what is shown to them.
use Rattle.std.specs.Prelude.{◌≡◌, ◌⊎◌, List, [], ◌∷◌}
use Rattle.session_runner.specs.Runs.{Shown}

-- all were taken, one after another
abbrev pub TakesAll : {E W : Type 0} → (E → W → Shown → E → W → Type 0) → E → W → List Shown → E → W → Type 0
TakesAll takes recorder out [] after later = (after ≡ recorder) × (later ≡ out)
TakesAll {E = E} {W = W} takes recorder out (one ∷ more) after later = (mid : E) × (now : W) × takes recorder out one mid now × TakesAll takes mid now more after later

-- the run stopped before a line, for want of memory, or at it
abbrev pub StopsBeforeOrAt : {E W S : Type 0} → (E → W → Shown → W → S → Type 0) → (S → Type 0) → E → W → Shown → W → S → Type 0
StopsBeforeOrAt stops wants recorder out one later stop = ((later ≡ out) × wants stop) ⊎ stops recorder out one later stop

-- the first were taken, and then the run stopped: before the next one, for want of memory, or at it
abbrev pub StopsAt : {E W S : Type 0} → (E → W → Shown → E → W → Type 0) → (E → W → Shown → W → S → Type 0) → (S → Type 0) → E → W → List Shown → W → S → Type 0
StopsAt takes stops wants recorder out [] later stop = ⊥
StopsAt {E = E} {W = W} takes stops wants recorder out (one ∷ more) later stop =
    ((later ≡ out) × wants stop) ⊎ (stops recorder out one later stop ⊎ ((mid : E) × (now : W) × takes recorder out one mid now × StopsAt takes stops wants mid now more later stop))

-- Steps of a reader, of which each may fail.
use Rattle.std.proofs.Common.{◌≡◌, Bool, true, false, cond, Result, Ok, Err, refl}
use Rattle.std.specs.Prelude.{IfOk}
use Rattle.text_lines.specs.ResultSteps.{◌>>=◌}

-- a test, told by its value
pub told : {P : Type 0} (b : Bool) → (b ≡ true → P) → (b ≡ false → P) → P
told true yes' no' = yes' refl
told false yes' no' = no' refl

-- what holds where no fault comes first
pub unless : {X E : Type 0} (b : Bool) (e : E) (r : Result X E) (P : X → Type 0) → (b ≡ false → IfOk r P) → IfOk (cond b (Err e) r) P
unless true e r P h = tt
unless false e r P h = h refl

-- what holds after one step and another
pub after : {A B E : Type 0} (r : Result A E) (next : A → Result B E) (P : B → Type 0) → ((a : A) → r ≡ Ok a → IfOk (next a) P) → IfOk (r >>= next) P
after (Ok a) next P h = h a refl
after (Err e) next P h = tt

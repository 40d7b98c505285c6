-- Plain passes.
use Rattle.std.specs.Prelude.{ℕ, Bool, false, ◌==◌, nat_lt, List, count_by, Option, Some, None, slice_get, unwrap_or}

-- the policy number of the pass that a caller holds, if the caller holds one
abbrev pub pass_of : List (Option ℕ) → ℕ → Option ℕ
pass_of held caller = unwrap_or (slice_get held caller) None

-- a caller holds a pass below a number
abbrev pub is_below : ℕ → Option ℕ → Bool
is_below number None = false
is_below number (Some held) = nat_lt held number

-- how many passes below a number are held
abbrev pub older_count : ℕ → List (Option ℕ) → ℕ
older_count number held = count_by (is_below number) held

-- a caller holds a pass of just this number
abbrev pub is_at : ℕ → Option ℕ → Bool
is_at number None = false
is_at number (Some held) = held == number

-- how many passes of just this number are held
abbrev pub count_at : ℕ → List (Option ℕ) → ℕ
count_at number held = count_by (is_at number) held

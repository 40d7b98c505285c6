-- Which gates can be made.
use Rattle.std.specs.Prelude.{◌≡◌, ℕ, ◌==◌, nat_lt, ◌||◌, Bool, Result, Ok, Err, Option, Some, None, if◌then◌else◌}
use Rattle.epoch_gate.specs.declared.fault.GateFault.{GateFault}
use Rattle.epoch_gate.specs.declared.fault.GateFault.TheVariants.{Seats, Quota, Most, Memory}

-- a number that is not from 1 to the most
abbrev pub is_outside : ℕ → ℕ → Bool
is_outside n most = n == 0 || nat_lt most n

-- why no gate is made of these numbers, where there is a reason
abbrev pub refusal : ℕ → ℕ → ℕ → Option GateFault
refusal seats quota most =
    if is_outside seats 64 then Some (Seats seats) else (if is_outside quota 536870912 then Some (Quota quota) else (if is_outside most 1048575 then Some (Most most) else None))

-- a result that is refused exactly so, or for want of memory where there is no reason
abbrev pub IsRefused : {T : Type 0} → Result T GateFault → Option GateFault → Type 0
IsRefused (Ok x) why = why ≡ None
IsRefused (Err fault) (Some why) = fault ≡ why
IsRefused (Err fault) None = fault ≡ Memory

-- Why the notice of a version is refused.
use Rattle.std.specs.Prelude.{◌≡◌, ℕ, ◌==◌, nat_lt, Option, Some, None, if◌then◌else◌}
use Rattle.access_vectors.specs.declared.phase.Phase.{Phase}
use Rattle.access_vectors.specs.declared.phase.Phase.TheVariants.{Settled, Pending}
use Rattle.access_vectors.specs.declared.change.NotifyFault.{NotifyFault}
use Rattle.access_vectors.specs.declared.change.NotifyFault.TheVariants as faults

-- why no change is begun, in the order of the tests: one is pending, there is no such version, or the numbers are spent
abbrev pub notice_fault : Phase → ℕ → ℕ → ℕ → Option NotifyFault
notice_fault (Pending pending old new) versions version most = Some (faults.Pending pending)
notice_fault (Settled settled old) versions version most =
    if nat_lt version versions then (if settled == most then Some faults.Spent else None) else Some faults.NoVersion

-- a refusal is that fault, and where there is none it is want of memory
abbrev pub IsRefusal : Option NotifyFault → NotifyFault → Type 0
IsRefusal None fault = fault ≡ faults.Memory
IsRefusal (Some cause) fault = fault ≡ cause

-- Forced acknowledgements in a history, and which policy numbers a call may have there.
use Rattle.std.specs.Prelude.{ℕ, ◌<◌, ◌⊎◌, Bool, nat_lt, max, List, Option, Some, None}
use Rattle.std.specs.List.{fold}
use Rattle.access_vectors.specs.Phases.{settled_number, MayName}
use Rattle.access_vectors.specs.declared.phase.Phase.{Phase}

-- the greatest forced number after one more entry, by the number of the forced acknowledgement that it is, if it is one
abbrev pub forced_to : ℕ → Option ℕ → ℕ
forced_to most None = most
forced_to most (Some number) = max most number

-- the greatest number of a forced acknowledgement in a history, or 0
abbrev pub forced_in : {Entry : Type 0} → (Entry → Option ℕ) → List Entry → ℕ
forced_in forced_of history = fold (λ most entry. forced_to most (forced_of entry)) 0 history

-- a call under this number is aborted: it is below the settled number
abbrev pub is_aborted : Phase → ℕ → Bool
is_aborted phase number = nat_lt number (settled_number phase)

-- an aborted call may have this number, by the greatest forced one: it is below the settled number, and below that one
abbrev pub MayAbort : Phase → ℕ → ℕ → Type 0
MayAbort phase forced number = (number < settled_number phase) × (number < forced)

-- a call may have this number, by the greatest forced one: an operation may name it, or an aborted call may have it
abbrev pub MayCall : Phase → ℕ → ℕ → Type 0
MayCall phase forced number = MayName phase number ⊎ MayAbort phase forced number

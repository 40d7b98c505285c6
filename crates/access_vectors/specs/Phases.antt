-- Phases of a policy change, and which policy an operation may name.
use Rattle.std.specs.Prelude.{◌≡◌, ℕ, ◌+◌, ◌-◌, ◌==◌, ◌<◌, ◌⊎◌, Bool, true, false, if◌then◌else◌}
use Rattle.access_vectors.specs.declared.phase.Phase.{Phase}
use Rattle.access_vectors.specs.declared.phase.Phase.TheVariants.{Settled, Pending}

-- the newest policy number: the settled one, or the one that is pending
abbrev pub number_of : Phase → ℕ
number_of (Settled number version) = number
number_of (Pending number old new) = number

-- the settled number, which is the one before the pending one
abbrev pub settled_number : Phase → ℕ
settled_number (Settled number version) = number
settled_number (Pending number old new) = number - 1

-- the version of a policy number that may be named
abbrev pub version_at : Phase → ℕ → ℕ
version_at (Settled settled version) number = version
version_at (Pending pending old new) number = if number == pending then new else old

-- an operation may name this number: the settled one, or while a change is pending the new one or the one before
abbrev pub MayName : Phase → ℕ → Type 0
MayName (Settled settled version) number = number ≡ settled
MayName (Pending pending old new) number = (number ≡ pending) ⊎ (number + 1 ≡ pending)

-- a change is pending
abbrev pub is_pending : Phase → Bool
is_pending (Settled number version) = false
is_pending (Pending number old new) = true

-- the phase after a notice of a number and its version
abbrev pub noticed : Phase → ℕ → ℕ → Phase
noticed (Settled settled old) number version = Pending number old version
noticed (Pending pending old new) number version = Pending pending old new

-- the phase after the acknowledgement of the pending number
abbrev pub acknowledged : Phase → Phase
acknowledged (Settled settled version) = Settled settled version
acknowledged (Pending pending old new) = Settled pending new

-- the versions of a phase are below a number of versions, and a pending number has one before it
abbrev pub AreVersions : ℕ → Phase → Type 0
AreVersions versions (Settled settled version) = version < versions
AreVersions versions (Pending pending old new) = (0 < pending) × (old < versions) × (new < versions)

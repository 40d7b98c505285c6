-- Which policy numbers slots follow, and whose slot a place is.
use Rattle.std.proofs.Common.{◌≡◌, ℕ, ◌-◌, ◌/◌, ◌<◌, ◌≤◌, true, refl, sym, arith}
use Rattle.std.specs.Prelude.{◌==◌, if◌then◌else◌}
use Rattle.std.proofs.lemmas.Bool.Decides.{nat_tests}
use Rattle.access_vectors.specs.Phases.{MayName, AreVersions, number_of, version_at, is_pending}
use Rattle.access_vectors.specs.Stale.{slot_place}
use Rattle.access_vectors.specs.declared.phase.Phase.{Phase}
use Rattle.access_vectors.specs.declared.phase.Phase.TheVariants.{Settled, Pending}
use Rattle.retained_rights.specs.Rights.{followed}

-- the place of a slot is its client's
pub client_of_place : (client slot : ℕ) → slot < 256 → slot_place client slot / 256 ≡ client
client_of_place client slot small = omega arith

-- a number that may be named is followed as it is
pub followed_is : (phase : Phase) (number : ℕ) → MayName phase number → followed phase number ≡ number
followed_is (Settled settled version) number named = sym named
followed_is (Pending pending old new) number named = grind (arith, nat_tests)

-- bits that follow a number are those of its version
pub version_followed : (versions : ℕ) (phase : Phase) (stored number : ℕ) → AreVersions versions phase → followed phase stored ≡ number → version_at phase stored ≡ version_at phase number
version_followed versions (Settled settled version) stored number are is = refl
version_followed versions (Pending pending old new) stored number are is = let some : 0 < pending = are.0 in grind (arith, nat_tests)

-- a number that is no newer than the one before the pending one is followed as that
pub not_pending : (stored number : ℕ) → 0 < number → stored ≤ number - 1 → (if stored == number then number else number - 1) ≡ number - 1
not_pending stored number some below = grind (arith, nat_tests)

-- bits under the pending number follow it
pub followed_newest : (phase : Phase) → is_pending phase ≡ true → followed phase (number_of phase) ≡ number_of phase
followed_newest (Settled settled version) pending = cc
followed_newest (Pending pending old new) is = grind (arith, nat_tests)

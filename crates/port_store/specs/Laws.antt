-- Of which slots the store says that they are stale, which policy numbers its slots follow, and which of them are used.
use Rattle.std.specs.Prelude.{◌≡◌, ℕ, ◌/◌, Some, is_some, refl}
use Rattle.std.specs.FinMap as maps
use Rattle.access_vectors.specs.Decisions.{Decisions}
use Rattle.access_vectors.specs.Stale.{AreNamed, stale_slots}
use Rattle.access_vectors.specs.declared.class.Class.TheVariants.{Port}
use Rattle.retained_rights.specs.Claims.{Claim, claims_of, pair_for}
use Rattle.retained_rights.proofs.LawLemmas as laws
use Rattle.port_calls.specs.PlainManager.{pair_held, pair_of}
use Rattle.port_store.specs.Stores.{StoreView, IsInStep, IsSafe, Safe, held_by, state_of, follows}

-- the promise of ports and rights
pub safe_is : (d : Decisions) (shown : StoreView) → Safe d shown → IsSafe d shown
unfolding Safe
safe_is d shown safe = safe

-- the pair of a slot that is for a port
pair_claimed : (shown : StoreView) → IsInStep shown → (place : ℕ) (claim : Claim) → maps.get (claims_of shown.rights) place ≡ Some claim
    → pair_held (state_of shown) (place / 256) (Some (held_by claim)) ≡ Some (pair_for claim)
pair_claimed shown step place claim is =
    let link = step.claims place claim is in
    λ i. Some (record { source = link.source i; target = link.target i })

-- the stale slots are those of the definition
pub stale_as_defined : (d : Decisions) (shown : StoreView) → Safe d shown
    → shown.rights.stale ≡ stale_slots d Port shown.rights.phase (pair_of (state_of shown)) (follows shown)
stale_as_defined d shown safe =
    let is = safe_is d shown safe in
    laws.stale_as_defined held_by (λ place. pair_held (state_of shown) (place / 256)) shown.rights (λ place. refl)
    (pair_claimed shown is.step) d Port is.rights is.step.class_is

-- each number that a slot follows may be named
pub follows_named : (d : Decisions) (shown : StoreView) → Safe d shown → AreNamed shown.rights.phase (follows shown)
follows_named d shown safe = laws.follows_named d shown.rights (safe_is d shown safe).rights

-- a slot is used exactly where it follows a number
pub used_as_followed : (d : Decisions) (shown : StoreView) → Safe d shown → (place : ℕ) → is_some (pair_of (state_of shown) place) ≡ is_some (maps.get (follows shown) place)
used_as_followed d shown safe =
    laws.used_as_followed held_by (λ place. pair_held (state_of shown) (place / 256)) shown.rights (λ place. refl)
    (pair_claimed shown (safe_is d shown safe).step)

-- Of which slots the store says that they are stale, which policy numbers its slots follow, and which of them are used.
use Rattle.std.specs.Prelude.{◌≡◌, ℕ, ◌/◌, Some, is_some, slice_index, refl}
use Rattle.std.proofs.Common.{ap, ◌∙◌}
use Rattle.std.specs.FinMap as maps
use Rattle.access_vectors.specs.Decisions.{Decisions}
use Rattle.access_vectors.specs.Stale.{AreNamed, stale_slots}
use Rattle.access_vectors.specs.declared.class.Class.TheVariants as class
use Rattle.retained_rights.specs.Claims.{Claim, claims_of, pair_for}
use Rattle.retained_rights.proofs.LawLemmas as laws
use Rattle.process_calls.specs.PlainManager.{pair_on, pair_held, pair_of}
use Rattle.process_store.specs.Stores.{StoreView, IsInStep, IsSafe, Safe, state_of, follows}

-- the promise of processes and rights
pub safe_is : (d : Decisions) (shown : StoreView) → Safe d shown → IsSafe d shown
unfolding Safe
safe_is d shown safe = safe

-- the pair of a slot that is for a process
pair_claimed : (shown : StoreView) → IsInStep shown → (place : ℕ) (claim : Claim) → maps.get (claims_of shown.rights) place ≡ Some claim
    → pair_held (state_of shown) (place / 256) (Some claim.object) ≡ Some (pair_for claim)
pair_claimed shown step place claim is =
    let link = step.claims place claim is in
    ap (pair_on (slice_index shown.opening.clients (place / 256))) link.target.held
    ∙ (λ i. Some (record { source = link.source i; target = link.target.label_is i }))

-- the stale slots are those of the definition
pub stale_as_defined : (d : Decisions) (shown : StoreView) → Safe d shown
    → shown.rights.stale ≡ stale_slots d class.Process shown.rights.phase (pair_of (state_of shown)) (follows shown)
stale_as_defined d shown safe =
    let is = safe_is d shown safe in
    laws.stale_as_defined (λ claim. claim.object) (λ place. pair_held (state_of shown) (place / 256)) shown.rights (λ place. refl)
    (pair_claimed shown is.step) d class.Process is.rights is.step.class_is

-- each number that a slot follows may be named
pub follows_named : (d : Decisions) (shown : StoreView) → Safe d shown → AreNamed shown.rights.phase (follows shown)
follows_named d shown safe = laws.follows_named d shown.rights (safe_is d shown safe).rights

-- a slot is used exactly where it follows a number
pub used_as_followed : (d : Decisions) (shown : StoreView) → Safe d shown → (place : ℕ) → is_some (pair_of (state_of shown) place) ≡ is_some (maps.get (follows shown) place)
used_as_followed d shown safe =
    laws.used_as_followed (λ claim. claim.object) (λ place. pair_held (state_of shown) (place / 256)) shown.rights (λ place. refl)
    (pair_claimed shown (safe_is d shown safe).step)

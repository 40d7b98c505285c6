-- What a used slot lets its client do.
use Rattle.std.specs.Prelude.{◌≡◌, ℕ, ◌==◌, Some, None, IsTrue, bit_and, if◌then◌else◌}
use Rattle.std.specs.FinMap as maps
use Rattle.access_vectors.specs.Decisions.{Decisions}
use Rattle.access_vectors.specs.Phases.{version_at, MayName}
use Rattle.access_vectors.specs.Stale.{slot_place}
use Rattle.access_vectors.specs.declared.class.Class.TheVariants as class
use Rattle.retained_rights.specs.declared.grant.Usable.{Usable}
use Rattle.process_calls.specs.States.{sid_of, attach_mode}
use Rattle.process_store.specs.Stores.{StoreView, IsProcessOf, state_of, follows}

-- under a decider, a use of a client's slot is of the process that it is attached to, for the pair of the client and of the
-- process's present label, and its bits are the whole mode or none, as the policy number that it follows allows
pub record IsUse (d : Decisions) (shown : StoreView) (client slot : ℕ) (usable : Usable) : Type 0 where
  pub held : maps.get (state_of shown).slots (slot_place client slot) ≡ Some usable.object
  pub following : maps.get (follows shown) (slot_place client slot) ≡ Some usable.number
  pub target : IsProcessOf shown.processes usable.object usable.t
  pub source : sid_of (state_of shown) client ≡ usable.s
  pub mode : usable.mode ≡ attach_mode
  pub known_source : IsTrue (d.known usable.s)
  pub known_target : IsTrue (d.known usable.t)
  pub bits : (number : ℕ) → MayName shown.rights.phase number → usable.number ≡ number
      → let vector = d.vector (version_at shown.rights.phase number) usable.s usable.t class.Process in
      usable.bits ≡ (if bit_and usable.mode vector == usable.mode then usable.mode else 0)

-- a client's slot is free
pub record IsFree (shown : StoreView) (client slot : ℕ) : Type 0 where
  pub held : maps.get (state_of shown).slots (slot_place client slot) ≡ None
  pub following : maps.get (follows shown) (slot_place client slot) ≡ None

-- What a used slot lets its client do.
use Rattle.std.specs.Prelude.{◌≡◌, ℕ, ◌==◌, true, is_some, Some, None, IsTrue, bit_and, if◌then◌else◌}
use Rattle.std.specs.FinMap as maps
use Rattle.access_vectors.specs.Decisions.{Decisions}
use Rattle.access_vectors.specs.Phases.{version_at, MayName}
use Rattle.access_vectors.specs.Stale.{slot_place}
use Rattle.access_vectors.specs.declared.class.Class.TheVariants.{Port}
use Rattle.mode_questions.specs.Covered.{IsModeOf}
use Rattle.retained_rights.specs.declared.grant.Usable.{Usable}
use Rattle.port_calls.specs.States.{sid_of, label_of, mode_perms}
use Rattle.port_store.specs.Stores.{StoreView, state_of, follows}

-- under a decider, a use of a client's slot is of the slot's port and mode, for the pair of the client and of the port's
-- label, and its bits are the whole mode where the policy number that it follows allows all of it, and else none
pub record IsUse (d : Decisions) (shown : StoreView) (client slot : ℕ) (usable : Usable) : Type 0 where
  pub held : maps.get (state_of shown).slots (slot_place client slot) ≡ Some (record { port = usable.object; mode = usable.mode })
  pub following : maps.get (follows shown) (slot_place client slot) ≡ Some usable.number
  pub bound : is_some (maps.get shown.ports usable.object) ≡ true
  pub target : label_of shown.opening usable.object ≡ usable.t
  pub source : sid_of (state_of shown) client ≡ usable.s
  pub known_source : IsTrue (d.known usable.s)
  pub known_target : IsTrue (d.known usable.t)
  pub mode : IsModeOf Port mode_perms usable.mode
  pub bits : (number : ℕ) → MayName shown.rights.phase number → usable.number ≡ number
      → usable.bits ≡ (if bit_and usable.mode (d.vector (version_at shown.rights.phase number) usable.s usable.t Port) == usable.mode then usable.mode else 0)

-- a client's slot is free
pub record IsFree (shown : StoreView) (client slot : ℕ) : Type 0 where
  pub held : maps.get (state_of shown).slots (slot_place client slot) ≡ None
  pub following : maps.get (follows shown) (slot_place client slot) ≡ None

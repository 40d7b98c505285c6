-- The promise between grants and a decider, slot by slot.
use Rattle.std.specs.Prelude.{◌≡◌, ℕ, Bool, false, List, Option, None, Some}
use Rattle.std.specs.Ordering.{nat_cmp}
use Rattle.std.specs.FinMap as maps
use Rattle.std.specs.FinMap.{FinMap}
use Rattle.access_vectors.specs.Decisions.{Decisions}
use Rattle.access_vectors.specs.Phases.{AreVersions}
use Rattle.access_vectors.specs.Stale.{is_stale_pair}
use Rattle.access_vectors.specs.declared.class.Class.{Class}
use Rattle.access_vectors.specs.declared.phase.Phase.{Phase}
use Rattle.slot_tables.specs.Words.{holds}
use Rattle.retained_rights.specs.declared.rule.Rule.{Rule}
use Rattle.retained_rights.specs.declared.grant.Grant.{Grant}
use Rattle.retained_rights.specs.Rights.{IsRight, followed}

-- the slot is stale, by what it holds
abbrev pub stale_at : Decisions → Class → Phase → Option Grant → Bool
stale_at d class phase None = false
stale_at d class phase (Some grant) = is_stale_pair d class phase (Some (record { source = grant.s; target = grant.t })) (Some (followed phase grant.number))

-- the promise, slot by slot
pub record IsGood (d : Decisions) (rule : Rule) (class : Class) (phase : Phase) (held : FinMap nat_cmp Grant) (words : List ℕ) : Type 0 where
  pub right : (place : ℕ) (grant : Grant) → maps.get held place ≡ Some grant → IsRight d rule class phase grant
  pub stale : (place : ℕ) → holds words place ≡ stale_at d class phase (maps.get held place)
  pub versions : AreVersions d.versions phase

-- How bound ports and rights show the plain manager's state: a slot holds a grant on a port that is bound.
use Rattle.std.specs.Prelude.{◌≡◌, ℕ, ◌/◌, ◌<◌, true, List, slice_index, is_some, refl}
use Rattle.std.specs.Ordering.{nat_cmp}
use Rattle.std.specs.FinMap as maps
use Rattle.std.specs.FinMap.{FinMap}
use Rattle.std.specs.Coded.{Coded, code_by, coded×, coded_list, coded_ℕ}
use Rattle.access_vectors.specs.Decisions.{Decisions}
use Rattle.access_vectors.specs.Mapped.{mapped}
use Rattle.access_vectors.specs.Stale.{Follows}
use Rattle.access_vectors.specs.declared.class.Class.TheVariants.{Port}
use Rattle.retained_rights.specs.Claims.{Claim, Claims, claims_of, AreInStep}
use Rattle.retained_rights.specs.Rights.{Rights, Fit, follows_of, rights_code}
use Rattle.retained_rights.specs.declared.rule.Rule.TheVariants as rules
use Rattle.port_calls.specs.States.{Bound, Held, PortState, IsOpening, label_of}
use Rattle.port_calls.specs.contracts.opening.PortOpening as opening_type
use Rattle.port_calls.specs.declared.opening.PortOpening.{PortOpening}

-- the bound ports by their numbers
abbrev pub BoundPorts : Type 0
BoundPorts = FinMap nat_cmp Bound

-- what contracts see of ports and rights: what they were opened with, the bound ports by their numbers, and the rights
pub record StoreView : Type 0 where
  pub opening : PortOpening
  pub ports : BoundPorts
  pub rights : Rights

-- how contracts tell bound ports and such values apart
abbrev pub bound_code : Coded Bound
bound_code =
    code_by (ℕ × List (List ℕ)) (coded× coded_ℕ (coded_list (coded_list coded_ℕ))) (λ bound. (bound.owner, bound.messages))
    (λ pair. record { owner = pair.0; messages = pair.1 }) (λ _. refl)

abbrev pub view_code : Coded StoreView
view_code =
    code_by (PortOpening × (BoundPorts × Rights)) (coded× opening_type.the_row.coded (coded× (maps.code coded_ℕ bound_code) rights_code))
    (λ v. (v.opening, (v.ports, v.rights))) (λ p. record { opening = p.0; ports = p.1.0; rights = p.1.1 }) (λ _. refl)

-- what the plain slot holds
abbrev pub held_by : Claim → Held
held_by claim = record { port = claim.object; mode = claim.mode }

-- the plain slots: one that is for a port holds that port
abbrev pub slots_of : Claims → FinMap nat_cmp Held
slots_of claims = mapped (λ place claim. held_by claim) claims

-- the state that the plain manager sees
abbrev pub state_of : StoreView → PortState
state_of shown = record { opening = shown.opening; ports = shown.ports; slots = slots_of (claims_of shown.rights) }

-- the policy number that each used slot follows
abbrev pub follows : StoreView → Follows
follows shown = follows_of shown.rights

-- a mode is of permissions of binding, receiving, sending and connecting, one of them at least
pub record IsMode (mode : ℕ) : Type 0 where
  pub some : 0 < mode
  pub within : mode < 16

-- a slot is for a bound port, and for the pair of its client and of the port's label
pub record IsLinked (opening : PortOpening) (ports : BoundPorts) (place : ℕ) (claim : Claim) : Type 0 where
  pub bound : is_some (maps.get ports claim.object) ≡ true
  pub target : label_of opening claim.object ≡ claim.t
  pub source : slice_index opening.clients (place / 256) ≡ claim.s
  pub mode : IsMode claim.mode

-- ports and rights are in step
abbrev pub IsInStep : StoreView → Type 0
IsInStep shown = AreInStep rules.All Port (IsLinked shown.opening shown.ports) shown.rights

-- the promise of ports and rights under a decider: they are in step, their identifiers are the decider's, and the rights
-- are those that the decider gives
pub record IsSafe (d : Decisions) (shown : StoreView) : Type 0 where
  pub step : IsInStep shown
  pub known : IsOpening d shown.opening
  pub rights : Fit d shown.rights

-- that promise, as a word that rows pass on unread
unfoldable pub Safe : Decisions → StoreView → Type 0
Safe d shown = IsSafe d shown

-- How ports and rights stay in step, and their promise under a decider.
use Rattle.std.proofs.Common.{◌≡◌, ℕ, ◌<◌, Bool, true, false, cond, eqb, Option, Some, None, is_some, refl, ap, ◌∙◌}
use Rattle.std.specs.Prelude.{option_map, slice_index}
use Rattle.std.specs.FinMap as maps
use Rattle.std.proofs.lemmas.Bool.{eq-eqb, ne_eqb}
use Rattle.access_vectors.specs.Decisions.{Decisions}
use Rattle.access_vectors.specs.Stale.{slot_place}
use Rattle.slot_tables.proofs.SlotLemmas.{get-put, get-taken}
use Rattle.retained_rights.specs.Claims.{Claim, claims_of, not_for}
use Rattle.retained_rights.specs.Rights.{Rights, Fit}
use Rattle.retained_rights.proofs.Following.{client_of_place}
use Rattle.retained_rights.proofs.StepLemmas as steps
use Rattle.port_calls.specs.States.{Bound, label_of}
use Rattle.port_store.specs.Stores.{BoundPorts, StoreView, IsMode, IsLinked, IsInStep, Safe}
use Rattle.port_store.specs.Laws.{safe_is}
use Rattle.port_store.specs.Queues.{ports_with, changed}

-- other ports or rights
abbrev pub with_rights : StoreView → Rights → StoreView
with_rights shown now = record { opening = shown.opening; ports = shown.ports; rights = now }

abbrev pub with_both : StoreView → BoundPorts → Rights → StoreView
with_both shown ports rights = record { opening = shown.opening; ports = ports; rights = rights }

-- the promise under a decider with other ports and rights
pub safe_moved : (d : Decisions) (shown : StoreView) (ports : BoundPorts) (now : Rights) → Safe d shown → IsInStep (with_both shown ports now) → Fit d now → Safe d (with_both shown ports now)
unfolding Safe
safe_moved d shown ports now safe step fit = record { step = step; known = safe.known; rights = fit }

-- where a change of policy leaves what the slots are for
pub safe_kept : (d : Decisions) (shown : StoreView) (now : Rights) → Safe d shown → now.rule ≡ shown.rights.rule → now.class ≡ shown.rights.class
    → claims_of now ≡ claims_of shown.rights → Fit d now → Safe d (with_rights shown now)
safe_kept d shown now safe rule class claims fit = safe_moved d shown shown.ports now safe (steps.step_kept (safe_is d shown safe).step now rule class claims) fit

-- a bound port is bound beside one that is bound now
pub bound_beside : (ports : BoundPorts) (at : ℕ) (bound : Bound) (port : ℕ) → is_some (maps.get ports port) ≡ true → is_some (maps.get (maps.insert ports at bound) port) ≡ true
bound_beside ports at bound port there = ap is_some (get-put ports at bound port) ∙ either (eqb port at)
  where
    either : (b : Bool) → is_some (cond b (Some bound) (maps.get ports port)) ≡ true
    either true = refl
    either false = there

-- the port that is bound now
pub bound_now : (ports : BoundPorts) (at : ℕ) (bound : Bound) → is_some (maps.get (maps.insert ports at bound) at) ≡ true
bound_now ports at bound = ap is_some (get-put ports at bound at ∙ ap (λ t. cond t (Some bound) (maps.get ports at)) (eq-eqb at at refl))

-- a change of what is bound leaves each port bound
pub bound_changed : (ports : BoundPorts) (at : ℕ) (change : Bound → Bound) (port : ℕ) → is_some (maps.get ports port) ≡ true → is_some (maps.get (changed ports at change) port) ≡ true
bound_changed ports at change port there = by_bound (maps.get ports at)
  where
    by_bound : (found : Option Bound) → is_some (maps.get (ports_with ports at (option_map change found)) port) ≡ true
    by_bound None = there
    by_bound (Some bound) = bound_beside ports at (change bound) port there

-- where each bound port is still bound
still_linked : (shown : StoreView) (ports : BoundPorts) → ((port : ℕ) → is_some (maps.get shown.ports port) ≡ true → is_some (maps.get ports port) ≡ true)
    → (place : ℕ) (claim : Claim) → IsLinked shown.opening shown.ports place claim → IsLinked shown.opening ports place claim
still_linked shown ports stays place claim link = record { bound = stays claim.object link.bound; target = link.target; source = link.source; mode = link.mode }

module _ (shown : StoreView) (step : IsInStep shown) (now : Rights) (rule : now.rule ≡ shown.rights.rule) (class : now.class ≡ shown.rights.class) where
  -- a slot is filled with a port that is bound
  pub step_filled : (ports : BoundPorts) (client slot : ℕ) (filling : Claim) → ((port : ℕ) → is_some (maps.get shown.ports port) ≡ true → is_some (maps.get ports port) ≡ true)
      → slot < 256 → is_some (maps.get ports filling.object) ≡ true → label_of shown.opening filling.object ≡ filling.t
      → slice_index shown.opening.clients client ≡ filling.s → IsMode filling.mode → claims_of now ≡ maps.insert (claims_of shown.rights) (slot_place client slot) filling
      → IsInStep (with_both shown ports now)
  step_filled ports client slot filling stays small bound target source mode claims =
      steps.step_filled step now rule class (IsLinked shown.opening ports) (slot_place client slot) filling claims (still_linked shown ports stays)
      (record { bound = bound; target = target; source = ap (slice_index shown.opening.clients) (client_of_place client slot small) ∙ source; mode = mode })

  -- a port is unbound, and the slots on it are freed
  pub step_unbound : (port : ℕ) (ports : BoundPorts) → ports ≡ maps.remove shown.ports port → claims_of now ≡ not_for port (claims_of shown.rights) (claims_of shown.rights)
      → IsInStep (with_both shown ports now)
  step_unbound port ports is claims = steps.step_without step now rule class (IsLinked shown.opening ports) port claims (λ place claim apart link. record {
    bound = ap is_some (ap (λ m. maps.get m claim.object) is ∙ get-taken shown.ports port claim.object ∙ ap (λ t. cond t None (maps.get shown.ports claim.object)) (ne_eqb claim.object port apart)) ∙ link.bound;
    target = link.target;
    source = link.source;
    mode = link.mode;
  })

-- what is bound at a port changes
pub step_changed : (shown : StoreView) → IsInStep shown → (at : ℕ) (change : Bound → Bound) (ports : BoundPorts) → ports ≡ changed shown.ports at change → IsInStep (with_both shown ports shown.rights)
step_changed shown step at change ports is =
    steps.step_as step (IsLinked shown.opening ports)
    (still_linked shown ports (λ port there. ap (λ p. is_some (maps.get p port)) is ∙ bound_changed shown.ports at change port there))

-- How a change of ports and rights shows in the plain state.
use Rattle.std.proofs.Common.{◌≡◌, ℕ, not, List, [], Option, Some, None, refl, sym, ap, ◌∙◌}
use Rattle.std.specs.Prelude.{option_map}
use Rattle.std.specs.FinMap as maps
use Rattle.access_vectors.proofs.MappedLemmas.{get-mapped}
use Rattle.retained_rights.specs.Claims.{Claim, Claims, claims_of, is_for, not_for}
use Rattle.retained_rights.specs.Rights.{Rights, follows_of}
use Rattle.retained_rights.proofs.MapLemmas.{mapped-insert, mapped-remove, mapped-retain_keys}
use Rattle.port_calls.specs.PlainManager.{follows_without}
use Rattle.port_calls.specs.Rows.{bound_by, freed, is_on_port, unbound}
use Rattle.port_calls.specs.States.{Bound, with_ports, with_slot}
use Rattle.port_store.specs.Queues.{changed, popped, pushed, with_newest, ports_with, without_oldest}
use Rattle.port_store.specs.Stores.{BoundPorts, StoreView, state_of, slots_of, held_by, follows}
use Rattle.port_store.proofs.StepLemmas.{with_rights, with_both}

-- a slot is filled
pub state_filled : (shown : StoreView) (ports : BoundPorts) (now : Rights) (at : ℕ) (filling : Claim) → claims_of now ≡ maps.insert (claims_of shown.rights) at filling
    → state_of (with_both shown ports now) ≡ with_slot (with_ports (state_of shown) ports) at (held_by filling)
state_filled shown ports now at filling claims =
    λ i. record { opening = shown.opening; ports = ports; slots = (ap slots_of claims ∙ mapped-insert _ (claims_of shown.rights) at filling) i }

-- a port is bound, and a slot is filled with it
pub state_bound : (shown : StoreView) (ports : BoundPorts) (now : Rights) (client at : ℕ) (filling : Claim) → ports ≡ maps.insert shown.ports filling.object (record { owner = client; messages = [] })
    → claims_of now ≡ maps.insert (claims_of shown.rights) at filling → state_of (with_both shown ports now) ≡ bound_by (state_of shown) client at filling.object filling.mode
state_bound shown ports now client at filling is claims =
    state_filled shown ports now at filling claims ∙ ap (λ p. with_slot (with_ports (state_of shown) p) at (held_by filling)) is

-- a slot is freed
pub state_freed : (shown : StoreView) (now : Rights) (at : ℕ) → claims_of now ≡ maps.remove (claims_of shown.rights) at → state_of (with_rights shown now) ≡ freed (state_of shown) at
state_freed shown now at claims =
    λ i. record { opening = shown.opening; ports = shown.ports; slots = (ap slots_of claims ∙ mapped-remove _ (claims_of shown.rights) at) i }

-- a slot is for a port exactly where it holds that port
on_port : (claims : Claims) (port place : ℕ) → is_for port (maps.get claims place) ≡ is_on_port port (maps.get (slots_of claims) place)
on_port claims port place = at (maps.get claims place) ∙ ap (is_on_port port) (sym (get-mapped (λ q claim. held_by claim) claims place))
  where
    at : (o : Option Claim) → is_for port o ≡ is_on_port port (option_map held_by o)
    at None = refl
    at (Some claim) = refl

-- a port is unbound, and the slots on it are freed
pub state_unbound : (shown : StoreView) (ports : BoundPorts) (now : Rights) (port : ℕ) → ports ≡ maps.remove shown.ports port → claims_of now ≡ not_for port (claims_of shown.rights) (claims_of shown.rights)
    → state_of (with_both shown ports now) ≡ unbound (state_of shown) port
state_unbound shown ports now port is claims = λ i. record {
  opening = shown.opening;
  ports = is i;
  slots = (ap slots_of claims ∙ mapped-retain_keys _ (claims_of shown.rights) _
      ∙ (λ j. maps.retain_keys (slots_of (claims_of shown.rights)) (λ place. not (on_port (claims_of shown.rights) port place j)))) i;
}

pub follows_unbound : (shown : StoreView) (now : Rights) (port : ℕ) → follows_of now ≡ not_for port (claims_of shown.rights) (follows shown) → follows_of now ≡ follows_without (state_of shown) port (follows shown)
follows_unbound shown now port following = following ∙ (λ i. maps.retain_keys (follows shown) (λ place. not (on_port (claims_of shown.rights) port place i)))

-- what is bound at a port has one more message
pub state_pushed : (shown : StoreView) (ports : BoundPorts) (port : ℕ) (message : List ℕ) → ports ≡ changed shown.ports port (λ bound. with_newest bound message)
    → state_of (with_both shown ports shown.rights) ≡ pushed (state_of shown) port (maps.get shown.ports port) message
state_pushed shown ports port message is =
    ap (λ (now : BoundPorts). record { opening = shown.opening; ports = now; slots = slots_of (claims_of shown.rights) }) is ∙ by_bound (maps.get shown.ports port)
  where
    by_bound : (found : Option Bound) → record { opening = shown.opening; ports = ports_with shown.ports port (option_map (λ bound. with_newest bound message) found); slots = slots_of (claims_of shown.rights) } ≡ pushed (state_of shown) port found message
    by_bound None = refl
    by_bound (Some bound) = refl

-- what is bound at a port has its oldest message no more
pub state_popped : (shown : StoreView) (ports : BoundPorts) (port : ℕ) → ports ≡ changed shown.ports port without_oldest
    → state_of (with_both shown ports shown.rights) ≡ popped (state_of shown) port (maps.get shown.ports port)
state_popped shown ports port is =
    ap (λ (now : BoundPorts). record { opening = shown.opening; ports = now; slots = slots_of (claims_of shown.rights) }) is ∙ by_bound (maps.get shown.ports port)
  where
    by_bound : (found : Option Bound) → record { opening = shown.opening; ports = ports_with shown.ports port (option_map without_oldest found); slots = slots_of (claims_of shown.rights) } ≡ popped (state_of shown) port found
    by_bound None = refl
    by_bound (Some bound) = refl

-- The coordinator of three stations before the first change, and the three again.
use Rattle.std.proofs.Common.{◌≡◌, ℕ, zero, suc, ◌<◌, ◌≤◌, false, List, [], ◌∷◌, length, Some, refl, sym, ap, subst, ◌∙◌, arith}
use Rattle.std.specs.Prelude.{All, slice_get, replicate}
use Rattle.access_vectors.specs.Decisions.{Decisions}
use Rattle.access_vectors.specs.declared.phase.Phase.TheVariants.{Settled}
use Rattle.retained_rights.specs.declared.callbacks.EachBits.{EachBits}
use Rattle.retained_rights.specs.declared.callbacks.AllBits.{AllBits}
use Rattle.manager_history.specs.declared.entry.Entry.{Entry}
use Rattle.epoch_gate.specs.Seats.{SeatView, Site}
use Rattle.managed_run.specs.Kinds.{phase_of}
use Rattle.managed_run.specs.Administering.{seen_of}
use Rattle.managed_run.specs.declared.docket.Opened.{Opened}
use Rattle.one_of_three.specs.declared.three.OneOfThree.TheVariants as one
use Rattle.security_server.specs.Numbering.{opened, is_in}
use Rattle.change_protocol.specs.Changes.{IsLed, IsPlaced}
use Rattle.change_protocol.proofs.Receipts.{none_in}
use Rattle.client_script.specs.declared.stations.Stations.{Stations}
use Rattle.station_start.specs.declared.started.Admins.{Admins}
use Rattle.thread_run.specs.Managers.{IsStation, IsBefore, AreStations, AreBefore, OneHolding, managers_of, seen_one, led_first}

-- no turn was had, so each is as it may be
pub all_none : {X : Type 0} (P : X → Type 0) (items : List X) → items ≡ [] → All P items
all_none P items none = subst (All P) (sym none) (λ k d below. let no : ⊥ = omega (arith, below) in absurd no)

module _ {D : Type 0} (decides : D → Decisions) (decider : D) (most : ℕ) where
  placed : {C Call Reply : Type 0} (place seats : ℕ) (site : Site D (Opened C)) (admin : SeatView (Entry Call Reply) D (Opened C)) → IsStation decider most place site → IsBefore seats site admin
      → IsPlaced (decides decider).versions (opened decider 3 most) 0 place (seen_of decides (record { site = site; admin = admin }))
  placed place seats site admin of before = record {
    numbered = of.manager_is;
    most = of.most_is;
    versions_are = ap (λ (d : D). (decides d).versions) of.decider_is;
    phase = ap phase_of before.seen;
    receipt = λ there. let none : is_in (replicate 16 false) place ≡ false = none_in 16 place in cc;
  }

  pub first_led : (seats : ℕ) (stations : Stations D EachBits AllBits AllBits) (admins : Admins D) → 0 < (decides decider).versions → AreStations decider most stations → AreBefore seats stations admins
      → IsLed decides (seen_one decides) (led_first decider most stations admins)
  first_led seats stations admins some of before = record {
    sound = record { few = omega arith; places = refl; numbers = omega arith; versions = some };
    registered = refl;
    within = omega arith;
    placed = at;
  }
    where
      at : (place : ℕ) (m : OneHolding D) → slice_get (managers_of stations admins) place ≡ Some m → IsPlaced (decides decider).versions (opened decider 3 most) 0 place (seen_one decides m)
      at zero m is = let here : one.Files (record { site = stations.files; admin = admins.files }) ≡ m = cc in rw (← here) (placed 0 seats stations.files admins.files of.files before.files)
      at (suc zero) m is = let here : one.Processes (record { site = stations.processes; admin = admins.processes }) ≡ m = cc in rw (← here) (placed 1 seats stations.processes admins.processes of.processes before.processes)
      at (suc (suc zero)) m is = let here : one.Ports (record { site = stations.ports; admin = admins.ports }) ≡ m = cc in rw (← here) (placed 2 seats stations.ports admins.ports of.ports before.ports)
      at (suc (suc (suc place))) m is = cc

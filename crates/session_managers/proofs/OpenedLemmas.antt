-- A session before its first line.
use Rattle.std.proofs.Common.{◌≡◌, ◌<◌, ℕ, zero, suc, false, [], ◌∷◌, Some, refl, arith}
use Rattle.std.specs.Prelude.{slice_get, replicate}
use Rattle.access_vectors.specs.Decisions.{Decisions}
use Rattle.access_vectors.specs.declared.phase.Phase.TheVariants.{Settled}
use Rattle.security_server.specs.Numbering.{opened, is_in}
use Rattle.change_protocol.specs.Changes.{IsLed, IsPlaced}
use Rattle.change_protocol.proofs.Receipts.{none_in}
use Rattle.session_managers.specs.declared.one_manager.OneManager.{OneManager}
use Rattle.session_managers.specs.SessionStates.{most_number}
use Rattle.session_managers.specs.One.{seen}

module _ {D : Type 0} (decides : D → Decisions) (decider : D) where
  -- one that was opened stands as it has to
  pub record IsOpened (place : ℕ) (m : OneManager D) : Type 0 where
    pub numbered : (seen decides m).manager ≡ place
    pub most : (seen decides m).most ≡ most_number
    pub versions : (seen decides m).versions ≡ (decides decider).versions
    pub phase : (seen decides m).phase ≡ Settled 0 0

  placed : (place : ℕ) (m : OneManager D) → IsOpened place m → IsPlaced (decides decider).versions (opened decider 3 most_number) 0 place (seen decides m)
  placed place m is = record {
    numbered = is.numbered;
    most = is.most;
    versions_are = is.versions;
    phase = is.phase;
    receipt = λ there. let none : is_in (replicate 16 false) place ≡ false = none_in 16 place in cc;
  }

  pub opened_led : (f p q : OneManager D) → 0 < (decides decider).versions → IsOpened 0 f → IsOpened 1 p → IsOpened 2 q
      → IsLed decides (seen decides) (record { server = opened decider 3 most_number; managers = f ∷ p ∷ q ∷ []; reached = 0 })
  opened_led f p q some file process port = record {
    sound = record { few = omega arith; places = refl; numbers = omega arith; versions = some };
    registered = refl;
    within = omega arith;
    placed = at;
  }
    where
      at : (place : ℕ) (m : OneManager D) → slice_get (f ∷ p ∷ q ∷ []) place ≡ Some m → IsPlaced (decides decider).versions (opened decider 3 most_number) 0 place (seen decides m)
      at zero m is = let here : f ≡ m = cc in rw (← here) (placed 0 f file)
      at (suc zero) m is = let here : p ≡ m = cc in rw (← here) (placed 1 p process)
      at (suc (suc zero)) m is = let here : q ≡ m = cc in rw (← here) (placed 2 q port)
      at (suc (suc (suc place))) m is = cc

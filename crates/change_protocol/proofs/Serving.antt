-- How managers stand after a client's act at one of them.
use Rattle.std.proofs.Common.{◌≡◌, ℕ, zero, suc, ◌<◌, List, [], ◌∷◌, length, Some, refl, inl, inr, ap, subst, ◌∙◌}
use Rattle.std.specs.Prelude.{slice_get, slice_set, ◌⊎◌}
use Rattle.access_vectors.specs.Decisions.{Decisions}
use Rattle.managed.specs.Seen.{Seen, IsServed}
use Rattle.security_server.specs.Numbering.{ServerView}
use Rattle.change_protocol.specs.Changes.{IsPlaced, IsLed}
use Rattle.change_protocol.proofs.Placing.{stays_in}

-- a list with another value at a place is as long as before
set_length : {A : Type 0} (xs : List A) (i : ℕ) (y : A) → length (slice_set xs i y) ≡ length xs
set_length [] i y = refl
set_length (x ∷ xs) zero y = refl
set_length (x ∷ xs) (suc i) y = ap suc (set_length xs i y)

-- what stands at a place then was put there, or stood there
set_back : {A : Type 0} (xs : List A) (i place : ℕ) (y z : A) → slice_get (slice_set xs i y) place ≡ Some z → ((place ≡ i) × (y ≡ z)) ⊎ (slice_get xs place ≡ Some z)
set_back [] i place y z is = inr is
set_back (x ∷ xs) zero zero y z is = inl (refl, cc)
set_back (x ∷ xs) zero (suc place) y z is = inr is
set_back (x ∷ xs) (suc i) zero y z is = inr is
set_back (x ∷ xs) (suc i) (suc place) y z is = elim (set_back xs i place y z is) as (λ w. ((suc place ≡ suc i) × (y ≡ z)) ⊎ (slice_get xs place ≡ Some z)) [
  | inl here ↦ inl (ap suc here.0, here.1)
  | inr there ↦ inr there
]

module _ {Decider : Type 0} where
  served_placed : (versions reached place : ℕ) (server : ServerView Decider) (was now : Seen) → IsServed was now
      → IsPlaced versions server reached place was → IsPlaced versions server reached place now
  served_placed versions reached place server was now served placed = record {
    numbered = served.same.manager ∙ placed.numbered;
    most = served.same.most ∙ placed.most;
    versions_are = served.same.versions ∙ placed.versions_are;
    phase = served.phase ∙ placed.phase;
    receipt = λ there. stays_in server.phase reached place _ _ _ _ served.history (placed.receipt there);
  }

  pub served_led : {Manager : Type 0} (decides : Decider → Decisions) (seen : Manager → Seen) (server : ServerView Decider) (xs : List Manager) (reached i : ℕ) (x y : Manager)
      → IsLed decides seen (record { server = server; managers = xs; reached = reached }) → i < length xs → slice_get xs i ≡ Some x → IsServed (seen x) (seen y)
      → IsLed decides seen (record { server = server; managers = slice_set xs i y; reached = reached })
  served_led {Manager = Manager} decides seen server xs reached i x y led within there served = record {
    sound = led.sound;
    registered = set_length xs i y ∙ led.registered;
    within = led.within;
    placed = λ place manager is. elim (set_back xs i place y manager is) as (λ w. IsPlaced (decides server.decider).versions server reached place (seen manager)) [
      | inl here ↦ subst (λ (m : Manager). IsPlaced (decides server.decider).versions server reached place (seen m)) here.1
          (served_placed _ reached place server (seen x) (seen y) served (led.placed place x (ap (slice_get xs) here.0 ∙ there)))
      | inr stood ↦ led.placed place manager stood
    ];
  }

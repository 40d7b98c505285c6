-- How managers stand after an update, and after notices.
use Rattle.std.proofs.Common.{◌≡◌, ℕ, Bool, List, ◌++◌, length, Option, Some, None, refl, subst, ◌∙◌}
use Rattle.std.specs.Prelude.{slice_get}
use Rattle.std.specs.List.{Contains}
use Rattle.std.proofs.lemmas.List.Elements.{Contains-append_left}
use Rattle.access_vectors.specs.Decisions.{Decisions}
use Rattle.access_vectors.specs.declared.phase.Phase.{Phase}
use Rattle.access_vectors.specs.declared.phase.Phase.TheVariants.{Settled, Pending}
use Rattle.managed.specs.Seen.{Seen, IsGrown, IsUpdated}
use Rattle.managed.specs.declared.managed.Event.{Event}
use Rattle.security_server.specs.Numbering.{ServerView}
use Rattle.change_protocol.specs.Changes.{AreBoth, AreAll, MayBeIn, IsPlaced, IsLed}

-- what stood at a place where something stands now
pub all_back : {A S : Type 0} (R : A → A → S → Type 0) (was now : Option A) (said : Option S) (y : A) → AreAll R was now said → now ≡ Some y
    → (x : A) × (s : S) × (was ≡ Some x) × (said ≡ Some s) × R x y s
all_back R None None None y all is = cc
all_back R None None (Some s) y all is = absurd all
all_back R None (Some z) None y all is = absurd all
all_back R None (Some z) (Some s) y all is = absurd all
all_back R (Some x) None None y all is = absurd all
all_back R (Some x) None (Some s) y all is = absurd all
all_back R (Some x) (Some z) None y all is = absurd all
all_back R (Some x) (Some z) (Some s) y all is = let same : z ≡ y = cc in (x, s, refl, refl, subst (λ w. R x w s) same all)

pub both_back : {A : Type 0} (R : A → A → Type 0) (was now : Option A) (y : A) → AreBoth R was now → now ≡ Some y → (x : A) × (was ≡ Some x) × R x y
both_back R None None y both is = cc
both_back R None (Some z) y both is = absurd both
both_back R (Some x) None y both is = absurd both
both_back R (Some x) (Some z) y both is = let same : z ≡ y = cc in (x, refl, subst (R x) same both)

-- an acknowledgement stays in a history that grows
pub contains_grown : (alone : Bool) (old new added : List Event) (event : Event) → IsGrown alone old new added → Contains old event → Contains new event
contains_grown alone old new added event grown there =
    rw grown.grown (Contains-append_left (old ++ grown.between) added event (Contains-append_left old grown.between event there))

pub stays_in : (phase : Phase) (reached place : ℕ) (alone : Bool) (old new added : List Event) → IsGrown alone old new added
    → MayBeIn phase reached place old → MayBeIn phase reached place new
stays_in (Settled number version) reached place alone old new added grown may = may
stays_in (Pending number first second) reached place alone old new added grown may = (may.0, (may.1.0, contains_grown alone old new added _ grown may.1.1))

module _ {Decider : Type 0} where
  pub updated_placed : (versions most reached place left : ℕ) (server : ServerView Decider) (was now : Seen) → IsUpdated most was now left
      → IsPlaced versions server reached place was → IsPlaced versions server reached place now
  updated_placed versions most reached place left server was now updated placed = record {
    numbered = updated.same.manager ∙ placed.numbered;
    most = updated.same.most ∙ placed.most;
    versions_are = updated.same.versions ∙ placed.versions_are;
    phase = updated.phase ∙ placed.phase;
    receipt = λ there. stays_in server.phase reached place _ _ _ _ updated.history (placed.receipt there);
  }

  pub updated_led : {Manager : Type 0} (decides : Decider → Decisions) (seen : Manager → Seen) (same : Manager → Manager → Type 0) (most reached : ℕ) (server : ServerView Decider)
      (xs ys : List Manager) (left : List ℕ) → IsLed decides seen (record { server = server; managers = xs; reached = reached }) → length ys ≡ length xs
      → ((place : ℕ) → AreAll (λ was now left. IsUpdated most (seen was) (seen now) left × same was now) (slice_get xs place) (slice_get ys place) (slice_get left place))
      → IsLed decides seen (record { server = server; managers = ys; reached = reached })
  updated_led decides seen same most reached server xs ys left led lens each = record {
    sound = led.sound;
    registered = lens ∙ led.registered;
    within = led.within;
    placed = λ place manager is.
        let back = all_back _ _ _ _ manager (each place) is in
        updated_placed _ most reached place back.1 server (seen back.0) (seen manager) back.4.0 (led.placed place back.0 back.2);
  }

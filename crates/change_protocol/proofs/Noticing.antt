-- How managers stand as a version is proposed and given to them.
use Rattle.std.proofs.Common.{◌≡◌, ◌≢◌, ℕ, ◌+◌, ◌-◌, ◌<◌, ◌≤◌, Bool, true, false, List, length, Option, Some, None, Result, Ok, Err, is_ok, refl, ap, subst, ◌∙◌, arith}
use Rattle.std.specs.Prelude.{slice_get, option_map, ◌==◌, nat_lt, ◌&&◌, if◌then◌else◌}
use Rattle.std.proofs.lemmas.Bool.Decides.{nat_tests}
use Rattle.access_vectors.specs.Decisions.{Decisions}
use Rattle.access_vectors.specs.Phases.{number_of, noticed, AreVersions}
use Rattle.access_vectors.specs.declared.phase.Phase.{Phase}
use Rattle.access_vectors.specs.declared.phase.Phase.TheVariants.{Settled, Pending}
use Rattle.access_vectors.specs.Notices.{notice_fault}
use Rattle.access_vectors.specs.declared.change.NotifyFault.{NotifyFault}
use Rattle.access_vectors.specs.declared.change.NotifyFault.TheVariants as refusing
use Rattle.managed.specs.Seen.{Seen, IsNotified}
use Rattle.managed.specs.declared.managed.Event.{Event}
use Rattle.security_server.specs.Numbering.{ServerView, is_in}
use Rattle.change_protocol.specs.Changes.{AreBoth, MayBeIn, IsPlaced, ArePlaced, IsSound, IsLed, IsTold, IsToldAt, IsNotifiedAt, phase_at, started, started_on, first_on, number_after, notify_all_fault, for_all}
use Rattle.change_protocol.specs.declared.answers.NotifyAllFault.{NotifyAllFault}
use Rattle.change_protocol.specs.declared.answers.NotifyAllFault.TheVariants as faults
use Rattle.change_protocol.proofs.Placing.{both_back}

-- a settled server or manager against whose notice nothing speaks
may_propose : {F : Type 0} (spent none : F) (versions most number version : ℕ)
    → (if nat_lt version versions then (if number == most then Some spent else None) else Some none) ≡ None → (version < versions) × (number ≢ most)
may_propose spent none versions most number version =
    elim (nat_lt version versions) as (λ (b : Bool). nat_lt version versions ≡ b → (if b then (if number == most then Some spent else None) else Some none) ≡ None → (version < versions) × (number ≢ most)) [
      | true ↦ λ is. elim (number == most) as (λ (b : Bool). (number == most) ≡ b → (if b then Some spent else None) ≡ None → (version < versions) × (number ≢ most)) [
        | true ↦ λ same e. cc
        | false ↦ λ apart e. (grind (arith, nat_tests), grind (arith, nat_tests))
      ] refl
      | false ↦ λ is e. cc
    ] refl

unspoken : (versions most number old version : ℕ) → version < versions → number ≢ most → notice_fault (Settled number old) versions version most ≡ None
unspoken versions most number old version below apart =
    let here : nat_lt version versions ≡ true = grind (arith, nat_tests) in
    let fresh : (number == most) ≡ false = grind (arith, nat_tests) in
    rw (here, fresh) refl

-- where no notice to all is refused, none is
none_for_all : (fault : Option NotifyFault) → option_map for_all fault ≡ None → fault ≡ None
none_for_all None is = refl
none_for_all (Some fault) is = cc

-- the same version goes on
same_version : (new version reached managers : ℕ) (pending : NotifyAllFault) → (if (new == version) && nat_lt reached managers then None else Some pending) ≡ None → new ≡ version
same_version new version reached managers pending =
    elim (new == version) as (λ (b : Bool). (new == version) ≡ b → (if b && nat_lt reached managers then None else Some pending) ≡ None → new ≡ version) [
      | true ↦ λ is e. grind (arith, nat_tests)
      | false ↦ λ is e. cc
    ] refl

module _ {Decider Manager : Type 0} (decides : Decider → Decisions) (seen : Manager → Seen) where
  -- a change that is begun: a number is pending with the version, and the managers stand so that the first ones have its notice
  pub record IsBegun (server : ServerView Decider) (xs : List Manager) (first number version : ℕ) : Type 0 where
    pub old : ℕ
    pub pending : server.phase ≡ Pending number old version
    pub sound : IsSound decides server
    pub within : first ≤ server.managers
    pub placed : ArePlaced decides seen server xs first

  begun_at : (decider : Decider) (managers most : ℕ) (phase : Phase) (receipts : List Bool) (xs : List Manager) (reached version : ℕ)
      → (let server : ServerView Decider = record { decider = decider; managers = managers; most = most; phase = phase; receipts = receipts } in
      IsSound decides server → reached ≤ managers → ArePlaced decides seen server xs reached
      → notify_all_fault (decides decider).versions server reached version ≡ None
      → IsBegun (started server version) xs (first_on phase reached) (number_after phase) version)
  begun_at decider managers most (Settled number old) receipts xs reached version sound within placed allowed =
      let may = may_propose refusing.Spent refusing.NoVersion (decides decider).versions most number version (none_for_all _ allowed) in
      record {
        old = old;
        pending = refl;
        sound = record { few = sound.few; places = sound.places; numbers = omega (arith, may.1, sound.numbers); versions = (omega arith, sound.versions, may.0) };
        within = omega arith;
        placed = λ place manager is.
            let stood = placed place manager is in
            let none : nat_lt place 0 ≡ false = grind (arith, nat_tests) in
            record {
              numbered = stood.numbered;
              most = stood.most;
              versions_are = stood.versions_are;
              phase = rw none (stood.phase ∙ ap (λ n. Settled n old) (omega arith));
              receipt = λ there. absurd (stood.receipt there);
            };
      }
  begun_at decider managers most (Pending number old new) receipts xs reached version sound within placed allowed = record {
    old = old;
    pending = ap (Pending number old) (same_version new version reached managers (faults.Pending number) allowed);
    sound = sound;
    within = within;
    placed = placed;
  }

  pub begun : (server : ServerView Decider) (xs : List Manager) (reached version : ℕ)
      → IsLed decides seen (record { server = server; managers = xs; reached = reached })
      → notify_all_fault (decides server.decider).versions server reached version ≡ None
      → IsBegun (started server version) xs (first_on server.phase reached) (number_after server.phase) version
  begun server xs reached version led allowed =
      begun_at server.decider server.managers server.most server.phase server.receipts xs reached version led.sound led.within led.placed allowed

-- the managers that are registered stay
same_many : {Decider : Type 0} (phase : Phase) (server : ServerView Decider) (version : ℕ) → (started_on phase server version).managers ≡ server.managers
same_many (Settled number old) server version = refl
same_many (Pending number old new) server version = refl

pub started_many : {Decider : Type 0} (server : ServerView Decider) (version : ℕ) → (started server version).managers ≡ server.managers
started_many server version = same_many server.phase server version

-- where a manager with no notice stands
unreached : {Decider : Type 0} (versions : ℕ) (server : ServerView Decider) (first place number old version : ℕ) (was : Seen) → server.phase ≡ Pending number old version
    → IsPlaced versions server first place was → first ≤ place → was.phase ≡ Settled (number - 1) old
unreached versions server first place number old version was pending placed above =
    let none : nat_lt place first ≡ false = grind (arith, nat_tests) in
    let at : was.phase ≡ phase_at (Pending number old version) server.receipts first place = placed.phase ∙ ap (λ p. phase_at p server.receipts first place) pending in
    rw none at at

-- where its receipt is in it has its notice
reached_in : (phase : Phase) (first place number old version : ℕ) (history : List Event) → phase ≡ Pending number old version → MayBeIn phase first place history → place < first
reached_in phase first place number old version history pending may =
    let at : MayBeIn (Pending number old version) first place history = subst (λ (p : Phase). MayBeIn p first place history) pending may in at.0

-- and may be in with more notices
further : (phase : Phase) (first reached place : ℕ) (history : List Event) → first ≤ reached → MayBeIn phase first place history → MayBeIn phase reached place history
further (Settled number version) first reached place history more may = may
further (Pending number old new) first reached place history more may = (omega (arith, may.0), may.1)

pub differ : (b : Bool) → b ≡ true → b ≡ false → ⊥
differ b is_true is_false = cc

-- what a manager keeps that was not reached
record IsUnmoved (was now : Seen) : Type 0 where
  manager : now.manager ≡ was.manager
  most : now.most ≡ was.most
  versions : now.versions ≡ was.versions
  phase : now.phase ≡ was.phase

unmoved_at : {Manager : Type 0} (seen : Manager → Seen) (version number first reached place : ℕ) (was now : Manager) → reached ≤ place
    → IsNotifiedAt seen version number first reached place was now → IsUnmoved (seen was) (seen now)
unmoved_at seen version number first reached place was now ahead notified =
    elim (place == reached) as (λ (b : Bool). (place == reached) ≡ b → IsUnmoved (seen was) (seen now)) [
      | true ↦ λ is.
          let refused : IsNotified version (seen was) (seen now) (Err refusing.Memory) = notified.refused (grind (arith, nat_tests)) in
          record { manager = refused.same.manager; most = refused.same.most; versions = refused.same.versions; phase = refused.answer.phase }
      | false ↦ λ is.
          let apart : place ≢ reached = grind (arith, nat_tests) in
          rw (notified.behind (omega (arith, apart))) (record { manager = refl; most = refl; versions = refl; phase = refl })
    ] refl

-- a manager with no notice gives the number, or wants memory
given_number : {Manager : Type 0} (seen : Manager → Seen) (versions number old version : ℕ) (most : ℕ) (was now : Manager)
    → (seen was).phase ≡ Settled (number - 1) old → 0 < number → IsTold seen version true was now → IsNotified version (seen was) (seen now) (Ok number)
given_number seen versions number old version most was now at some told =
    go told.said told.notified told.given_is
  where
    go : (said : Result ℕ NotifyFault) → IsNotified version (seen was) (seen now) said → is_ok said ≡ true → IsNotified version (seen was) (seen now) (Ok number)
    go (Err fault) notified given = cc
    go (Ok given_number) notified given =
        let is : given_number ≡ number_of (Settled (number - 1) old) + 1 = notified.answer.number_is ∙ ap (λ p. number_of p + 1) at in
        let same : given_number ≡ number = is ∙ omega arith in
        subst (λ (n : ℕ). IsNotified version (seen was) (seen now) (Ok n)) same notified

refused_memory : {Manager : Type 0} (seen : Manager → Seen) (versions most number old version : ℕ) (was now : Manager)
    → (seen was).phase ≡ Settled (number - 1) old → (seen was).versions ≡ versions → (seen was).most ≡ most → version < versions → number ≤ most → 0 < number
    → IsTold seen version false was now → IsNotified version (seen was) (seen now) (Err refusing.Memory)
refused_memory seen versions most number old version was now at versions_are most_is below few some told =
    go told.said told.notified told.given_is
  where
    go : (said : Result ℕ NotifyFault) → IsNotified version (seen was) (seen now) said → is_ok said ≡ false → IsNotified version (seen was) (seen now) (Err refusing.Memory)
    go (Ok given_number) notified given = cc
    go (Err fault) notified given =
        let none : notice_fault (seen was).phase (seen was).versions version (seen was).most ≡ None
        = rw (at, versions_are, most_is) (unspoken versions most (number - 1) old version below (omega arith)) in
        let is : fault ≡ refusing.Memory = rw none at notified.answer.refused in
        subst (λ (f : NotifyFault). IsNotified version (seen was) (seen now) (Err f)) is notified

module _ {Decider Manager : Type 0} (decides : Decider → Decisions) (seen : Manager → Seen) where
  -- what the round did to a manager, with the number and the refusal
  notified_at : (server : ServerView Decider) (xs : List Manager) (first reached number version place : ℕ) (was now : Manager)
      → IsBegun decides seen server xs first number version → slice_get xs place ≡ Some was → first ≤ reached
      → IsToldAt seen version first reached place was now → IsNotifiedAt seen version number first reached place was now
  notified_at server xs first reached number version place was now begun stands started told =
      let placed : IsPlaced (decides server.decider).versions server first place (seen was) = begun.placed place was stands in
      let versions : AreVersions (decides server.decider).versions (Pending number begun.old version) = subst (AreVersions (decides server.decider).versions) begun.pending begun.sound.versions in
      let few : number ≤ server.most = subst (λ (p : Phase). number_of p ≤ server.most) begun.pending begun.sound.numbers in
      record {
        before = told.before;
        given = λ above below. given_number seen (decides server.decider).versions number begun.old version server.most was now
            (unreached _ server first place number begun.old version (seen was) begun.pending placed above) versions.0 (told.given above below);
        refused = λ here. refused_memory seen (decides server.decider).versions server.most number begun.old version was now
            (unreached _ server first place number begun.old version (seen was) begun.pending placed (omega arith)) placed.versions_are placed.most versions.2 few versions.0 (told.refused here);
        behind = told.behind;
      }

  -- how it stands then
  notified_placed : (server : ServerView Decider) (xs : List Manager) (first reached number version place : ℕ) (was now : Manager)
      → IsBegun decides seen server xs first number version → slice_get xs place ≡ Some was → first ≤ reached
      → IsNotifiedAt seen version number first reached place was now → IsPlaced (decides server.decider).versions server reached place (seen now)
  notified_placed server xs first reached number version place was now begun stands started notified =
      let versions = (decides server.decider).versions in
      let placed : IsPlaced versions server first place (seen was) = begun.placed place was stands in
      let pending = begun.pending in
      elim (nat_lt place first) as (λ (b : Bool). nat_lt place first ≡ b → IsPlaced versions server reached place (seen now)) [
        | true ↦ λ is.
            let below : place < first = grind (arith, nat_tests) in
            let below_then : nat_lt place reached ≡ true = grind (arith, nat_tests) in
            let at : (seen was).phase ≡ phase_at (Pending number begun.old version) server.receipts first place = placed.phase ∙ ap (λ p. phase_at p server.receipts first place) pending in
            rw (notified.before below) (record {
              numbered = placed.numbered;
              most = placed.most;
              versions_are = placed.versions_are;
              phase = rw pending (rw below_then (rw is at at));
              receipt = λ there. further server.phase first reached place (seen was).history started (placed.receipt there);
            })
        | false ↦ λ is.
            let above : first ≤ place = grind (arith, nat_tests) in
            let settled = unreached versions server first place number begun.old version (seen was) pending placed above in
            let out : (b : Bool) → is_in server.receipts place ≡ b → is_in server.receipts place ≡ false
            = elim [ true ↦ λ there. absurd (let l = reached_in server.phase first place number begun.old version (seen was).history pending (placed.receipt there) in omega arith) | false ↦ λ there. there ] in
            let none : is_in server.receipts place ≡ false = out (is_in server.receipts place) refl in
            elim (nat_lt place reached) as (λ (b : Bool). nat_lt place reached ≡ b → IsPlaced versions server reached place (seen now)) [
              | true ↦ λ within.
                  let given : IsNotified version (seen was) (seen now) (Ok number) = notified.given above (grind (arith, nat_tests)) in
                  record {
                    numbered = given.same.manager ∙ placed.numbered;
                    most = given.same.most ∙ placed.most;
                    versions_are = given.same.versions ∙ placed.versions_are;
                    phase = rw pending (rw (within, none) (given.answer.phase ∙ ap (λ p. noticed p number version) settled));
                    receipt = λ there. absurd (differ (is_in server.receipts place) there none);
                  }
              | false ↦ λ past.
                  let moved = unmoved_at seen version number first reached place was now (grind (arith, nat_tests)) notified in
                  record {
                    numbered = moved.manager ∙ placed.numbered;
                    most = moved.most ∙ placed.most;
                    versions_are = moved.versions ∙ placed.versions_are;
                    phase = rw pending (rw past (moved.phase ∙ settled));
                    receipt = λ there. absurd (differ (is_in server.receipts place) there none);
                  }
            ] refl
      ] refl

  -- the managers after a round of notices
  pub notified_led : (server : ServerView Decider) (xs ys : List Manager) (first reached number version : ℕ)
      → IsBegun decides seen server xs first number version → length ys ≡ length xs → length xs ≡ server.managers → first ≤ reached → reached ≤ server.managers
      → ((place : ℕ) → AreBoth (IsToldAt seen version first reached place) (slice_get xs place) (slice_get ys place))
      → IsLed decides seen (record { server = server; managers = ys; reached = reached })
  notified_led server xs ys first reached number version begun lens many started within each = record {
    sound = begun.sound;
    registered = lens ∙ many;
    within = within;
    placed = λ place manager is.
        let back = both_back (IsToldAt seen version first reached place) _ _ manager (each place) is in
        notified_placed server xs first reached number version place back.0 manager begun back.1 started
        (notified_at server xs first reached number version place back.0 manager begun back.1 started back.2);
  }

  pub notified_each : (server : ServerView Decider) (xs ys : List Manager) (first reached number version : ℕ)
      → IsBegun decides seen server xs first number version → first ≤ reached
      → ((place : ℕ) → AreBoth (IsToldAt seen version first reached place) (slice_get xs place) (slice_get ys place))
      → (place : ℕ) → AreBoth (IsNotifiedAt seen version number first reached place) (slice_get xs place) (slice_get ys place)
  notified_each server xs ys first reached number version begun started each place =
      go (slice_get xs place) (slice_get ys place) (λ was is. is) (each place)
    where
      go : (was now : Option Manager) → ((x : Manager) → was ≡ Some x → slice_get xs place ≡ Some x)
          → AreBoth (IsToldAt seen version first reached place) was now → AreBoth (IsNotifiedAt seen version number first reached place) was now
      go None None stands both = tt
      go None (Some y) stands both = both
      go (Some x) None stands both = both
      go (Some x) (Some y) stands both = notified_at server xs first reached number version place x y begun (stands x refl) started both

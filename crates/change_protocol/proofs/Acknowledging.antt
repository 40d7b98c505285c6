-- How managers stand as they are asked whether they acknowledge, and as a number is complete.
use Rattle.std.proofs.Common.{◌≡◌, ℕ, zero, suc, ◌-◌, ◌<◌, Bool, true, false, List, [], ◌∷◌, ◌++◌, length, take, replicate, Option, Some, None, refl, sym, ap, subst, ◌∙◌, arith}
use Rattle.std.specs.Prelude.{slice_get, ◌==◌, nat_lt, not, ◌&&◌, if◌then◌else◌, IfSome}
use Rattle.std.specs.List.{list_all}
use Rattle.std.proofs.lemmas.List.Elements.{Contains-push}
use Rattle.std.proofs.lemmas.Option.{slice_get_within}
use Rattle.std.proofs.lemmas.Bool.Decides.{nat_tests}
use Rattle.access_vectors.specs.Decisions.{Decisions}
use Rattle.access_vectors.specs.Phases.{number_of, is_pending, acknowledged}
use Rattle.access_vectors.specs.declared.phase.Phase.{Phase}
use Rattle.access_vectors.specs.declared.phase.Phase.TheVariants.{Settled, Pending}
use Rattle.manager_history.specs.Kept.{is_done, ack_answer, force_answer}
use Rattle.manager_history.specs.declared.answers.Ack.{Ack}
use Rattle.manager_history.specs.declared.answers.Ack.TheVariants as acks
use Rattle.managed.specs.Seen.{Seen, IsGrown, IsAcknowledged, answer_of}
use Rattle.managed.specs.declared.managed.Shown.{Shown}
use Rattle.managed.specs.declared.managed.Event.TheVariants.{Acknowledgement}
use Rattle.security_server.specs.Numbering.{ServerView, is_in, pending_of, receipt_fault, is_complete, are_all_in, completed}
use Rattle.change_protocol.specs.Changes.{AreBoth, AreAll, HasAskedAll, HasAcknowledged, MayBeIn, IsPlaced, Led, IsLed, IsExpected, IsSameServer, IsAskedUnless, IsRound, IfComplete, phase_at, said_of, is_kept, is_idle, is_busy, ack_all_answer, phase_after}
use Rattle.change_protocol.specs.declared.answers.Said.{Said}
use Rattle.change_protocol.specs.declared.answers.AckAll.{AckAll}
use Rattle.change_protocol.specs.declared.answers.AckAll.TheVariants as acking
use Rattle.change_protocol.proofs.Placing.{all_back}
use Rattle.change_protocol.proofs.Receipts.{none_in, all_in_kept}
use Rattle.change_protocol.proofs.Noticing.{differ}

-- where something is pending
pub pending_at : (phase : Phase) (pair : ℕ × ℕ) → pending_of phase ≡ Some pair → (old : ℕ) × (phase ≡ Pending pair.0 old pair.1)
pending_at (Settled settled version) pair is = cc
pending_at (Pending pending old next) pair is =
    let same : (pending, next) ≡ pair = cc in (old, λ i. Pending (same i).0 old (same i).1)

-- where nothing is
settled_at : (phase : Phase) → pending_of phase ≡ None → (number version : ℕ) × (phase ≡ Settled number version)
settled_at (Settled number version) none = (number, version, refl)
settled_at (Pending number old new) none = cc

-- the receipt of a manager is expected where it is not in
expected_at : {Decider : Type 0} (decider : Decider) (managers most : ℕ) (phase : Phase) (receipts : List Bool) (versions reached place : ℕ) (seen : Seen)
    → (let server : ServerView Decider = record { decider = decider; managers = managers; most = most; phase = phase; receipts = receipts } in
    IsPlaced versions server reached place seen → place < managers → is_in receipts place ≡ false → IsExpected server seen)
expected_at decider managers most (Settled number version) receipts versions reached place seen placed within out pending =
    let none : is_pending seen.phase ≡ false = ap is_pending placed.phase in absurd (differ (is_pending seen.phase) pending none)
expected_at decider managers most (Pending number old new) receipts versions reached place seen placed within out pending =
    elim (nat_lt place reached) as (λ (b : Bool). nat_lt place reached ≡ b → receipt_fault (record { decider = decider; managers = managers; most = most; phase = Pending number old new; receipts = receipts })
    (record { manager = seen.manager; number = number_of seen.phase }) ≡ None) [
      | true ↦ λ is.
          let at : seen.phase ≡ Pending number old new = rw (is, out) at placed.phase in
          let registered : nat_lt place managers ≡ true = grind (arith, nat_tests) in
          let same : (number == number) ≡ true = grind (arith, nat_tests) in
          rw (at, placed.numbered, registered, same, out) refl
      | false ↦ λ is.
          let at : seen.phase ≡ Settled (number - 1) old = rw is at placed.phase in
          absurd (differ (is_pending seen.phase) pending (ap is_pending at))
    ] refl

pub expected_each : {Decider Manager : Type 0} (decides : Decider → Decisions) (seen : Manager → Seen) (server : ServerView Decider) (xs : List Manager) (reached : ℕ)
    → IsLed decides seen (record { server = server; managers = xs; reached = reached })
    → (place : ℕ) → IfSome (slice_get xs place) (λ manager. ((seen manager).manager ≡ place) × (is_in server.receipts place ≡ false → IsExpected server (seen manager)))
expected_each {Manager = Manager} decides seen server xs reached led place = go (slice_get xs place) (λ x is. is)
  where
    go : (there : Option Manager) → ((x : Manager) → there ≡ Some x → slice_get xs place ≡ Some x)
        → IfSome there (λ manager. ((seen manager).manager ≡ place) × (is_in server.receipts place ≡ false → IsExpected server (seen manager)))
    go None stands = tt
    go (Some x) stands =
        let placed = led.placed place x (stands x refl) in
        let within : place < length xs = slice_get_within xs place x (stands x refl) in
        (placed.numbered, expected_at server.decider server.managers server.most server.phase server.receipts _ reached place (seen x) placed (omega (arith, within, led.registered)))

-- a receipt is kept where the manager has acknowledged
kept_done : (ack : Ack) → is_kept (said_of ack) ≡ is_done ack
kept_done (acks.Done receipt) = refl
kept_done (acks.Busy older) = refl
kept_done (acks.Behind left) = refl
kept_done acks.Idle = refl

-- a manager with its notice is asked
asked_reached : (forced : Bool) (number old new : ℕ) (was now : Seen) (ack : Ack) (done : Bool) → was.phase ≡ Pending number old new → IsAcknowledged forced was now ack → is_done ack ≡ done
    → (now.phase ≡ (if done then Settled number new else Pending number old new)) × (done ≡ true → HasAcknowledged now.history number)
asked_reached forced number old new was now ack false pending asked is = (rw (is, pending) at asked.phase, λ e. cc)
asked_reached forced number old new was now ack true pending asked is = (
  rw (is, pending) at asked.phase,
  λ _.
      let grown : IsGrown _ was.history now.history (Acknowledgement number forced ∷ []) = rw (is, pending) at asked.history in
      (forced, rw grown.grown (Contains-push (was.history ++ grown.between) (Acknowledgement number forced))),
)

-- one without is asked
idle_answer : (forced : Bool) (number old manager : ℕ) (shown : Shown) (ack : Ack) → ack ≡ answer_of forced (Settled number old) manager shown → ack ≡ acks.Idle
idle_answer false number old manager shown ack is = is
idle_answer true number old manager shown ack is = is

asked_unreached : (forced : Bool) (number old : ℕ) (was now : Seen) (ack : Ack) → was.phase ≡ Settled number old → IsAcknowledged forced was now ack → (is_done ack ≡ false) × (now.phase ≡ was.phase)
asked_unreached forced number old was now ack settled asked =
    let answer : ack ≡ acks.Idle = idle_answer forced number old was.manager now.shown ack (rw settled at asked.answer) in
    let done : is_done ack ≡ false = ap is_done answer in
    (done, rw done at asked.phase)

-- a manager with its notice does not say that it has none
not_idle : (number old new manager older found : ℕ) (ack : Ack) → ack ≡ ack_answer (Pending number old new) manager older found → is_idle (said_of ack) ≡ false
not_idle number old new manager older found ack =
    elim (nat_lt 0 older) as (λ (b : Bool). ack ≡ (if b then acks.Busy older else (if nat_lt 0 found then acks.Behind found else acks.Done (record { manager = manager; number = number }))) → is_idle (said_of ack) ≡ false) [
      | true ↦ λ is. ap (λ a. is_idle (said_of a)) is
      | false ↦ elim (nat_lt 0 found) as (λ (b : Bool). ack ≡ (if b then acks.Behind found else acks.Done (record { manager = manager; number = number })) → is_idle (said_of ack) ≡ false) [
        | true ↦ λ is. ap (λ a. is_idle (said_of a)) is
        | false ↦ λ is. ap (λ a. is_idle (said_of a)) is
      ]
    ]

not_idle_by : (forced : Bool) (number old new manager : ℕ) (shown : Shown) (ack : Ack) → ack ≡ answer_of forced (Pending number old new) manager shown → is_idle (said_of ack) ≡ false
not_idle_by false number old new manager shown ack is = not_idle number old new manager shown.older shown.found ack is
not_idle_by true number old new manager shown ack is = not_idle number old new manager 0 shown.found ack is

-- one that is forced does not say that it is busy
not_busy : (number old new manager found : ℕ) (ack : Ack) → ack ≡ force_answer (Pending number old new) manager found → is_busy (said_of ack) ≡ false
not_busy number old new manager found ack =
    elim (nat_lt 0 found) as (λ (b : Bool). ack ≡ (if b then acks.Behind found else acks.Done (record { manager = manager; number = number })) → is_busy (said_of ack) ≡ false) [
      | true ↦ λ is. ap (λ a. is_busy (said_of a)) is
      | false ↦ λ is. ap (λ a. is_busy (said_of a)) is
    ]

never_busy : (phase : Phase) (manager : ℕ) (shown : Shown) (ack : Ack) → ack ≡ answer_of true phase manager shown → is_busy (said_of ack) ≡ false
never_busy (Settled number old) manager shown ack is = ap (λ a. is_busy (said_of a)) is
never_busy (Pending number old new) manager shown ack is = not_busy number old new manager shown.found ack is

-- nothing is proposed, so nobody is asked
pub asked_settled : {Decider Manager : Type 0} (decides : Decider → Decisions) (seen : Manager → Seen) (same : Manager → Manager → Type 0) (forced : Bool)
    (led : Led Decider Manager) (said : List Said) → IsLed decides seen led → ((m : Manager) → same m m) → pending_of led.server.phase ≡ None
    → HasAskedAll decides seen same forced led led said said acking.Idle
asked_settled {Manager = Manager} decides seen same forced led said is same_self settled =
    let none : (number version : ℕ) × (led.server.phase ≡ Settled number version) = settled_at led.server.phase settled in
    record {
      answer = rw none.2 refl;
      idle = λ _. refl;
      idle_said = λ _. refl;
      asked = λ pending. absurd (differ (is_pending led.server.phase) pending (ap is_pending none.2));
      many = refl;
      same_are = λ place. self_at (slice_get led.managers place);
      was_led = is;
      unreached = λ pending. absurd (differ (is_pending led.server.phase) pending (ap is_pending none.2));
      never_busy = λ pending. absurd (differ (is_pending led.server.phase) pending (ap is_pending none.2));
      complete = tt;
      receipts = λ waits. cc;
      phase = refl;
      decider = refl;
      managers = refl;
      most = refl;
      reached = refl;
    }
  where
    self_at : (there : Option Manager) → AreBoth same there there
    self_at None = tt
    self_at (Some m) = same_self m

module _ {Decider Manager : Type 0} (decides : Decider → Decisions) (seen : Manager → Seen) (same : Manager → Manager → Type 0) (forced : Bool) where
  -- how a manager stands after the question
  asked_placed : (versions : ℕ) (server mid : ServerView Decider) (number old new reached place : ℕ) (was now : Manager) (said : Said)
      → server.phase ≡ Pending number old new → IsSameServer server mid → IsPlaced versions server reached place (seen was)
      → IsRound seen same forced (is_in server.receipts place) (is_in mid.receipts place) was now said → IsPlaced versions mid reached place (seen now)
  asked_placed versions server mid number old new reached place was now said pending kept placed round =
      let at : (seen was).phase ≡ phase_at (Pending number old new) server.receipts reached place = placed.phase ∙ ap (λ p. phase_at p server.receipts reached place) pending in
      let pending_mid : mid.phase ≡ Pending number old new = kept.phase ∙ pending in
      elim (is_in server.receipts place) as (λ (b : Bool). is_in server.receipts place ≡ b → IsAskedUnless seen forced b was now said → IsPlaced versions mid reached place (seen now)) [
        | true ↦ λ was_in asked.
            let in_mid : is_in mid.receipts place ≡ true = round.now_in ∙ ap is_kept asked.1 in
            rw asked.0 (record {
              numbered = placed.numbered;
              most = placed.most ∙ sym kept.most;
              versions_are = placed.versions_are;
              phase = rw (pending_mid, in_mid) (rw was_in at at);
              receipt = λ _. rw kept.phase (placed.receipt was_in);
            })
        | false ↦ λ out asked.
            let told : IsAcknowledged forced (seen was) (seen now) asked.ack = asked.acknowledged in
            let in_mid : is_in mid.receipts place ≡ is_done asked.ack = round.now_in ∙ ap is_kept asked.said_is ∙ kept_done asked.ack in
            elim (nat_lt place reached) as (λ (b : Bool). nat_lt place reached ≡ b → IsPlaced versions mid reached place (seen now)) [
              | true ↦ λ is.
                  let done = asked_reached forced number old new (seen was) (seen now) asked.ack (is_done asked.ack) (rw (is, out) at at) told refl in
                  record {
                    numbered = told.same.manager ∙ placed.numbered;
                    most = told.same.most ∙ placed.most ∙ sym kept.most;
                    versions_are = told.same.versions ∙ placed.versions_are;
                    phase = rw (pending_mid, is, in_mid) done.0;
                    receipt = λ there. rw pending_mid (grind (arith, nat_tests), done.1 (sym in_mid ∙ there));
                  }
              | false ↦ λ is.
                  let settled : (seen was).phase ≡ Settled (number - 1) old = rw is at at in
                  let idle = asked_unreached forced (number - 1) old (seen was) (seen now) asked.ack settled told in
                  record {
                    numbered = told.same.manager ∙ placed.numbered;
                    most = told.same.most ∙ placed.most ∙ sym kept.most;
                    versions_are = told.same.versions ∙ placed.versions_are;
                    phase = rw (pending_mid, is) (idle.1 ∙ settled);
                    receipt = λ there. absurd (differ (is_done asked.ack) (sym in_mid ∙ there) idle.0);
                  }
            ] refl
      ] refl round.asked

  -- who says that it has no notice
  idle_at : (versions : ℕ) (server : ServerView Decider) (number old new reached place : ℕ) (in_now : Bool) (was now : Manager) (said : Said)
      → server.phase ≡ Pending number old new → IsPlaced versions server reached place (seen was)
      → IsRound seen same forced (is_in server.receipts place) in_now was now said → is_idle said ≡ not (nat_lt place reached)
  idle_at versions server number old new reached place in_now was now said pending placed round =
      let at : (seen was).phase ≡ phase_at (Pending number old new) server.receipts reached place = placed.phase ∙ ap (λ p. phase_at p server.receipts reached place) pending in
      elim (is_in server.receipts place) as (λ (b : Bool). is_in server.receipts place ≡ b → IsAskedUnless seen forced b was now said → is_idle said ≡ not (nat_lt place reached)) [
        | true ↦ λ was_in asked.
            let may : MayBeIn (Pending number old new) reached place (seen was).history = rw pending at placed.receipt was_in in
            let below : nat_lt place reached ≡ true = grind (arith, nat_tests, may.0) in
            rw (below, asked.1) refl
        | false ↦ λ out asked.
            let told : IsAcknowledged forced (seen was) (seen now) asked.ack = asked.acknowledged in
            elim (nat_lt place reached) as (λ (b : Bool). nat_lt place reached ≡ b → is_idle said ≡ not b) [
              | true ↦ λ is.
                  let noticed : (seen was).phase ≡ Pending number old new = rw (is, out) at at in
                  ap is_idle asked.said_is ∙ not_idle_by forced number old new (seen was).manager (seen now).shown asked.ack (rw noticed at told.answer)
              | false ↦ λ is.
                  let settled : (seen was).phase ≡ Settled (number - 1) old = rw is at at in
                  let answer : asked.ack ≡ acks.Idle = idle_answer forced (number - 1) old (seen was).manager (seen now).shown asked.ack (rw settled at told.answer) in
                  ap is_idle asked.said_is ∙ ap (λ a. is_idle (said_of a)) answer
            ] refl
      ] refl round.asked

  pub idle_each : (server mid : ServerView Decider) (xs ys : List Manager) (said : List Said) (reached number old new : ℕ)
      → IsLed decides seen (record { server = server; managers = xs; reached = reached }) → server.phase ≡ Pending number old new
      → ((place : ℕ) → AreAll (IsRound seen same forced (is_in server.receipts place) (is_in mid.receipts place)) (slice_get xs place) (slice_get ys place) (slice_get said place))
      → (place : ℕ) → IfSome (slice_get said place) (λ one. is_idle one ≡ not (nat_lt place reached))
  idle_each server mid xs ys said reached number old new led pending each place =
      go (slice_get xs place) (slice_get ys place) (slice_get said place) (λ x is. is) (each place)
    where
      go : (was now : Option Manager) (there : Option Said) → ((x : Manager) → was ≡ Some x → slice_get xs place ≡ Some x)
          → AreAll (IsRound seen same forced (is_in server.receipts place) (is_in mid.receipts place)) was now there
          → IfSome there (λ one. is_idle one ≡ not (nat_lt place reached))
      go was now None stands all = tt
      go None None (Some s) stands all = absurd all
      go None (Some y) (Some s) stands all = absurd all
      go (Some x) None (Some s) stands all = absurd all
      go (Some x) (Some y) (Some s) stands all =
          idle_at _ server number old new reached place (is_in mid.receipts place) x y s pending (led.placed place x (stands x refl)) all

  -- who says that it is busy
  busy_at : (was_in in_now : Bool) (was now : Manager) (said : Said) → forced ≡ true → IsRound seen same forced was_in in_now was now said → is_busy said ≡ false
  busy_at was_in in_now was now said forces round = go was_in round.asked
    where
      go : (b : Bool) → IsAskedUnless seen forced b was now said → is_busy said ≡ false
      go true asked = ap is_busy asked.1
      go false asked = ap is_busy asked.said_is ∙ never_busy (seen was).phase (seen was).manager (seen now).shown asked.ack (rw forces at asked.acknowledged.answer)

  pub busy_each : (server mid : ServerView Decider) (xs ys : List Manager) (said : List Said) → forced ≡ true
      → ((place : ℕ) → AreAll (IsRound seen same forced (is_in server.receipts place) (is_in mid.receipts place)) (slice_get xs place) (slice_get ys place) (slice_get said place))
      → (place : ℕ) → IfSome (slice_get said place) (λ one. is_busy one ≡ false)
  busy_each server mid xs ys said forces each place = go (slice_get xs place) (slice_get ys place) (slice_get said place) (each place)
    where
      go : (was now : Option Manager) (there : Option Said) → AreAll (IsRound seen same forced (is_in server.receipts place) (is_in mid.receipts place)) was now there
          → IfSome there (λ one. is_busy one ≡ false)
      go was now None all = tt
      go None None (Some s) all = absurd all
      go None (Some y) (Some s) all = absurd all
      go (Some x) None (Some s) all = absurd all
      go (Some x) (Some y) (Some s) all = busy_at (is_in server.receipts place) (is_in mid.receipts place) x y s forces all

  -- the server and its managers after all were asked, before the number is complete
  pub record IsCounted (mid : ServerView Decider) (ys : List Manager) (said : List Said) (reached number : ℕ) : Type 0 where
    pub old : ℕ
    pub new : ℕ
    pub pending : mid.phase ≡ Pending number old new
    pub led : IsLed decides seen (record { server = mid; managers = ys; reached = reached })
    pub ins : (place : ℕ) (manager : Manager) → slice_get ys place ≡ Some manager → (one : Said) × (slice_get said place ≡ Some one) × (is_in mid.receipts place ≡ is_kept one)
    pub all_in : is_complete mid number ≡ list_all is_kept said

  pub counted : (server mid : ServerView Decider) (xs ys : List Manager) (said : List Said) (reached number old new : ℕ)
      → IsLed decides seen (record { server = server; managers = xs; reached = reached }) → server.phase ≡ Pending number old new
      → IsSameServer server mid → length ys ≡ length xs → length said ≡ length xs
      → ((place : ℕ) → AreAll (IsRound seen same forced (is_in server.receipts place) (is_in mid.receipts place)) (slice_get xs place) (slice_get ys place) (slice_get said place))
      → IsCounted mid ys said reached number
  counted server mid xs ys said reached number old new led pending kept ys_many said_many each =
      let pending_mid : mid.phase ≡ Pending number old new = kept.phase ∙ pending in
      record {
        old = old;
        new = new;
        pending = pending_mid;
        led = record {
          sound = record {
            few = omega (arith, kept.managers, led.sound.few);
            places = kept.places ∙ led.sound.places;
            numbers = rw (kept.phase, kept.most) led.sound.numbers;
            versions = rw (kept.phase, kept.decider) led.sound.versions;
          };
          registered = ys_many ∙ led.registered ∙ sym kept.managers;
          within = rw kept.managers led.within;
          placed = λ place manager is.
              let back = all_back (IsRound seen same forced (is_in server.receipts place) (is_in mid.receipts place)) _ _ _ manager (each place) is in
              subst (λ (d : Decider). IsPlaced (decides d).versions mid reached place (seen manager)) (sym kept.decider)
              (asked_placed _ server mid number old new reached place back.0 manager back.1 pending kept (led.placed place back.0 back.2) back.4);
        };
        ins = λ place manager is. let back = all_back (IsRound seen same forced (is_in server.receipts place) (is_in mid.receipts place)) _ _ _ manager (each place) is in (back.1, back.3, back.4.now_in);
        all_in =
            let same : (number == number) ≡ true = grind (arith, nat_tests) in
            let many : mid.managers ≡ length said = omega (arith, kept.managers, led.registered, said_many) in
            let all : are_all_in mid ≡ list_all is_kept said
            = ap (λ n. list_all (λ is_there. is_there) (take n mid.receipts)) many
            ∙ all_in_kept mid.receipts said (omega (arith, kept.places, led.sound.places, led.sound.few, led.registered, said_many))
            (λ place one is. said_in (slice_get xs place) (slice_get ys place) (slice_get said place) place one (each place) is) in
            rw (pending_mid, same) all;
      }
    where
      said_in : (was now : Option Manager) (there : Option Said) (place : ℕ) (one : Said)
          → AreAll (IsRound seen same forced (is_in server.receipts place) (is_in mid.receipts place)) was now there → there ≡ Some one → is_in mid.receipts place ≡ is_kept one
      said_in None None None place one all is = cc
      said_in None None (Some s) place one all is = absurd all
      said_in None (Some y) there place one all is = absurd all
      said_in (Some x) None there place one all is = absurd all
      said_in (Some x) (Some y) None place one all is = absurd all
      said_in (Some x) (Some y) (Some s) place one all is = let same_one : s ≡ one = cc in all.now_in ∙ ap is_kept same_one

  -- what is answered
  pub counted_answer : (phase : Phase) (mid : ServerView Decider) (ys : List Manager) (said : List Said) (reached number : ℕ) (result : AckAll)
      → IsCounted mid ys said reached number → mid.phase ≡ phase → result ≡ (if is_complete mid number then acking.Complete number else acking.Waiting)
      → result ≡ ack_all_answer phase said
  counted_answer phase mid ys said reached number result counted kept is =
      rw (sym kept ∙ counted.pending) (is ∙ ap (λ (b : Bool). if b then acking.Complete number else acking.Waiting) counted.all_in)

  -- where each receipt is kept, each is in
  kept_at : (said : List Said) (place : ℕ) (one : Said) → list_all is_kept said ≡ true → slice_get said place ≡ Some one → is_kept one ≡ true
  kept_at [] place one all is = cc
  kept_at (first ∷ said) zero one all is = first_of (is_kept first) (list_all is_kept said) all (let same_one : first ≡ one = cc in ap is_kept (sym same_one))
    where
      first_of : (a b : Bool) → (a && b) ≡ true → is_kept one ≡ a → is_kept one ≡ true
      first_of true b all is = is
      first_of false b all is = cc
  kept_at (first ∷ said) (suc place) one all is = kept_at said place one (rest_of (is_kept first) (list_all is_kept said) all) is
    where
      rest_of : (a b : Bool) → (a && b) ≡ true → b ≡ true
      rest_of true b all = all
      rest_of false b all = cc

  -- where the number is complete each manager has its receipt in, has its notice and has acknowledged
  all_received : (mid : ServerView Decider) (ys : List Manager) (said : List Said) (reached number : ℕ) → IsCounted mid ys said reached number → is_complete mid number ≡ true
      → (place : ℕ) (manager : Manager) → slice_get ys place ≡ Some manager
      → (is_in mid.receipts place ≡ true) × (place < reached) × HasAcknowledged (seen manager).history number
  all_received mid ys said reached number counted complete place manager is =
      let one = counted.ins place manager is in
      let there : is_in mid.receipts place ≡ true = one.2 ∙ kept_at said place one.0 (sym counted.all_in ∙ complete) one.1 in
      let may : MayBeIn (Pending number counted.old counted.new) reached place (seen manager).history = rw counted.pending at (counted.led.placed place manager is).receipt there in
      (there, may.0, may.1)

  -- how all stand after that
  pub completed_led : (mid : ServerView Decider) (ys : List Manager) (said : List Said) (reached number : ℕ) → IsCounted mid ys said reached number
      → IsLed decides seen (record { server = completed mid (is_complete mid number); managers = ys; reached = reached })
  completed_led mid ys said reached number counted =
      elim (is_complete mid number) as (λ (b : Bool). is_complete mid number ≡ b → IsLed decides seen (record { server = completed mid b; managers = ys; reached = reached })) [
        | false ↦ λ is. counted.led
        | true ↦ λ is. record {
          sound = record {
            few = counted.led.sound.few;
            places = refl;
            numbers = rw counted.pending (rw counted.pending at counted.led.sound.numbers);
            versions = rw counted.pending (rw counted.pending at counted.led.sound.versions).2;
          };
          registered = counted.led.registered;
          within = counted.led.within;
          placed = λ place manager stands.
              let placed = counted.led.placed place manager stands in
              let received = all_received mid ys said reached number counted is place manager stands in
              let below : nat_lt place reached ≡ true = grind (arith, nat_tests, received.1) in
              record {
                numbered = placed.numbered;
                most = placed.most;
                versions_are = placed.versions_are;
                phase = rw counted.pending (rw (below, received.0) at (rw counted.pending at placed.phase));
                receipt = λ there. absurd (differ (is_in (replicate 16 false) place) there (none_in 16 place));
              };
        }
      ] refl

  -- a complete number has the acknowledgement of each manager
  pub complete_history : (mid : ServerView Decider) (ys : List Manager) (said : List Said) (reached number : ℕ) (result : AckAll) → IsCounted mid ys said reached number
      → result ≡ (if is_complete mid number then acking.Complete number else acking.Waiting)
      → IfComplete result (λ number. (place : ℕ) → IfSome (slice_get ys place) (λ manager. HasAcknowledged (seen manager).history number))
  complete_history mid ys said reached number result counted result_is =
      elim (is_complete mid number) as (λ (b : Bool). is_complete mid number ≡ b → result ≡ (if b then acking.Complete number else acking.Waiting)
      → IfComplete result (λ number. (place : ℕ) → IfSome (slice_get ys place) (λ manager. HasAcknowledged (seen manager).history number))) [
        | false ↦ λ is e. rw e tt
        | true ↦ λ is e. rw e (λ place. go place is (slice_get ys place) (λ x there. there))
      ] refl result_is
    where
      go : (place : ℕ) → is_complete mid number ≡ true → (there : Option Manager) → ((x : Manager) → there ≡ Some x → slice_get ys place ≡ Some x)
          → IfSome there (λ manager. HasAcknowledged (seen manager).history number)
      go place complete None stands = tt
      go place complete (Some x) stands = (all_received mid ys said reached number counted complete place x (stands x refl)).2

  -- the round at a place as a question, as what stays the same, and as what is in
  asked_in : (was_in in_now : Bool) (was now : Option Manager) (there : Option Said) → AreAll (IsRound seen same forced was_in in_now) was now there
      → AreAll (IsAskedUnless seen forced was_in) was now there
  asked_in was_in in_now None None None all = tt
  asked_in was_in in_now None None (Some s) all = absurd all
  asked_in was_in in_now None (Some y) there all = absurd all
  asked_in was_in in_now (Some x) None there all = absurd all
  asked_in was_in in_now (Some x) (Some y) None all = absurd all
  asked_in was_in in_now (Some x) (Some y) (Some s) all = all.asked

  same_in : (was_in in_now : Bool) (was now : Option Manager) (there : Option Said) → AreAll (IsRound seen same forced was_in in_now) was now there → AreBoth same was now
  same_in was_in in_now None None there all = tt
  same_in was_in in_now None (Some y) there all = absurd all
  same_in was_in in_now (Some x) None there all = absurd all
  same_in was_in in_now (Some x) (Some y) None all = absurd all
  same_in was_in in_now (Some x) (Some y) (Some s) all = all.same_is

  in_in : (was_in in_now : Bool) (was now : Option Manager) (there : Option Said) → AreAll (IsRound seen same forced was_in in_now) was now there
      → IfSome there (λ one. in_now ≡ is_kept one)
  in_in was_in in_now was now None all = tt
  in_in was_in in_now None None (Some s) all = absurd all
  in_in was_in in_now None (Some y) (Some s) all = absurd all
  in_in was_in in_now (Some x) None (Some s) all = absurd all
  in_in was_in in_now (Some x) (Some y) (Some s) all = all.now_in

  -- a round over all managers, where a number is pending
  pub asked_pending : (server mid : ServerView Decider) (xs ys : List Manager) (before said : List Said) (reached number old new : ℕ) (result : AckAll)
      → IsLed decides seen (record { server = server; managers = xs; reached = reached }) → server.phase ≡ Pending number old new
      → IsSameServer server mid → length ys ≡ length xs
      → ((place : ℕ) → AreAll (IsRound seen same forced (is_in server.receipts place) (is_in mid.receipts place)) (slice_get xs place) (slice_get ys place) (slice_get said place))
      → IsCounted mid ys said reached number
      → result ≡ (if is_complete mid number then acking.Complete number else acking.Waiting)
      → HasAskedAll decides seen same forced (record { server = server; managers = xs; reached = reached })
      (record { server = completed mid (is_complete mid number); managers = ys; reached = reached }) before said result
  asked_pending server mid xs ys before said reached number old new result led pending kept many each counted is =
      let is_so : is_pending server.phase ≡ true = ap is_pending pending in
      record {
        answer = counted_answer server.phase mid ys said reached number result counted kept.phase is;
        idle = λ settled. absurd (differ (is_pending server.phase) is_so settled);
        idle_said = λ settled. absurd (differ (is_pending server.phase) is_so settled);
        asked = λ _ place. asked_in _ (is_in mid.receipts place) _ _ _ (each place);
        many = many;
        same_are = λ place. same_in _ _ _ _ _ (each place);
        was_led = led;
        unreached = λ _. idle_each server mid xs ys said reached number old new led pending each;
        never_busy = λ _ forces. busy_each server mid xs ys said forces each;
        complete = complete_history mid ys said reached number result counted is;
        receipts = λ waits place. elim (is_complete mid number) as (λ (b : Bool). result ≡ (if b then acking.Complete number else acking.Waiting)
            → IfSome (slice_get said place) (λ one. is_in (completed mid b).receipts place ≡ is_kept one)) [
              | false ↦ λ _. in_in _ _ _ _ _ (each place)
              | true ↦ λ done. cc
            ] is;
        phase = rw is (elim (is_complete mid number) as (λ (b : Bool). (completed mid b).phase ≡ phase_after (if b then acking.Complete number else acking.Waiting) server.phase) [
          | false ↦ kept.phase
          | true ↦ ap acknowledged kept.phase
        ]);
        decider = elim (is_complete mid number) as (λ (b : Bool). (completed mid b).decider ≡ server.decider) [
          | false ↦ kept.decider
          | true ↦ kept.decider
        ];
        managers = elim (is_complete mid number) as (λ (b : Bool). (completed mid b).managers ≡ server.managers) [
          | false ↦ kept.managers
          | true ↦ kept.managers
        ];
        most = elim (is_complete mid number) as (λ (b : Bool). (completed mid b).most ≡ server.most) [
          | false ↦ kept.most
          | true ↦ kept.most
        ];
        reached = refl;
      }

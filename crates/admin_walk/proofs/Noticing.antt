-- What managers are given as a version is noticed to all.
use Rattle.std.proofs.Common.{◌≡◌, ℕ, ◌+◌, ◌<◌, ◌≤◌, ◌⊎◌, inl, inr, Bool, true, false, List, [], ◌∷◌, ◌++◌, length, Option, Some, None, Result, Ok, Err, refl, sym, ap, subst, ◌∙◌, append-nil, arith}
use Rattle.std.specs.Prelude.{slice_get, IfSome, ◌==◌, nat_lt, ◌&&◌, is_some, option_map, if◌then◌else◌}
use Rattle.std.proofs.lemmas.Option.{slice_get_within}
use Rattle.std.proofs.lemmas.Bool.Decides.{nat_tests}
use Rattle.access_vectors.specs.Decisions.{Decisions}
use Rattle.access_vectors.specs.Phases.{number_of, is_pending}
use Rattle.access_vectors.specs.declared.phase.Phase.{Phase}
use Rattle.access_vectors.specs.declared.phase.Phase.TheVariants.{Settled, Pending}
use Rattle.access_vectors.specs.declared.change.NotifyFault.TheVariants as refusing
use Rattle.managed.specs.Seen.{Seen, Turn, HasItem, MayHaveItem, IsNotified}
use Rattle.managed.specs.declared.managed.Event.TheVariants.{Notice}
use Rattle.security_server.specs.Numbering.{ServerView, is_in}
use Rattle.change_protocol.specs.Changes.{Led, AreBoth, IsLed, MayBeIn, IsNotifiedAt, fault_on, started, number_after, first_on, notify_all_fault, notify_all_answer, for_all}
use Rattle.change_protocol.specs.declared.answers.NotifyAllFault.{NotifyAllFault}
use Rattle.change_protocol.specs.declared.answers.NotifyAllFault.TheVariants as faults
use Rattle.session_text.specs.declared.session.Run.TheVariants as run
use Rattle.admin_walk.specs.Walks.{Rest, IsOne, IsNoticeTurn, BeginsChange, NotifyStep, NoticesIf, stand_of}
use Rattle.admin_walk.specs.Moves.{HasGrownShort, IsReady, HasActed, HasStopped, is_short}
use Rattle.admin_walk.proofs.Giving.{there, picked, still}

-- what a notice gives
noticed_turn : (version number : ℕ) (x y : Seen) → IsNotified version x y (Ok number) → (turns : List Turn) → x.items ≡ Some turns
    → (more : List Turn) × IsOne (IsNoticeTurn number version) more × (y.items ≡ Some (turns ++ more))
noticed_turn version number x y notified turns is =
    let item : HasItem (Some turns) y.items (λ turn. turn.added ≡ Some (Notice number version)) = subst (λ (o : Option (List Turn)). HasItem o y.items (λ turn. turn.added ≡ Some (Notice number version))) is notified.answer.items in
    (item.0 ∷ [], (item.0, record { notice = item.1 }, refl), item.2)

module _ {Manager : Type 0} (seen : Manager → Seen) (version number : ℕ) where
  -- what one that refused for want of memory is given
  refused_turn : (x y : Manager) → IsNotified version (seen x) (seen y) (Err refusing.Memory) → (turns : List Turn) → (seen x).items ≡ Some turns → HasGrownShort seen [] number version x y
  refused_turn x y notified turns is =
      let item : MayHaveItem (Some turns) (seen y).items = subst (λ (o : Option (List Turn)). MayHaveItem o (seen y).items) is notified.answer.items in
      elim item [
        | inl same ↦ inl (turns, is, same ∙ ap (λ (l : List Turn). Some l) (sym (append-nil turns)))
        | inr more ↦ inr (more.0, inr more.1, (turns, is, more.2))
      ]

  stopped_one : (reached place : ℕ) (x y : Manager) → IsNotifiedAt seen version number 0 reached place x y → (turns : List Turn) → (seen x).items ≡ Some turns → HasGrownShort seen [] number version x y
  stopped_one reached place x y told turns is =
      elim (nat_lt place reached) as (λ (b : Bool). nat_lt place reached ≡ b → HasGrownShort seen [] number version x y) [
        | true ↦ λ before.
            let below : place < reached = grind (arith, nat_tests) in
            let item : HasItem (Some turns) (seen y).items (λ turn. turn.added ≡ Some (Notice number version)) =
            subst (λ (o : Option (List Turn)). HasItem o (seen y).items (λ turn. turn.added ≡ Some (Notice number version))) is (told.given (omega arith) below).answer.items in
            inr (item.0, inl (record { notice = item.1 }), (turns, is, item.2))
        | false ↦ λ not_before.
            elim (nat_lt reached place) as (λ (b : Bool). nat_lt reached place ≡ b → HasGrownShort seen [] number version x y) [
              | true ↦ λ behind.
                  let past : reached < place = grind (arith, nat_tests) in
                  inl (turns, is, ap (λ m. (seen m).items) (told.behind past) ∙ (is ∙ ap (λ (l : List Turn). Some l) (sym (append-nil turns))))
              | false ↦ λ not_behind.
                  let here : place ≡ reached = grind (arith, nat_tests) in
                  refused_turn x y (told.refused here) turns is
            ] refl
      ] refl

  stopped_at : (reached place : ℕ) (was now : Option Manager) → AreBoth (IsNotifiedAt seen version number 0 reached place) was now
      → IfSome was (λ manager. (turns : List Turn) × ((seen manager).items ≡ Some turns)) → AreBoth (HasGrownShort seen [] number version) was now
  stopped_at reached place None None both told = tt
  stopped_at reached place None (Some y) both told = absurd both
  stopped_at reached place (Some x) None both told = absurd both
  stopped_at reached place (Some x) (Some y) both told = stopped_one reached place x y both told.0 told.1

-- no fault
none_fault : (versions most number version : ℕ) → nat_lt version versions ≡ true → number < most
    → option_map for_all (if nat_lt version versions then (if number == most then Some refusing.Spent else None) else Some refusing.NoVersion) ≡ None
none_fault versions most number version here room =
    let fresh : (number == most) ≡ false = grind (arith, nat_tests) in rw (here, fresh) refl

some_fault : (versions most number version : ℕ) → nat_lt version versions ≡ false
    → option_map for_all (if nat_lt version versions then (if number == most then Some refusing.Spent else None) else Some refusing.NoVersion) ≡ Some faults.NoVersion
some_fault versions most number version here = rw here refl

-- a change that goes on with no manager left
stuck_fault : (new version reached managers number : ℕ) → nat_lt reached managers ≡ false
    → (if (new == version) && nat_lt reached managers then None else Some (faults.Pending number)) ≡ Some (faults.Pending number)
stuck_fault new version reached managers number is = rw is (either (new == version))
  where
    either : (b : Bool) → (if b && false then None else Some (faults.Pending number)) ≡ Some (faults.Pending number)
    either true = refl
    either false = refl

module _ {Decider Manager : Type 0} (decides : Decider → Decisions) (seen : Manager → Seen) where
  -- at rest no receipt is in
  no_receipt : (server : ServerView Decider) (number version reached place : ℕ) (xs : List Manager) (x : Manager) → server.phase ≡ Settled number version
      → IsLed decides seen (record { server = server; managers = xs; reached = reached }) → slice_get xs place ≡ Some x → is_in server.receipts place ≡ false
  no_receipt server number version reached place xs x settled led is =
      elim (is_in server.receipts place) as (λ (b : Bool). is_in server.receipts place ≡ b → b ≡ false) [
        | true ↦ λ comes. absurd (subst (λ (p : Phase). MayBeIn p reached place (seen x).history) settled ((led.placed place x is).receipt comes))
        | false ↦ λ out. refl
      ] refl

  module _ (was now : Led Decider Manager) (version : ℕ) (answer : Result ℕ NotifyAllFault) (ready : IsReady seen was) (led : IsLed decides seen was)
      (room : number_of was.server.phase < was.server.most) (many : length now.managers ≡ length was.managers) where
    -- a change was begun
    begins : (number old : ℕ) → was.server.phase ≡ Settled number old → nat_lt version (decides was.server.decider).versions ≡ true → now.server ≡ started was.server version
        → ((place : ℕ) → AreBoth (IsNotifiedAt seen version (number + 1) 0 now.reached place) (slice_get was.managers place) (slice_get now.managers place))
        → length was.managers ≤ now.reached
        → HasActed seen (decides was.server.decider).versions (run.Notify version) was now
    begins number old settled known server each all =
        let got = picked seen (IsNotifiedAt seen version (number + 1) 0 now.reached) (λ place. IsOne (IsNoticeTurn (number + 1) version)) was.managers now.managers each ready.told
        (λ place x y is told turns items.
        let within : place < length was.managers = slice_get_within was.managers place x is in
        noticed_turn version (number + 1) (seen x) (seen y) (told.given (omega arith) (omega arith)) turns items) in
        let at : now.server ≡ record was.server { phase = Pending (number + 1) old version } = server ∙ (λ i. started (record was.server { phase = settled i }) version) in
        let begun : BeginsChange (length was.managers) (number + 1) version got.given (stand_of now.server) = record {
          notices = got.each;
          receipts = was.server.receipts;
          none_in = λ place below. let one = there was.managers place below in no_receipt was.server number old was.reached place was.managers one.0 settled led one.1;
          next_is = ap stand_of at;
        } in
        let step : NotifyStep (decides was.server.decider).versions (length was.managers) (Rest number) version got.given (stand_of now.server) =
        subst (λ (b : Bool). NoticesIf b (length was.managers) number version got.given (stand_of now.server)) (sym known) begun in
        record {
          given = got.given;
          step = subst (λ (p : Phase). NotifyStep (decides was.server.decider).versions (length was.managers) (stand_of (record was.server { phase = p })) version got.given (stand_of now.server)) (sym settled) step;
          grown = got.grown;
          many = many;
          decider = ap (λ s. s.decider) at;
          most = ap (λ s. s.most) at;
          number = omega (arith, ap (λ s. number_of s.phase) at, ap number_of settled);
          reached = λ pending. omega (arith, many, all);
        }

    -- what comes of a notice to all: it is run as a line, or memory was wanted
    abbrev pub Outcome : Type 0
    Outcome = ((is_short answer ≡ false) × HasActed seen (decides was.server.decider).versions (run.Notify version) was now)
        ⊎ ((is_short answer ≡ true) × HasStopped seen (decides was.server.decider).versions (run.Notify version) was now)

    rests : (number old : ℕ) → was.server.phase ≡ Settled number old → nat_lt version (decides was.server.decider).versions ≡ false → now ≡ was
        → HasActed seen (decides was.server.decider).versions (run.Notify version) was now
    rests number old settled unknown same =
        still seen (decides was.server.decider).versions (run.Notify version) was now ready same (λ step.
        subst (λ (p : Phase). NotifyStep (decides was.server.decider).versions (length was.managers) (stand_of (record was.server { phase = p })) version (λ _. []) (stand_of now.server)) (sym settled)
        (subst (λ (b : Bool). NoticesIf b (length was.managers) number version (λ _. []) (stand_of now.server)) (sym unknown)
        (step.0, step.1 ∙ ap (λ (p : Phase). stand_of (record was.server { phase = p })) settled)))

    stays : (number old new : ℕ) → was.server.phase ≡ Pending number old new → now ≡ was → HasActed seen (decides was.server.decider).versions (run.Notify version) was now
    stays number old new pending same =
        still seen (decides was.server.decider).versions (run.Notify version) was now ready same (λ step.
        subst (λ (p : Phase). NotifyStep (decides was.server.decider).versions (length was.managers) (stand_of (record was.server { phase = p })) version (λ _. []) (stand_of now.server)) (sym pending)
        (step.0, step.1 ∙ ap (λ (p : Phase). stand_of (record was.server { phase = p })) pending))

    pub noticed_all :
        (answer ≡ notify_all_answer (notify_all_fault (decides was.server.decider).versions was.server was.reached version) (number_after was.server.phase) now.reached was.server.managers)
        → (is_some (notify_all_fault (decides was.server.decider).versions was.server was.reached version) ≡ true → now ≡ was)
        → (is_some (notify_all_fault (decides was.server.decider).versions was.server was.reached version) ≡ false → now.server ≡ started was.server version)
        → (is_some (notify_all_fault (decides was.server.decider).versions was.server was.reached version) ≡ false
        → (place : ℕ) → AreBoth (IsNotifiedAt seen version (number_after was.server.phase) (first_on was.server.phase was.reached) now.reached place) (slice_get was.managers place) (slice_get now.managers place))
        → Outcome
    noticed_all answer_is refused server notified = go was.server.phase refl
      where
        settled_known : (number old : ℕ) → was.server.phase ≡ Settled number old → nat_lt version (decides was.server.decider).versions ≡ true → Outcome
        settled_known number old at known =
            let none : notify_all_fault (decides was.server.decider).versions was.server was.reached version ≡ None =
            (λ i. fault_on (at i) (decides was.server.decider).versions was.server was.reached version)
            ∙ none_fault (decides was.server.decider).versions was.server.most number version known (omega (arith, room, ap number_of at)) in
            let each : (place : ℕ) → AreBoth (IsNotifiedAt seen version (number + 1) 0 now.reached place) (slice_get was.managers place) (slice_get now.managers place) =
            subst (λ (p : Phase). (place : ℕ) → AreBoth (IsNotifiedAt seen version (number_after p) (first_on p was.reached) now.reached place) (slice_get was.managers place) (slice_get now.managers place)) at
            (notified (ap is_some none)) in
            let said : answer ≡ (if nat_lt now.reached was.server.managers then Err (faults.Memory now.reached) else Ok (number + 1)) =
            answer_is ∙ (λ i. notify_all_answer (none i) (number_after (at i)) now.reached was.server.managers) in
            elim (nat_lt now.reached was.server.managers) as (λ (b : Bool). nat_lt now.reached was.server.managers ≡ b → answer ≡ (if b then Err (faults.Memory now.reached) else Ok (number + 1)) → Outcome) [
              | true ↦ λ short told. inr (
                ap is_short told,
                record {
                  number = number;
                  rested = ap (λ (p : Phase). stand_of (record was.server { phase = p })) at;
                  version = version;
                  notice = refl;
                  known = grind (arith, nat_tests);
                  grown = λ place. stopped_at seen version (number + 1) now.reached place _ _ (each place) (ready.told place);
                },
              )
              | false ↦ λ whole told.
                  let all : was.server.managers ≤ now.reached = grind (arith, nat_tests) in
                  inl (ap is_short told, begins number old at known (server (ap is_some none)) each (omega (arith, all, led.registered)))
            ] refl said

        go : (p : Phase) → was.server.phase ≡ p → Outcome
        go (Settled number old) at =
            elim (nat_lt version (decides was.server.decider).versions) as (λ (b : Bool). nat_lt version (decides was.server.decider).versions ≡ b → Outcome) [
              | true ↦ λ known. settled_known number old at known
              | false ↦ λ unknown.
                  let some : notify_all_fault (decides was.server.decider).versions was.server was.reached version ≡ Some faults.NoVersion =
                  (λ i. fault_on (at i) (decides was.server.decider).versions was.server was.reached version)
                  ∙ some_fault (decides was.server.decider).versions was.server.most number version unknown in
                  inl (ap is_short (answer_is ∙ (λ i. notify_all_answer (some i) (number_after was.server.phase) now.reached was.server.managers)), rests number old at unknown (refused (ap is_some some)))
            ] refl
        go (Pending number old new) at =
            let all : length was.managers ≤ was.reached = ready.reached (ap is_pending at) in
            let registered = led.registered in
            let none_left : nat_lt was.reached was.server.managers ≡ false = grind (arith, nat_tests) in
            let some : notify_all_fault (decides was.server.decider).versions was.server was.reached version ≡ Some (faults.Pending number) =
            (λ i. fault_on (at i) (decides was.server.decider).versions was.server was.reached version)
            ∙ stuck_fault new version was.reached was.server.managers number none_left in
            inl (ap is_short (answer_is ∙ (λ i. notify_all_answer (some i) (number_after was.server.phase) now.reached was.server.managers)), stays number old new at (refused (ap is_some some)))

-- what the line answers, by its outcome
pub when_ok : {A B : Type 0} (short : Bool) → ((short ≡ false) × A) ⊎ ((short ≡ true) × B) → short ≡ false → A
when_ok short outcome whole = elim outcome [
  | inl done ↦ done.1
  | inr stopped ↦ absurd (differ short stopped.0 whole)
]
  where
    differ : (b : Bool) → b ≡ true → b ≡ false → ⊥
    differ b one two = cc

pub when_err : {A B : Type 0} (short : Bool) → ((short ≡ false) × A) ⊎ ((short ≡ true) × B) → short ≡ true → B
when_err short outcome stops = elim outcome [
  | inl done ↦ absurd (differ short stops done.0)
  | inr stopped ↦ stopped.1
]
  where
    differ : (b : Bool) → b ≡ true → b ≡ false → ⊥
    differ b one two = cc

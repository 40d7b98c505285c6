-- What managers are given as they are asked for their acknowledgements, or forced to them.
use Rattle.std.proofs.Common.{◌≡◌, ℕ, suc, ◌<◌, ◌≤◌, Bool, true, false, List, [], ◌∷◌, ◌++◌, map, length, Option, Some, None, refl, sym, ap, subst, ◌∙◌, append-nil, arith}
use Rattle.std.specs.Prelude.{slice_get, IfSome, ◌==◌, nat_lt, not, ◌&&◌, ◌||◌, unwrap_or, is_some, option_map, if◌then◌else◌}
use Rattle.std.specs.List.{list_all}
use Rattle.std.proofs.lemmas.Option.{slice_get_within, slice_get-map}
use Rattle.std.proofs.lemmas.Bool.Decides.{nat_tests}
use Rattle.access_vectors.specs.Decisions.{Decisions}
use Rattle.access_vectors.specs.Phases.{number_of, is_pending}
use Rattle.access_vectors.specs.declared.phase.Phase.{Phase}
use Rattle.access_vectors.specs.declared.phase.Phase.TheVariants.{Settled, Pending}
use Rattle.manager_history.specs.Kept.{ack_answer, is_done}
use Rattle.manager_history.specs.declared.answers.Ack.{Ack}
use Rattle.manager_history.specs.declared.answers.Ack.TheVariants as acks
use Rattle.managed.specs.Seen.{Seen, Turn, HasItem, IsShownTry, IsTried, IsTriedWhere, IsAcknowledged, acknowledging_item, older_counted, answer_of}
use Rattle.managed.specs.declared.managed.Event.{Event}
use Rattle.managed.specs.declared.managed.Event.TheVariants.{Acknowledgement}
use Rattle.managed.specs.declared.managed.Shown.{Shown}
use Rattle.security_server.specs.Numbering.{ServerView, is_in}
use Rattle.change_protocol.specs.Changes.{Led, AreAll, IsLed, IsAskedUnless, HasAskedAll, phase_at, said_of, is_kept, ack_all_answer, phase_after}
use Rattle.change_protocol.specs.declared.answers.Said.{Said}
use Rattle.change_protocol.specs.declared.answers.AckAll.{AckAll}
use Rattle.change_protocol.specs.declared.answers.AckAll.TheVariants as acking
use Rattle.session_text.specs.declared.session.Run.{Run}
use Rattle.admin_walk.specs.Walks.{Rest, Under, Given, IsOne, IsTryTurn, IsAskedAt, AsksAll, AskStep, Step, is_clear, adds_any, all_below, stand_of}
use Rattle.admin_walk.specs.Moves.{IsReady, HasActed}
use Rattle.admin_walk.proofs.Giving.{both_all, picked, still}

-- a receipt is kept where the manager has acknowledged
kept_done : (ack : Ack) → is_kept (said_of ack) ≡ is_done ack
kept_done (acks.Done receipt) = refl
kept_done (acks.Busy older) = refl
kept_done (acks.Behind left) = refl
kept_done acks.Idle = refl

-- an acknowledgement of a pending change is done exactly where there is no older pass and no stale slot
clear_done : (number old new manager older found : ℕ) → is_done (ack_answer (Pending number old new) manager older found) ≡ ((older == 0) && (found == 0))
clear_done number old new manager older found =
    elim (nat_lt 0 older) as (λ (b : Bool). nat_lt 0 older ≡ b
    → is_done (if b then acks.Busy older else if nat_lt 0 found then acks.Behind found else acks.Done (record { manager = manager; number = number })) ≡ ((older == 0) && (found == 0))) [
      | true ↦ λ is. let apart : (older == 0) ≡ false = grind (arith, nat_tests) in rw apart refl
      | false ↦ λ is.
          let none : (older == 0) ≡ true = grind (arith, nat_tests) in
          rw none (elim (nat_lt 0 found) as (λ (b : Bool). nat_lt 0 found ≡ b → is_done (if b then acks.Behind found else acks.Done (record { manager = manager; number = number })) ≡ (found == 0)) [
            | true ↦ λ more. let apart : (found == 0) ≡ false = grind (arith, nat_tests) in sym apart
            | false ↦ λ more. let clean : (found == 0) ≡ true = grind (arith, nat_tests) in sym clean
          ] refl)
    ] refl

added_if : (forced done : Bool) (number old new : ℕ) → acknowledging_item forced (Pending number old new) done ≡ (if done then Some (Acknowledgement number forced) else None)
added_if forced true number old new = refl
added_if forced false number old new = refl

some_if : (done : Bool) (event : Event) → is_some (if done then Some event else None) ≡ done
some_if true event = refl
some_if false event = refl

clear_turn : (forced : Bool) (shown : Shown) (turn : Turn) → turn.older ≡ older_counted forced shown → turn.found ≡ shown.found
    → is_clear turn ≡ ((unwrap_or (older_counted forced shown) 0 == 0) && (shown.found == 0))
clear_turn forced shown turn older found = λ i. (unwrap_or (older i) 0 == 0) && (found i == 0)

answered : (forced : Bool) (number old new manager : ℕ) (shown : Shown)
    → is_done (answer_of forced (Pending number old new) manager shown) ≡ ((unwrap_or (older_counted forced shown) 0 == 0) && (shown.found == 0))
answered false number old new manager shown = clear_done number old new manager shown.older shown.found
answered true number old new manager shown = clear_done number old new manager 0 shown.found

counts_at : (forced : Bool) (shown : Shown) → is_some (older_counted forced shown) ≡ not forced
counts_at false shown = refl
counts_at true shown = refl

or_none : (b : Bool) → (b || false) ≡ b
or_none true = refl
or_none false = refl

-- a manager with its notice is asked
module _ (forced : Bool) (number old new : ℕ) (x y : Seen) (ack : Ack) (asked : IsAcknowledged forced x y ack) (phase : x.phase ≡ Pending number old new) (turns : List Turn) (told : x.items ≡ Some turns) where
  tried : IsTried forced x y (is_done ack)
  tried = subst (λ (p : Phase). IsTriedWhere (is_pending p) forced x y (is_done ack)) phase asked.tried

  item : HasItem (Some turns) y.items (IsShownTry y.shown (acknowledging_item forced x.phase (is_done ack)) (older_counted forced y.shown))
  item = subst (λ (o : Option (List Turn)). HasItem o y.items (IsShownTry y.shown (acknowledging_item forced x.phase (is_done ack)) (older_counted forced y.shown))) told tried.items

  done_is : is_done ack ≡ is_clear item.0
  done_is = ap is_done asked.answer ∙ (ap (λ (p : Phase). is_done (answer_of forced p x.manager y.shown)) phase ∙ (answered forced number old new x.manager y.shown ∙ sym (clear_turn forced y.shown item.0 item.1.older_is item.1.found_is)))

  added : (item.0).added ≡ (if is_done ack then Some (Acknowledgement number forced) else None)
  added = item.1.added_is ∙ (ap (λ (p : Phase). acknowledging_item forced p (is_done ack)) phase ∙ added_if forced (is_done ack) number old new)

  pub asked_turn : (more : List Turn) × (IsOne (IsTryTurn forced number) more × (is_done ack ≡ adds_any more)) × (y.items ≡ Some (turns ++ more))
  asked_turn = (
    item.0 ∷ [],
    (
      (
        item.0,
        record {
          counts = ap (λ (o : Option ℕ). is_some o) item.1.older_is ∙ counts_at forced y.shown;
          added_is = added ∙ ap (λ (b : Bool). if b then Some (Acknowledgement number forced) else None) done_is;
        },
        refl,
      ),
      sym (some_if (is_done ack) (Acknowledgement number forced)) ∙ (ap (λ (o : Option Event). is_some o) (sym added) ∙ sym (or_none (is_some (item.0).added))),
    ),
    item.2,
  )

-- what is known of the turns of a manager that was asked, unless its receipt was in, by what it said
pub record IsAskedTo (forced : Bool) (number : ℕ) (was_in : Bool) (said : Option Said) (turns : List Turn) : Type 0 where
  pub asked : IsAskedAt forced number was_in turns
  pub one : Said
  pub said_is : said ≡ Some one
  pub kept : is_kept one ≡ (was_in || adds_any turns)

asked_where : {Manager : Type 0} (seen : Manager → Seen) (forced was_in : Bool) (number old new : ℕ) (x y : Manager) (said : Option Said) (one : Said) → said ≡ Some one
    → (was_in ≡ false → (seen x).phase ≡ Pending number old new) → IsAskedUnless seen forced was_in x y one → (turns : List Turn) → (seen x).items ≡ Some turns
    → (more : List Turn) × IsAskedTo forced number was_in said more × ((seen y).items ≡ Some (turns ++ more))
asked_where seen forced true number old new x y said one said_is phase asked turns told = (
  [],
  record { asked = refl; one = one; said_is = said_is; kept = ap is_kept asked.1 },
  ap (λ m. (seen m).items) asked.0 ∙ (told ∙ ap (λ (l : List Turn). Some l) (sym (append-nil turns))),
)
asked_where seen forced false number old new x y said one said_is phase asked turns told =
    let got = asked_turn forced number old new (seen x) (seen y) asked.ack asked.acknowledged (phase refl) turns told in
    (got.0, record { asked = got.1.0; one = one; said_is = said_is; kept = ap is_kept asked.said_is ∙ (kept_done asked.ack ∙ got.1.1) }, got.2)

-- a test of each place that is what each said
all_said : (said : List Said) (test : ℕ → Bool) → ((place : ℕ) → IfSome (slice_get said place) (λ one. test place ≡ is_kept one)) → all_below (length said) test ≡ list_all is_kept said
all_said [] test each = refl
all_said (one ∷ said) test each = λ i. (each 0 i) && (all_said said (λ place. test (suc place)) (λ place. each (suc place)) i)

same_length : {A S : Type 0} (R : ℕ → A → A → S → Type 0) (was now : List A) (said : List S) → ((place : ℕ) → AreAll (R place) (slice_get was place) (slice_get now place) (slice_get said place)) → length said ≡ length was
same_length R [] [] [] each = refl
same_length R [] [] (s ∷ said) each = absurd (each 0)
same_length R [] (y ∷ now) [] each = absurd (each 0)
same_length R [] (y ∷ now) (s ∷ said) each = absurd (each 0)
same_length R (x ∷ was) [] [] each = absurd (each 0)
same_length R (x ∷ was) [] (s ∷ said) each = absurd (each 0)
same_length R (x ∷ was) (y ∷ now) [] each = absurd (each 0)
same_length R (x ∷ was) (y ∷ now) (s ∷ said) each = let more = same_length (λ place. R (suc place)) was now said (λ place. each (suc place)) in omega arith

-- the receipts that are in after all were asked, by what each said
read_kept : (said : List Said) (place : ℕ) → IfSome (slice_get said place) (λ one. is_in (map is_kept said) place ≡ is_kept one)
read_kept said place = go (slice_get said place) refl
  where
    go : (o : Option Said) → slice_get said place ≡ o → IfSome o (λ one. is_in (map is_kept said) place ≡ is_kept one)
    go None is = tt
    go (Some one) is = ap (λ (o : Option Bool). unwrap_or o false) (slice_get-map is_kept said place ∙ ap (option_map is_kept) is)

-- what is in by what was said
in_by : (o : Option Said) (one : Said) (b : Bool) → IfSome o (λ said. b ≡ is_kept said) → o ≡ Some one → b ≡ is_kept one
in_by None one b holds is = absurd (cc)
in_by (Some other) one b holds is = let same : other ≡ one = cc in holds ∙ ap is_kept same

module _ {Decider Manager : Type 0} (decides : Decider → Decisions) (seen : Manager → Seen) (forced : Bool) (versions : ℕ) (run : Run) where
  -- the outcome, by whether each receipt is kept
  ending : (number old new count : ℕ) (receipts : List Bool) (given : Given) (said : List Said) (now : ServerView Decider) (answer : AckAll) (all : Bool) → list_all is_kept said ≡ all
      → answer ≡ (if all then acking.Complete number else acking.Waiting) → length said ≡ count
      → ((place : ℕ) → place < count → IsAskedTo forced number (is_in receipts place) (slice_get said place) (given place))
      → (answer ≡ acking.Waiting → (place : ℕ) → IfSome (slice_get said place) (λ one. is_in now.receipts place ≡ is_kept one))
      → now.phase ≡ phase_after answer (Pending number old new)
      → AsksAll forced count number receipts given (stand_of now) × (number_of now.phase ≡ number)
  ending number old new count receipts given said now answer true all_is answer_is lens each receipts_are phase =
      let settled : now.phase ≡ Settled number new = phase ∙ ap (λ (a : AckAll). phase_after a (Pending number old new)) answer_is in (
        record {
          asked = λ place below. (each place below).asked;
          after = map is_kept said;
          now_in = λ place below. let to = each place below in in_by (slice_get said place) to.one (is_in (map is_kept said) place) (read_kept said place) to.said_is ∙ to.kept;
          next_is = ap (λ (p : Phase). stand_of (record now { phase = p })) settled ∙ ap (λ (b : Bool). if b then Rest number else Under number (map is_kept said)) (sym (subst (λ (n : ℕ). all_below n (is_in (map is_kept said)) ≡ true) lens (all_said said (is_in (map is_kept said)) (read_kept said) ∙ all_is)));
        },
        ap number_of settled,
      )
  ending number old new count receipts given said now answer false all_is answer_is lens each receipts_are phase =
      let pending : now.phase ≡ Pending number old new = phase ∙ ap (λ (a : AckAll). phase_after a (Pending number old new)) answer_is in (
        record {
          asked = λ place below. (each place below).asked;
          after = now.receipts;
          now_in = λ place below. let to = each place below in in_by (slice_get said place) to.one (is_in now.receipts place) (receipts_are answer_is place) to.said_is ∙ to.kept;
          next_is = ap (λ (p : Phase). stand_of (record now { phase = p })) pending ∙ ap (λ (b : Bool). if b then Rest number else Under number now.receipts) (sym (subst (λ (n : ℕ). all_below n (is_in now.receipts) ≡ false) lens (all_said said (is_in now.receipts) (receipts_are answer_is) ∙ all_is)));
        },
        ap number_of pending,
      )

  -- where a manager with its notice stands, whose receipt is not in
  stands : (server : ServerView Decider) (number old new reached place : ℕ) (xs : List Manager) (x : Manager) → server.phase ≡ Pending number old new
      → IsLed decides seen (record { server = server; managers = xs; reached = reached }) → length xs ≤ reached → slice_get xs place ≡ Some x → is_in server.receipts place ≡ false
      → (seen x).phase ≡ Pending number old new
  stands server number old new reached place xs x pending led all is out =
      let within : place < length xs = slice_get_within xs place x is in
      let here : nat_lt place reached ≡ true = grind (arith, nat_tests) in
      let at : (seen x).phase ≡ phase_at (Pending number old new) server.receipts reached place = (led.placed place x is).phase ∙ ap (λ (p : Phase). phase_at p server.receipts reached place) pending in
      rw (here, out) at at

  pub asked_all : (same : Manager → Manager → Type 0) (was now : Led Decider Manager) (before said : List Said) (answer : AckAll) → IsReady seen was
      → ((given : Given) → AskStep forced (length was.managers) (stand_of was.server) given (stand_of now.server) → Step versions (length was.managers) (stand_of was.server) run given (stand_of now.server))
      → HasAskedAll decides seen same forced was now before said answer
      → HasActed seen versions run was now
  asked_all same was now before said answer ready so round = go was.server.phase refl
    where
      go : (p : Phase) → was.server.phase ≡ p → HasActed seen versions run was now
      go (Settled number version) at =
          let stays = round.idle (ap is_pending at) in
          still seen versions run was now ready stays (λ step. so (λ _. []) (subst (λ (q : Phase). AskStep forced (length was.managers) (stand_of (record was.server { phase = q })) (λ _. []) (stand_of now.server)) (sym at)
          (λ place below. refl, ap (λ (led : Led Decider Manager). stand_of led.server) stays ∙ ap (λ (q : Phase). stand_of (record was.server { phase = q })) at)))
      go (Pending number old new) at =
          let pending : is_pending was.server.phase ≡ true = ap is_pending at in
          let each = round.asked pending in
          let got = picked seen (λ place x y. (one : Said) × (slice_get said place ≡ Some one) × IsAskedUnless seen forced (is_in was.server.receipts place) x y one)
          (λ place. IsAskedTo forced number (is_in was.server.receipts place) (slice_get said place)) was.managers now.managers
          (λ place. both_all (IsAskedUnless seen forced (is_in was.server.receipts place)) _ _ _ (each place)) ready.told
          (λ place x y is one turns told. asked_where seen forced (is_in was.server.receipts place) number old new x y (slice_get said place) one.0 one.1
          (λ out. stands was.server number old new was.reached place was.managers x at round.was_led (ready.reached pending) is out) one.2 turns told) in
          let end = ending number old new (length was.managers) was.server.receipts got.given said now.server answer (list_all is_kept said) refl (round.answer ∙ ap (λ (q : Phase). ack_all_answer q said) at)
          (same_length (λ place. IsAskedUnless seen forced (is_in was.server.receipts place)) was.managers now.managers said each) got.each round.receipts (round.phase ∙ ap (λ (q : Phase). phase_after answer q) at) in
          record {
            given = got.given;
            step = so got.given (subst (λ (q : Phase). AskStep forced (length was.managers) (stand_of (record was.server { phase = q })) got.given (stand_of now.server)) (sym at) end.0);
            grown = got.grown;
            many = round.many;
            decider = round.decider;
            most = round.most;
            number = omega (arith, end.1, ap number_of at);
            reached = λ _. let reached_before = ready.reached pending in omega (arith, reached_before, round.many, round.reached);
          }

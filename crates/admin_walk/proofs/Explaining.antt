-- What a walk gives explains the versions that were noticed.
use Rattle.std.proofs.Common.{◌≡◌, ℕ, zero, suc, ◌+◌, ◌<◌, inl, inr, Bool, true, false, List, [], ◌∷◌, ◌++◌, length, Option, Some, None, refl, sym, ap, subst, ◌∙◌, append_assoc, arith}
use Rattle.std.specs.Prelude.{slice_get, IfSome, not, ◌&&◌, ◌||◌, nat_lt, is_some, if◌then◌else◌}
use Rattle.std.specs.List.{list_all}
use Rattle.std.proofs.lemmas.List.Folds.{list_all-append}
use Rattle.std.proofs.lemmas.Option.{slice_get_within}
use Rattle.access_vectors.specs.Phases.{is_pending}
use Rattle.access_vectors.specs.declared.phase.Phase.{Phase}
use Rattle.access_vectors.specs.declared.phase.Phase.TheVariants.{Settled, Pending}
use Rattle.managed.specs.Seen.{Seen, Turn}
use Rattle.managed.specs.declared.managed.Event.{Event}
use Rattle.managed.specs.declared.managed.Event.TheVariants as event
use Rattle.security_server.specs.Numbering.{is_in}
use Rattle.change_protocol.specs.Changes.{Led, AreBoth}
use Rattle.session_text.specs.declared.session.Run.{Run}
use Rattle.session_text.specs.declared.session.Run.TheVariants as run
use Rattle.session_text.specs.declared.session.RunLine.{RunLine}
use Rattle.admin_walk.specs.Walks.{Stand, Rest, Under, Given, IsOne, IsUpdateTurn, IsNoticeTurn, IsStill, BeginsChange, AsksAll, IsAskedAt, NoticesIf, NotifyStep, AskStep, Step, Walks, stand_at, stand_of, is_clear, adds_any, all_below}
use Rattle.admin_walk.specs.Explained.{TakesIf, SettlesIf, ExplainsLine, Explains}
use Rattle.admin_walk.proofs.Giving.{there}
use Rattle.admin_walk.specs.Moves.{notice_of, notices_of, versions_of, AreClear, HasGrown, HasRun, IsExplained, forcing_of, forced_of, is_force, forces}

-- a change is under way
abbrev pub is_under : Stand → Bool
is_under (Rest number) = false
is_under (Under number receipts) = true

both_true : (a b : Bool) → (a && b) ≡ true → (a ≡ true) × (b ≡ true)
both_true true true is = (refl, refl)
both_true true false is = absurd (cc)
both_true false b is = absurd (cc)

and_not : (b : Bool) → (b && false) ≡ false
and_not true = refl
and_not false = refl

notices-append : (xs ys : List Turn) → notices_of (xs ++ ys) ≡ notices_of xs ++ notices_of ys
notices-append [] ys = refl
notices-append (x ∷ xs) ys = ap (λ (l : List (ℕ × ℕ)). notice_of x.added ++ l) (notices-append xs ys) ∙ sym (append_assoc (notice_of x.added) (notices_of xs) (notices_of ys))

-- the notices of one turn
notices_one : (is : Turn → Type 0) (added : Option Event) (turns : List Turn) → ((turn : Turn) → is turn → turn.added ≡ added) → IsOne is turns → notices_of turns ≡ notice_of added ++ []
notices_one is added turns how one = ap notices_of one.2 ∙ ap (λ (e : Option Event). notice_of e ++ []) (how one.0 one.1)

no_notice : (b forced : Bool) (number : ℕ) → notice_of (if b then Some (event.Acknowledgement number forced) else None) ++ [] ≡ []
no_notice true forced number = refl
no_notice false forced number = refl

notices_asked : (forced : Bool) (number : ℕ) (was_in : Bool) (turns : List Turn) → IsAskedAt forced number was_in turns → notices_of turns ≡ []
notices_asked forced number true turns asked = ap notices_of asked
notices_asked forced number false turns asked =
    ap notices_of asked.2 ∙ (ap (λ (e : Option Event). notice_of e ++ []) asked.1.added_is ∙ no_notice (is_clear asked.0) forced number)

either_false : (a b : Bool) → (a || b) ≡ false → (a ≡ false) × (b ≡ false)
either_false true b is = absurd (cc)
either_false false b is = (refl, is)

forced-append : (xs ys : List Turn) → forced_of (xs ++ ys) ≡ forced_of xs ++ forced_of ys
forced-append [] ys = refl
forced-append (x ∷ xs) ys = ap (λ (l : List ℕ). forcing_of x.added ++ l) (forced-append xs ys) ∙ sym (append_assoc (forcing_of x.added) (forced_of xs) (forced_of ys))

forced_one : (is : Turn → Type 0) (added : Option Event) (turns : List Turn) → ((turn : Turn) → is turn → turn.added ≡ added) → IsOne is turns → forced_of turns ≡ forcing_of added ++ []
forced_one is added turns how one = ap forced_of one.2 ∙ ap (λ (e : Option Event). forcing_of e ++ []) (how one.0 one.1)

no_force : (b : Bool) (number : ℕ) → forcing_of (if b then Some (event.Acknowledgement number false) else None) ++ [] ≡ []
no_force true number = refl
no_force false number = refl

forced_asked : (number : ℕ) (was_in : Bool) (turns : List Turn) → IsAskedAt false number was_in turns → forced_of turns ≡ []
forced_asked number true turns asked = ap forced_of asked
forced_asked number false turns asked = ap forced_of asked.2 ∙ (ap (λ (e : Option Event). forcing_of e ++ []) asked.1.added_is ∙ no_force (is_clear asked.0) number)

asked_by_force : (forced : Bool) (said : Run) (number : ℕ) (was_in : Bool) (turns : List Turn) → is_force said ≡ forced → is_force said ≡ false → IsAskedAt forced number was_in turns → forced_of turns ≡ []
asked_by_force true said number was_in turns is unforced asked = absurd (cc)
asked_by_force false said number was_in turns is unforced asked = forced_asked number was_in turns asked

-- one that was asked, whose turns are clear, has acknowledged
in_where_clear : (forced : Bool) (number : ℕ) (was_in now_in : Bool) (turns : List Turn) → IsAskedAt forced number was_in turns → now_in ≡ (was_in || adds_any turns) → list_all is_clear turns ≡ true → now_in ≡ true
in_where_clear forced number true now_in turns asked is clear = is
in_where_clear forced number false now_in turns asked is clear =
    let one : (is_clear asked.0 && true) ≡ true = subst (λ (l : List Turn). list_all is_clear l ≡ true) asked.2 clear in
    let clean = (both_true (is_clear asked.0) true one).0 in
    let added : (asked.0).added ≡ Some (event.Acknowledgement number forced) = asked.1.added_is ∙ ap (λ (b : Bool). if b then Some (event.Acknowledgement number forced) else None) clean in
    is ∙ (ap adds_any asked.2 ∙ ap (λ (e : Option Event). is_some e || false) added)

all_where : (count : ℕ) (test : ℕ → Bool) → ((place : ℕ) → place < count → test place ≡ true) → all_below count test ≡ true
all_where zero test each = refl
all_where (suc count) test each = λ i. (each 0 (omega arith) i) && (all_where count (λ place. test (suc place)) (λ place below. each (suc place) (omega arith)) i)

-- all managers were given the same notices, which lines explain from here on
pub record Chosen (versions count : ℕ) (pending : Bool) (lines : List RunLine) (given : Given) : Type 0 where
  pub chosen : List (ℕ × ℕ)
  pub same : (place : ℕ) → place < count → notices_of (given place) ≡ chosen
  pub explains : Explains false versions pending lines (versions_of chosen)
  pub unforced : forces lines ≡ false → (place : ℕ) → place < count → forced_of (given place) ≡ []
  pub at_once : ((place : ℕ) → place < count → list_all is_clear (given place) ≡ true) → Explains true versions pending lines (versions_of chosen)

pub record ChosenFrom (versions count : ℕ) (pending : Bool) (said : Run) (lines : List RunLine) (given : Given) : Type 0 where
  pub chosen : List (ℕ × ℕ)
  pub same : (place : ℕ) → place < count → notices_of (given place) ≡ chosen
  pub explains : ExplainsLine false versions pending said (versions_of chosen) (λ now left. Explains false versions now lines left)
  pub unforced : (is_force said || forces lines) ≡ false → (place : ℕ) → place < count → forced_of (given place) ≡ []
  pub at_once : ((place : ℕ) → place < count → list_all is_clear (given place) ≡ true) → ExplainsLine true versions pending said (versions_of chosen) (λ now left. Explains true versions now lines left)

module _ (versions count : ℕ) (lines : List RunLine) (given first rest : Given) (splits : (place : ℕ) → place < count → given place ≡ first place ++ rest place) where
  joined : (some more : List (ℕ × ℕ)) → ((place : ℕ) → place < count → notices_of (first place) ≡ some) → ((place : ℕ) → place < count → notices_of (rest place) ≡ more)
      → (place : ℕ) → place < count → notices_of (given place) ≡ some ++ more
  joined some more one two place below =
      ap notices_of (splits place below) ∙ (notices-append (first place) (rest place) ∙ (λ i. one place below i ++ two place below i))

  joined_forced : (said : Run) → (is_force said ≡ false → (place : ℕ) → place < count → forced_of (first place) ≡ []) → (forces lines ≡ false → (place : ℕ) → place < count → forced_of (rest place) ≡ [])
      → (is_force said || forces lines) ≡ false → (place : ℕ) → place < count → forced_of (given place) ≡ []
  joined_forced said one two is place below =
      let none = either_false (is_force said) (forces lines) is in
      ap forced_of (splits place below) ∙ (forced-append (first place) (rest place) ∙ (λ i. one none.0 place below i ++ two none.1 place below i))

  parts : (place : ℕ) → place < count → list_all is_clear (given place) ≡ true → (list_all is_clear (first place) ≡ true) × (list_all is_clear (rest place) ≡ true)
  parts place below clear = both_true (list_all is_clear (first place)) (list_all is_clear (rest place))
      (sym (list_all-append is_clear (first place) (rest place)) ∙ (ap (list_all is_clear) (sym (splits place below)) ∙ clear))

  -- a line that gives no notice and leaves whether a change is pending
  stays : (pending now : Bool) (said : Run) → now ≡ pending → ((place : ℕ) → place < count → notices_of (first place) ≡ []) → ((place : ℕ) → place < count → forced_of (first place) ≡ [])
      → ((always : Bool) (left : List ℕ) → Explains always versions pending lines left → ExplainsLine always versions pending said left (λ now left. Explains always versions now lines left))
      → Chosen versions count now lines rest → ChosenFrom versions count pending said lines given
  stays pending now said same none unforced so later = record {
    chosen = later.chosen;
    unforced = joined_forced said (λ _. unforced) later.unforced;
    same = joined [] later.chosen none later.same;
    explains = so false (versions_of later.chosen) (subst (λ (b : Bool). Explains false versions b lines (versions_of later.chosen)) same later.explains);
    at_once = λ clear. so true (versions_of later.chosen) (subst (λ (b : Bool). Explains true versions b lines (versions_of later.chosen)) same
        (later.at_once (λ place below. (parts place below (clear place below)).1)));
  }

  -- a notice that is given
  takes : (number version : ℕ) (next : Stand) → nat_lt version versions ≡ true → BeginsChange count number version first next → Chosen versions count (is_under next) lines rest
      → ChosenFrom versions count false (run.Notify version) lines given
  takes number version next known begun later = record {
    chosen = (number, version) ∷ later.chosen;
    unforced = joined_forced (run.Notify version) (λ _ place below. forced_one (IsNoticeTurn number version) (Some (event.Notice number version)) (first place) (λ turn is. is.notice) (begun.notices place below)) later.unforced;
    same = joined ((number, version) ∷ []) later.chosen (λ place below. notices_one (IsNoticeTurn number version) (Some (event.Notice number version)) (first place) (λ turn is. is.notice) (begun.notices place below)) later.same;
    explains = subst (λ (b : Bool). TakesIf (b && true) version false (version ∷ versions_of later.chosen) (λ now left. Explains false versions now lines left)) (sym known)
        (versions_of later.chosen, refl, subst (λ (b : Bool). Explains false versions b lines (versions_of later.chosen)) (ap is_under begun.next_is) later.explains);
    at_once = λ clear. subst (λ (b : Bool). TakesIf (b && true) version false (version ∷ versions_of later.chosen) (λ now left. Explains true versions now lines left)) (sym known) (
      versions_of later.chosen,
      refl,
      subst (λ (b : Bool). Explains true versions b lines (versions_of later.chosen)) (ap is_under begun.next_is)
          (later.at_once (λ place below. (parts place below (clear place below)).1)),
    );
  }

  -- managers are asked
  under_if : (number : ℕ) (after : List Bool) (b : Bool) → is_under (if b then Rest number else Under number after) ≡ not b
  under_if number after true = refl
  under_if number after false = refl

  settles : (always : Bool) (now : Bool) (left : List ℕ) → Explains false versions now lines left → SettlesIf false true left (λ now left. Explains false versions now lines left)
  settles always true left explains = inr explains
  settles always false left explains = inl explains

  asks : (forced : Bool) (said : Run) (number : ℕ) (receipts : List Bool) (next : Stand) → is_force said ≡ forced → AsksAll forced count number receipts first next
      → ((always : Bool) (left : List ℕ) → SettlesIf always true left (λ now left. Explains always versions now lines left) → ExplainsLine always versions true said left (λ now left. Explains always versions now lines left))
      → Chosen versions count (is_under next) lines rest → ChosenFrom versions count true said lines given
  asks forced said number receipts next same_force all so later = record {
    chosen = later.chosen;
    unforced = joined_forced said (λ unforced place below. asked_by_force forced said number (is_in receipts place) (first place) same_force unforced (all.asked place below)) later.unforced;
    same = joined [] later.chosen (λ place below. notices_asked forced number (is_in receipts place) (first place) (all.asked place below)) later.same;
    explains = so false (versions_of later.chosen) (settles false (is_under next) (versions_of later.chosen) later.explains);
    at_once = λ clear.
        let rested : is_under next ≡ false = ap is_under all.next_is ∙ (under_if number all.after (all_below count (is_in all.after)) ∙ ap not (all_where count (is_in all.after)
        (λ place below. in_where_clear forced number (is_in receipts place) (is_in all.after place) (first place) (all.asked place below) (all.now_in place below) (parts place below (clear place below)).0))) in
        so true (versions_of later.chosen) (subst (λ (b : Bool). Explains true versions b lines (versions_of later.chosen)) rested (later.at_once (λ place below. (parts place below (clear place below)).1)));
  }

  notified_by : (at next : Stand) (version : ℕ) → NotifyStep versions count at version first next → Chosen versions count (is_under next) lines rest
      → ChosenFrom versions count (is_under at) (run.Notify version) lines given
  notified_by (Rest number) next version step later =
      elim (nat_lt version versions) as (λ (b : Bool). nat_lt version versions ≡ b → NoticesIf b count number version first next → ChosenFrom versions count false (run.Notify version) lines given) [
        | true ↦ λ known step. takes (number + 1) version next known step later
        | false ↦ λ unknown step. stays false (is_under next) (run.Notify version) (ap is_under step.1) (λ place below. ap notices_of (step.0 place below)) (λ place below. ap forced_of (step.0 place below))
            (λ always left explains. subst (λ (b : Bool). TakesIf (b && true) version false left (λ now left. Explains always versions now lines left)) (sym unknown) explains) later
      ] refl step
  notified_by (Under number receipts) next version step later =
      stays true (is_under next) (run.Notify version) (ap is_under step.1) (λ place below. ap notices_of (step.0 place below)) (λ place below. ap forced_of (step.0 place below))
      (λ always left explains. subst (λ (b : Bool). TakesIf b version true left (λ now left. Explains always versions now lines left)) (sym (and_not (nat_lt version versions))) explains) later

  asked_by : (forced : Bool) (said : Run) (at next : Stand) → is_force said ≡ forced → AskStep forced count at first next
      → ((always pending : Bool) (left : List ℕ) → SettlesIf always pending left (λ now left. Explains always versions now lines left) → ExplainsLine always versions pending said left (λ now left. Explains always versions now lines left))
      → Chosen versions count (is_under next) lines rest → ChosenFrom versions count (is_under at) said lines given
  asked_by forced said (Rest number) next same_force step so later =
      stays false (is_under next) said (ap is_under step.1) (λ place below. ap notices_of (step.0 place below)) (λ place below. ap forced_of (step.0 place below)) (λ always left explains. so always false left explains) later
  asked_by forced said (Under number receipts) next same_force step so later = asks forced said number receipts next same_force step (λ always left settled. so always true left settled) later

  still_by : (at next : Stand) (said : Run) → IsStill count at first next
      → ((always : Bool) (left : List ℕ) → Explains always versions (is_under at) lines left → ExplainsLine always versions (is_under at) said left (λ now left. Explains always versions now lines left))
      → Chosen versions count (is_under next) lines rest → ChosenFrom versions count (is_under at) said lines given
  still_by at next said step so later = stays (is_under at) (is_under next) said (ap is_under step.1) (λ place below. ap notices_of (step.0 place below)) (λ place below. ap forced_of (step.0 place below)) so later

  line_by : (at next : Stand) (said : Run) → Step versions count at said first next → Chosen versions count (is_under next) lines rest → ChosenFrom versions count (is_under at) said lines given
  line_by at next (run.Update most) step later =
      stays (is_under at) (is_under next) (run.Update most) (ap is_under step.1) (λ place below. notices_one (IsUpdateTurn most) None (first place) (λ turn is. is.nothing) (step.0 place below))
      (λ place below. forced_one (IsUpdateTurn most) None (first place) (λ turn is. is.nothing) (step.0 place below)) (λ always left explains. explains) later
  line_by at next (run.Notify version) step later = notified_by at next version step later
  line_by at next run.Ack step later = asked_by false run.Ack at next refl step (λ always pending left settled. settled) later
  line_by at next run.Force step later = asked_by true run.Force at next refl step (λ always pending left settled. settled) later
  line_by at next (run.File client call) step later = still_by at next (run.File client call) step (λ always left explains. explains) later
  line_by at next (run.Process client call) step later = still_by at next (run.Process client call) step (λ always left explains. explains) later
  line_by at next (run.Port client call) step later = still_by at next (run.Port client call) step (λ always left explains. explains) later
  line_by at next (run.Begin client manager) step later = still_by at next (run.Begin client manager) step (λ always left explains. explains) later
  line_by at next (run.End client manager) step later = still_by at next (run.End client manager) step (λ always left explains. explains) later

chosen_by : (versions count : ℕ) (at end : Stand) (lines : List RunLine) (given : Given) → Walks versions count at lines given end → Chosen versions count (is_under at) lines given
chosen_by versions count at end [] given walks = record { chosen = []; same = λ place below. ap notices_of (walks.0 place below); unforced = λ _ place below. ap forced_of (walks.0 place below); explains = refl; at_once = λ _. refl }
chosen_by versions count at end (line ∷ lines) given walks =
    let from = line_by versions count lines given walks.0 walks.1 walks.3 at walks.2 line.run walks.4 (chosen_by versions count walks.2 end lines walks.1 walks.5) in
    record { chosen = from.chosen; same = from.same; unforced = from.unforced; explains = from.explains; at_once = from.at_once }

under_pending : (phase : Phase) (receipts : List Bool) → is_under (stand_at phase receipts) ≡ is_pending phase
under_pending (Settled number version) receipts = refl
under_pending (Pending number old new) receipts = refl

module _ {Manager : Type 0} (seen : Manager → Seen) where
  with_notices : (lines : List RunLine) (chosen : List (ℕ × ℕ)) (more : List Turn) (was now : Option Manager) → ((x : Manager) → was ≡ Some x → (notices_of more ≡ chosen) × (forces lines ≡ false → forced_of more ≡ [])) → AreBoth (HasGrown seen more) was now
      → AreBoth (λ was now. (turns : List Turn) × (more : List Turn) × ((seen was).items ≡ Some turns) × ((seen now).items ≡ Some (turns ++ more)) × (notices_of more ≡ chosen) × (forces lines ≡ false → forced_of more ≡ [])) was now
  with_notices lines chosen more None None known grown = tt
  with_notices lines chosen more None (Some y) known grown = absurd grown
  with_notices lines chosen more (Some x) None known grown = absurd grown
  with_notices lines chosen more (Some x) (Some y) known grown = (grown.0, more, grown.1, grown.2, (known x refl).0, (known x refl).1)

  clear_items : (items : Option (List Turn)) (turns more : List Turn) → items ≡ Some (turns ++ more) → IfSome items AreClear → list_all is_clear more ≡ true
  clear_items None turns more is clear = absurd (cc)
  clear_items (Some all) turns more is clear =
      let same : all ≡ turns ++ more = cc in
      (both_true (list_all is_clear turns) (list_all is_clear more) (sym (list_all-append is_clear turns more) ∙ (ap (list_all is_clear) (sym same) ∙ clear))).1

  clear_at : (more : List Turn) (was now : Option Manager) (x : Manager) → was ≡ Some x → AreBoth (HasGrown seen more) was now
      → IfSome now (λ manager. IfSome (seen manager).items AreClear) → list_all is_clear more ≡ true
  clear_at more None now x is grown clear = absurd (cc)
  clear_at more (Some z) None x is grown clear = absurd grown
  clear_at more (Some z) (Some y) x is grown clear = clear_items (seen y).items grown.0 more grown.2 clear

  -- lines that were run from rest explain the versions that were noticed
  pub explained : {Decider : Type 0} (versions : ℕ) (lines : List RunLine) (was now : Led Decider Manager) → is_pending was.server.phase ≡ false
      → HasRun seen versions lines was now → IsExplained seen versions lines was now
  explained versions lines was now settled ran =
      let chosen = chosen_by versions (length was.managers) (stand_of was.server) (stand_of now.server) lines ran.given ran.walks in
      let rests : is_under (stand_of was.server) ≡ false = under_pending was.server.phase was.server.receipts ∙ settled in
      record {
        chosen = chosen.chosen;
        grown = λ place. with_notices lines chosen.chosen (ran.given place) (slice_get was.managers place) (slice_get now.managers place)
            (λ x is. let below = slice_get_within was.managers place x is in (chosen.same place below, λ none. chosen.unforced none place below)) (ran.grown place);
        explains = subst (λ (b : Bool). Explains false versions b lines (versions_of chosen.chosen)) rests chosen.explains;
        at_once = λ clear. subst (λ (b : Bool). Explains true versions b lines (versions_of chosen.chosen)) rests
            (chosen.at_once (λ place below. let one = there was.managers place below in
            clear_at (ran.given place) (slice_get was.managers place) (slice_get now.managers place) one.0 one.1 (ran.grown place) (clear place)));
      }

-- What the administrator's calls do to what is seen of a manager behind its gate.
use Rattle.std.proofs.Common.{◌≡◌, ℕ, ◌+◌, ◌-◌, min, Bool, true, false, List, [], ◌∷◌, ◌++◌, map, refl, sym, ap, ◌∙◌, subst, inr, append-nil, length-append, Option, Some, None, option_map, Result, Ok, Err, arith}
use Rattle.std.specs.Prelude.{All, IfOk, IfErr, OnErr, if◌then◌else◌}
use Rattle.std.specs.List.{fold}
use Rattle.std.proofs.lemmas.List.{map-append}
use Rattle.std.proofs.lemmas.List.Elements.{All-nil, All-cons, All-push, filter-append}
use Rattle.std.proofs.lemmas.List.Sums.{fold_push}
use Rattle.access_vectors.specs.Decisions.{Decisions}
use Rattle.access_vectors.specs.Asking.{counted}
use Rattle.access_vectors.specs.Notices.{notice_fault, IsRefusal}
use Rattle.access_vectors.specs.Phases.{number_of, is_pending, noticed, acknowledged}
use Rattle.access_vectors.specs.declared.change.NotifyFault.{NotifyFault}
use Rattle.access_vectors.specs.declared.phase.Phase.{Phase}
use Rattle.access_vectors.specs.declared.phase.Phase.TheVariants.{Settled, Pending}
use Rattle.manager_history.specs.declared.entry.Entry.{Entry}
use Rattle.manager_history.specs.declared.entry.Entry.TheVariants as entry
use Rattle.manager_history.specs.declared.answers.Ack.{Ack}
use Rattle.manager_history.specs.Histories.{acknowledgement}
use Rattle.manager_history.specs.Kept.{ack_answer, is_done}
use Rattle.managed.specs.Seen.{Seen, Turn, IsSame, IsOperation, IsGrown, IsUntried, IsNotified, IsUpdated, IsAcknowledged, IsTriedWhere, IsShownTry, ShowsOlder, answer_of, event_of, acknowledging, acknowledging_item, older_counted, settled_follows}
use Rattle.managed.specs.declared.managed.Event.{Event}
use Rattle.managed.specs.declared.managed.Event.TheVariants as event
use Rattle.managed.specs.declared.managed.Shown.{Shown as Showing}
use Rattle.gate_rule.specs.declared.view.Item.{Item}
use Rattle.gate_rule.specs.History.{is_control, controls, phase_after}
use Rattle.epoch_gate.specs.Seats.{SeatView}
use Rattle.epoch_gate.specs.Known.{seen_by, turns_had, stale_found, stale_left}
use Rattle.managed_run.specs.declared.docket.Opened.{Opened}
use Rattle.managed_run.specs.Kinds.{kind_of, phase_of}
use Rattle.managed_run.specs.Changes.{HasFound, HasNotified, HasTurnedNone, HasAcknowledged, HasCounted, counts_passes, entries_if, item_if, or_none, IsClear}
use Rattle.managed_run.specs.Administering.{showing, last_shown, tries_of, Holding, turn_of, seen_of}

stays_empty : {A : Type 0} (xs ys : List A) → xs ++ ys ≡ xs → ys ≡ []
stays_empty [] ys e = e
stays_empty (x ∷ xs) ys e = stays_empty xs ys (tail_same e)
  where
    tail_same : x ∷ (xs ++ ys) ≡ x ∷ xs → xs ++ ys ≡ xs
    tail_same q = cc

acknowledging_events : (Call Reply : Type 0) (forced b : Bool) (phase : Phase) → map event_of (entries_if b (acknowledgement {Call = Call} {Reply = Reply} forced (number_of phase))) ≡ acknowledging forced phase b
acknowledging_events Call Reply true true phase = refl
acknowledging_events Call Reply false true phase = refl
acknowledging_events Call Reply forced false phase = refl

acknowledging_event : (Call Reply : Type 0) (forced b : Bool) (phase : Phase) → option_map event_of (item_if b (acknowledgement {Call = Call} {Reply = Reply} forced (number_of phase))) ≡ acknowledging_item forced phase b
acknowledging_event Call Reply true true phase = refl
acknowledging_event Call Reply false true phase = refl
acknowledging_event Call Reply forced false phase = refl

module _ {Call Reply : Type 0} where
  -- where nothing is noticed or acknowledged, all are callers' and the phase stays
  rest_operations : (rest : List (Entry Call Reply)) → controls kind_of rest ≡ [] → All IsOperation (map event_of rest)
  rest_operations [] none = All-nil IsOperation
  rest_operations (entry.Op caller mark call number asked reply ∷ rest) none = All-cons IsOperation (event.Operation caller mark number) (map event_of rest) tt (rest_operations rest none)
  rest_operations (entry.Aborted caller mark call number ∷ rest) none = All-cons IsOperation (event.Operation caller mark number) (map event_of rest) tt (rest_operations rest none)
  rest_operations (entry.Notice number version ∷ rest) none = absurd (cc)
  rest_operations (entry.Ack number ∷ rest) none = absurd (cc)
  rest_operations (entry.Forced number ∷ rest) none = absurd (cc)

  rest_phase : (phase : Phase) (rest : List (Entry Call Reply)) → controls kind_of rest ≡ [] → fold (λ p e. phase_after p (kind_of e)) phase rest ≡ phase
  rest_phase phase [] none = refl
  rest_phase phase (entry.Op caller mark call number asked reply ∷ rest) none = rest_phase phase rest none
  rest_phase phase (entry.Aborted caller mark call number ∷ rest) none = rest_phase phase rest none
  rest_phase phase (entry.Notice number version ∷ rest) none = absurd (cc)
  rest_phase phase (entry.Ack number ∷ rest) none = absurd (cc)
  rest_phase phase (entry.Forced number ∷ rest) none = absurd (cc)

  phase_more : (phase : Phase) (xs ys : List (Entry Call Reply)) → fold (λ p e. phase_after p (kind_of e)) phase (xs ++ ys) ≡ fold (λ p e. phase_after p (kind_of e)) (fold (λ p e. phase_after p (kind_of e)) phase xs) ys
  phase_more phase [] ys = refl
  phase_more phase (x ∷ xs) ys = phase_more (phase_after phase (kind_of x)) xs ys

  -- what came between: callers' entries alone
  pub record Between (seen before : List (Entry Call Reply)) : Type 0 where
    pub rest : List (Entry Call Reply)
    pub grown : before ≡ seen ++ rest
    pub none : controls kind_of rest ≡ []

  module _ {D O : Type 0} where
    pub between : (before : List (Entry Call Reply)) (a b : SeatView (Entry Call Reply) D O) → HasFound before a b → Between (seen_by a) before
    between before a b found = record {
      rest = found.begins.0;
      grown = found.begins.1;
      none = stays_empty (controls kind_of (seen_by a)) (controls kind_of found.begins.0)
          (sym (filter-append (λ e. is_control (kind_of e)) (seen_by a) found.begins.0) ∙ (ap (controls kind_of) (sym found.begins.1) ∙ (found.changes ∙ sym found.known)));
    }

  pub phase_between : (seen before : List (Entry Call Reply)) → Between seen before → phase_of before ≡ phase_of seen
  phase_between seen before b = ap phase_of b.grown ∙ (phase_more _ seen b.rest ∙ rest_phase (phase_of seen) b.rest b.none)

  -- a history that grew by callers' entries and then by these
  pub grew : (seen before now added : List (Entry Call Reply)) → Between seen before → now ≡ before ++ added → IsGrown false (map event_of seen) (map event_of now) (map event_of added)
  grew seen before now added b more = record {
    between = map event_of b.rest;
    operations = rest_operations b.rest b.none;
    none = λ is. absurd (cc);
    grown = ap (map event_of) (more ∙ ap (λ (l : List (Entry Call Reply)). l ++ added) b.grown) ∙ (map-append event_of (seen ++ b.rest) added ∙ ap (λ (l : List Event). l ++ map event_of added) (map-append event_of seen b.rest));
  }

  phase_if : (forced b : Bool) (before now : List (Entry Call Reply)) → now ≡ before ++ entries_if b (acknowledgement forced (number_of (phase_of before))) → phase_of now ≡ (if b then acknowledged (phase_of before) else phase_of before)
  phase_if true true before now more = ap phase_of more ∙ phase_more _ before (entry.Forced (number_of (phase_of before)) ∷ [])
  phase_if false true before now more = ap phase_of more ∙ phase_more _ before (entry.Ack (number_of (phase_of before)) ∷ [])
  phase_if forced false before now more = ap phase_of (more ∙ append-nil before)

module _ {E : Type 0} where
  -- one more turn is one more try, and what it showed is shown
  pub tried : (turns turns' : List (Item E)) (item : Item E) → turns' ≡ turns ++ item ∷ [] → tries_of turns' ≡ counted (tries_of turns)
  tried turns turns' item more = ap tries_of more ∙ (let l = length-append turns (item ∷ []) in omega arith)

  pub shown_now : (turns turns' : List (Item E)) (item : Item E) → turns' ≡ turns ++ item ∷ [] → last_shown turns' ≡ showing item
  shown_now turns turns' item more = ap last_shown more ∙ fold_push (λ (before : Showing) (i : Item E). showing i) (record { older = 0; found = 0; left = 0 }) turns item

  pub clear_more : (turns turns' : List (Item E)) (item : Item E) → turns' ≡ turns ++ item ∷ [] → All IsClear turns → IsClear item → All IsClear turns'
  clear_more turns turns' item more all one = subst (All IsClear) (sym more) (All-push IsClear turns item all one)

items_more : {Call Reply : Type 0} (turns turns' : List (Item (Entry Call Reply))) (item : Item (Entry Call Reply)) → turns' ≡ turns ++ item ∷ [] → Some (map turn_of turns') ≡ Some (map turn_of turns ++ turn_of item ∷ [])
items_more {Call} {Reply} turns turns' item more = ap (λ (l : List (Item (Entry Call Reply))). Some (map turn_of l)) more ∙ ap (λ (l : List Turn). Some l) (map-append turn_of turns (item ∷ []))

-- where nothing is pending nothing is done
idle_answer : (phase : Phase) (manager older stale : ℕ) (said : Ack) → said ≡ ack_answer phase manager older stale → is_pending phase ≡ false → is_done said ≡ false
idle_answer (Settled number version) manager older stale said is none = ap is_done is
idle_answer (Pending number before after) manager older stale said is none = absurd (cc)

module _ {Core D Call Reply : Type 0} (decides : D → Decisions) where
  abbrev seen : Holding Core D Call Reply → Seen
  seen = seen_of decides

  same_seen : (old new : Holding Core D Call Reply) → new.site ≡ old.site → IsSame (seen old) (seen new)
  same_seen old new same = record { manager = ap (λ s. s.fixed.opening.manager) same; most = ap (λ s. s.fixed.most) same; versions = ap (λ s. (decides s.fixed.decider).versions) same }

  untried : (old new : Holding Core D Call Reply) (item : Item (Entry Call Reply)) → turns_had new.admin ≡ turns_had old.admin ++ item ∷ [] → IsUntried (seen old) (seen new)
  untried old new item more =
      let one = tried (turns_had old.admin) (turns_had new.admin) item more in
      record { rises = omega (arith, one); tries = λ is. absurd (cc); shown = λ is. absurd (cc) }

  pub notified_seen : (old new : Holding Core D Call Reply) (said : Result ℕ NotifyFault) (version : ℕ) → new.site ≡ old.site
      → IfOk said (λ number. HasNotified (decides old.site.fixed.decider).versions old.site.fixed.most version number old.admin new.admin)
      → IfErr said (IsRefusal (notice_fault (phase_of (seen_by new.admin)) (decides old.site.fixed.decider).versions version old.site.fixed.most))
      → OnErr said (HasTurnedNone old.admin new.admin) → IsNotified version (seen old) (seen new) said
  notified_seen old new (Ok number) version same ok refused err =
      let b = between ok.before old.admin new.admin ok.found in
      let phase = phase_between (seen_by old.admin) ok.before b in record {
        same = same_seen old new same;
        untried = untried old new _ ok.turn;
        answer = record {
          allowed = ap (λ (p : Phase). notice_fault p (decides old.site.fixed.decider).versions version old.site.fixed.most) (sym phase) ∙ ok.allowed;
          number_is = ok.number_is ∙ ap (λ (p : Phase). number_of p + 1) phase;
          phase = ap phase_of ok.seen ∙ (phase_more _ ok.before (entry.Notice number version ∷ []) ∙ ap (λ (p : Phase). noticed p number version) phase);
          history = grew (seen_by old.admin) ok.before (seen_by new.admin) (entry.Notice number version ∷ []) b ok.seen;
          items = (_, refl, items_more (turns_had old.admin) (turns_had new.admin) _ ok.turn);
        };
        older = refl;
        follows = refl;
        stale = refl;
      }
  notified_seen old new (Err fault) version same ok refused err =
      let b = between (seen_by new.admin) old.admin new.admin err.found in
      let phase = phase_between (seen_by old.admin) (seen_by new.admin) b in record {
        same = same_seen old new same;
        untried = untried old new _ err.turn;
        answer = record {
          refused = subst (λ (p : Phase). IsRefusal (notice_fault p (decides old.site.fixed.decider).versions version old.site.fixed.most) fault) phase refused;
          phase = phase;
          history = grew (seen_by old.admin) (seen_by new.admin) (seen_by new.admin) [] b (sym (append-nil (seen_by new.admin)));
          items = inr (_, refl, items_more (turns_had old.admin) (turns_had new.admin) _ err.turn);
        };
        older = refl;
        follows = refl;
        stale = refl;
      }

  pub updated_seen : (old new : Holding Core D Call Reply) (most left : ℕ) → new.site ≡ old.site → HasTurnedNone old.admin new.admin → left ≡ stale_left new.admin → left ≡ stale_found new.admin - min most (stale_found new.admin)
      → IsUpdated most (seen old) (seen new) left
  updated_seen old new most left same turned left_is fewer =
      let b = between (seen_by new.admin) old.admin new.admin turned.found in
      let shown = shown_now (turns_had old.admin) (turns_had new.admin) _ turned.turn in
      let found = ap (λ (s : Showing). s.found) shown in
      let kept = ap (λ (s : Showing). s.left) shown in record {
        same = same_seen old new same;
        tries = tried (turns_had old.admin) (turns_had new.admin) _ turned.turn;
        older_shown = ap (λ (s : Showing). s.older) shown;
        found_shown = tt;
        left_shown = kept ∙ (sym left_is ∙ (fewer ∙ ap (λ (n : ℕ). n - min most n) (sym found)));
        left_is = left_is ∙ sym kept;
        phase = phase_between (seen_by old.admin) (seen_by new.admin) b;
        history = grew (seen_by old.admin) (seen_by new.admin) (seen_by new.admin) [] b (sym (append-nil (seen_by new.admin)));
        items = (_, record { added_is = refl; older_is = refl; found_is = sym found; left_is = sym kept }, items_more (turns_had old.admin) (turns_had new.admin) _ turned.turn);
        older = refl;
        follows = refl;
        stale = refl;
      }

  looked_is : (p : Bool) (older : ℕ) (looked : Option ℕ) (a b : SeatView (Entry Call Reply) D (Opened Core)) → HasCounted p older looked a b → older ≡ or_none looked
  looked_is true older looked a b h = sym (ap or_none h.0)
  looked_is false older looked a b h = h.1 ∙ sym (ap or_none h.0)

  none_looked : (older : ℕ) (looked : Option ℕ) (pending : Bool) (a b : SeatView (Entry Call Reply) D (Opened Core)) → HasCounted (counts_passes pending true) older looked a b → looked ≡ None
  none_looked older looked pending a b h = h.0

  looked_some : (p : Bool) (older : ℕ) (looked : Option ℕ) (a b : SeatView (Entry Call Reply) D (Opened Core)) → p ≡ true → HasCounted p older looked a b → looked ≡ Some older
  looked_some true older looked a b is h = h.0
  looked_some false older looked a b is h = absurd (cc)

  none_older : (older : ℕ) (looked : Option ℕ) (pending : Bool) (a b : SeatView (Entry Call Reply) D (Opened Core)) → HasCounted (counts_passes pending true) older looked a b → older ≡ 0
  none_older older looked pending a b h = h.1

  module _ (forced : Bool) (old new : Holding Core D Call Reply) (said : Ack) (told : HasAcknowledged forced old.site.fixed.opening.manager said old.admin new.admin) where
    came : Between (seen_by old.admin) told.before
    came = between told.before old.admin new.admin told.found

    same_phase : phase_of told.before ≡ phase_of (seen_by old.admin)
    same_phase = phase_between (seen_by old.admin) told.before came

    shown : (seen new).shown ≡ showing (record { entry = item_if (is_done said) (acknowledgement {Call = Call} {Reply = Reply} forced (number_of (phase_of told.before))); looked = told.looked; found = stale_found new.admin; left = stale_left new.admin })
    shown = shown_now (turns_had old.admin) (turns_had new.admin) _ told.turn

    older_is : told.older ≡ (seen new).shown.older
    older_is = looked_is (counts_passes (is_pending (phase_of told.before)) forced) told.older told.looked old.admin new.admin told.counted ∙ sym (ap (λ (s : Showing). s.older) shown)

    none_waited : forced ≡ true → told.older ≡ 0
    none_waited is = none_older told.older told.looked (is_pending (phase_of told.before)) old.admin new.admin
        (subst (λ (f : Bool). HasCounted (counts_passes (is_pending (phase_of told.before)) f) told.older told.looked old.admin new.admin) is told.counted)

    answered : (f : Bool) → forced ≡ f → said ≡ answer_of f (seen old).phase (seen old).manager (seen new).shown
    answered false is = told.answer_is ∙ (λ i. ack_answer (same_phase i) old.site.fixed.opening.manager (older_is i) ((sym (ap (λ (s : Showing). s.found) shown)) i))
    answered true is = told.answer_is ∙ (λ i. ack_answer (same_phase i) old.site.fixed.opening.manager (none_waited is i) ((sym (ap (λ (s : Showing). s.found) shown)) i))

    shows : (f : Bool) → forced ≡ f → ShowsOlder f None (seen new).shown.older
    shows false is = tt
    shows true is = sym older_is ∙ none_waited is

    turn : Turn
    turn = record {
      added = option_map event_of (item_if (is_done said) (acknowledgement {Call = Call} {Reply = Reply} forced (number_of (phase_of told.before))));
      older = told.looked;
      found = stale_found new.admin;
      left = stale_left new.admin;
    }

    items : (seen new).items ≡ Some (map turn_of (turns_had old.admin) ++ turn ∷ [])
    unfolding turn
    items = items_more (turns_had old.admin) (turns_had new.admin) _ told.turn

    turn_added : turn.added ≡ option_map event_of (item_if (is_done said) (acknowledgement {Call = Call} {Reply = Reply} forced (number_of (phase_of told.before))))
    unfolding turn
    turn_added = refl

    counted_older : (f : Bool) → forced ≡ f → is_pending (phase_of (seen_by old.admin)) ≡ true → told.looked ≡ older_counted f (seen new).shown
    counted_older false is pending = looked_some (counts_passes (is_pending (phase_of told.before)) false) told.older told.looked old.admin new.admin (ap is_pending same_phase ∙ pending)
        (subst (λ (f : Bool). HasCounted (counts_passes (is_pending (phase_of told.before)) f) told.older told.looked old.admin new.admin) is told.counted)
        ∙ ap (λ (n : ℕ). Some n) older_is
    counted_older true is pending = none_looked told.older told.looked (is_pending (phase_of told.before)) old.admin new.admin
        (subst (λ (f : Bool). HasCounted (counts_passes (is_pending (phase_of told.before)) f) told.older told.looked old.admin new.admin) is told.counted)

    tried_turn : is_pending (phase_of (seen_by old.admin)) ≡ true → IsShownTry (seen new).shown (acknowledging_item forced (phase_of (seen_by old.admin)) (is_done said)) (older_counted forced (seen new).shown) turn
    unfolding turn
    tried_turn pending = record {
      added_is = acknowledging_event Call Reply forced (is_done said) (phase_of told.before) ∙ ap (λ (p : Phase). acknowledging_item forced p (is_done said)) same_phase;
      older_is = counted_older forced refl pending;
      found_is = sym (ap (λ (s : Showing). s.found) shown);
      left_is = sym (ap (λ (s : Showing). s.left) shown);
    }

    tried_seen : (pending : Bool) → is_pending (phase_of (seen_by old.admin)) ≡ pending → IsTriedWhere pending forced (seen old) (seen new) (is_done said)
    tried_seen false is =
        let none = idle_answer (phase_of told.before) old.site.fixed.opening.manager told.older (stale_found new.admin) said told.answer_is (ap is_pending same_phase ∙ is) in record {
          untried = untried old new _ told.turn;
          items = inr (turn, turn_added ∙ ap (λ (b : Bool). option_map event_of (item_if b (acknowledgement {Call = Call} {Reply = Reply} forced (number_of (phase_of told.before))))) none, items);
        }
    tried_seen true is = record {
      tries = tried (turns_had old.admin) (turns_had new.admin) _ told.turn;
      older_shown = shows forced refl;
      found_shown = tt;
      left_shown = ap (λ (s : Showing). s.left) shown ∙ (told.left ∙ sym (ap (λ (s : Showing). s.found) shown));
      items = (turn, tried_turn is, items);
    }

    follows_none : (b : Bool) → None ≡ settled_follows (phase_of (seen_by old.admin)) b None
    follows_none true = refl
    follows_none false = refl

    pub acknowledged_seen : new.site ≡ old.site → IsAcknowledged forced (seen old) (seen new) said
    acknowledged_seen same = record {
      same = same_seen old new same;
      answer = answered forced refl;
      tried = tried_seen (is_pending (phase_of (seen_by old.admin))) refl;
      phase = phase_if forced (is_done said) told.before (seen_by new.admin) told.seen ∙ ap (λ (p : Phase). if is_done said then acknowledged p else p) same_phase;
      history = subst (λ (l : List Event). IsGrown false (map event_of (seen_by old.admin)) (map event_of (seen_by new.admin)) l)
          (acknowledging_events Call Reply forced (is_done said) (phase_of told.before) ∙ ap (λ (p : Phase). acknowledging forced p (is_done said)) same_phase)
          (grew (seen_by old.admin) told.before (seen_by new.admin) (entries_if (is_done said) (acknowledgement forced (number_of (phase_of told.before)))) came told.seen);
      older = refl;
      follows = follows_none (is_done said);
      stale = refl;
    }

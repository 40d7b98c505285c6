-- What the calls of a manager on one thread do to what the administrator sees.
use Rattle.std.proofs.Common.{◌≡◌, ℕ, ◌+◌, Bool, true, false, List, [], ◌∷◌, ◌++◌, map, length, drop, Option, Some, None, Result, Ok, Err, refl, sym, ap, ◌∙◌, arith, length-drop, append-nil}
use Rattle.std.specs.Prelude.{IfOk, IfErr, OnOk, OnErr, if◌then◌else◌}
use Rattle.std.proofs.lemmas.List.{map-append}
use Rattle.std.proofs.lemmas.List.Elements.{All-nil}
use Rattle.access_vectors.specs.Decisions.{Decisions}
use Rattle.access_vectors.specs.Asking.{counted}
use Rattle.access_vectors.specs.Phases.{number_of, is_pending, noticed, acknowledged}
use Rattle.access_vectors.specs.Stale.{Follows, Pair}
use Rattle.access_vectors.specs.declared.class.Class.{Class}
use Rattle.access_vectors.specs.declared.phase.Phase.{Phase}
use Rattle.access_vectors.specs.declared.phase.Phase.TheVariants.{Settled, Pending}
use Rattle.access_vectors.specs.Notices.{notice_fault, IsRefusal}
use Rattle.manager_history.specs.Kept.{ack_answer, is_done}
use Rattle.manager_history.specs.declared.answers.Ack.{Ack}
use Rattle.access_vectors.specs.declared.change.NotifyFault.{NotifyFault}
use Rattle.manager_history.specs.declared.entry.Entry.{Entry}
use Rattle.manager_history.specs.declared.entry.Entry.TheVariants as entry
use Rattle.managed.specs.Posts.{Post, ManagerView, IsSameManager, IsSameUntried, post_of, stale_on, older_on, notified, updated, settled_if, shown_after, tries_after, added_by}
use Rattle.managed.specs.Seen.{Seen, IsOperation, IsGrown, IsNotified, IsUpdated, IsAcknowledged, IsTriedWhere, ShowsOlder, IsSame, event_of, acknowledging, answer_of, settled_follows}
use Rattle.managed.specs.Administered.{seen_of}
use Rattle.managed.specs.declared.managed.Shown.{Shown}

-- a history with these entries more, and with none between
grown : {Call Reply : Type 0} (alone : Bool) (old new added : List (Entry Call Reply)) → new ≡ old ++ added
    → IsGrown alone (map event_of old) (map event_of new) (map event_of added)
grown alone old new added is = record {
  between = [];
  operations = All-nil IsOperation;
  none = λ _. refl;
  grown = ap (map event_of) is ∙ map-append event_of old added ∙ ap (λ xs. xs ++ map event_of added) (sym (append-nil (map event_of old)));
}

-- a history that stays
stayed : {Call Reply : Type 0} (alone : Bool) (old new : List (Entry Call Reply)) → new ≡ old
    → IsGrown alone (map event_of old) (map event_of new) []
stayed alone old new is = grown alone old new [] (is ∙ sym (append-nil old))

-- how many older passes it waits for
abbrev waited : Bool → ℕ → ℕ
waited forced older = if forced then 0 else older

-- what an acknowledgement shows is what it answers by
answered : (forced : Bool) (phase : Phase) (manager older found : ℕ) (before now : Shown) → now ≡ shown_after phase before (waited forced older) found
    → ack_answer phase manager (waited forced older) found ≡ answer_of forced phase manager now
answered false (Settled number version) manager older found before now is = refl
answered false (Pending number first second) manager older found before now is =
    ap (λ s. ack_answer (Pending number first second) manager s.older s.found) (sym is)
answered true (Settled number version) manager older found before now is = refl
answered true (Pending number first second) manager older found before now is =
    ap (λ s. ack_answer (Pending number first second) manager 0 s.found) (sym is)

-- the older passes that it shows
older_as : (forced : Bool) (older shown : ℕ) (told : Option ℕ) → told ≡ Some older → shown ≡ waited forced older → ShowsOlder forced told shown
older_as false older shown told is shows = rw is shows
older_as true older shown told is shows = shows

-- while a change is pending it is a try
tried_where : (forced : Bool) (phase : Phase) (old new : Seen) (done : Bool) (older : ℕ) (stale : List ℕ)
    → old.phase ≡ phase → old.older ≡ Some older → old.stale ≡ Some stale → old.items ≡ None → new.items ≡ None
    → new.shown ≡ shown_after phase old.shown (waited forced older) (length stale)
    → new.tries ≡ tries_after phase old.tries
    → IsTriedWhere (is_pending phase) forced old new done
tried_where forced (Settled number version) old new done older stale phase_is older_is stale_is items_old items_new shown tries = record {
  untried = record { rises = omega (arith, tries); tries = λ _. tries; shown = λ _. shown };
  items = rw items_old items_new;
}
tried_where forced (Pending number first second) old new done older stale phase_is older_is stale_is items_old items_new shown tries = record {
  tries = tries;
  older_shown = older_as forced older new.shown.older old.older older_is (ap (λ s. s.older) shown);
  found_shown = rw stale_is (ap (λ s. s.found) shown);
  left_shown = ap (λ s. s.left) shown ∙ sym (ap (λ s. s.found) shown);
  items = rw items_old items_new;
}

-- the entries that it adds, as events
added_events : (Call Reply : Type 0) (forced : Bool) (phase : Phase) (done : Bool) → map event_of (added_by {Call = Call} {Reply = Reply} forced phase done) ≡ acknowledging forced phase done
added_events Call Reply forced phase false = refl
added_events Call Reply true phase true = refl
added_events Call Reply false phase true = refl

settled_phase : {State : Type 0} (p : Post State) (done : Bool) → (settled_if p done).phase ≡ (if done then acknowledged p.phase else p.phase)
settled_phase p false = refl
settled_phase p true = refl

settled_slots : {State : Type 0} (p : Post State) (done : Bool) → Some (settled_if p done).follows ≡ settled_follows p.phase done (Some p.follows)
settled_slots p false = refl
settled_slots p true = refl

module _ {Core Decider Call Reply State : Type 0} (decides : Decider → Decisions) (class : Class) (pair_of : State → ℕ → Option Pair)
    (opening state : Core → State) (follows : Core → Follows) where
  abbrev seen : ManagerView Core Decider Call Reply → Seen
  seen = seen_of decides class pair_of state follows

  abbrev post : ManagerView Core Decider Call Reply → Post State
  post = post_of state follows

  abbrev Stays : ManagerView Core Decider Call Reply → ManagerView Core Decider Call Reply → Type 0
  Stays = IsSameManager opening

  same_seen : (old new : ManagerView Core Decider Call Reply) → Stays old new → IsSame (seen old) (seen new)
  same_seen old new stays = record { manager = stays.manager; most = stays.most; versions = ap (λ d. (decides d).versions) stays.decider }

  -- it is the same manager where no change was tried either
  manager : {old new : ManagerView Core Decider Call Reply} → IsSameUntried opening old new → Stays old new
  manager same = record { opened = same.opened; decider = same.decider; manager = same.manager; most = same.most }

  pub noticed_seen : (old new : ManagerView Core Decider Call Reply) (said : Result ℕ NotifyFault) (version : ℕ) → IsSameUntried opening old new
      → IfErr said (IsRefusal (notice_fault old.keeper.phase (decides old.keeper.decider).versions version old.most))
      → OnOk said (notice_fault old.keeper.phase (decides old.keeper.decider).versions version old.most ≡ None)
      → IfOk said (λ number. number ≡ number_of old.keeper.phase + 1)
      → OnOk said (post new ≡ notified (post old) version)
      → IfOk said (λ number. new.keeper.history ≡ old.keeper.history ++ entry.Notice number version ∷ [])
      → OnErr said (new ≡ old)
      → IsNotified version (seen old) (seen new) said
  noticed_seen old new (Err fault) version stays refused allowed number made added as_before = record {
    same = same_seen old new (manager stays);
    untried = record { rises = let same = stays.tries in omega (arith, same); tries = λ _. stays.tries; shown = λ _. stays.shown };
    answer = record {
      refused = refused;
      phase = ap (λ s. s.keeper.phase) as_before;
      history = stayed _ _ _ (ap (λ s. s.keeper.history) as_before);
      items = refl;
    };
    older = refl;
    follows = ap (λ s. Some (post s).follows) as_before;
    stale = refl;
  }
  noticed_seen old new (Ok number) version stays refused allowed number_is made added as_before = record {
    same = same_seen old new (manager stays);
    untried = record { rises = let same = stays.tries in omega (arith, same); tries = λ _. stays.tries; shown = λ _. stays.shown };
    answer = record {
      allowed = allowed;
      number_is = number_is;
      phase = ap (λ p. p.phase) made ∙ ap (λ n. noticed old.keeper.phase n version) (sym number_is);
      history = grown _ _ _ (entry.Notice number version ∷ []) added;
      items = refl;
    };
    older = refl;
    follows = ap (λ p. Some p.follows) made;
    stale = refl;
  }

  pub updated_seen : (old new : ManagerView Core Decider Call Reply) (most left : ℕ) (stale : List ℕ) → Stays old new
      → stale ≡ stale_on (decides old.keeper.decider) class pair_of (post old)
      → left ≡ length (drop most stale)
      → post new ≡ updated (post old) stale most
      → new.shown ≡ record { older = 0; found = length stale; left = length (drop most stale) }
      → stale_on (decides old.keeper.decider) class pair_of (post new) ≡ drop most stale
      → new.tries ≡ counted old.tries
      → new.keeper.history ≡ old.keeper.history
      → IsUpdated most (seen old) (seen new) left
  updated_seen old new most left stale stays stale_is left_is post_is shown remaining tries history_is =
      let found : new.shown.found ≡ length stale = ap (λ s. s.found) shown in
      let left_shown : new.shown.left ≡ length (drop most stale) = ap (λ s. s.left) shown in
      record {
        same = same_seen old new stays;
        tries = tries;
        older_shown = ap (λ s. s.older) shown;
        found_shown = found ∙ ap length stale_is;
        left_shown = left_shown ∙ omega (arith, length-drop most stale, found);
        left_is = left_is ∙ sym left_shown;
        phase = ap (λ p. p.phase) post_is;
        history = stayed _ _ _ history_is;
        items = refl;
        older = ap (λ p. Some (older_on p)) post_is;
        follows = ap (λ p. Some p.follows) post_is ∙ ap (λ s. Some (updated (post old) s most).follows) stale_is;
        stale = ap (λ d. Some (stale_on (decides d) class pair_of (post new))) stays.decider ∙ ap Some remaining ∙ ap (λ s. Some (drop most s)) stale_is;
      }

  pub acknowledged_seen : (forced : Bool) (old new : ManagerView Core Decider Call Reply) (said : Ack) → Stays old new
      → said ≡ ack_answer old.keeper.phase old.keeper.manager (waited forced (older_on (post old))) (length (stale_on (decides old.keeper.decider) class pair_of (post old)))
      → post new ≡ settled_if (post old) (is_done said)
      → new.shown ≡ shown_after old.keeper.phase old.shown (waited forced (older_on (post old))) (length (stale_on (decides old.keeper.decider) class pair_of (post old)))
      → new.tries ≡ tries_after old.keeper.phase old.tries
      → new.keeper.history ≡ old.keeper.history ++ added_by forced old.keeper.phase (is_done said)
      → IsAcknowledged forced (seen old) (seen new) said
  acknowledged_seen forced old new said stays answer post_is shown tries history_is = record {
    same = same_seen old new stays;
    answer = answer ∙ answered forced old.keeper.phase old.keeper.manager _ _ old.shown new.shown shown;
    tried = tried_where forced old.keeper.phase (seen old) (seen new) (is_done said) _ _ refl refl refl refl refl shown tries;
    phase = ap (λ p. p.phase) post_is ∙ settled_phase (post old) (is_done said);
    history = rw (← added_events Call Reply forced old.keeper.phase (is_done said)) (grown true old.keeper.history new.keeper.history _ history_is);
    older = refl;
    follows = ap (λ p. Some p.follows) post_is ∙ settled_slots (post old) (is_done said);
    stale = refl;
  }

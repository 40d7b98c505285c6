-- What the administrator's turns at a station leave of what it knows.
use Rattle.std.proofs.Common.{◌≡◌, ◌≢◌, ℕ, ◌+◌, ◌<◌, ◌≤◌, Bool, true, false, nat_lt, eqb, List, [], ◌∷◌, ◌++◌, length, refl, sym, ap, ◌∙◌, subst, inl, inr, eq-eqb, append-nil, Option, Some, None, arith}
use Rattle.std.specs.Prelude.{All, if◌then◌else◌, IsTrue}
use Rattle.std.proofs.lemmas.List.Elements.{All-push}
use Rattle.std.proofs.lemmas.Bool.Decides.{nat_tests}
use Rattle.access_vectors.specs.Phases.{number_of, settled_number, version_at, is_pending, acknowledged}
use Rattle.access_vectors.specs.Notices.{notice_fault}
use Rattle.access_vectors.specs.declared.change.NotifyFault.TheVariants as faults
use Rattle.access_vectors.specs.declared.phase.Phase.{Phase}
use Rattle.access_vectors.specs.declared.phase.Phase.TheVariants.{Settled, Pending}
use Rattle.manager_history.specs.declared.entry.Entry.{Entry}
use Rattle.manager_history.specs.declared.entry.Entry.TheVariants as entry
use Rattle.manager_history.specs.declared.answers.Ack.{Ack}
use Rattle.manager_history.specs.declared.answers.Ack.TheVariants as acks
use Rattle.manager_history.specs.Histories.{acknowledgement}
use Rattle.manager_history.specs.Kept.{KeeperView, ack_answer, is_done}
use Rattle.gate_rule.specs.declared.view.StepDone.{StepDone}
use Rattle.gate_rule.specs.declared.view.View.{View}
use Rattle.gate_rule.specs.History.{last_notice, Alternates}
use Rattle.gate_rule.specs.History.Kind.{Notice as ANotice, Ack as AnAck}
use Rattle.gate_rule.specs.Views.{leave_word, done, entry_added}
use Rattle.gate_rule.proofs.Histories.{nothing_added, one_added, notice_more}
use Rattle.epoch_gate.specs.Seats.{SeatView}
use Rattle.epoch_gate.specs.Known.{seen_by, seats_made, seats_retired, current_number, current_version, passes_counted, cleared_below, older_shown, stale_found, stale_left, slots_given, turns_had}
use Rattle.epoch_gate.specs.Calls.{ExtendsAsAdmin}
use Rattle.managed_run.specs.Kinds.{kind_of, phase_of}
use Rattle.access_vectors.specs.declared.change.Receipt.{Receipt}
use Rattle.managed_run.specs.Changes.{HasTurned, HasLooked, HasCounted, HasAcknowledged, IsSettled, IsClear, AllFollow, IsCurrent, StaysClear, counts_passes, entries_if, item_if, or_none}
use Rattle.managed_run.proofs.Reading.{newest_is, version_is}

-- why a notice was allowed: nothing is pending, there is such a version, and the number is not the greatest
pub allowed_is : (phase : Phase) (versions version most : ℕ) → notice_fault phase versions version most ≡ None → (is_pending phase ≡ false) × (version < versions) × (number_of phase ≢ most)
allowed_is (Pending pending old new) versions version most none = absurd (cc)
allowed_is (Settled settled old) versions version most none = go (nat_lt version versions) refl (eqb settled most) refl none
  where
    go : (b : Bool) → nat_lt version versions ≡ b → (e : Bool) → eqb settled most ≡ e → (if b then (if e then Some faults.Spent else None) else Some faults.NoVersion) ≡ None
        → (is_pending (Settled settled old) ≡ false) × (version < versions) × (settled ≢ most)
    go true below false apart is = (refl, grind (arith, nat_tests), (λ same. let z = eq-eqb settled most same in absurd (cc)))
    go true below true apart is = absurd (cc)
    go false below e apart is = absurd (cc)

-- what an answer of done says
pub done_means : (phase : Phase) (manager older stale : ℕ) (answer : Ack) → answer ≡ ack_answer phase manager older stale → is_done answer ≡ true → (is_pending phase ≡ true) × (older ≡ 0) × (stale ≡ 0)
done_means (Settled number version) manager older stale answer is finished = let z = ap is_done is in absurd (cc)
done_means (Pending number old new) manager older stale answer is finished = go (nat_lt 0 older) refl (nat_lt 0 stale) refl is
  where
    go : (b : Bool) → nat_lt 0 older ≡ b → (e : Bool) → nat_lt 0 stale ≡ e → answer ≡ (if b then acks.Busy older else (if e then acks.Behind stale else acks.Done (record { manager = manager; number = number })))
        → (is_pending (Pending number old new) ≡ true) × (older ≡ 0) × (stale ≡ 0)
    go false first false second is' = (refl, grind (arith, nat_tests), grind (arith, nat_tests))
    go true first e second is' = let z = ap is_done is' in absurd (cc)
    go false first true second is' = let z = ap is_done is' in absurd (cc)

-- after an acknowledgement nothing is pending
pub rests : (phase : Phase) → is_pending (acknowledged phase) ≡ false
rests (Settled number version) = refl
rests (Pending number old new) = refl

-- a load, named by another word
load_is : (e l : StepDone) (word word' : ℕ) → e ≡ l → l ≡ done word l.found l.found → word ≡ word' → e ≡ done word' e.found e.found
load_is e l word word' same is at = same ∙ (is ∙ (λ i. done (at i) ((sym same i).found) ((sym same i).found)))

module _ {Core Decider Call Reply : Type 0} where
  -- what a history became by an acknowledgement, done or not
  pub grown_if : (answer : Ack) (old new : KeeperView Core Decider Call Reply) (e : Entry Call Reply) → (IsTrue (is_done answer) → new.history ≡ old.history ++ e ∷ []) → (is_done answer ≡ false → new ≡ old)
      → new.history ≡ old.history ++ entries_if (is_done answer) e
  grown_if answer old new e added same = go (is_done answer) added same
    where
      go : (b : Bool) → (IsTrue b → new.history ≡ old.history ++ e ∷ []) → (b ≡ false → new ≡ old) → new.history ≡ old.history ++ entries_if b e
      go true added' same' = added' refl
      go false added' same' = ap (λ (k : KeeperView Core Decider Call Reply). k.history) (same' refl) ∙ sym (append-nil old.history)

module _ {Call Reply : Type 0} where
  -- the entry of an item
  pub item_added : (b : Bool) (seen log log' : List (Entry Call Reply)) (e : Entry Call Reply) → seen ≡ log → log' ≡ log ++ entries_if b e → entry_added seen log' ≡ item_if b e
  item_added true seen log log' e same more = (λ i. entry_added (same i) (more i)) ∙ one_added log e
  item_added false seen log log' e same more = (λ i. entry_added (same i) ((more ∙ append-nil log) i)) ∙ nothing_added log

  module _ {D O : Type 0} where
    -- a history that stayed may be given back
    pub extends_same : (x : SeatView (Entry Call Reply) D O) (log log' : List (Entry Call Reply)) → log' ≡ log → seen_by x ≡ log → last_notice kind_of log ≡ (current_number x, current_version x) → ExtendsAsAdmin kind_of x log'
    extends_same x log log' same seen last = (inl (same ∙ sym seen), ap (last_notice kind_of) same ∙ last)

    -- and so may one that grew by the notice of the number that was raised
    pub extends_notice : (x : SeatView (Entry Call Reply) D O) (log log' : List (Entry Call Reply)) (number version : ℕ) → log' ≡ log ++ entry.Notice number version ∷ [] → seen_by x ≡ log → number ≡ current_number x → version ≡ current_version x
        → ExtendsAsAdmin kind_of x log'
    extends_notice x log log' number version more seen same at = (
      inr (entry.Notice number version, more ∙ ap (λ (l : List (Entry Call Reply)). l ++ entry.Notice number version ∷ []) (sym seen), inl (λ i. ANotice (same i) (at i))),
      ap (last_notice kind_of) more ∙ (notice_more kind_of log (entry.Notice number version) ∙ (λ i. (same i, at i))),
    )

    -- and one that an acknowledgement left
    pub extends_ack : (b forced : Bool) (x : SeatView (Entry Call Reply) D O) (log log' : List (Entry Call Reply)) (number : ℕ) → log' ≡ log ++ entries_if b (acknowledgement forced number) → seen_by x ≡ log
        → last_notice kind_of log ≡ (current_number x, current_version x) → number ≡ current_number x → (b ≡ true → forced ≡ false → cleared_below x ≡ current_number x) → ExtendsAsAdmin kind_of x log'
    extends_ack false forced x log log' number more seen last same cleared = extends_same x log log' (more ∙ append-nil log) seen last
    extends_ack true forced x log log' number more seen last same cleared = go forced more (cleared refl)
      where
        go : (f : Bool) → log' ≡ log ++ acknowledgement f number ∷ [] → (f ≡ false → cleared_below x ≡ current_number x) → ExtendsAsAdmin kind_of x log'
        go true more' clear = (
          inr (entry.Forced number, more' ∙ ap (λ (l : List (Entry Call Reply)). l ++ entry.Forced number ∷ []) (sym seen), inr (inl (ap (λ (n : ℕ). AnAck n true) same))),
          ap (last_notice kind_of) more' ∙ (notice_more kind_of log (entry.Forced number) ∙ last),
        )
        go false more' clear = (
          inr (entry.Ack number, more' ∙ ap (λ (l : List (Entry Call Reply)). l ++ entry.Ack number ∷ []) (sym seen), inr (inr (ap (λ (n : ℕ). AnAck n false) same, clear refl))),
          ap (last_notice kind_of) more' ∙ (notice_more kind_of log (entry.Ack number) ∙ last),
        )

    -- the item of a turn, with its parts as they are known
    pub turned : (a x b : SeatView (Entry Call Reply) D O) (log : List (Entry Call Reply)) (l : ℕ) (added : Option (Entry Call Reply)) (looked : Option ℕ)
        → turns_had b ≡ turns_had x ++ (record { entry = entry_added x.view.seen log; looked = x.view.admin_view.looked; found = x.view.admin_view.found; left = l }) ∷ []
        → turns_had x ≡ turns_had a → entry_added (seen_by x) log ≡ added → older_shown x ≡ looked → stale_found b ≡ stale_found x → stale_left b ≡ l → HasTurned added looked a b
    turned a x b log l added looked gave same entry_is looked_is found left = gave ∙ (λ i. same i ++ (record { entry = entry_is i; looked = looked_is i; found = sym found i; left = sym left i }) ∷ [])

    -- what counting showed, said of the administrator before the turn and after it
    pub counted_by : (p : Bool) (older : ℕ) (a w x b : SeatView (Entry Call Reply) D O) → HasLooked p older w x → older_shown w ≡ None → current_number w ≡ current_number a → passes_counted w ≡ passes_counted a
        → seats_made w ≡ seats_made a → seats_retired w ≡ seats_retired a → b.view.trace.earlier ≡ x.view.trace.last → HasCounted p older (older_shown x) a b
    counted_by true older a w x b h none number passes made retired trace = (
      h.2,
      load_is b.view.trace.earlier x.view.trace.last _ _ trace (ap (λ (v : View (Entry Call Reply) D O). v.trace.last) h.0) (ap (λ (n : ℕ). leave_word (n + 1)) number),
      ap (λ (s : StepDone). older + s.found) trace ∙ (h.1 ∙ passes),
      subst (λ (n : ℕ). older + length (seats_retired a) ≤ n) made (subst (λ (l : _). older + length l ≤ seats_made w) retired h.4),
    )
    counted_by false older a w x b h none number passes made retired trace = (ap (λ (s : SeatView (Entry Call Reply) D O). older_shown s) h.1 ∙ none, h.0)

    -- where one that counts is done, nothing older is left
    pub cleared_by : (p : Bool) (older : ℕ) (w x : SeatView (Entry Call Reply) D O) → HasLooked p older w x → p ≡ true → older ≡ 0 → cleared_below x ≡ current_number w
    cleared_by true older w x h is none = h.3 none
    cleared_by false older w x h is none = absurd (cc)

-- an acknowledgement, done or not, leaves the last notice
pub last_ack : {Call Reply : Type 0} (b forced : Bool) (log log' : List (Entry Call Reply)) (number : ℕ) → log' ≡ log ++ entries_if b (acknowledgement forced number) → last_notice kind_of log' ≡ last_notice kind_of log
last_ack false forced log log' number more = ap (last_notice kind_of) (more ∙ append-nil log)
last_ack true true log log' number more = ap (last_notice kind_of) more ∙ notice_more kind_of log (entry.Forced number)
last_ack true false log log' number more = ap (last_notice kind_of) more ∙ notice_more kind_of log (entry.Ack number)

module _ {Call Reply D O : Type 0} where
  -- the current number is the newest of the history given back
  pub current_is : (versions : ℕ) (log : List (Entry Call Reply)) → Alternates kind_of versions 0 0 log → (b : SeatView (Entry Call Reply) D O) → seen_by b ≡ log
      → last_notice kind_of log ≡ (current_number b, current_version b) → IsCurrent b
  current_is versions log alternates b seen last = record {
    number = sym (ap (λ (p : ℕ × ℕ). p.0) last) ∙ (newest_is kind_of versions log alternates ∙ ap (λ (l : List (Entry Call Reply)). number_of (phase_of l)) (sym seen));
    version = sym (ap (λ (p : ℕ × ℕ). p.1) last) ∙ (version_is kind_of versions log alternates ∙ (λ i. version_at (phase_of (sym seen i)) ((last i).0)));
  }

  -- where no seat is made no older pass is counted
  pub none_counted : (p : Bool) (older : ℕ) (looked : Option ℕ) (a b : SeatView (Entry Call Reply) D O) → HasCounted p older looked a b → seats_made a ≡ 0 → or_none looked ≡ 0
  none_counted true older looked a b h none = ap or_none h.0 ∙ (let few = h.3 in omega (arith, few, none))
  none_counted false older looked a b h none = ap or_none h.0

  -- one more turn that is clear
  pub stays_clear : (added : Option (Entry Call Reply)) (looked : Option ℕ) (a b : SeatView (Entry Call Reply) D O) → HasTurned added looked a b → (seats_made a ≡ 0 → stale_found b ≡ 0) → (seats_made a ≡ 0 → or_none looked ≡ 0) → StaysClear a b
  stays_clear added looked a b turn found older = λ none clear.
      subst (All IsClear) (sym turn) (All-push IsClear (turns_had a) (record { entry = added; looked = looked; found = stale_found b; left = stale_left b }) clear (record { found = found none; older = older none }))

-- where nothing is pending the settled number is the newest
pub same_number : (phase : Phase) → is_pending phase ≡ false → settled_number phase ≡ number_of phase
same_number (Settled number version) is = refl
same_number (Pending number old new) is = absurd (cc)

pub below : (n most : ℕ) → n ≤ most → n ≢ most → n < most
below n most le apart = omega arith

-- what an answer of done is
receipt_is : (phase : Phase) (manager older stale : ℕ) (receipt : Receipt) → acks.Done receipt ≡ ack_answer phase manager older stale → (receipt.manager ≡ manager) × (number_of phase ≡ receipt.number)
receipt_is (Settled number version) manager older stale receipt is = absurd (cc)
receipt_is (Pending number old new) manager older stale receipt is = go (nat_lt 0 older) (nat_lt 0 stale) is
  where
    go : (b e : Bool) → acks.Done receipt ≡ (if b then acks.Busy older else (if e then acks.Behind stale else acks.Done (record { manager = manager; number = number }))) → (receipt.manager ≡ manager) × (number ≡ receipt.number)
    go true e same = absurd (cc)
    go false true same = absurd (cc)
    go false false same = let one : receipt ≡ record { manager = manager; number = number } = cc in (ap (λ (r : Receipt). r.manager) one, sym (ap (λ (r : Receipt). r.number) one))

module _ {Call Reply D O : Type 0} where
  looked_by : (forced pending : Bool) (older : ℕ) (looked : Option ℕ) (a b : SeatView (Entry Call Reply) D O) → HasCounted (counts_passes pending forced) older looked a b → pending ≡ true → older ≡ 0 → looked ≡ (if forced then None else Some 0)
  looked_by true pending older looked a b h is none = h.0
  looked_by false true older looked a b h is none = h.0 ∙ ap (λ (n : ℕ). Some n) none
  looked_by false false older looked a b h is none = absurd (cc)

  -- what is known where it is done
  pub settled_of : (forced : Bool) (manager : ℕ) (answer : Ack) (a b : SeatView (Entry Call Reply) D O) → HasAcknowledged forced manager answer a b → IsSettled forced manager answer a b
  settled_of forced manager (acks.Busy older) a b told = tt
  settled_of forced manager (acks.Behind left) a b told = tt
  settled_of forced manager acks.Idle a b told = tt
  settled_of forced manager (acks.Done receipt) a b told =
      let means = done_means (phase_of told.before) manager told.older (stale_found b) (acks.Done receipt) told.answer_is refl in
      let named = receipt_is (phase_of told.before) manager told.older (stale_found b) receipt told.answer_is in
      let looked = looked_by forced (is_pending (phase_of told.before)) told.older told.looked a b told.counted means.0 means.1 in (
        named.0,
        record {
          before = told.before;
          begins = told.found.begins;
          pending = means.0;
          number_is = named.1;
          seen = told.seen ∙ (λ i. told.before ++ acknowledgement forced (named.1 i) ∷ []);
          turn = told.turn ∙ (λ i. turns_had a ++ (record { entry = Some (acknowledgement forced (named.1 i)); looked = looked i; found = means.2 i; left = (told.left ∙ means.2) i }) ∷ []);
          cleared = λ plain. told.cleared plain refl ∙ named.1;
          follow = subst (λ (n : ℕ). AllFollow n (slots_given b)) named.1 (told.given refl);
        },
      )

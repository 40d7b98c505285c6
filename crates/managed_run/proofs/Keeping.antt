-- That a keeper, after it was worked with under a turn, still is one of its station.
use Rattle.std.proofs.Common.{◌≡◌, ℕ, Bool, true, false, List, [], ◌∷◌, ◌++◌, refl, sym, ap, ◌∙◌, subst, eq-eqb, map, length, Option, arith}
use Rattle.std.specs.Prelude.{if◌then◌else◌, Result, Ok, Err, OnOk, OnErr, IsTrue}
use Rattle.std.specs.List.{filter}
use Rattle.std.specs.FinMap as maps
use Rattle.access_vectors.specs.Decisions.{Decisions}
use Rattle.access_vectors.specs.Forced.{is_aborted}
use Rattle.access_vectors.specs.Mapped.{entries_mapped, mapped}
use Rattle.access_vectors.proofs.MappedLemmas.{entries-mapped}
use Rattle.access_vectors.specs.Phases.{is_pending}
use Rattle.access_vectors.specs.Stale.{Follows, Pair, AreNamed, stale_slots, is_stale_pair, all_following}
use Rattle.access_vectors.specs.declared.class.Class.{Class}
use Rattle.access_vectors.specs.declared.phase.Phase.{Phase}
use Rattle.access_vectors.specs.declared.phase.Phase.TheVariants.{Settled, Pending}
use Rattle.flask_sid.specs.declared.memory.Memory.{Memory}
use Rattle.manager_history.specs.declared.entry.Entry.{Entry}
use Rattle.manager_history.specs.declared.entry.Entry.TheVariants as entry
use Rattle.manager_history.specs.Answers.{Manager}
use Rattle.manager_history.specs.Histories.{Moment, moment, start_of, replay, greatest_forced, answer_at, entry_at, operation, IsLawful}
use Rattle.manager_history.specs.declared.answers.Ack.{Ack}
use Rattle.manager_history.specs.Kept.{KeeperView, stale_in, is_done}
use Rattle.gate_rule.specs.History.{is_by, of_caller, StartsWith}
use Rattle.gate_rule.specs.History.Kind.{Call as ACall}
use Rattle.gate_rule.proofs.Histories.{of_caller_own, of_caller_other}
use Rattle.gate_rule.specs.Told.{LearnsAdmin}
use Rattle.epoch_gate.specs.Seats.{SeatView}
use Rattle.epoch_gate.specs.Known.{seen_by, stale_found}
use Rattle.std.proofs.lemmas.List.Elements.{All-nil, All-cons}
use Rattle.managed_run.specs.Changes.{HasFound, AllFollow}
use Rattle.managed_run.specs.Kinds.{kind_of, IsUncalled}
use Rattle.managed_run.specs.Dockets.{IsFrom}
use Rattle.managed_run.proofs.Reading.{phase_replayed}

-- the lawfulness of a history, from an equal opening under an equal decider
pub promised : {Call Reply State Decider : Type 0} (plain : Manager Call Reply State) (formed : Decisions → State → ℕ → Call → Type 0) (decides : Decider → Decisions)
    (d d' : Decider) (o o' : State) (log : List (Entry Call Reply)) → d ≡ d' → o ≡ o' → IsLawful plain formed (decides d) (start_of o) log → IsLawful plain formed (decides d') (start_of o') log
promised plain formed decides d d' o o' log same opened lawful =
    subst (λ (x : _). IsLawful plain formed (decides x) (start_of o') log) same (subst (λ (x : _). IsLawful plain formed (decides d) (start_of x) log) opened lawful)

module _ {Core Decider Call Reply State : Type 0} (plain : Manager Call Reply State) (d : Decisions) (class : Class)
    (pair_of : State → ℕ → Option Pair) (opening state : Core → State) (follows : Core → Follows) (stale : Core → List ℕ) where
  -- what the keeper's own reader tells of it
  pub from_entries : (first : Core) (now : KeeperView Core Decider Call Reply) → opening now.core ≡ opening first
      → replay plain d (start_of (opening now.core)) now.history ≡ moment (state now.core) now.phase (greatest_forced now.history)
      → stale now.core ≡ stale_in d class pair_of state follows now → AreNamed now.phase (follows now.core)
      → (IsUncalled now.history → maps.entries (follows now.core) ≡ [])
      → IsFrom plain d class pair_of opening state follows stale first now
  from_entries first now opened replayed stale_is named unused = record {
    opened = opened;
    phase = sym (ap (λ (m : Moment State). m.phase) replayed) ∙ phase_replayed plain d (opening now.core) now.history;
    state_is = ap (λ (o : State). (replay plain d (start_of o) now.history).state) (sym opened) ∙ ap (λ (m : Moment State). m.state) replayed;
    stale_is = stale_is;
    named = named;
    unused = unused;
  }

-- a list that ends is not empty
not_none : {A : Type 0} (xs : List A) (x : A) → xs ++ x ∷ [] ≡ [] → ⊥
not_none [] x e = cc
not_none (y ∷ ys) x e = cc

module _ {Call Reply : Type 0} where
  -- a history that ends with a caller's entry has one
  pub called : (log log' : List (Entry Call Reply)) (e : Entry Call Reply) (n mark number : ℕ) → kind_of e ≡ ACall n mark number → log' ≡ log ++ e ∷ [] → IsUncalled log' → ⊥
  called log log' e n mark number is more none =
      not_none (of_caller kind_of n log) e
      (sym (of_caller_own kind_of n log e (ap (is_by n) is ∙ eq-eqb n n refl)) ∙ (ap (of_caller kind_of n) (sym more) ∙ none n))

  -- what is added that is no caller's changes nothing for callers
  pub uncalled_before : (log log' : List (Entry Call Reply)) (e : Entry Call Reply) → ((n : ℕ) → is_by n (kind_of e) ≡ false) → log' ≡ log ++ e ∷ [] → IsUncalled log' → IsUncalled log
  uncalled_before log log' e other more none = λ n. sym (of_caller_other kind_of n log e (other n)) ∙ (ap (of_caller kind_of n) (sym more) ∙ none n)

  -- the entry of a call is the caller's
  pub entry_kind : {State : Type 0} (plain : Manager Call Reply State) (d : Decisions) (state : State) (phase : Phase) (caller mark : ℕ) (call : Call) (number : ℕ)
      → kind_of (entry_at plain d state phase caller mark call number) ≡ ACall caller mark number
  entry_kind plain d state phase caller mark call number = go (is_aborted phase number)
    where
      go : (b : Bool) → kind_of (if b then entry.Aborted caller mark call number else operation caller mark call number (answer_at plain d state phase caller call number)) ≡ ACall caller mark number
      go true = refl
      go false = refl

  module _ {Core Decider : Type 0} (follows : Core → Follows) where
    -- after a call, done or wanting memory, no slot is used where no caller has called
    pub unused_either : {R : Type 0} (r : Result R Memory) (old new : KeeperView Core Decider Call Reply) (e : Entry Call Reply) (n mark number : ℕ) → kind_of e ≡ ACall n mark number
        → OnOk r (new.history ≡ old.history ++ e ∷ []) → OnErr r (new ≡ old)
        → (IsUncalled old.history → maps.entries (follows old.core) ≡ []) → IsUncalled new.history → maps.entries (follows new.core) ≡ []
    unused_either (Ok x) old new e n mark number is added same unused none = absurd (called old.history new.history e n mark number is added none)
    unused_either (Err x) old new e n mark number is added same unused none =
        ap (λ (k : KeeperView Core Decider Call Reply). maps.entries (follows k.core)) same ∙ unused (subst (λ (k : KeeperView Core Decider Call Reply). IsUncalled k.history) same none)

-- a map with no entries has none after each value was replaced
pub unused_mapped : (f : ℕ → ℕ → ℕ) (m : Follows) → maps.entries m ≡ [] → maps.entries (mapped f m) ≡ []
unused_mapped f m none = entries-mapped f m ∙ ap (entries_mapped f) none

follow_each : (number : ℕ) (es : List (ℕ × ℕ)) → AllFollow number (entries_mapped (λ place before. number) es)
follow_each number [] = All-nil (λ slot. slot.1 ≡ number)
follow_each number (e ∷ es) = All-cons (λ slot. slot.1 ≡ number) (e.0, number) (entries_mapped (λ place before. number) es) refl (follow_each number es)

-- where each slot was let follow a number, each follows it
pub all_follow : (number : ℕ) (m : Follows) → AllFollow number (maps.entries (all_following number m))
all_follow number m = subst (AllFollow number) (sym (entries-mapped (λ place before. number) m)) (follow_each number (maps.entries m))

-- where no slot is used none is stale
none_stale : (d : Decisions) (class : Class) (phase : Phase) (pair_of : ℕ → Option Pair) (follows : Follows) → maps.entries follows ≡ [] → stale_slots d class phase pair_of follows ≡ []
none_stale d class phase pair_of follows none = ap (λ (es : List (ℕ × ℕ)). filter (λ place. is_stale_pair d class phase (pair_of place) (maps.get follows place)) (map (λ e. e.0) es)) none

filter_none : (xs : List ℕ) → filter (λ x. false) xs ≡ []
filter_none [] = refl
filter_none (x ∷ xs) = filter_none xs

-- where nothing is pending none is stale
pub settled_stale : (d : Decisions) (class : Class) (phase : Phase) (pair_of : ℕ → Option Pair) (follows : Follows) → is_pending phase ≡ false → stale_slots d class phase pair_of follows ≡ []
settled_stale d class (Settled number version) pair_of follows is = filter_none (maps.keys follows)
settled_stale d class (Pending number old new) pair_of follows is = absurd (cc)

module _ {Core Decider Call Reply State D O : Type 0} (plain : Manager Call Reply State) (d : Decisions) (class : Class)
    (pair_of : State → ℕ → Option Pair) (opening state : Core → State) (follows : Core → Follows) (stale : Core → List ℕ) where
  -- what a turn of the administrator found
  pub found_by : (first : Core) (now : KeeperView Core Decider Call Reply) → IsFrom plain d class pair_of opening state follows stale first now → (a b : SeatView (Entry Call Reply) D O)
      → StartsWith now.history (seen_by a) × LearnsAdmin kind_of a.view.admin_view (seen_by a) now.history → stale_found b ≡ length (stale now.core) → HasFound now.history a b
  found_by first now from a b learns found = record {
    begins = learns.0;
    changes = learns.1.controls_are;
    known = learns.1.known;
    clear = λ none. found ∙ ap length (from.stale_is ∙ none_stale d class now.phase (pair_of (state now.core)) (follows now.core) (from.unused (λ n. learns.1.unmade n (omega arith))));
    rests = λ is. found ∙ ap length (from.stale_is ∙ settled_stale d class now.phase (pair_of (state now.core)) (follows now.core) (ap is_pending from.phase ∙ is));
  }

module _ {Core Decider Call Reply : Type 0} where
  -- after an acknowledgement, done or not, no slot is used where no caller has called
  pub unused_ack : (follows : Core → Follows) (answer : Ack) (old new : KeeperView Core Decider Call Reply) (number : ℕ) (e : Entry Call Reply) → ((n : ℕ) → is_by n (kind_of e) ≡ false)
      → (IsTrue (is_done answer) → new.history ≡ old.history ++ e ∷ []) → (is_done answer ≡ false → new ≡ old) → (IsTrue (is_done answer) → follows new.core ≡ all_following number (follows old.core))
      → (IsUncalled old.history → maps.entries (follows old.core) ≡ []) → IsUncalled new.history → maps.entries (follows new.core) ≡ []
  unused_ack follows answer old new number e other added same settled unused none = go (is_done answer) added same settled
    where
      go : (b : Bool) → (IsTrue b → new.history ≡ old.history ++ e ∷ []) → (b ≡ false → new ≡ old) → (IsTrue b → follows new.core ≡ all_following number (follows old.core)) → maps.entries (follows new.core) ≡ []
      go true added' same' settled' = ap maps.entries (settled' refl) ∙ unused_mapped _ (follows old.core) (unused (uncalled_before old.history new.history e other (added' refl) none))
      go false added' same' settled' = ap (λ (k : KeeperView Core Decider Call Reply). maps.entries (follows k.core)) (same' refl) ∙ unused (subst (λ (k : KeeperView Core Decider Call Reply). IsUncalled k.history) (same' refl) none)

  -- an acknowledgement leaves as many slots stale as were
  pub left_is : (stale : Core → List ℕ) (answer : Ack) (old new : KeeperView Core Decider Call Reply) → (is_done answer ≡ false → new ≡ old) → (is_done answer ≡ true → stale new.core ≡ []) → (is_done answer ≡ true → length (stale old.core) ≡ 0)
      → length (stale new.core) ≡ length (stale old.core)
  left_is stale answer old new same none found = go (is_done answer) same none found
    where
      go : (b : Bool) → (b ≡ false → new ≡ old) → (b ≡ true → stale new.core ≡ []) → (b ≡ true → length (stale old.core) ≡ 0) → length (stale new.core) ≡ length (stale old.core)
      go true same' none' found' = ap length (none' refl) ∙ sym (found' refl)
      go false same' none' found' = ap (λ (k : KeeperView Core Decider Call Reply). length (stale k.core)) (same' refl)

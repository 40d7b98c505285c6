-- What a caller's turn at a station leaves of its seat.
use Rattle.std.proofs.Common.{◌≡◌, ℕ, Bool, true, false, List, [], ◌∷◌, ◌++◌, map, refl, sym, ap, ◌∙◌, subst, inl, inr, eq-eqb, Option, Some}
use Rattle.std.specs.Prelude.{if◌then◌else◌, Result, Ok, Err, OnOk, OnErr}
use Rattle.std.specs.FinMap as maps
use Rattle.access_vectors.specs.Decisions.{Decisions}
use Rattle.access_vectors.specs.Asking.{with_keys_of}
use Rattle.access_vectors.specs.Forced.{is_aborted}
use Rattle.access_vectors.specs.Stale.{Follows, AreNamed, is_use_following}
use Rattle.access_vectors.specs.declared.asked.Asked.{Asked}
use Rattle.access_vectors.specs.declared.phase.Phase.{Phase}
use Rattle.flask_sid.specs.declared.memory.Memory.{Memory}
use Rattle.manager_history.specs.declared.entry.Entry.{Entry}
use Rattle.manager_history.specs.declared.entry.Entry.TheVariants.{Op, Aborted}
use Rattle.manager_history.specs.declared.answers.Answer.{Answer as Said}
use Rattle.manager_history.specs.declared.answers.Answer.TheVariants as saying
use Rattle.manager_history.specs.Answers.{Answer, Manager}
use Rattle.manager_history.specs.Histories.{answer_at, said_at, entry_at, operation}
use Rattle.manager_history.specs.Kept.{KeeperView}
use Rattle.managed.specs.Posts.{last_asked}
use Rattle.managed.proofs.AskedLemmas.{last_added}
use Rattle.gate_rule.specs.declared.view.Role.TheVariants.{Caller}
use Rattle.gate_rule.specs.declared.view.Pass.TheVariants.{Inside}
use Rattle.gate_rule.specs.declared.view.Key.{Key}
use Rattle.gate_rule.specs.declared.view.Item.{Item}
use Rattle.gate_rule.specs.declared.view.Trace.{Trace}
use Rattle.gate_rule.specs.History.{is_by, of_caller, StartsWith}
use Rattle.gate_rule.specs.History.Kind.{Call as ACall}
use Rattle.gate_rule.specs.Told.{Grows}
use Rattle.gate_rule.specs.Tickets.{word_of}
use Rattle.gate_rule.specs.Views.{caller_of, one_more, done, traced, entry_added}
use Rattle.gate_rule.proofs.Histories.{of_caller_own}
use Rattle.epoch_gate.specs.Seats.{SeatView}
use Rattle.epoch_gate.specs.Known.{seen_by, own_entries, caller_number, pass_held, pass_number, keys_served, slots_followed, turns_had, found_last}
use Rattle.epoch_gate.specs.Calls.{HasWaited, HasHadTurn}
use Rattle.avc_rows.specs.Checks.{as_asked}
use Rattle.managed_run.specs.Kinds.{kind_of, phase_of}
use Rattle.managed_run.specs.Calls.{HasAdded, HasAnswered, HasAddedNone, operation_of, aborted_of}

module _ {Call Reply D O : Type 0} where
  -- a history that grew by the seat's own entry, or for want of memory stayed, may be given back
  pub extends_either : {Core Decider R : Type 0} (r : Result R Memory) (w : SeatView (Entry Call Reply) D O) (old new : KeeperView Core Decider Call Reply) (e : Entry Call Reply) (n mark number version : ℕ)
      → kind_of e ≡ ACall n mark number → OnOk r (new.history ≡ old.history ++ e ∷ []) → OnErr r (new ≡ old) → seen_by w ≡ old.history → w.view.role ≡ Caller n → pass_held w ≡ Inside number version
      → Grows kind_of w.view (Caller (caller_number w)) new.history
  extends_either (Ok x) w old new e n mark number version is added same seen role pass =
      inr (e, added ∙ ap (λ (l : List (Entry Call Reply)). l ++ e ∷ []) (sym seen), (mark, number, version, pass, is ∙ ap (λ (c : ℕ). ACall c mark number) (sym (ap caller_of role))))
  extends_either {Core} {Decider} (Err x) w old new e n mark number version is added same seen role pass = inl (ap (λ (k : KeeperView Core Decider Call Reply). k.history) same ∙ sym seen)

  -- the turn of a call: drawn, waited for, and passed on once
  pub had_turn : (s w x t : SeatView (Entry Call Reply) D O) (log : List (Entry Call Reply)) (l : ℕ) → HasWaited s w → turns_had w ≡ turns_had s → turns_had x ≡ turns_had w
      → turns_had t ≡ turns_had x ++ (record { entry = entry_added x.view.seen log; looked = x.view.admin_view.looked; found = x.view.admin_view.found; left = l }) ∷ []
      → t.view.trace ≡ traced x.view.trace (done 4 (found_last t) (one_more (found_last t))) → HasHadTurn s t
  had_turn s w x t log l waited took asked gave trace =
      let item : Item (Entry Call Reply) = record { entry = entry_added x.view.seen log; looked = x.view.admin_view.looked; found = x.view.admin_view.found; left = l } in record {
        ticket = word_of w.view.ticket;
        taken = w.view.trace;
        waited = waited;
        item = item;
        once = gave ∙ ap (λ (l : List (Item (Entry Call Reply))). l ++ item ∷ []) (asked ∙ took);
        passed = ap (λ (z : Trace). z.last) trace;
      }

  -- nothing was added
  pub added_none : (s t : SeatView (Entry Call Reply) D O) (log log' : List (Entry Call Reply)) (n : ℕ) → StartsWith log (seen_by s) → log' ≡ log → seen_by t ≡ log'
      → own_entries s ≡ of_caller kind_of n log → own_entries t ≡ of_caller kind_of n log' → HasAddedNone s t
  added_none s t log log' n begins same seen own own' = record {
    begins = subst (λ (l : List (Entry Call Reply)). StartsWith l (seen_by s)) (sym (seen ∙ same)) begins;
    mine = own' ∙ (ap (of_caller kind_of n) same ∙ sym own);
  }

module _ {Call Reply State : Type 0} (plain : Manager Call Reply State) (d : Decisions) (state : State) (phase : Phase) (caller mark : ℕ) (call : Call) (number : ℕ) where
  abbrev pub answer : Answer Reply State
  answer = answer_at plain d state phase caller call number

  abbrev pub said_if : Bool → Said Reply
  said_if b = if b then saying.Aborted else saying.Did answer.reply

  abbrev pub entry_if : Bool → Entry Call Reply
  entry_if b = if b then Aborted caller mark call number else operation caller mark call number answer

  abbrev pub asked_if : Bool → List Asked
  asked_if b = if b then [] else answer.asked

  -- what the newest entry asked, below a call
  pub asked_by : (log log' : List (Entry Call Reply)) → log' ≡ log ++ entry_at plain d state phase caller mark call number ∷ [] → last_asked log' ≡ asked_if (is_aborted phase number)
  unfolding last_asked
  asked_by log log' more = go (is_aborted phase number) more
    where
      go : (b : Bool) → log' ≡ log ++ entry_if b ∷ [] → last_asked log' ≡ asked_if b
      go true is = rw (is, last_added log (entry_if true)) refl
      go false is = rw (is, last_added log (entry_if false)) refl

  module _ {D O : Type 0} (use_of : ℕ → Call → Option ℕ) (s t : SeatView (Entry Call Reply) D O) (log log' : List (Entry Call Reply)) (begins : StartsWith log (seen_by s)) (phase_is : phase ≡ phase_of log) (seen : seen_by t ≡ log')
      (own : own_entries s ≡ of_caller kind_of caller log) (own' : own_entries t ≡ of_caller kind_of caller log') (caller_is : caller_number s ≡ caller) (number_is : pass_number s ≡ number) where
    abbrev grew : (e e' : Entry Call Reply) → kind_of e ≡ ACall caller mark number → log' ≡ log ++ e ∷ [] → e ≡ e' → HasAdded e' s t
    grew e e' is more same = record {
      before = log;
      begins = begins;
      seen = seen ∙ (more ∙ ap (λ (x : Entry Call Reply). log ++ x ∷ []) same);
      mine = own' ∙ (ap (of_caller kind_of caller) more ∙ (of_caller_own kind_of caller log e (ap (is_by caller) is ∙ eq-eqb caller caller refl)
          ∙ (ap (λ (l : List (Entry Call Reply)). l ++ e ∷ []) (sym own) ∙ ap (λ (x : Entry Call Reply). own_entries s ++ x ∷ []) same)));
    }

    module _ (follows : Follows) (taken : slots_followed t ≡ maps.entries follows) (named : AreNamed phase follows) where
      go : (b : Bool) → is_aborted phase number ≡ b → (said : Said Reply) → said ≡ said_if b → log' ≡ log ++ entry_if b ∷ [] → (b ≡ true → keys_served t ≡ keys_served s)
          → (b ≡ false → Some (map as_asked (keys_served t)) ≡ (if is_use_following (use_of caller call) follows number then Some (map as_asked (keys_served s)) else with_keys_of (Some (map as_asked (keys_served s))) answer.asked))
          → HasAnswered use_of mark call said (asked_if b) s t
      go true below said is more kept served = subst (λ (x : Said Reply). HasAnswered use_of mark call x [] s t) (sym is) (record {
        added = grew (Aborted caller mark call number) (aborted_of s mark call) refl more (λ i. Aborted (sym caller_is i) mark call (sym number_is i));
        below = (λ i. is_aborted (sym phase_is i) (number_is i)) ∙ below;
        none_asked = refl;
        keys = kept refl;
      })
      go false above said is more kept served = subst (λ (x : Said Reply). HasAnswered use_of mark call x answer.asked s t) (sym is) (record {
        added = grew (operation caller mark call number answer) (operation_of s mark call answer.asked answer.reply) refl more (λ i. Op (sym caller_is i) mark call (sym number_is i) answer.asked answer.reply);
        in_force = (λ i. is_aborted (sym phase_is i) (number_is i)) ∙ above;
        served = record {
          follows = follows;
          taken = taken;
          served = served refl ∙ (λ i. if is_use_following (use_of (sym caller_is i) call) follows (sym number_is i) then Some (map as_asked (keys_served s)) else with_keys_of (Some (map as_asked (keys_served s))) answer.asked);
        };
        named = subst (λ (p : Phase). AreNamed p follows) phase_is named;
      })

      -- the call was answered as the keeper says
      pub answered : (said : Said Reply) → said ≡ said_at plain d state phase caller call number → log' ≡ log ++ entry_at plain d state phase caller mark call number ∷ [] → (is_aborted phase number ≡ true → keys_served t ≡ keys_served s)
          → (is_aborted phase number ≡ false → Some (map as_asked (keys_served t)) ≡ (if is_use_following (use_of caller call) follows number then Some (map as_asked (keys_served s)) else with_keys_of (Some (map as_asked (keys_served s))) answer.asked))
          → HasAnswered use_of mark call said (asked_if (is_aborted phase number)) s t
      answered said is more kept served = go (is_aborted phase number) refl said is more kept served

  module _ {D O : Type 0} where
    -- the call was answered, by the facts of its turn: taken at w, asked through the cache at x, given back at t
    pub attended : (use_of : ℕ → Call → Option ℕ) (s w x t : SeatView (Entry Call Reply) D O) (log log' : List (Entry Call Reply)) → StartsWith log (seen_by s) → phase ≡ phase_of log → seen_by t ≡ log'
        → own_entries s ≡ of_caller kind_of (caller_number s) log → own_entries t ≡ of_caller kind_of (caller_number x) log' → caller_number s ≡ caller → caller_number x ≡ caller → pass_number s ≡ number
        → (follows : Follows) → AreNamed phase follows → slots_followed w ≡ maps.entries follows → slots_followed x ≡ slots_followed w → slots_followed t ≡ slots_followed x → keys_served w ≡ keys_served s → keys_served t ≡ keys_served x
        → (said : Said Reply) → said ≡ said_at plain d state phase caller call number → log' ≡ log ++ entry_at plain d state phase caller mark call number ∷ []
        → (is_aborted phase number ≡ true → keys_served x ≡ keys_served w)
        → (is_aborted phase number ≡ false → Some (map as_asked (keys_served x)) ≡ (if is_use_following (use_of caller call) follows number then Some (map as_asked (keys_served w)) else with_keys_of (Some (map as_asked (keys_served w))) answer.asked))
        → HasAnswered use_of mark call said (asked_if (is_aborted phase number)) s t
    attended use_of s w x t log log' begins phase_is seen own mine caller_s caller_x number_is follows named taken asked gave keys_w keys_t said is more kept served =
        answered use_of s t log log' begins phase_is seen (own ∙ ap (λ (n : ℕ). of_caller kind_of n log) caller_s) (mine ∙ ap (λ (n : ℕ). of_caller kind_of n log') caller_x) caller_s number_is follows (gave ∙ (asked ∙ taken)) named
        said is more (λ b. keys_t ∙ (kept b ∙ keys_w))
        (λ b. subst (λ (ks : List Key). Some (map as_asked (keys_served t)) ≡ (if is_use_following (use_of caller call) follows number then Some (map as_asked ks) else with_keys_of (Some (map as_asked ks)) answer.asked)) keys_w
        (ap (λ (ks : List Key). Some (map as_asked ks)) keys_t ∙ served b))

-- what holds holds on a failure
pub on_err : {A B P : Type 0} (r : Result A B) → P → OnErr r P
on_err (Ok x) h = tt
on_err (Err x) h = h

-- what holds on success holds of one
pub of_ok : {A B P : Type 0} (r : Result A B) (v : A) → r ≡ Ok v → OnOk r P → P
of_ok {A} {B} {P} r v is h = subst (λ (x : Result A B). OnOk x P) is h

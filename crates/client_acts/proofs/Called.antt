-- A call at a station, and what it changes of where the client stands.
use Rattle.std.proofs.Common.{◌≡◌, ℕ, ◌≤◌, ◌∙◌, ◌⊎◌, inl, inr, List, [], ◌∷◌, ◌++◌, Option, Some, None, unwrap_or, is_some, true, false, refl, sym, ap, subst, arith, append_assoc}
use Rattle.std.specs.Prelude.{Result, Ok, Err, OnOk, OnErr}
use Rattle.access_vectors.specs.Decisions.{Decisions}
use Rattle.access_vectors.specs.declared.asked.Asked.{Asked}
use Rattle.manager_history.specs.declared.entry.Entry.{Entry}
use Rattle.manager_history.specs.declared.answers.Answer.{Answer as Said}
use Rattle.manager_history.specs.declared.answers.Answer.TheVariants as saying
use Rattle.manager_history.specs.Answers.{Manager}
use Rattle.manager_history.specs.Histories.{start_of, IsLawful}
use Rattle.gate_rule.specs.declared.view.Pass.{Pass}
use Rattle.gate_rule.specs.declared.view.Pass.TheVariants.{Out, Inside}
use Rattle.gate_rule.specs.History.{last_notice, StartsWith}
use Rattle.gate_rule.specs.Views.{number_of}
use Rattle.epoch_gate.specs.Seats.{SeatView, pass_of}
use Rattle.epoch_gate.specs.Known.{seen_by, caller_number, pass_held, pass_number}
use Rattle.managed_run.specs.Kinds.{kind_of}
use Rattle.managed_run.specs.Calls.{HasAdded, HasAddedNone, HasAnswered, KeepsPass, operation_of, aborted_of}
use Rattle.client_acts.specs.Acts.{IsEntryOf, MayHave}
use Rattle.client_acts.specs.Standings.{Standing, standing_of, number_held}
use Rattle.client_acts.specs.Moves.{GoesOn, HasTaken, HasGiven, HasCalled, HasCalledNone}
use Rattle.client_acts.specs.Audits.{IsAnswered}
use Rattle.client_acts.proofs.Newest.{rises, operation_noticed, aborted_noticed}

-- the number of a pass that is held
held_number : (pass : Pass) (number : ℕ) → number_held pass ≡ Some number → number_of pass ≡ number
held_number Out number is = absurd cc
held_number (Inside held version) number is = ap (λ (o : Option ℕ). unwrap_or o 0) is

-- a client that holds a pass goes on under its number
goes_under : (held : Option ℕ) (newest number : ℕ) → MayHave held newest number → (other : ℕ) → held ≡ Some other → held ≡ Some number
goes_under None newest number may other is = absurd cc
goes_under (Some held) newest number may other is = ap Some (sym may)

module _ {Call Reply : Type 0} where
  -- a call under a pass that was taken: what it changes, while the pass is held yet
  pub record Called (mark : ℕ) (call : Call) (s : Standing Call Reply) (t : Standing Call Reply) : Type 0 where
    pub on : GoesOn s t
    pub number : ℕ
    pub may : MayHave s.held s.newest number
    pub held : t.held ≡ Some number
    pub noticed : number ≤ t.newest
    pub entry : Entry Call Reply
    pub is : IsEntryOf s.client mark call number entry
    pub added : t.mine ≡ s.mine ++ entry ∷ []

  -- where the client held a pass before, it holds that
  pub called_held : (mark : ℕ) (call : Call) (s t : Standing Call Reply) (other : ℕ) → s.held ≡ Some other → Called mark call s t → HasCalled mark call s t
  called_held mark call s t other holds one =
      record {
        on = one.on;
        held = one.held ∙ sym (goes_under s.held s.newest one.number one.may other holds);
        number = one.number;
        may = one.may;
        noticed = one.noticed;
        entry = one.entry;
        is = one.is;
        added = one.added;
      }

  -- where it held none, the pass was given back
  pub called_given : (mark : ℕ) (call : Call) (s t given : Standing Call Reply) → s.held ≡ None → Called mark call s t → HasGiven t given → HasCalled mark call s given
  called_given mark call s t given none one gave =
      record {
        on = record {
          client = gave.client ∙ one.on.client;
          newest = omega (arith, one.on.newest, gave.newest);
          room = omega (arith, one.on.room, gave.room);
        };
        held = gave.held ∙ sym none;
        number = one.number;
        may = one.may;
        noticed = omega (arith, one.noticed, gave.newest);
        entry = one.entry;
        is = one.is;
        added = gave.none ∙ one.added;
      }

module _ {Call Reply State D O : Type 0} (plain : Manager Call Reply State) (formed : Decisions → State → ℕ → Call → Type 0) (d : Decisions) (opening : State) where
  -- what was seen before is how what is seen after an entry begins
  starts : (entry : Entry Call Reply) (s t : SeatView (Entry Call Reply) D O) → HasAdded entry s t → StartsWith (seen_by t) (seen_by s)
  starts entry s t added =
      (added.begins.0 ++ entry ∷ [], added.seen ∙ ap (λ (log : List (Entry Call Reply)). log ++ entry ∷ []) added.begins.1 ∙ append_assoc (seen_by s) added.begins.0 (entry ∷ []))

  -- an entry of the call under the pass
  called_by : (mark : ℕ) (call : Call) (entry : Entry Call Reply) (s taken t : SeatView (Entry Call Reply) D O) → HasTaken (standing_of s) (standing_of taken)
      → KeepsPass taken t → IsLawful plain formed d (start_of opening) (seen_by t) → HasAdded entry taken t
      → pass_number taken ≤ (last_notice kind_of (seen_by t)).0
      → ((number : ℕ) → pass_number taken ≡ number → caller_number taken ≡ caller_number s → IsEntryOf (caller_number s) mark call number entry)
      → Called mark call (standing_of s) (standing_of t)
  called_by mark call entry s taken t took kept lawful added noticed is =
      let under : pass_number taken ≡ took.number = held_number (pass_held taken) took.number took.held in
      let risen : (last_notice kind_of (seen_by taken)).0 ≤ (last_notice kind_of (seen_by t)).0
      = rises plain formed d opening (seen_by taken) (seen_by t) lawful (starts entry taken t added) in
      record {
        on = record {
          client = kept.number ∙ took.on.client;
          newest = omega (arith, took.on.newest, risen);
          room = omega (arith, took.on.room, kept.quota);
        };
        number = took.number;
        may = took.may;
        held = ap number_held kept.pass ∙ took.held;
        noticed = omega (arith, noticed, under);
        entry = entry;
        is = is took.number under took.on.client;
        added = added.mine ∙ ap (λ (mine : List (Entry Call Reply)). mine ++ entry ∷ []) took.none;
      }

  -- an answer of the station
  pub called : (use_of : ℕ → Call → Option ℕ) (mark : ℕ) (call : Call) (said : Said Reply) (asked : List Asked) (s taken t : SeatView (Entry Call Reply) D O)
      → HasTaken (standing_of s) (standing_of taken) → KeepsPass taken t → IsLawful plain formed d (start_of opening) (seen_by t)
      → HasAnswered use_of mark call said asked taken t → Called mark call (standing_of s) (standing_of t)
  called use_of mark call (saying.Did reply) asked s taken t took kept lawful answered =
      called_by mark call (operation_of taken mark call asked reply) s taken t took kept lawful answered.added
      (subst (λ (log : List (Entry Call Reply)). pass_number taken ≤ (last_notice kind_of log).0) (sym answered.added.seen)
      (operation_noticed plain formed d opening answered.added.before (caller_number taken) mark call (pass_number taken) asked reply
      (subst (IsLawful plain formed d (start_of opening)) answered.added.seen lawful)))
      (λ number under same. (same, refl, refl, under))
  called use_of mark call saying.Aborted asked s taken t took kept lawful answered =
      called_by mark call (aborted_of taken mark call) s taken t took kept lawful answered.added
      (subst (λ (log : List (Entry Call Reply)). pass_number taken ≤ (last_notice kind_of log).0) (sym answered.added.seen)
      (aborted_noticed plain formed d opening answered.added.before (caller_number taken) mark call (pass_number taken)
      (subst (IsLawful plain formed d (start_of opening)) answered.added.seen lawful)))
      (λ number under same. (same, refl, refl, under))

  -- ---- a call under a pass, and what was there before

  module _ (use_of : ℕ → Call → Option ℕ) (mark : ℕ) (call : Call) (s taken t : SeatView (Entry Call Reply) D O) where
    module _ (given : SeatView (Entry Call Reply) D O) (took : HasTaken (standing_of s) (standing_of taken)) (kept : KeepsPass taken t) (lawful : IsLawful plain formed d (start_of opening) (seen_by t))
        (none : number_held (pass_held s) ≡ None) (gave : HasGiven (standing_of t) (standing_of given)) where
      given_call : IsAnswered use_of mark call taken t → HasCalled mark call (standing_of s) (standing_of given)
      given_call is =
          called_given mark call (standing_of s) (standing_of t) (standing_of given) none (called use_of mark call is.0 is.1 s taken t took kept lawful is.2) gave

      given_none : HasAddedNone taken t → HasCalledNone (standing_of s) (standing_of given)
      given_none added = record { client = gave.client ∙ (kept.number ∙ took.on.client); held = gave.held ∙ sym none; none = gave.none ∙ (added.mine ∙ took.none) }

    module _ (took : HasTaken (standing_of s) (standing_of taken)) (kept : KeepsPass taken t) (lawful : IsLawful plain formed d (start_of opening) (seen_by t)) (other : ℕ)
        (held : number_held (pass_held s) ≡ Some other) where
      kept_call : IsAnswered use_of mark call taken t → HasCalled mark call (standing_of s) (standing_of t)
      kept_call is = called_held mark call (standing_of s) (standing_of t) other held (called use_of mark call is.0 is.1 s taken t took kept lawful is.2)

      kept_none : HasAddedNone taken t → HasCalledNone (standing_of s) (standing_of t)
      kept_none added = record {
        client = kept.number ∙ took.on.client;
        held = ap number_held kept.pass ∙ (took.held ∙ sym (goes_under (number_held (pass_held s)) (standing_of s).newest took.number took.may other held));
        none = added.mine ∙ took.none;
      }

  module _ (use_of : ℕ → Call → Option ℕ) (mark : ℕ) (call : Call) (s taken t given : SeatView (Entry Call Reply) D O) (took : HasTaken (standing_of s) (standing_of taken)) (kept : KeepsPass taken t)
      (lawful : IsLawful plain formed d (start_of opening) (seen_by t)) (none : number_held (pass_held s) ≡ None) (gave : HasGiven (standing_of t) (standing_of given)) {X E : Type 0} where
    -- the pass was taken for the call, and given back
    pub once_given : (result : Result X E) → OnOk result (IsAnswered use_of mark call taken t) → OnOk result (HasCalled mark call (standing_of s) (standing_of given))
    once_given (Ok x) is = given_call use_of mark call s taken t given took kept lawful none gave is
    once_given (Err e) is = tt

    pub refused_given : (result : Result X E) → OnErr result (HasAddedNone taken t ⊎ IsAnswered use_of mark call taken t)
        → OnErr result (HasCalledNone (standing_of s) (standing_of given) ⊎ HasCalled mark call (standing_of s) (standing_of given))
    refused_given (Ok x) is = tt
    refused_given (Err e) (inl added) = inl (given_none use_of mark call s taken t given took kept lawful none gave added)
    refused_given (Err e) (inr is) = inr (given_call use_of mark call s taken t given took kept lawful none gave is)

  module _ (use_of : ℕ → Call → Option ℕ) (mark : ℕ) (call : Call) (s taken t : SeatView (Entry Call Reply) D O) (took : HasTaken (standing_of s) (standing_of taken)) (kept : KeepsPass taken t)
      (lawful : IsLawful plain formed d (start_of opening) (seen_by t)) (other : ℕ) (held : number_held (pass_held s) ≡ Some other) {X E : Type 0} where
    -- the pass was held before
    pub once_kept : (result : Result X E) → OnOk result (IsAnswered use_of mark call taken t) → OnOk result (HasCalled mark call (standing_of s) (standing_of t))
    once_kept (Ok x) is = kept_call use_of mark call s taken t took kept lawful other held is
    once_kept (Err e) is = tt

    pub refused_kept : (result : Result X E) → OnErr result (HasAddedNone taken t ⊎ IsAnswered use_of mark call taken t)
        → OnErr result (HasCalledNone (standing_of s) (standing_of t) ⊎ HasCalled mark call (standing_of s) (standing_of t))
    refused_kept (Ok x) is = tt
    refused_kept (Err e) (inl added) = inl (kept_none use_of mark call s taken t took kept lawful other held added)
    refused_kept (Err e) (inr is) = inr (kept_call use_of mark call s taken t took kept lawful other held is)

-- what a look at a pass told of it: whether it is held, and under which number
pub held_none : (pass : Pass) (told : Option (ℕ × ℕ)) → pass ≡ pass_of told → is_some told ≡ false → number_held pass ≡ None
held_none pass None is none = ap number_held is
held_none pass (Some p) is none = absurd cc

pub held_one : (pass : Pass) (told : Option (ℕ × ℕ)) → pass ≡ pass_of told → is_some told ≡ true → (number : ℕ) × (number_held pass ≡ Some number)
held_one pass None is some = absurd cc
held_one pass (Some p) is some = (p.0, ap number_held is)

-- What a client's call does to one manager, by what it does to the manager on one thread.
use Rattle.std.proofs.Common.{◌≡◌, ℕ, Bool, true, false, List, [], ◌∷◌, ◌++◌, Some, None, refl, sym, ap, subst, ◌∙◌, append-nil}
use Rattle.std.specs.Prelude.{map, if◌then◌else◌}
use Rattle.std.proofs.lemmas.List.{map-append}
use Rattle.std.proofs.lemmas.List.Elements.{All-nil, All-cons}
use Rattle.access_vectors.specs.Decisions.{Decisions}
use Rattle.access_vectors.specs.Forced.{is_aborted}
use Rattle.access_vectors.specs.Stale.{Follows, Pair}
use Rattle.access_vectors.specs.declared.class.Class.{Class}
use Rattle.std.specs.Prelude.{Option}
use Rattle.manager_history.specs.declared.answers.Answer.TheVariants.{Did, Aborted}
use Rattle.manager_history.specs.declared.entry.Entry.{Entry}
use Rattle.manager_history.specs.declared.entry.Entry.TheVariants as entry
use Rattle.manager_history.specs.Answers.{Answer, Manager}
use Rattle.manager_history.specs.Histories.{operation}
use Rattle.managed.specs.Posts.{Post, ManagerView, Following, IsSameUntried, post_of, acting_number, answer_on, said_on, entry_on, called, operated, last_reply}
use Rattle.managed.specs.Seen.{IsSame, IsServed, IsOperation, event_of}
use Rattle.managed.specs.Administered.{seen_of}
use Rattle.session_managers.specs.declared.one_manager.OneManager.{OneManager}
use Rattle.session_managers.specs.declared.acting.Reply.{Reply}
use Rattle.session_managers.specs.One.{seen, told, newest, answer_of, answer_with}
use Rattle.managed.proofs.AskedLemmas.{asked_called, replied_called}
use Rattle.managed.specs.declared.managed.Event.TheVariants.{Operation}

-- the administrator sees a call, done or aborted
event_under : {C R State : Type 0} (client mark : ℕ) (asks : C) (number : ℕ) (answer : Answer R State) (aborted : Bool)
    → event_of (if aborted then entry.Aborted client mark asks number else operation client mark asks number answer) ≡ Operation client mark number
event_under client mark asks number answer true = refl
event_under client mark asks number answer false = refl

-- a call leaves where the change of policy stands
pub called_phase : {C R State : Type 0} (followed : Following C R State) (d : Decisions) (post : Post State) (client : ℕ) (asks : C) (answer : Answer R State)
    → (called followed d post client asks answer).phase ≡ post.phase
called_phase followed d post client asks answer =
    elim (is_aborted post.phase (acting_number post client)) as (λ (b : Bool). (if b then post else operated followed d post client asks answer).phase ≡ post.phase) [ true ↦ refl | false ↦ refl ]

-- what stands in the newest entry after a call is what the call got and asked
answer_under : {R : Type 0} (wrap : R → Reply) (got : R) (aborted : Bool)
    → answer_with wrap (if aborted then None else Some got) ≡ answer_of wrap (if aborted then Aborted else Did got)
answer_under wrap got true = refl
answer_under wrap got false = refl

pub called_told : {C R State : Type 0} (wrap : R → Reply) (plain : Manager C R State) (d : Decisions) (post : Post State) (client mark : ℕ) (asks : C) (history now : List (Entry C R))
    → now ≡ history ++ entry_on plain d post client mark asks ∷ [] → newest wrap now ≡ told wrap plain d post client asks
called_told wrap plain d post client mark asks history now added =
    let number = acting_number post client in
    let got = replied_called plain d post client mark asks history now added in
    let asked = asked_called plain d post client mark asks history now added in
    let answer : answer_with wrap (last_reply now) ≡ answer_of wrap (said_on plain d post client asks) =
    ap (answer_with wrap) got ∙ answer_under wrap (answer_on plain d post client asks).reply (is_aborted post.phase number) in
    rw (answer, asked) refl

module _ {Core Decider C R State : Type 0} (decides : Decider → Decisions) (class : Class) (pair_of : State → ℕ → Option Pair) (opening state : Core → State) (follows : Core → Follows)
    (was now : ManagerView Core Decider C R) where
  -- the history grew by the entry of a call
  pub history_seen : (plain : Manager C R State) (client mark : ℕ) (asks : C)
      → now.keeper.history ≡ was.keeper.history ++ entry_on plain (decides was.keeper.decider) (post_of state follows was) client mark asks ∷ []
      → (seen_of decides class pair_of state follows now).history
      ≡ (seen_of decides class pair_of state follows was).history ++ Operation client mark (acting_number (post_of state follows was) client) ∷ []
  history_seen plain client mark asks added =
      let post = post_of state follows was in
      let number = acting_number post client in
      ap (map event_of) added ∙ map-append event_of was.keeper.history _
      ∙ ap (λ e. map event_of was.keeper.history ++ e ∷ []) (event_under client mark asks number (answer_on plain (decides was.keeper.decider) post client asks) (is_aborted post.phase number))

  same_seen : IsSameUntried opening was now → IsSame (seen_of decides class pair_of state follows was) (seen_of decides class pair_of state follows now)
  same_seen same = record { manager = same.manager; most = same.most; versions = ap (λ d. (decides d).versions) same.decider }

  -- the administrator sees an operation more
  pub served_seen : (after : Post State) (client mark number : ℕ) → IsSameUntried opening was now → post_of state follows now ≡ after → after.phase ≡ was.keeper.phase
      → (seen_of decides class pair_of state follows now).history ≡ (seen_of decides class pair_of state follows was).history ++ Operation client mark number ∷ []
      → IsServed (seen_of decides class pair_of state follows was) (seen_of decides class pair_of state follows now)
  served_seen after client mark number same post phase added = record {
    same = same_seen same;
    phase = ap (λ p. p.phase) post ∙ phase;
    history = record {
      between = Operation client mark number ∷ [];
      operations = All-cons IsOperation _ [] tt (All-nil IsOperation);
      none = λ alone. cc;
      grown = added ∙ sym (append-nil _);
    };
  }

-- the administrator sees nothing new of what is as it was
pub stayed_seen : {D : Type 0} (decides : D → Decisions) (was now : OneManager D) → now ≡ was → IsServed (seen decides was) (seen decides now)
stayed_seen decides was now same = subst (λ (m : OneManager _). IsServed (seen decides was) (seen decides m)) (sym same) (record {
  same = record { manager = refl; most = refl; versions = refl };
  phase = refl;
  history = record { between = []; operations = All-nil IsOperation; none = λ alone. refl; grown = sym (append-nil _) ∙ sym (append-nil _) };
})

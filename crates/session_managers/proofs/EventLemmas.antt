-- What the administrator's calls add to the histories of the three managers.
use Rattle.std.proofs.Common.{◌≡◌, ◌<◌, ℕ, Bool, true, false, List, [], ◌∷◌, ◌++◌, Some, Ok, Err, refl, sym, ap, ◌∙◌, append-nil, arith}
use Rattle.std.specs.Prelude.{nat_lt, is_some, if◌then◌else◌}
use Rattle.std.proofs.lemmas.Bool.Decides.{nat_tests}
use Rattle.access_vectors.specs.Decisions.{Decisions}
use Rattle.access_vectors.specs.declared.change.NotifyFault.TheVariants as refusing
use Rattle.access_vectors.specs.declared.phase.Phase.{Phase}
use Rattle.manager_history.specs.Kept.{is_done}
use Rattle.manager_history.specs.declared.answers.Ack.{Ack}
use Rattle.manager_history.specs.declared.answers.Ack.TheVariants as acks
use Rattle.managed.specs.Seen.{IsGrown, acknowledging}
use Rattle.managed.specs.declared.managed.Event.{Event}
use Rattle.managed.specs.declared.managed.Event.TheVariants.{Notice}
use Rattle.change_protocol.specs.Changes.{IsNotifiedAt, IsAskedUnless}
use Rattle.change_protocol.specs.declared.answers.Said.{Said}
use Rattle.session_managers.specs.declared.one_manager.OneManager.{OneManager}
use Rattle.session_managers.specs.declared.one_manager.OneManager.TheVariants.{File, Process, Port}
use Rattle.session_managers.specs.One.{seen}
use Rattle.session_managers.specs.SessionViews.{Events, noticed_if}
use Rattle.session_managers.specs.Standings.{events_at}

module _ {D : Type 0} (decides : D → Decisions) where
  -- a manager's history, as the administrator sees it
  abbrev pub history : OneManager D → List Event
  history m = (seen decides m).history

  -- the histories of managers, by their numbers
  abbrev pub events_of : List (OneManager D) → Events
  events_of managers = record { files = events_at decides managers 0; processes = events_at decides managers 1; ports = events_at decides managers 2 }

  pub events_are : (managers : List (OneManager D)) (f p q : OneManager D) → managers ≡ f ∷ p ∷ q ∷ [] → events_of managers ≡ record { files = history f; processes = history p; ports = history q }
  events_are managers f p q are = rw are refl

  -- a manager on one thread tells what slots follow
  told : (m : OneManager D) → is_some (seen decides m).follows ≡ true
  told (File m) = refl
  told (Process m) = refl
  told (Port m) = refl

  -- so no caller comes between
  pub grown : (was now : OneManager D) (added : List Event) → IsGrown (is_some (seen decides was).follows) (history was) (history now) added → history now ≡ history was ++ added
  grown was now added is = is.grown ∙ ap (λ between. history was ++ between ++ added) (is.none (told was)) ∙ ap (λ before. before ++ added) (append-nil (history was))

  pub stayed : (was now : OneManager D) → IsGrown (is_some (seen decides was).follows) (history was) (history now) [] → history now ≡ history was
  stayed was now is = grown was now [] is ∙ append-nil (history was)

  -- a round of notices: the managers before the first that wants memory have theirs
  pub noticed : (was now : OneManager D) (version number reached place : ℕ) → IsNotifiedAt (seen decides) version number 0 reached place was now
      → history now ≡ noticed_if (nat_lt place reached) (history was) (Notice number version)
  noticed was now version number reached place round = elim (nat_lt place reached) as (λ (b : Bool). nat_lt place reached ≡ b → history now ≡ noticed_if b (history was) (Notice number version)) [
    | true ↦ λ below. grown was now (Notice number version ∷ []) (round.given (omega arith) (grind (arith, nat_tests))).answer.history
    | false ↦ λ behind. elim (nat_lt reached place) as (λ (b : Bool). nat_lt reached place ≡ b → history now ≡ history was) [
      | true ↦ λ above. ap history (round.behind (grind (arith, nat_tests)))
      | false ↦ λ same. stayed was now (round.refused (grind (arith, nat_tests))).answer.history
    ] refl
  ] refl

  -- a question whether a manager acknowledges: one whose receipt is in says that nothing is pending there
  pub asked : (was now : OneManager D) (forced : Bool) (phase : Phase) (ack : Ack) (said : Said) (one : IsAskedUnless (seen decides) forced false was now said) → one.ack ≡ ack → (seen decides was).phase ≡ phase
      → history now ≡ history was ++ acknowledging forced phase (is_done ack)
  asked was now forced phase ack said one ack_is phase_is =
      grown was now (acknowledging forced (seen decides was).phase (is_done one.ack)) one.acknowledged.history ∙ rw (ack_is, phase_is) refl

  pub unasked : (was now : OneManager D) (forced : Bool) (phase : Phase) (ack : Ack) → now ≡ was → ack ≡ acks.Idle → history now ≡ history was ++ acknowledging forced phase (is_done ack)
  unasked was now forced phase ack same idle = ap history same ∙ rw idle (sym (append-nil (history was)))

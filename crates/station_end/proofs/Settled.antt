-- A keeper that is acknowledged with nothing stale is settled.
use Rattle.std.proofs.Common.{◌≡◌, ℕ, Bool, true, false, List, [], ◌∷◌, ◌++◌, length, refl, sym, ap, ◌∙◌, append-nil}
use Rattle.std.specs.Prelude.{IsTrue}
use Rattle.access_vectors.specs.Phases.{number_of}
use Rattle.access_vectors.specs.declared.phase.Phase.{Phase}
use Rattle.access_vectors.specs.declared.phase.Phase.TheVariants.{Settled, Pending}
use Rattle.manager_history.specs.Kept.{ack_answer, is_done}
use Rattle.manager_history.specs.declared.answers.Ack.{Ack as Answered}
use Rattle.manager_history.specs.declared.entry.Entry.{Entry}
use Rattle.manager_history.specs.declared.entry.Entry.TheVariants.{Ack}
use Rattle.station_end.specs.Settling.{settling}

pub acknowledged : {Call Reply : Type 0} (phase : Phase) (manager left : ℕ) (answer : Answered) (old new : List (Entry Call Reply)) → answer ≡ ack_answer phase manager 0 left → left ≡ 0
    → (IsTrue (is_done answer) → new ≡ old ++ Ack (number_of phase) ∷ []) → (is_done answer ≡ false → new ≡ old) → new ≡ old ++ settling phase
acknowledged (Settled number version) manager left answer old new is none done stays = stays (ap is_done is) ∙ sym (append-nil old)
acknowledged (Pending number first second) manager left answer old new is none done stays =
    let at : answer ≡ ack_answer (Pending number first second) manager 0 0 = is ∙ ap (λ (n : ℕ). ack_answer (Pending number first second) manager 0 n) none in
    done (ap is_done at)

-- Lines taken one after another by a recorder.
use Rattle.std.proofs.Common.{◌≡◌, ◌∙◌, ℕ, List, ◌∷◌, refl, inl, inr}
use Rattle.access_vectors.specs.Decisions.{Decisions}
use Rattle.session_managers.specs.SessionStates.{SessionState, manager_of, told_to}
use Rattle.session_managers.specs.SessionViews.{LastTold, told_of}
use Rattle.session_managers.specs.declared.acting.Call.{Call}
use Rattle.session_text.specs.declared.session.RunLine.{RunLine}
use Rattle.session_runner.specs.Runs.{Shown, line_shown, lines_shown, caller_at, shown_call, shown_newest, shown_told, state_after}
use Rattle.session_runner.specs.declared.outcomes.Called.{Called}
use Rattle.session_runner.specs.declared.outcomes.Caller.{Caller}
use Rattle.session_runner.specs.Recorders.{TakesAll, StopsAt, StopsBeforeOrAt}

-- where what is left is taken from here on, all was taken
abbrev pub Leads : {E W : Type 0} → (E → W → Shown → E → W → Type 0) → E → W → List Shown → E → W → List Shown → Type 0
Leads {E = E} {W = W} takes first start all recorder out left = (after : E) (later : W) → TakesAll takes recorder out left after later → TakesAll takes first start all after later

-- where it stops within what is left, it stops within all
abbrev pub Breaks : {E W S : Type 0} → (E → W → Shown → E → W → Type 0) → (E → W → Shown → W → S → Type 0) → (S → Type 0) → E → W → List Shown → E → W → List Shown → Type 0
Breaks {W = W} {S = S} takes stops wants first start all recorder out left = (later : W) (stop : S) → StopsAt takes stops wants recorder out left later stop → StopsAt takes stops wants first start all later stop

-- what is shown of a caller's call is what the line comes to and asks
pub shown_is : (d : Decisions) (state : SessionState) (line client : ℕ) (asks : Call) (told : LastTold) (caller : Caller) (called : Called) → caller ≡ caller_at state client (manager_of asks) → told_of told (manager_of asks) ≡ told_to d state client asks
    → shown_call called ≡ shown_newest told line caller → shown_call called ≡ shown_told line (caller_at state client (manager_of asks)) (told_to d state client asks).answer (told_to d state client asks).asked
shown_is d state line client asks told caller called caller_is told_is shown =
    let newest : shown_newest told line caller ≡ shown_told line (caller_at state client (manager_of asks)) (told_to d state client asks).answer (told_to d state client asks).asked =
    rw (caller_is, told_is) refl in
    shown ∙ newest

-- a line was taken, and the rest is left
pub took_line : {E W : Type 0} (takes : E → W → Shown → E → W → Type 0) (first : E) (start : W) (all : List Shown) (recorder mid : E) (out now : W) (d : Decisions) (state state' : SessionState) (line : RunLine) (items rest : List RunLine)
    → items ≡ line ∷ rest → state' ≡ state_after d state line.run → takes recorder out (line_shown d state line) mid now
    → Leads takes first start all recorder out (lines_shown d state items) → Leads takes first start all mid now (lines_shown d state' rest)
took_line takes first start all recorder mid out now d state state' line items rest is state_is took leads after later taken =
    (rw is at leads) after later (mid, now, took, rw state_is at taken)

pub passed_line : {E W S : Type 0} (takes : E → W → Shown → E → W → Type 0) (stops : E → W → Shown → W → S → Type 0) (wants : S → Type 0) (first : E) (start : W) (all : List Shown) (recorder mid : E) (out now : W) (d : Decisions) (state state' : SessionState) (line : RunLine) (items rest : List RunLine)
    → items ≡ line ∷ rest → state' ≡ state_after d state line.run → takes recorder out (line_shown d state line) mid now
    → Breaks takes stops wants first start all recorder out (lines_shown d state items) → Breaks takes stops wants first start all mid now (lines_shown d state' rest)
passed_line takes stops wants first start all recorder mid out now d state state' line items rest is state_is took breaks later stop stopped =
    (rw is at breaks) later stop (inr (inr (mid, now, took, rw state_is at stopped)))

-- it stopped before a line or at it
stops_here : {E W S : Type 0} (takes : E → W → Shown → E → W → Type 0) (stops : E → W → Shown → W → S → Type 0) (wants : S → Type 0) (recorder : E) (out later : W) (one : Shown) (more : List Shown) (stop : S)
    → StopsBeforeOrAt stops wants recorder out one later stop → StopsAt takes stops wants recorder out (one ∷ more) later stop
stops_here takes stops wants recorder out later one more stop (inl before) = inl before
stops_here takes stops wants recorder out later one more stop (inr at) = inr (inl at)

pub stopped_line : {E W S : Type 0} (takes : E → W → Shown → E → W → Type 0) (stops : E → W → Shown → W → S → Type 0) (wants : S → Type 0) (first : E) (start : W) (all : List Shown) (recorder : E) (out later : W) (d : Decisions) (state : SessionState) (line : RunLine) (items rest : List RunLine) (stop stop' : S)
    → items ≡ line ∷ rest → stop' ≡ stop → StopsBeforeOrAt stops wants recorder out (line_shown d state line) later stop
    → Breaks takes stops wants first start all recorder out (lines_shown d state items) → StopsAt takes stops wants first start all later stop'
stopped_line takes stops wants first start all recorder out later d state line items rest stop stop' is same stopped breaks =
    (rw is at breaks) later stop' (rw same (stops_here takes stops wants recorder out later (line_shown d state line) _ stop stopped))

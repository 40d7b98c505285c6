-- Lines kept one after another.
use Rattle.std.proofs.Common.{◌≡◌, ◌∙◌, List, [], ◌∷◌, ◌++◌, map, refl, sym, append_assoc, append-nil}
use Rattle.access_vectors.specs.Decisions.{Decisions}
use Rattle.policy_model.specs.declared.policy.PolicyParts.{PolicyParts}
use Rattle.session_text.specs.declared.session.ClientLine.{ClientLine}
use Rattle.session_text.specs.declared.session.SessionParts.{SessionParts}
use Rattle.session_runner.specs.Runs.{Shown, lines_shown, first_state}
use Rattle.session_runner.specs.Recorders.{TakesAll}
use Rattle.session_questions.specs.Keeping.{Keeps}
use Rattle.session_questions.specs.LineRuns.{run_of, session_run}
use Rattle.session_questions.specs.declared.lines.Keeper.{Keeper}
use Rattle.session_questions.specs.declared.lines.LineRun.{LineRun}
use Rattle.session_questions.specs.declared.running.SessionRun.{SessionRun}

-- all lines were kept
pub kept_all : (keeper after : Keeper) (kept later : List LineRun) (all : List Shown) → TakesAll Keeps keeper kept all after later → later ≡ kept ++ map run_of all
kept_all keeper after kept later [] taken = taken.1 ∙ sym (append-nil kept)
kept_all keeper after kept later (one ∷ more) taken =
    let rest : later ≡ taken.1 ++ map run_of more = kept_all taken.0 after taken.1 later more taken.3 in
    let here : taken.1 ≡ kept ++ run_of one ∷ [] = taken.2.1 in
    rw here at rest ∙ append_assoc kept (run_of one ∷ []) (map run_of more)

-- what was kept of a run is what the session's lines come to
pub run_is : (session : SessionParts) (d : Decisions) (policy : PolicyParts) (clients : List ClientLine) (before kept : List LineRun) (all : List Shown)
    → policy ≡ session.policy → clients ≡ session.clients → before ≡ [] → kept ≡ before ++ map run_of all → all ≡ lines_shown d (first_state session) session.lines
    → ◌≡◌ {A = SessionRun} (record { policy = policy; clients = clients; lines = kept }) (session_run d session)
run_is session d policy clients before kept all policy_is clients_are none kept_is all_is = rw (policy_is, clients_are, kept_is, none, all_is) refl

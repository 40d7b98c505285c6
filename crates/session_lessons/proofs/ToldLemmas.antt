-- What is learned from has the answers that the decisions give under the version.
use Rattle.std.proofs.Common.{◌≡◌, ℕ, Bool, true, false, ◌==◌, List, [], ◌∷◌, Option, refl, subst, if◌then◌else◌, arith}
use Rattle.std.proofs.lemmas.Bool.Decides.{nat_tests}
use Rattle.std.proofs.lemmas.List.Elements.{All-nil, All-append, All-filter}
use Rattle.std.specs.Prelude.{All}
use Rattle.std.specs.List.{filter}
use Rattle.flask_sid.specs.declared.context.ContextOf.{ContextOf}
use Rattle.access_vectors.specs.Decisions.{Decisions}
use Rattle.access_vectors.specs.Forced.{is_aborted}
use Rattle.access_vectors.specs.declared.asked.Asked.{Asked}
use Rattle.audit_log.specs.Audited.{is_denial}
use Rattle.manager_history.specs.Answers.{Denial, Manager, IsTold, IsHonest}
use Rattle.managed.specs.Posts.{Post, asked_on, acting_number, acting_version}
use Rattle.file_calls.specs.PlainManager as file
use Rattle.file_calls.specs.Honest as files
use Rattle.process_calls.specs.PlainManager as process
use Rattle.process_calls.specs.Honest as processes
use Rattle.port_calls.specs.PlainManager as port
use Rattle.port_calls.specs.Honest as ports
use Rattle.policy_model.specs.declared.policy.PolicyParts.{PolicyParts}
use Rattle.session_managers.specs.SessionStates.{SessionState}
use Rattle.session_runner.specs.Runs.{asked_by, caller_of, line_shown, lines_shown, state_after}
use Rattle.session_text.specs.declared.session.Run.{Run}
use Rattle.session_text.specs.declared.session.Run.TheVariants as run
use Rattle.session_text.specs.declared.session.RunLine.{RunLine}
use Rattle.session_lessons.specs.Lessons.{caller_denials, line_denials, lines_denials}

module _ (d : Decisions) where
  -- nothing, or what was answered so
  unless : (version : ℕ) (aborted : Bool) (asked : List Asked) → All (IsTold d version) asked → All (IsTold d version) (if aborted then [] else asked)
  unless version true asked told = All-nil (IsTold d version)
  unless version false asked told = told

  -- what a client's call asks of a manager whose answers are honest, under the version of the number that it acts under
  asked_told : {C R State : Type 0} (plain : Manager C R State) (denial_of : R → Option Denial)
      → ((state : State) (caller : ℕ) (call : C) (number version : ℕ) → IsHonest denial_of d number version (plain d state caller call number version))
      → (post : Post State) (client : ℕ) (call : C) → All (IsTold d (acting_version post client)) (asked_on plain d post client call)
  asked_told plain denial_of honest post client call =
      let number = acting_number post client in
      let version = acting_version post client in
      unless version (is_aborted post.phase number) (plain d post.state client call number version).asked (honest post.state client call number version).told

  module _ (version : ℕ) (policy : PolicyParts) (contexts : List (ContextOf (List ℕ))) where
    -- what a caller that acts under a version was denied, where that is the version asked for
    denied_told : (own : ℕ) (same : Bool) (asked : List Asked) → (own == version) ≡ same → All (IsTold d own) asked
        → All (IsTold d version) (if same then filter (is_denial policy contexts) asked else [])
    denied_told own false asked is told = All-nil (IsTold d version)
    denied_told own true asked is told =
        let named : own ≡ version = grind (arith, nat_tests, is) in
        All-filter (is_denial policy contexts) (IsTold d version) asked (subst (λ (n : ℕ). All (IsTold d n) asked) named told)

    -- what a line was denied
    line_told : (state : SessionState) (line : Run) → All (IsTold d version) (caller_denials version policy contexts (caller_of state line) (asked_by d state line))
    line_told state (run.File client asks) =
        denied_told _ _ _ refl (asked_told file.answer file.denial_of (files.honest_answer d) state.files client asks)
    line_told state (run.Process client asks) =
        denied_told _ _ _ refl (asked_told process.answer process.denial_of (processes.honest_answer d) state.processes client asks)
    line_told state (run.Port client asks) =
        denied_told _ _ _ refl (asked_told port.answer port.denial_of (ports.honest_answer d) state.ports client asks)
    line_told state (run.Begin client of) = All-nil (IsTold d version)
    line_told state (run.End client of) = All-nil (IsTold d version)
    line_told state (run.Notify to) = All-nil (IsTold d version)
    line_told state (run.Update most) = All-nil (IsTold d version)
    line_told state run.Ack = All-nil (IsTold d version)
    line_told state run.Force = All-nil (IsTold d version)

    -- what lines were denied
    pub lines_told : (state : SessionState) (lines : List RunLine) → All (IsTold d version) (lines_denials version policy contexts (lines_shown d state lines))
    lines_told state [] = All-nil (IsTold d version)
    lines_told state (line ∷ lines) =
        All-append (IsTold d version) (line_denials version policy contexts (line_shown d state line)) (lines_denials version policy contexts (lines_shown d (state_after d state line.run) lines))
        (line_told state line.run) (lines_told (state_after d state line.run) lines)

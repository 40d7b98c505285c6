-- What is kept of a run from which is learned.
use Rattle.std.proofs.Common.{◌≡◌, ◌∙◌, ℕ, List, [], ◌∷◌, ◌++◌, refl, sym, append_assoc, append-nil}
use Rattle.std.specs.List.{flat_map}
use Rattle.flask_sid.specs.declared.context.ContextOf.{ContextOf}
use Rattle.access_vectors.specs.Decisions.{Decisions}
use Rattle.access_vectors.specs.declared.asked.Asked.{Asked}
use Rattle.audit_allow.specs.Denials.{Lesson}
use Rattle.policy_model.specs.declared.policy.PolicyParts.{PolicyParts}
use Rattle.session_runner.specs.Runs.{Shown, first_state, lines_shown}
use Rattle.session_runner.specs.Recorders.{TakesAll}
use Rattle.session_text.specs.declared.session.SessionParts.{SessionParts}
use Rattle.session_lessons.specs.Learning.{Learns}
use Rattle.session_lessons.specs.Lessons.{line_denials, lines_denials, lesson_of}
use Rattle.session_lessons.specs.declared.learner.Learner.{Learner}

-- what all lines were denied was kept
pub learned_all : (learner after : Learner) (denied later : List Asked) (all : List Shown) → TakesAll Learns learner denied all after later
    → later ≡ denied ++ lines_denials learner.version learner.policy.now learner.contexts.now all
learned_all learner after denied later [] taken = taken.1 ∙ sym (append-nil denied)
learned_all learner after denied later (one ∷ more) taken =
    let own : List Asked = line_denials learner.version learner.policy.now learner.contexts.now one in
    let here : taken.1 ≡ denied ++ own = taken.2.1 in
    let rest : later ≡ taken.1 ++ lines_denials learner.version learner.policy.now learner.contexts.now more = rw taken.2.0 at (learned_all taken.0 after taken.1 later more taken.3) in
    rw here at rest ∙ append_assoc denied own (lines_denials learner.version learner.policy.now learner.contexts.now more)

-- what is learned from is the lesson of the session
pub lesson_is : (version : ℕ) (session : SessionParts) (contexts of_run of_learned : List (ContextOf (List ℕ))) (d : Decisions) (policy given : PolicyParts) (all : List Shown) (before asked denied : List Asked)
    → policy ≡ session.policy → given ≡ session.policy → of_run ≡ contexts → of_learned ≡ contexts → all ≡ lines_shown d (first_state session) session.lines → before ≡ [] → asked ≡ denied → denied ≡ before ++ lines_denials version policy of_run all
    → ◌≡◌ {A = Lesson} (record { policy = given; contexts = of_learned; asked = asked }) (lesson_of version contexts d session)
lesson_is version session contexts of_run of_learned d policy given all before asked denied policy_is given_is run_is learned_is all_is none asked_is denied_is =
    rw (asked_is, denied_is, none, policy_is, given_is, run_is, learned_is, all_is) refl

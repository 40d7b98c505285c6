-- A session that was printed is read as the same session again.
use Rattle.std.proofs.Common.{◌≡◌, ◌∙◌, ◌≤◌, ◌+◌, ℕ, true, List, [], ◌∷◌, ◌++◌, map, length, Option, Some, None, Ok, refl, ap, arith, length-append}
use Rattle.std.specs.Prelude.{codes}
use Rattle.std.specs.List.{list_all}
use Rattle.std.proofs.lemmas.Bool.{and_from}
use Rattle.std.proofs.lemmas.List.{length-map, map-append}
use Rattle.std.proofs.lemmas.List.Folds.{list_all-append}
use Rattle.text_lines.specs.Lines.{line_limit, lines_of, words_of}
use Rattle.text_lines.specs.ResultSteps.{lines_fold}
use Rattle.text_print.specs.Printed.{is_word, spaced}
use Rattle.text_print.proofs.WordLaws.{line_words_spaced}
use Rattle.text_print.proofs.LineLaws.{lines_of_text}
use Rattle.text_print.proofs.LeadLaws.{AllLead, lead_words, lead_lines}
use Rattle.policy_model.specs.declared.policy.PolicyParts.{PolicyParts}
use Rattle.policy_text.specs.Grammar.{line_read}
use Rattle.policy_model.specs.Kept.{IsWholePolicy}
use Rattle.policy_text.specs.Reading.{begun as policy_begun}
use Rattle.policy_print.specs.Printed.{policy_lines}
use Rattle.policy_print.specs.Same.{IsSamePolicy, IsSameAbove}
use Rattle.policy_print.proofs.AgainLaws.{end_same}
use Rattle.policy_print.proofs.LeadLaws.{grown_lead}
use Rattle.policy_print.proofs.PolicyLaws.{policy_lines_lead, policy_lines_words}
use Rattle.policy_print.proofs.SaidLaws.{policy_lines_said}
use Rattle.session_forms.specs.SetupForms.{setup_form}
use Rattle.session_text.specs.declared.session.SessionParts.{SessionParts}
use Rattle.session_text.specs.Readers as reader
use Rattle.session_text.specs.Grammar.{Setup, run_line_read}
use Rattle.session_text.specs.Reading.{is_session_line, setup_of_policy, is_alone, session_line_read, setup_read, setup_words_read, setup_line_read, read_line, read_lines, session_of}
use Rattle.session_text.specs.Sessions.{MayLine, IsSession}
use Rattle.session_print.specs.Printed.{run_line_words, setup_lines, run_lines, lines_below_policy, session_lines, printed}
use Rattle.session_print.specs.Same.{IsSameSession, IsTextOf}
use Rattle.session_print.proofs.RunLaws.{run_line_leads}
use Rattle.session_print.proofs.SetupLaws.{IsSameSetup, setup_line}
use Rattle.session_print.proofs.SetupLinesLaws.{before_lines, setup_lines_lead}
use Rattle.session_print.proofs.ReadingLaws.{below_policy, below_setup_lines, below_run_lines}

-- the lines that run lead to all of them
run_lines_lead : (session : SessionParts) → IsWholePolicy session.policy → IsSession session → AllLead run_line_read IsSameSession (run_lines session) (before_lines session) session
unfolding run_lines
run_lines_lead session kept is =
    grown_lead run_line_read IsSameSession (MayLine session.policy.contexts session.clients) (run_line_words session.policy.contexts session.clients) (λ lines. record session { lines = lines })
    (run_line_leads session kept.grown is.clients) [] session.lines is.lines

-- the line below which the session stands
session_line_leads : (n : ℕ) (policy next : PolicyParts) → n ≤ line_limit → IsWholePolicy policy → IsSamePolicy next policy → (rest : List (List ℕ)) → read_lines (reader.Policy (record { number = n; above = Some next })) (spaced (codes "session" ∷ []) ∷ rest) ≡ read_lines (reader.Setup (record { number = n + 1; above = setup_of_policy next })) rest
unfolding read_lines read_line is_session_line words_of session_line_read is_alone
session_line_leads n policy next counted kept same rest =
    rw (end_same n next policy kept same, line_words_spaced n (codes "session") [] counted refl refl) refl

-- the line below which lines run
run_leads : (n : ℕ) (setup : Setup) → n ≤ line_limit → (rest : List (List ℕ)) → read_lines (reader.Setup (record { number = n; above = setup })) (spaced (codes "run" ∷ []) ∷ rest) ≡ read_lines (reader.Run (record { number = n + 1; above = setup.session })) rest
unfolding read_lines read_line setup_line_read setup_words_read setup_form setup_read
run_leads n setup counted rest = rw (line_words_spaced n (codes "run") [] counted refl refl) refl

-- the same session, with nothing there yet, of the same policy
begun_same : (next policy : PolicyParts) → IsSamePolicy next policy → IsSameSetup (setup_of_policy next) (setup_of_policy policy)
begun_same next policy same =
    record {
      session = record { policy = same; root = refl; port = refl; ports = refl; audit = refl; nodes = refl; clients = refl; lines = refl };
      root_given = refl;
      port_given = refl;
    }

-- the lines that are read
abbrev text_lines : SessionParts → List (List ℕ)
text_lines session =
    map spaced (policy_lines session.policy)
    ++ (spaced (codes "session" ∷ []) ∷ (map spaced (setup_lines session) ++ (spaced (codes "run" ∷ []) ∷ map spaced (run_lines session))))

-- lines of words, in front of others
lines_front : (front back : List (List (List ℕ))) → list_all (list_all is_word) front ≡ true → list_all (list_all is_word) back ≡ true → list_all (list_all is_word) (front ++ back) ≡ true
lines_front front back f b = list_all-append (list_all is_word) front back ∙ and_from _ _ f b

-- a printed session has those lines
lines_printed : (session : SessionParts) → IsWholePolicy session.policy → IsSession session → lines_of (printed session) ≡ text_lines session
unfolding printed session_lines lines_below_policy
lines_printed session kept is =
    let below : List (List (List ℕ)) = (codes "run" ∷ []) ∷ run_lines session in
    let rest : List (List (List ℕ)) = (codes "session" ∷ []) ∷ (setup_lines session ++ below) in
    let runs = lead_words run_line_read IsSameSession (run_lines session) _ _ (run_lines_lead session kept is) in
    let setups = lead_words setup_line IsSameSetup (setup_lines session) _ _ (setup_lines_lead session kept.grown is) in
    let words = lines_front (policy_lines session.policy) rest (policy_lines_words session.policy kept.grown) (lines_front (setup_lines session) below setups runs) in
    lines_of_text (session_lines session) words
    ∙ map-append spaced (policy_lines session.policy) rest
    ∙ ap (λ lines. map spaced (policy_lines session.policy) ++ (spaced (codes "session" ∷ []) ∷ lines)) (map-append spaced (setup_lines session) below)

-- how many those are
text_length : (session : SessionParts) → length (text_lines session) ≡ length (policy_lines session.policy) + 1 + length (setup_lines session) + 1 + length (run_lines session)
text_length session =
    let runs : List (List ℕ) = spaced (codes "run" ∷ []) ∷ map spaced (run_lines session) in
    let below : List (List ℕ) = spaced (codes "session" ∷ []) ∷ (map spaced (setup_lines session) ++ runs) in
    omega (arith, length-append (map spaced (policy_lines session.policy)) below, length-append (map spaced (setup_lines session)) runs, length-map (policy_lines session.policy) spaced, length-map (setup_lines session) spaced, length-map (run_lines session) spaced)

-- how many lines the text of a session has
pub printed_count : (session : SessionParts) → IsWholePolicy session.policy → IsSession session
    → length (lines_of (printed session)) ≡ length (policy_lines session.policy) + 1 + length (setup_lines session) + 1 + length (run_lines session)
printed_count session kept is = ap length (lines_printed session kept is) ∙ text_length session

-- a session that was printed in no more lines than a text may have is read as the same session again
pub printed_again : (session : SessionParts) → IsWholePolicy session.policy → IsSession session → length (lines_of (printed session)) ≤ line_limit → IsTextOf session (printed session)
unfolding session_of
printed_again session kept is short =
    let lines = lines_printed session kept is in
    let count = text_length session in
    let few : length (text_lines session) ≤ line_limit = rw (← lines) short in
    let front = lead_lines line_read IsSameAbove (policy_lines session.policy) None (Some session.policy) (policy_lines_lead session.policy kept.grown) 1 None tt (omega (arith, count, few)) in
    by_policy few count front.0 front.1 front.2
  where
    by_policy : length (text_lines session) ≤ line_limit → length (text_lines session) ≡ length (policy_lines session.policy) + 1 + length (setup_lines session) + 1 + length (run_lines session) → (above : Option PolicyParts) → lines_fold line_read 1 (map spaced (policy_lines session.policy)) None ≡ Ok above → IsSameAbove above (Some session.policy) → IsTextOf session (printed session)
    by_policy few count None fold same = absurd same
    by_policy few count (Some next) fold same =
        let runs : List (List ℕ) = spaced (codes "run" ∷ []) ∷ map spaced (run_lines session) in
        let n : ℕ = 1 + length (policy_lines session.policy) in
        let m : ℕ = n + 1 + length (map spaced (setup_lines session)) in
        let long : length (map spaced (setup_lines session)) ≡ length (setup_lines session) = length-map (setup_lines session) spaced in
        let front = below_policy (policy_lines session.policy) (policy_lines_said session.policy) (policy_lines_words session.policy kept.grown) 1 None (Some next) fold (spaced (codes "session" ∷ []) ∷ (map spaced (setup_lines session) ++ runs)) in
        let below = session_line_leads n session.policy next (omega (arith, count, few)) kept same (map spaced (setup_lines session) ++ runs) in
        let middle = lead_lines setup_line IsSameSetup (setup_lines session) _ _ (setup_lines_lead session kept.grown is) (n + 1) (setup_of_policy next) (begun_same next session.policy same) (omega (arith, count, few)) in
        let setups = below_setup_lines (map spaced (setup_lines session)) (n + 1) (setup_of_policy next) middle.0 middle.1 runs in
        let begins = run_leads m middle.0 (omega (arith, count, few, long)) (map spaced (run_lines session)) in
        let back = lead_lines run_line_read IsSameSession (run_lines session) _ _ (run_lines_lead session kept is) (m + 1) middle.0.session middle.2.session (omega (arith, count, few, long)) in
        let last = below_run_lines (map spaced (run_lines session)) (m + 1) middle.0.session back.0 back.1 in
        (back.0, ap (λ ls. read_lines (reader.Policy policy_begun) ls) (lines_printed session kept is) ∙ front ∙ below ∙ setups ∙ begins ∙ last, back.2)

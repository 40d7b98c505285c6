-- The reader of a session text below the printed lines of its policy, below its session lines, and below those that run.
use Rattle.std.proofs.Common.{◌≡◌, ◌+◌, ℕ, Bool, true, false, not, length, List, [], ◌∷◌, ◌++◌, map, Option, Result, Ok, Err, refl, ap, arith}
use Rattle.std.specs.Prelude.{◌==◌, if◌then◌else◌, codes}
use Rattle.std.specs.List.{list_all}
use Rattle.std.specs.Str.{bytes_eq}
use Rattle.std.proofs.lemmas.Bool.{and_parts, not-true, eqb-true}
use Rattle.text_lines.specs.declared.fault.FaultKind.{FaultKind}
use Rattle.text_lines.specs.declared.fault.FaultKind.TheVariants.{Ended}
use Rattle.text_lines.specs.Lines.{is_comment, line_words}
use Rattle.text_lines.specs.ResultSteps.{◌>>=◌, at_line, lines_fold}
use Rattle.text_print.specs.Printed.{is_word, spaced}
use Rattle.text_print.proofs.WordLaws.{words_of_spaced}
use Rattle.policy_model.specs.declared.policy.PolicyParts.{PolicyParts}
use Rattle.policy_text.specs.Grammar.{line_read}
use Rattle.policy_text.specs.Reading.{read_on}
use Rattle.policy_print.proofs.SaidLaws.{is_said}
use Rattle.session_text.specs.declared.session.SessionParts.{SessionParts}
use Rattle.session_text.specs.Readers.{SessionReader}
use Rattle.session_text.specs.Readers as reader
use Rattle.session_text.specs.Grammar.{Setup, run_line_read}
use Rattle.session_text.specs.Progress.{SetupReading}
use Rattle.session_text.specs.Reading.{is_session_line, setup_words_read, setup_line_read, run_on, read_line, read_end, read_lines}
use Rattle.session_print.proofs.SetupLaws.{still_setup, setup_line}

-- lines that were all read were read one after another
record Stepped {S : Type 0} (read : ℕ → List ℕ → S → Result S FaultKind) (n : ℕ) (line : List ℕ) (lines : List (List ℕ)) (state last : S) : Type 0 where
  next : S
  first : read n line state ≡ Ok next
  rest : lines_fold read (n + 1) lines next ≡ Ok last

stepped : {S : Type 0} (read : ℕ → List ℕ → S → Result S FaultKind) (n : ℕ) (line : List ℕ) (lines : List (List ℕ)) (state last : S) → lines_fold read n (line ∷ lines) state ≡ Ok last → Stepped read n line lines state last
stepped {S} read n line lines state last all = by_first (read n line state) refl all
  where
    by_first : (r : Result S FaultKind) → read n line state ≡ r → (at_line n r >>= λ next. lines_fold read (n + 1) lines next) ≡ Ok last → Stepped read n line lines state last
    by_first (Ok next) is below = record { next = next; first = is; rest = below }
    by_first (Err kind) is below = cc

-- a said line of a policy is not the line below which the session stands
no_session : (words : List (List ℕ)) → is_said words ≡ true → list_all is_word words ≡ true → is_session_line (spaced words) ≡ false
unfolding is_session_line
no_session [] said all = cc
no_session (first ∷ words) said all =
    let other : bytes_eq first (codes "session") ≡ false = not-true _ (and_parts (not (is_comment first)) (not (bytes_eq first (codes "session"))) said).1 in
    rw (words_of_spaced (first ∷ words) all) other

-- below the lines of a policy
pub below_policy : (lines : List (List (List ℕ))) → list_all is_said lines ≡ true → list_all (list_all is_word) lines ≡ true → (n : ℕ) (above next : Option PolicyParts) → lines_fold line_read n (map spaced lines) above ≡ Ok next → (rest : List (List ℕ)) → read_lines (reader.Policy (record { number = n; above = above })) (map spaced lines ++ rest) ≡ read_lines (reader.Policy (record { number = n + length lines; above = next })) rest
unfolding read_lines read_line read_on
below_policy [] said all n above next fold rest =
    let same : above ≡ next = cc in
    let count : n + length {A = List (List ℕ)} [] ≡ n = omega arith in
    rw (count, same) refl
below_policy (words ∷ lines) said all n above next fold rest =
    let step = stepped line_read n (spaced words) (map spaced lines) above next fold in
    let saids = and_parts (is_said words) (list_all is_said lines) said in
    let alls = and_parts (list_all is_word words) (list_all (list_all is_word) lines) all in
    let other = no_session words saids.0 alls.0 in
    let below = below_policy lines saids.1 alls.1 (n + 1) step.next next step.rest rest in
    let count : n + length (words ∷ lines) ≡ n + 1 + length lines = omega arith in
    rw (count, other, step.first) below

-- session lines that have not ended stand below line n
numbered : (n : ℕ) (reading : SetupReading) (next : Setup) → still_setup n (reader.Setup reading) ≡ Ok next → reading ≡ record { number = n + 1; above = next }
numbered n reading next still = by_number (reading.number == n + 1) refl still
  where
    by_number : (b : Bool) → (reading.number == n + 1) ≡ b → Path (Result Setup FaultKind) (if b then Ok reading.above else Err Ended) (Ok next) → reading ≡ record { number = n + 1; above = next }
    by_number true is above =
        let number : reading.number ≡ n + 1 = eqb-true reading.number (n + 1) is in
        let same : reading.above ≡ next = cc in
        rw (← number, ← same) refl
    by_number false is above = cc

-- a session line that is not `run`
still_read : (n : ℕ) (line : List ℕ) (setup next : Setup) → setup_line n line setup ≡ Ok next → setup_line_read (record { number = n; above = setup }) line ≡ Ok (reader.Setup (record { number = n + 1; above = next }))
unfolding setup_line_read
still_read n line setup next is = by_words (line_words n line) refl is
  where
    by_reader : (r : Result SessionReader FaultKind) → (r >>= λ below. still_setup n below) ≡ Ok next → r ≡ Ok (reader.Setup (record { number = n + 1; above = next }))
    by_reader (Ok (reader.Policy reading)) still = cc
    by_reader (Ok (reader.Setup reading)) still = ap (λ below. Ok (reader.Setup below)) (numbered n reading next still)
    by_reader (Ok (reader.Run reading)) still = cc
    by_reader (Err kind) still = cc

    by_words : (r : Result (List (List ℕ)) FaultKind) → line_words n line ≡ r → (r >>= λ words. setup_words_read n words setup >>= λ below. still_setup n below) ≡ Ok next → setup_line_read (record { number = n; above = setup }) line ≡ Ok (reader.Setup (record { number = n + 1; above = next }))
    by_words (Ok words) words_are still = rw (words_are, by_reader (setup_words_read n words setup) still) refl
    by_words (Err kind) words_are still = cc

-- below session lines
pub below_setup_lines : (lines : List (List ℕ)) (n : ℕ) (setup next : Setup) → lines_fold setup_line n lines setup ≡ Ok next → (rest : List (List ℕ)) → read_lines (reader.Setup (record { number = n; above = setup })) (lines ++ rest) ≡ read_lines (reader.Setup (record { number = n + length lines; above = next })) rest
unfolding read_lines read_line
below_setup_lines [] n setup next fold rest =
    let same : setup ≡ next = cc in
    let count : n + length {A = List ℕ} [] ≡ n = omega arith in
    rw (count, same) refl
below_setup_lines (line ∷ lines) n setup next fold rest =
    let step = stepped setup_line n line lines setup next fold in
    let below = below_setup_lines lines (n + 1) step.next next step.rest rest in
    let count : n + length (line ∷ lines) ≡ n + 1 + length lines = omega arith in
    rw (count, still_read n line setup step.next step.first) below

-- below the last line that runs
pub below_run_lines : (lines : List (List ℕ)) (n : ℕ) (session next : SessionParts) → lines_fold run_line_read n lines session ≡ Ok next → read_lines (reader.Run (record { number = n; above = session })) lines ≡ Ok next
unfolding read_lines read_line read_end run_on
below_run_lines [] n session next fold = fold
below_run_lines (line ∷ lines) n session next fold =
    let step = stepped run_line_read n line lines session next fold in
    rw step.first (below_run_lines lines (n + 1) step.next next step.rest)

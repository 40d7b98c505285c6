-- The lines of a session stand above the next line of its text.
use Rattle.std.proofs.Common.{◌≡◌, ◌<◌, ◌+◌, ℕ, List, [], ◌∷◌, Ok, arith}
use Rattle.std.specs.Prelude.{IfOk}
use Rattle.std.proofs.lemmas.List.Elements.{All-append, All-cons, All-nil}
use Rattle.text_lines.specs.Lines.{line_words}
use Rattle.policy_text.proofs.StepLemmas.{after}
use Rattle.session_text.specs.declared.session.Run.{Run}
use Rattle.session_text.specs.declared.session.SessionParts.{SessionParts}
use Rattle.session_text.specs.Grammar.{with_line, run_of, run_words_read, run_line_read}
use Rattle.session_text.specs.Progress.{AreAbove}
use Rattle.session_text.proofs.ArgumentLemmas.{if_ok}

-- a session whose lines stand above the line below line n
abbrev IsAbove : ℕ → SessionParts → Type 0
IsAbove n session = AreAbove (n + 1) session.lines

-- what stands above a line stands above the next one
above_next : (n : ℕ) (session : SessionParts) → AreAbove n session.lines → IsAbove n session
above_next n session above = λ k d within. let is = above k d within in omega arith

-- one line more
last_above : (n : ℕ) (run : Run) (session : SessionParts) → AreAbove n session.lines → IsAbove n (with_line n run session)
last_above n run session above =
    All-append (λ line. line.line < n + 1) session.lines (record { line = n; run = run } ∷ []) (above_next n session above)
    (All-cons (λ line. line.line < n + 1) (record { line = n; run = run }) [] (omega arith) (All-nil (λ line. line.line < n + 1)))

words_above : (n : ℕ) (words : List (List ℕ)) (session : SessionParts) → AreAbove n session.lines → IfOk (run_words_read n words session) (IsAbove n)
unfolding run_words_read
words_above n [] session above = above_next n session above
words_above n (first ∷ words) session above = after (run_of session first words) (λ run. Ok (with_line n run session)) (IsAbove n) (λ run is. last_above n run session above)

line_above : (n : ℕ) (line : List ℕ) (session : SessionParts) → AreAbove n session.lines → IfOk (run_line_read n line session) (IsAbove n)
unfolding run_line_read
line_above n line session above = after (line_words n line) _ (IsAbove n) (λ words is. words_above n words session above)

-- below one line more that runs
pub next_above : (n : ℕ) (line : List ℕ) (session next : SessionParts) → AreAbove n session.lines → run_line_read n line session ≡ Ok next → AreAbove (n + 1) next.lines
next_above n line session next above is = if_ok (run_line_read n line session) next (IsAbove n) (line_above n line session above) is

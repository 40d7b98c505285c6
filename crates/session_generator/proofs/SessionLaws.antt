-- What is made of three numbers within their ranges is a session.
use Rattle.std.proofs.Common.{◌≡◌, ◌∙◌, ◌<◌, ◌≤◌, ◌+◌, ℕ, zero, suc, List, [], ◌∷◌, ◌++◌, All, refl, sym, ap, subst, arith, append_assoc, add-one}
use Rattle.std.proofs.lemmas.List.Elements.{All-append, All-cons, All-nil}
use Rattle.std.proofs.lemmas.List.{append-nil}
use Rattle.command_line.specs.Commands.{IsWithin}
use Rattle.policy_model.specs.Kept.{Grows}
use Rattle.session_text.specs.declared.session.Run.{Run}
use Rattle.session_text.specs.declared.session.RunLine.{RunLine}
use Rattle.session_text.specs.Sessions.{IsSidOf, IsRun, MayLine, IsSession}
use Rattle.session_generator.specs.Generated.{policy, clients_to, run_from, state_behind, drawn, next_state, lines_from, lines_above, generated}
use Rattle.session_generator.proofs.PolicyLaws.{is_sid}
use Rattle.session_generator.proofs.ClientLaws.{clients_count, clients_grow}
use Rattle.session_generator.proofs.RunLaws.{run_good}

-- what stands above a line stands above the next one, and so does the line itself
above_next : (first : ℕ) (run : Run) (seen : List RunLine) → All (λ above. above.line < first) seen → All (λ above. above.line < first + 1) (seen ++ record { line = first; run = run } ∷ [])
above_next first run seen above =
    All-append (λ line. line.line < first + 1) seen (record { line = first; run = run } ∷ [])
    (λ k d within. let is = above k d within in omega (arith, is))
    (All-cons (λ line. line.line < first + 1) (record { line = first; run = run }) [] (omega arith) (All-nil (λ line. line.line < first + 1)))

-- a line that runs may follow those above it
next_line : (clients x first : ℕ) (seen : List RunLine) → 0 < clients → first ≤ 100000 → All (λ above. above.line < first) seen → MayLine policy.contexts (clients_to clients) seen (record { line = first; run = run_from clients x })
next_line clients x first seen some within above =
    let good = run_good clients (drawn (next_state x)) (drawn (next_state (next_state x))) (drawn (state_behind x)) some in
    record { below = above; within = within; run = subst (λ many. IsRun (IsSidOf policy.contexts) many (run_from clients x)) (sym (clients_count clients)) good.may; written = good.written; turn = good.turn seen }

lines_grow : (clients : ℕ) → 0 < clients → (n x first : ℕ) (seen : List RunLine) → first + n ≤ 100001 → All (λ above. above.line < first) seen → Grows (MayLine policy.contexts (clients_to clients)) seen (lines_from clients x first n)
lines_grow clients some zero x first seen within above = tt
lines_grow clients some (suc n) x first seen within above = (
  next_line clients x first seen some (omega (arith, within)) above,
  lines_grow clients some n (state_behind x) (first + 1) (seen ++ record { line = first; run = run_from clients x } ∷ []) (omega (arith, within)) (above_next first (run_from clients x) seen above),
)

-- the session of these numbers is one
pub is_session : (seed clients lines : ℕ) → IsWithin seed clients lines → IsSession (generated seed clients lines)
unfolding generated
is_session seed clients lines within = record {
  root = is_sid 3 (omega arith) (omega arith);
  port = is_sid 3 (omega arith) (omega arith);
  ports = tt;
  nodes = tt;
  clients = clients_grow clients within.few_clients;
  lines = lines_grow clients within.some_client lines seed (lines_above + clients + 2) [] (omega (arith, within.few_clients, within.few_lines)) (All-nil (λ above. above.line < lines_above + clients + 2));
}

-- the first of the lines from a state on, and those behind it
lines_more : (clients x first left n : ℕ) → left ≡ n + 1 → lines_from clients x first left ≡ record { line = first; run = run_from clients x } ∷ lines_from clients (state_behind x) (first + 1) n
lines_more clients x first left n is = ap (lines_from clients x first) (is ∙ add-one n)

-- where no line is made yet
pub none_made : (made : List RunLine) (clients x first left count : ℕ) → made ≡ [] → 0 + left ≡ count → made ++ lines_from clients x (first + 0) left ≡ lines_from clients x first count
none_made made clients x first left count empty is =
    let here : first + 0 ≡ first = omega arith in
    let whole : left ≡ count = omega (arith, is) in
    rw (empty, here, whole) refl

-- where one line more is made
pub one_made : (made more : List RunLine) (clients x behind first place left : ℕ) (run : Run) (all : List RunLine) → more ≡ made ++ record { line = first + place; run = run } ∷ [] → run ≡ run_from clients x → behind ≡ state_behind x
    → made ++ lines_from clients x (first + place) (left + 1) ≡ all → more ++ lines_from clients behind (first + (place + 1)) left ≡ all
one_made made more clients x behind first place left run all one asks state so_far =
    let below : first + (place + 1) ≡ first + place + 1 = omega arith in
    let line : RunLine = record { line = first + place; run = run_from clients x } in
    rw (one, asks, state, below)
    (append_assoc made (line ∷ []) (lines_from clients (state_behind x) (first + place + 1) left) ∙ ap (λ rest. made ++ rest) (sym (lines_more clients x (first + place) (left + 1) left refl)) ∙ so_far)

-- where all lines are made
pub all_made : (made : List RunLine) (clients x first : ℕ) (all : List RunLine) → made ++ lines_from clients x first 0 ≡ all → made ≡ all
all_made made clients x first all so_far = sym (append-nil made) ∙ so_far

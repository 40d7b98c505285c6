-- The definitions on numbers that were worked by hand.
use Rattle.std.proofs.Common.{◌≡◌, ℕ, ◌+◌, zero, suc, List, [], ◌∷◌, length, refl}
use Rattle.std.specs.Prelude.{codes}
use Rattle.std.specs.Fmt.{digits}
use Rattle.policy_text.proofs.OnLiterals.{policies_on_literals}
use Rattle.text_lines.specs.Lines.{lines_of}
use Rattle.file_calls.specs.declared.call.FileCall.TheVariants as file
use Rattle.port_calls.specs.declared.call.PortCall.TheVariants as port
use Rattle.session_text.specs.declared.session.Run.TheVariants.{File, Port}
use Rattle.session_text.specs.declared.session.RunLine.{RunLine}
use Rattle.session_generator.specs.Generated.{policy_text, next_state, drawn, admin_run, file_run, run_by, clients_to, lines_from, lines_above}

-- so many draws behind a state
draws : ℕ → ℕ → List ℕ
unfolding next_state
draws zero x = []
draws (suc n) x = drawn (next_state x) ∷ draws n (next_state x)

nine_draws_of_1 : draws 9 1 ≡ 16838 ∷ 5758 ∷ 10113 ∷ 17515 ∷ 31051 ∷ 5627 ∷ 23010 ∷ 7419 ∷ 16212 ∷ []
unfolding draws next_state
nine_draws_of_1 = refl

-- the first three lines of three clients with seed 1: `c3 port send 2 m1`, `c2 file read 7 0 16`, `c1 file read 5 0 16`
three_lines : List RunLine
three_lines =
    record { line = 25; run = Port 2 (port.Send 2 (codes "m1")) }
    ∷ record { line = 26; run = File 1 (file.ReadFile 7 0 16) }
    ∷ record { line = 27; run = File 0 (file.ReadFile 5 0 16) } ∷ []

three_lines_of_1 : lines_from 3 1 25 3 ≡ three_lines
unfolding three_lines digits next_state admin_run file_run run_by
three_lines_of_1 = refl

-- the first three clients
three_clients : clients_to 3 ≡ record { name = codes "c1"; sid = 1 } ∷ record { name = codes "c2"; sid = 2 } ∷ record { name = codes "c3"; sid = 1 } ∷ []
unfolding digits
three_clients = refl

-- the lines of the policy, and three more, stand above the clients' lines
above_clients : length (lines_of policy_text) + 3 ≡ lines_above
unfolding policies_on_literals
above_clients = refl

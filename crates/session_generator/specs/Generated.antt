-- The sessions that are made from three numbers: a seed, how many clients, and how many lines that run.
use Rattle.std.specs.Prelude.{ℕ, zero, suc, ◌+◌, ◌*◌, ◌/◌, ◌%◌, false, ◌==◌, List, [], ◌∷◌, ◌++◌, if◌then◌else◌, codes, decimal, Result, Ok, Err}
use Rattle.text_lines.specs.ResultSteps.{LineFault}
use Rattle.policy_model.specs.declared.policy.PolicyParts.{PolicyParts}
use Rattle.policy_text.specs.Grammar.{policy_of, no_parts}
use Rattle.file_calls.specs.declared.call.FileCall.TheVariants as file
use Rattle.process_calls.specs.declared.call.ProcessCall.TheVariants as process
use Rattle.port_calls.specs.declared.call.PortCall.TheVariants as port
use Rattle.session_text.specs.declared.session.ClientLine.{ClientLine}
use Rattle.session_text.specs.declared.session.Run.{Run}
use Rattle.session_text.specs.declared.session.Run.TheVariants.{File, Process, Port, Notify, Update, Ack}
use Rattle.session_text.specs.declared.session.RunLine.{RunLine}
use Rattle.session_text.specs.declared.session.SessionParts.{SessionParts}

-- the policy of each of them, as a text: three contexts and three versions, each of which allows less or other things than the first
abbrev pub policy_text : List ℕ
policy_text = codes "policy 1\ncontext u:r:a_t\ncontext u:r:b_t\ncontext u:object_r:d_t\nversion\nallow * * dir search add_name\nallow * * file create read write\nallow * * process fork\nallow * * port name_bind recv send\nversion\nallow * * dir search\nallow a_t * file read write\nallow * self process fork\nallow a_t * port name_bind recv send\nversion\nallow * * dir search\nallow b_t * file read\n"

-- the policy that a text is, and the one that says nothing where it is none
abbrev pub policy_or_none : Result PolicyParts LineFault → PolicyParts
policy_or_none (Ok policy) = policy
policy_or_none (Err fault) = no_parts

unfoldable pub policy : PolicyParts
policy = policy_or_none (policy_of policy_text)

-- a draw: the state behind it, and the number that it gives
unfoldable pub next_state : ℕ → ℕ
next_state x = (1103515245 * x + 12345) % 2147483648

abbrev pub drawn : ℕ → ℕ
drawn state = state / 65536

-- the identifiers of the contexts: those of clients with odd and with even numbers, and that of the root and of ports
abbrev pub odd_sid : ℕ
odd_sid = 1

abbrev pub even_sid : ℕ
even_sid = 2

abbrev pub object_sid : ℕ
object_sid = 3

-- client number i, counted from 1: `c` and its number
abbrev pub client_of : ℕ → ClientLine
client_of i = record { name = codes "c" ++ decimal i; sid = if i % 2 == 1 then odd_sid else even_sid }

-- the clients 1 to n
abbrev pub clients_to : ℕ → List ClientLine
clients_to zero = []
clients_to (suc n) = clients_to n ++ client_of (n + 1) ∷ []

-- a letter and a number, in one word
abbrev pub numbered : List ℕ → ℕ → List ℕ
numbered letter number = letter ++ decimal number

-- the path of file A, in the root
abbrev pub path_of : ℕ → List (List ℕ)
path_of a = numbered (codes "f") a ∷ []

-- what a line of the administrator asks, by its third draw
unfoldable pub admin_run : ℕ → Run
admin_run c =
    if c % 4 == 0 then Notify (c / 4 % 3)
    else if c % 4 == 3 then Ack
    else Update 64

-- what a call of the file manager asks, by which of the four it is, the client, and the third draw
unfoldable pub file_run : ℕ → ℕ → ℕ → Run
file_run which client c =
    if which == 0 then File client (file.Create (path_of (c % 64)))
    else if which == 1 then File client (file.OpenFile (c / 64 % 8) (path_of (c % 64)) 3)
    else if which == 2 then File client (file.WriteFile (c / 64 % 8) 0 (numbered (codes "x") (c % 64)))
    else File client (file.ReadFile (c / 64 % 8) 0 16)

-- what a line that runs asks, by its three draws, among so many clients, which are numbered from 0 here
unfoldable pub run_by : ℕ → ℕ → ℕ → ℕ → Run
run_by clients a b c =
    if b % 8 == 4 then Process (a % clients) (process.Fork (1 + c % 512))
    else if b % 8 == 5 then Port (a % clients) (port.Bind (c / 64 % 8) (1 + c % 128) 3)
    else if b % 8 == 6 then Port (a % clients) (port.Send (1 + c % 128) (numbered (codes "m") (c % 64)))
    else if b % 8 == 7 then admin_run c
    else file_run (b % 8) (a % clients) c

-- the state behind the three draws of a line, and what that line asks
abbrev pub state_behind : ℕ → ℕ
state_behind x = next_state (next_state (next_state x))

abbrev pub run_from : ℕ → ℕ → Run
run_from clients x = run_by clients (drawn (next_state x)) (drawn (next_state (next_state x))) (drawn (state_behind x))

-- n lines that run, of which the first has number `first`, from a state on
abbrev pub lines_from : ℕ → ℕ → ℕ → ℕ → List RunLine
lines_from clients x first zero = []
lines_from clients x first (suc n) = record { line = first; run = run_from clients x } ∷ lines_from clients (state_behind x) (first + 1) n

-- how many lines stand above the clients' lines: those of the policy, `session` and two `initial` lines
abbrev pub lines_above : ℕ
lines_above = 20

-- the session of these numbers
unfoldable pub generated : ℕ → ℕ → ℕ → SessionParts
generated seed clients lines = record {
  policy = policy;
  root = object_sid;
  port = object_sid;
  ports = [];
  audit = false;
  nodes = [];
  clients = clients_to clients;
  lines = lines_from clients seed (lines_above + clients + 2) lines;
}

-- The text of a session: its policy, `session`, what is there at the start, the clients, `run`, and the lines that run.
use Rattle.std.specs.Prelude.{ℕ, Bool, true, false, List, [], ◌∷◌, ◌++◌, map, Option, Some, None, decimal, codes}
use Rattle.text_print.specs.Printed.{text_of}
use Rattle.policy_model.specs.declared.policy.ContextLine.{ContextLine}
use Rattle.policy_print.specs.Printed.{policy_lines}
use Rattle.file_calls.specs.declared.opening.Node.{Node}
use Rattle.port_calls.specs.declared.opening.LabelledPort.{LabelledPort}
use Rattle.session_text.specs.declared.session.ClientLine.{ClientLine}
use Rattle.session_text.specs.declared.session.Run.{Run}
use Rattle.session_text.specs.declared.session.Run.TheVariants.{File, Process, Port, Begin, End, Notify, Update, Ack, Force}
use Rattle.session_text.specs.declared.session.RunLine.{RunLine}
use Rattle.session_text.specs.declared.session.SessionParts.{SessionParts}
use Rattle.session_print.specs.Words.{context_word, client_word, path_word, manager_word}
use Rattle.session_print.specs.CallWords.{file_words, process_words, port_words}

-- an `initial` line: whose context, and which
abbrev pub initial_words : List ContextLine → List ℕ → ℕ → List (List ℕ)
initial_words contexts what sid = codes "initial" ∷ what ∷ context_word contexts sid ∷ []

-- a `port` line
abbrev pub labelled_port_words : List ContextLine → LabelledPort → List (List ℕ)
labelled_port_words contexts line = codes "port" ∷ decimal line.port ∷ context_word contexts line.sid ∷ []

-- the `audit` line, where audit lines are printed
abbrev pub audit_lines : Bool → List (List (List ℕ))
audit_lines true = (codes "audit" ∷ []) ∷ []
audit_lines false = []

-- the first word of a node's line
abbrev pub node_word : Option (List ℕ) → List ℕ
node_word None = codes "dir"
node_word (Some bytes) = codes "file"

-- the bytes of a file, as a word: none of a directory, nor of an empty file
abbrev pub datum_words : Option (List ℕ) → List (List ℕ)
datum_words None = []
datum_words (Some []) = []
datum_words (Some (b ∷ bytes)) = (b ∷ bytes) ∷ []

-- a `dir` or `file` line
abbrev pub node_words : List ContextLine → Node → List (List ℕ)
node_words contexts node = node_word node.bytes ∷ path_word node.path ∷ context_word contexts node.sid ∷ datum_words node.bytes

-- a `client` line
abbrev pub client_words : List ContextLine → ClientLine → List (List ℕ)
client_words contexts client = codes "client" ∷ client.name ∷ context_word contexts client.sid ∷ []

-- a line that runs: clients stand by their names
abbrev pub run_words : List ContextLine → List ClientLine → Run → List (List ℕ)
run_words contexts clients (File client said) = client_word clients client ∷ codes "file" ∷ file_words contexts clients said
run_words contexts clients (Process client said) = client_word clients client ∷ codes "process" ∷ process_words contexts said
run_words contexts clients (Port client said) = client_word clients client ∷ codes "port" ∷ port_words said
run_words contexts clients (Begin client manager) = client_word clients client ∷ manager_word manager ∷ codes "begin" ∷ []
run_words contexts clients (End client manager) = client_word clients client ∷ manager_word manager ∷ codes "end" ∷ []
run_words contexts clients (Notify ver) = codes "admin" ∷ codes "notify" ∷ decimal ver ∷ []
run_words contexts clients (Update most) = codes "admin" ∷ codes "update" ∷ decimal most ∷ []
run_words contexts clients Ack = codes "admin" ∷ codes "ack" ∷ []
run_words contexts clients Force = codes "admin" ∷ codes "force" ∷ []

-- a line that runs, whatever its number
abbrev pub run_line_words : List ContextLine → List ClientLine → RunLine → List (List ℕ)
run_line_words contexts clients line = run_words contexts clients line.run

-- the session lines: both `initial` lines, the ports with contexts of their own, `audit`, the nodes, and the clients
unfoldable pub setup_lines : SessionParts → List (List (List ℕ))
setup_lines session =
    initial_words session.policy.contexts (codes "root") session.root
    ∷ initial_words session.policy.contexts (codes "port") session.port
    ∷ (map (labelled_port_words session.policy.contexts) session.ports
    ++ (audit_lines session.audit
    ++ (map (node_words session.policy.contexts) session.nodes ++ map (client_words session.policy.contexts) session.clients)))

-- the lines that run
unfoldable pub run_lines : SessionParts → List (List (List ℕ))
run_lines session = map (run_line_words session.policy.contexts session.clients) session.lines

-- the lines below the policy
unfoldable pub lines_below_policy : SessionParts → List (List (List ℕ))
lines_below_policy session = (codes "session" ∷ []) ∷ (setup_lines session ++ ((codes "run" ∷ []) ∷ run_lines session))

-- the lines of a session
unfoldable pub session_lines : SessionParts → List (List (List ℕ))
session_lines session = policy_lines session.policy ++ lines_below_policy session

-- the text of a session
unfoldable pub printed : SessionParts → List ℕ
printed session = text_of (session_lines session)

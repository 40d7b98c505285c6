-- What the grammar asks of a session.
use Rattle.std.specs.Prelude.{◌≡◌, ℕ, ◌<◌, ◌≤◌, Bool, true, false, ◌&&◌, ◌==◌, List, [], ◌∷◌, length, All, IfSome, codes, if◌then◌else◌}
use Rattle.std.specs.List.{list_all}
use Rattle.std.specs.Str.{bytes_eq}
use Rattle.flask_sid.specs.Names.{is_name}
use Rattle.text_lines.specs.Lines.{is_word_byte, line_limit}
use Rattle.file_calls.specs.Formed.{IsCall, IsPath}
use Rattle.file_calls.specs.Openings.{has_node, is_parent_there}
use Rattle.file_calls.specs.declared.call.FileCall.{FileCall}
use Rattle.file_calls.specs.declared.call.FileCall.TheVariants as call
use Rattle.file_calls.specs.declared.opening.Node.{Node}
use Rattle.process_calls.specs.Formed as process_form
use Rattle.process_calls.specs.declared.call.ProcessCall.{ProcessCall}
use Rattle.process_calls.specs.declared.call.ProcessCall.TheVariants as process_call
use Rattle.port_calls.specs.Formed as port_form
use Rattle.port_calls.specs.declared.call.PortCall.{PortCall}
use Rattle.port_calls.specs.declared.call.PortCall.TheVariants as port_call
use Rattle.port_calls.specs.declared.opening.LabelledPort.{LabelledPort}
use Rattle.policy_model.specs.Kept.{Grows}
use Rattle.policy_model.specs.declared.policy.ContextLine.{ContextLine}
use Rattle.session_forms.specs.declared.run_forms.Manager.{Manager}
use Rattle.session_forms.specs.declared.run_forms.Manager.TheVariants as manager
use Rattle.session_text.specs.Above.{node_limit, port_limit, client_limit, has_port, has_client}
use Rattle.session_text.specs.declared.session.ClientLine.{ClientLine}
use Rattle.session_text.specs.declared.session.Run.{Run}
use Rattle.session_text.specs.declared.session.Run.TheVariants.{File, Process, Port, Begin, End, Notify, Update, Ack, Force}
use Rattle.session_text.specs.declared.session.RunLine.{RunLine}
use Rattle.session_text.specs.declared.session.SessionParts.{SessionParts}

-- the identifier of one of these declared contexts
abbrev pub IsSidOf : List ContextLine → ℕ → Type 0
IsSidOf contexts sid = (0 < sid) × (sid ≤ length contexts)

-- bytes that a text may write in one word, none among them
abbrev pub AreWordBytes : List ℕ → Type 0
AreWordBytes bytes = list_all is_word_byte bytes ≡ true

-- the bytes of a file, as a text may give them: at most 1,024
pub record IsDatum (bytes : List ℕ) : Type 0 where
  pub short : length bytes ≤ 1024
  pub written : AreWordBytes bytes

-- a path at which a node may stand behind these: below the root, in a directory that is there, where nothing stands
abbrev pub IsPlace : List Node → List (List ℕ) → Type 0
IsPlace nodes path = (0 < length path) × (is_parent_there nodes path ≡ true) × (has_node nodes path ≡ false)

-- a port that may have a label: its number is one of a port, and the label is a declared context's
abbrev pub IsPortPlace : List ContextLine → ℕ → ℕ → Type 0
IsPortPlace contexts port sid = port_form.IsPort port × IsSidOf contexts sid

-- ports with labels are few, each is named once, and their labels are declared
pub record MayPort (contexts : List ContextLine) (seen : List LabelledPort) (line : LabelledPort) : Type 0 where
  pub few : length seen < port_limit
  pub place : IsPortPlace contexts line.port line.sid
  pub new : has_port seen line.port ≡ false

-- nodes are few, each stands at a free path in a directory before it, and their labels are declared
pub record MayNode (contexts : List ContextLine) (seen : List Node) (node : Node) : Type 0 where
  pub few : length seen < node_limit
  pub formed : IsPath node.path
  pub place : IsPlace seen node.path
  pub sid : IsSidOf contexts node.sid
  pub datum : IfSome node.bytes IsDatum

-- clients are few, well named, none as another or as the administrator, and their labels are declared
pub record MayClient (contexts : List ContextLine) (seen : List ClientLine) (client : ClientLine) : Type 0 where
  pub few : length seen < client_limit
  pub named : is_name client.name ≡ true
  pub other : bytes_eq client.name (codes "admin") ≡ false
  pub new : has_client seen client.name ≡ false
  pub sid : IsSidOf contexts client.sid

-- what a call names besides its caller is there: the receiver of a slot is one of so many clients, and a new label is known
abbrev pub IsDeclared : (ℕ → Type 0) → ℕ → FileCall → Type 0
IsDeclared known clients (call.Give slot client target) = client < clients
IsDeclared known clients (call.Relabel path sid) = known sid
IsDeclared known clients said = Unit {0}

-- a new label that a call of the process manager names is known
abbrev pub IsDeclaredProcess : (ℕ → Type 0) → ProcessCall → Type 0
IsDeclaredProcess known (process_call.Exec pid sid) = known sid
IsDeclaredProcess known said = Unit {0}

-- what a line may ask where these identifiers are known and there are so many clients
abbrev pub IsRun : (ℕ → Type 0) → ℕ → Run → Type 0
IsRun known clients (File client said) = (client < clients) × IsCall said × IsDeclared known clients said
IsRun known clients (Process client said) = (client < clients) × process_form.IsCall said × IsDeclaredProcess known said
IsRun known clients (Port client said) = (client < clients) × port_form.IsCall said
IsRun known clients (Begin client manager) = client < clients
IsRun known clients (End client manager) = client < clients
IsRun known clients (Notify ver) = ver < 256
IsRun known clients (Update most) = most < 4294967296
IsRun known clients Ack = Unit {0}
IsRun known clients Force = Unit {0}

-- what a call of the file manager, of the process manager or of the port manager carries can be written in a word
abbrev pub IsFileWritten : FileCall → Type 0
IsFileWritten (call.WriteFile slot offset piece) = AreWordBytes piece
IsFileWritten (call.AppendFile slot piece) = AreWordBytes piece
IsFileWritten said = Unit {0}

abbrev pub IsProcessWritten : ProcessCall → Type 0
IsProcessWritten (process_call.Poke slot value) = value < 4294967296
IsProcessWritten said = Unit {0}

abbrev pub IsPortWritten : PortCall → Type 0
IsPortWritten (port_call.Push slot piece) = AreWordBytes piece
IsPortWritten (port_call.Send port piece) = AreWordBytes piece
IsPortWritten said = Unit {0}

-- what a line carries can be written in a word
abbrev pub IsWritten : Run → Type 0
IsWritten (File client said) = IsFileWritten said
IsWritten (Process client said) = IsProcessWritten said
IsWritten (Port client said) = IsPortWritten said
IsWritten other = Unit {0}

-- two managers are one
abbrev pub same_manager : Manager → Manager → Bool
same_manager manager.File manager.File = true
same_manager manager.Process manager.Process = true
same_manager manager.Port manager.Port = true
same_manager one other = false

-- whether a client holds a pass of a manager below a line, by what the line says and what held above it
abbrev pub held_below : Bool → Run → ℕ → Manager → Bool
held_below above (Begin who of) client manager = if who == client && same_manager of manager then true else above
held_below above (End who of) client manager = if who == client && same_manager of manager then false else above
held_below above run client manager = above

-- whether a client holds a pass of a manager below these lines: the last of them that takes or gives one back decides
abbrev pub held_after : Bool → List RunLine → ℕ → Manager → Bool
held_after above [] client manager = above
held_after above (line ∷ lines) client manager = held_after (held_below above line.run client manager) lines client manager

abbrev pub is_held : List RunLine → ℕ → Manager → Bool
is_held lines client manager = held_after false lines client manager

-- passes are taken and given back in turn
abbrev pub IsTurn : List RunLine → Run → Type 0
IsTurn seen (Begin client manager) = is_held seen client manager ≡ false
IsTurn seen (End client manager) = is_held seen client manager ≡ true
IsTurn seen run = Unit {0}

-- a line stands below those before it, has a number that a text may have, asks what a line may ask, can be written, and takes and gives back passes in turn
pub record MayLine (contexts : List ContextLine) (clients : List ClientLine) (seen : List RunLine) (line : RunLine) : Type 0 where
  pub below : All (λ above. above.line < line.line) seen
  pub within : line.line ≤ line_limit
  pub run : IsRun (IsSidOf contexts) (length clients) line.run
  pub written : IsWritten line.run
  pub turn : IsTurn seen line.run

-- what a session keeps
pub record IsSession (session : SessionParts) : Type 0 where
  pub root : IsSidOf session.policy.contexts session.root
  pub port : IsSidOf session.policy.contexts session.port
  pub ports : Grows (MayPort session.policy.contexts) [] session.ports
  pub nodes : Grows (MayNode session.policy.contexts) [] session.nodes
  pub clients : Grows (MayClient session.policy.contexts) [] session.clients
  pub lines : Grows (MayLine session.policy.contexts session.clients) [] session.lines

-- The state of the plain port manager, and how its answers are put together.
use Rattle.std.specs.Prelude.{ℕ, ◌==◌, List, [], ◌∷◌, slice_index, All, IsTrue, if◌then◌else◌}
use Rattle.std.specs.Ordering.{nat_cmp}
use Rattle.std.specs.FinMap as maps
use Rattle.std.specs.FinMap.{FinMap}
use Rattle.access_vectors.specs.Table.{Permission}
use Rattle.access_vectors.specs.Perms.{port_name_bind, port_recv, port_send, port_connect}
use Rattle.access_vectors.specs.Decisions.{Decisions}
use Rattle.manager_history.specs.Answers.{Answer}
use Rattle.mode_questions.specs.Requests as requests
use Rattle.mode_questions.specs.Requests.{Request, Asking, asking_mode}
use Rattle.port_calls.specs.declared.opening.LabelledPort.{LabelledPort}
use Rattle.port_calls.specs.declared.opening.PortOpening.{PortOpening}
use Rattle.port_calls.specs.declared.call.PortReply.{PortReply}
use Rattle.port_calls.specs.declared.call.PortReply.TheVariants as reply

-- a port that is bound: by which client, and the messages that wait, oldest first
pub record Bound : Type 0 where
  pub owner : ℕ
  pub messages : List (List ℕ)

-- a slot in use: its port, and the mode
pub record Held : Type 0 where
  pub port : ℕ
  pub mode : ℕ

-- the manager's state: what it was opened with, the bound ports by their numbers, and the used slots by their places
pub record PortState : Type 0 where
  pub opening : PortOpening
  pub ports : FinMap nat_cmp Bound
  pub slots : FinMap nat_cmp Held

-- the reply to a call, the state that it leaves, and the questions that it asked, up to the first no
abbrev pub PortAnswer : Type 0
PortAnswer = Answer PortReply PortState

-- every identifier of an opening is the decider's
abbrev pub IsOpening : Decisions → PortOpening → Type 0
IsOpening d opening =
    All (λ sid. IsTrue (d.known sid)) opening.clients × IsTrue (d.known opening.initial) × All (λ line. IsTrue (d.known line.sid)) opening.ports

-- a client's identifier
abbrev pub sid_of : PortState → ℕ → ℕ
sid_of state client = slice_index state.opening.clients client

-- the label of a port: its own, where these give it one, and else the initial one
abbrev pub label_in : List LabelledPort → ℕ → ℕ → ℕ
label_in [] initial port = initial
label_in (line ∷ lines) initial port = if line.port == port then line.sid else label_in lines initial port

-- the label of a port, which its number fixes
abbrev pub label_of : PortOpening → ℕ → ℕ
label_of opening port = label_in opening.ports opening.initial port

-- the state that an opening gives: no port is bound, and every slot is free
abbrev pub opened_with : PortOpening → PortState
opened_with opening = record { opening = opening; ports = maps.empty; slots = maps.empty }

-- the state with other bound ports
abbrev pub with_ports : PortState → FinMap nat_cmp Bound → PortState
with_ports state ports = record { opening = state.opening; ports = ports; slots = state.slots }

-- the state with a slot in use
abbrev pub with_slot : PortState → ℕ → Held → PortState
with_slot state place held = record { opening = state.opening; ports = state.ports; slots = maps.insert state.slots place held }

-- how many messages may wait at a port, and how many bytes a message may have
abbrev pub message_limit : ℕ
message_limit = 16

abbrev pub byte_limit : ℕ
byte_limit = 256

-- the permissions of a mode, in the order in which they are asked
abbrev pub mode_perms : List Permission
mode_perms = port_name_bind ∷ port_recv ∷ port_send ∷ port_connect ∷ []

-- what comes of asking the whole of a mode
abbrev pub asking_whole : Request → ℕ → ℕ → Asking
asking_whole r t mode = asking_mode r t mode mode_perms

-- a reply that asks nothing more, in a state
abbrev pub saying : PortState → PortReply → PortAnswer
saying state said = requests.saying state said

-- a question first: where it is denied that is the reply, and nothing else is done
abbrev pub asking : Request → PortState → ℕ → Permission → PortAnswer → PortAnswer
asking r state t perm rest = requests.asking reply.Denied r state t perm rest

-- what is done where no permission of the mode was denied
abbrev pub after_asking : Request → PortState → Asking → PortAnswer → PortAnswer
after_asking r state asking rest = requests.after_asking reply.Denied r state asking rest

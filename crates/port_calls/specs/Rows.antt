-- The plain manager's calls. Each row is its tests and questions in order, and the first that fails is the reply. A use
-- through a slot asks the whole mode of the slot.
use Rattle.std.specs.Prelude.{ℕ, Bool, false, not, ◌==◌, nat_lt, List, [], ◌∷◌, ◌++◌, length, Option, Some, None, if◌then◌else◌}
use Rattle.std.specs.Ordering.{nat_cmp}
use Rattle.std.specs.FinMap as maps
use Rattle.std.specs.FinMap.{FinMap}
use Rattle.access_vectors.specs.Table.{Permission}
use Rattle.access_vectors.specs.Perms.{port_name_bind, port_recv, port_send, port_getattr}
use Rattle.access_vectors.specs.Vectors.{has}
use Rattle.mode_questions.specs.Requests.{Request}
use Rattle.port_calls.specs.States.{Bound, Held, PortState, PortAnswer, label_of, with_ports, with_slot, message_limit, byte_limit, asking_whole, saying, asking, after_asking}
use Rattle.port_calls.specs.declared.call.PortReply.TheVariants as reply

-- the state with a port bound by a client through a slot, where no message waits
abbrev pub bound_by : PortState → ℕ → ℕ → ℕ → ℕ → PortState
bound_by state client place port mode =
    with_slot (with_ports state (maps.insert state.ports port (record { owner = client; messages = [] }))) place (record { port = port; mode = mode })

-- binding a port, by what is bound there: Taken; each permission of the mode
abbrev pub bound_at : Request → PortState → ℕ → ℕ → ℕ → Option Bound → PortAnswer
bound_at r state place port mode (Some bound) = saying state reply.Taken
bound_at r state place port mode None =
    after_asking r state (asking_whole r (label_of state.opening port) mode)
    (saying (bound_by state r.client place port mode) reply.Done)

-- binding through what a place holds: SlotUsed
abbrev pub bind_into : Request → PortState → ℕ → ℕ → ℕ → Option Held → PortAnswer
bind_into r state place port mode (Some held) = saying state reply.SlotUsed
bind_into r state place port mode None =
    bound_at r state place port mode (maps.get state.ports port)

-- bind: SlotUsed; Taken; each permission of the mode; the port is bound by the caller, and the slot holds it
abbrev pub bind_row : Request → PortState → ℕ → ℕ → ℕ → PortAnswer
bind_row r state place port mode =
    bind_into r state place port mode (maps.get state.slots place)

-- connecting to a port, by what is bound there: NoPort; each permission of the mode
abbrev pub connected_at : Request → PortState → ℕ → ℕ → ℕ → Option Bound → PortAnswer
connected_at r state place port mode None = saying state reply.NoPort
connected_at r state place port mode (Some bound) =
    after_asking r state (asking_whole r (label_of state.opening port) mode)
    (saying (with_slot state place (record { port = port; mode = mode })) reply.Done)

-- connecting through what a place holds: SlotUsed
abbrev pub connect_into : Request → PortState → ℕ → ℕ → ℕ → Option Held → PortAnswer
connect_into r state place port mode (Some held) = saying state reply.SlotUsed
connect_into r state place port mode None =
    connected_at r state place port mode (maps.get state.ports port)

-- connect: SlotUsed; NoPort; each permission of the mode; the slot holds the port
abbrev pub connect_row : Request → PortState → ℕ → ℕ → ℕ → PortAnswer
connect_row r state place port mode =
    connect_into r state place port mode (maps.get state.slots place)

-- what is done with the port of a slot: a slot whose port is not bound is as good as free
abbrev pub with_bound : PortState → Option Bound → (Bound → PortAnswer) → PortAnswer
with_bound state None rest = saying state reply.BadSlot
with_bound state (Some bound) rest = rest bound

-- a use of what a place holds, which needs this permission: BadSlot; BadMode where the mode lacks it; each permission of the
-- mode on the port's label
abbrev pub used : Request → PortState → Permission → Option Held → (ℕ → Bound → PortAnswer) → PortAnswer
used r state perm None rest = saying state reply.BadSlot
used r state perm (Some held) rest =
    if has held.mode perm.index
    then with_bound state (maps.get state.ports held.port)
    (λ bound. after_asking r state (asking_whole r (label_of state.opening held.port) held.mode) (rest held.port bound))
    else saying state reply.BadMode

-- the port has other messages
abbrev pub with_messages : PortState → ℕ → Bound → List (List ℕ) → PortState
with_messages state port bound messages = with_ports state (maps.insert state.ports port (record { owner = bound.owner; messages = messages }))

-- taking the oldest of the messages: Empty
abbrev pub received : PortState → ℕ → Bound → List (List ℕ) → PortAnswer
received state port bound [] = saying state reply.Empty
received state port bound (message ∷ messages) = saying (with_messages state port bound messages) (reply.Bytes message)

-- recv: BadSlot; BadMode; each permission of the mode; Empty; the oldest message goes out
abbrev pub recv_row : Request → PortState → ℕ → PortAnswer
recv_row r state place =
    used r state port_recv (maps.get state.slots place) (λ port bound. received state port bound bound.messages)

-- a message is to wait at a port: TooBig; Full; it is the newest
abbrev pub sent : PortState → ℕ → Bound → List ℕ → PortAnswer
sent state port bound message =
    if nat_lt byte_limit (length message) then saying state reply.TooBig
    else if nat_lt (length bound.messages) message_limit then saying (with_messages state port bound (bound.messages ++ message ∷ [])) reply.Done
    else saying state reply.Full

-- push: BadSlot; BadMode; each permission of the mode; TooBig; Full; the message is the newest at the port
abbrev pub push_row : Request → PortState → ℕ → List ℕ → PortAnswer
push_row r state place message =
    used r state port_send (maps.get state.slots place) (λ port bound. sent state port bound message)

-- what is done with a port that has to be bound: NoPort
abbrev pub with_port : PortState → Option Bound → (Bound → PortAnswer) → PortAnswer
with_port state None rest = saying state reply.NoPort
with_port state (Some bound) rest = rest bound

-- send: NoPort; send on the port; TooBig; Full; the message is the newest at the port
abbrev pub send_row : Request → PortState → ℕ → List ℕ → PortAnswer
send_row r state port message =
    with_port state (maps.get state.ports port)
    (λ bound. asking r state (label_of state.opening port) port_send (sent state port bound message))

-- the slot holds the port
abbrev pub is_on_port : ℕ → Option Held → Bool
is_on_port port None = false
is_on_port port (Some held) = held.port == port

-- without the slots on a port
abbrev pub slots_without : ℕ → FinMap nat_cmp Held → FinMap nat_cmp Held
slots_without port slots = maps.retain_keys slots (λ place. not (is_on_port port (maps.get slots place)))

-- the slot bound its port
abbrev pub is_binding : Held → Bool
is_binding held = has held.mode port_name_bind.index

-- a port is not bound any more, its messages are gone, and every slot on it is free
abbrev pub unbound : PortState → ℕ → PortState
unbound state port = record { opening = state.opening; ports = maps.remove state.ports port; slots = slots_without port state.slots }

-- one slot is free
abbrev pub freed : PortState → ℕ → PortState
freed state place = record { opening = state.opening; ports = state.ports; slots = maps.remove state.slots place }

-- unbinding what a place holds: BadSlot
abbrev pub unbound_at : PortState → ℕ → Option Held → PortAnswer
unbound_at state place None = saying state reply.BadSlot
unbound_at state place (Some held) = saying (if is_binding held then unbound state held.port else freed state place) reply.Done

-- unbind: BadSlot; with a slot that bound its port the port goes, and with another one the slot alone
abbrev pub unbind_row : PortState → ℕ → PortAnswer
unbind_row state place = unbound_at state place (maps.get state.slots place)

-- stat: NoPort; getattr on the port; its label, and how many messages wait
abbrev pub stat_row : Request → PortState → ℕ → PortAnswer
stat_row r state port =
    with_port state (maps.get state.ports port)
    (λ bound. asking r state (label_of state.opening port) port_getattr
    (saying state (reply.Stat (label_of state.opening port) (length bound.messages))))

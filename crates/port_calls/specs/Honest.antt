-- What holds of every answer: its questions have the answers that the decisions give, and are those of its reply; and no call
-- changes what the manager was opened with, so that a call which is well formed stays so.
use Rattle.std.specs.Prelude.{◌≡◌, ◌<◌, ℕ, Bool, true, false, nat_lt, List, [], ◌∷◌, ◌++◌, length, Option, Some, None, refl, if◌then◌else◌}
use Rattle.std.proofs.Common.{sym, subst}
use Rattle.std.specs.FinMap as maps
use Rattle.access_vectors.specs.Table.{Permission}
use Rattle.access_vectors.specs.Vectors.{has}
use Rattle.access_vectors.specs.Decisions.{Decisions}
use Rattle.access_vectors.specs.Stale.{slot_place}
use Rattle.access_vectors.specs.Perms.{port_recv, port_send, port_getattr}
use Rattle.manager_history.specs.Answers.{IsHonest}
use Rattle.mode_questions.specs.Honesty as honest
use Rattle.mode_questions.specs.Requests.{Request}
use Rattle.port_calls.specs.States.{Bound, Held, PortState, PortAnswer, label_of, message_limit, byte_limit, mode_perms, asking_whole, saying, asking, after_asking}
use Rattle.port_calls.specs.Rows.{bound_at, bind_into, connected_at, connect_into, with_bound, used, with_messages, received, sent, with_port, is_binding, unbound, freed, unbound_at}
use Rattle.port_calls.specs.PlainManager.{answered, answer, request_of, denial_of, IsFormed}
use Rattle.port_calls.specs.declared.opening.PortOpening.{PortOpening}
use Rattle.port_calls.specs.declared.call.PortCall.{PortCall}
use Rattle.port_calls.specs.declared.call.PortCall.TheVariants as call
use Rattle.port_calls.specs.declared.call.PortReply.{PortReply}
use Rattle.port_calls.specs.declared.call.PortReply.TheVariants as reply

-- an answer to a request in a state is honest, and leaves the opening
abbrev Sound : Request → PortState → PortAnswer → Type 0
Sound r state given = IsHonest denial_of r.decisions r.number r.version given × (given.state.opening ≡ state.opening)

-- what the manager was opened with
abbrev opening_of : PortState → PortOpening
opening_of state = state.opening

-- a reply that asks nothing more
sound_saying : (r : Request) (state after : PortState) (said : PortReply) → denial_of said ≡ None → after.opening ≡ state.opening → Sound r state (saying after said)
sound_saying r state after said none kept = honest.sound_saying reply.Denied denial_of (λ perm number. refl) opening_of r state after said none kept

-- a question first
sound_asking : (r : Request) (state : PortState) (t : ℕ) (perm : Permission) (rest : PortAnswer) → Sound r state rest → Sound r state (asking r state t perm rest)
sound_asking r state t perm rest is = honest.sound_asking reply.Denied denial_of (λ perm number. refl) opening_of r state t perm rest is

-- the whole of a mode first
sound_whole : (r : Request) (state : PortState) (t mode : ℕ) (rest : PortAnswer) → Sound r state rest → Sound r state (after_asking r state (asking_whole r t mode) rest)
sound_whole r state t mode rest is =
    honest.sound_after_asking reply.Denied denial_of (λ perm number. refl) opening_of r state t mode mode_perms rest is

-- one of two rests
sound_if : (r : Request) (state : PortState) (test : Bool) (one other : PortAnswer) → Sound r state one → Sound r state other → Sound r state (if test then one else other)
sound_if r state test one other first second = honest.sound_if reply.Denied denial_of (λ perm number. refl) opening_of r state test one other first second

-- binding
sound_bound : (r : Request) (state : PortState) (place port mode : ℕ) (bound : Option Bound) → Sound r state (bound_at r state place port mode bound)
sound_bound r state place port mode (Some bound) = sound_saying r state state reply.Taken refl refl
sound_bound r state place port mode None =
    sound_whole r state (label_of state.opening port) mode _ (sound_saying r state _ reply.Done refl refl)

sound_bind : (r : Request) (state : PortState) (place port mode : ℕ) (held : Option Held) → Sound r state (bind_into r state place port mode held)
sound_bind r state place port mode (Some held) = sound_saying r state state reply.SlotUsed refl refl
sound_bind r state place port mode None = sound_bound r state place port mode (maps.get state.ports port)

-- connecting
sound_connected : (r : Request) (state : PortState) (place port mode : ℕ) (bound : Option Bound) → Sound r state (connected_at r state place port mode bound)
sound_connected r state place port mode None = sound_saying r state state reply.NoPort refl refl
sound_connected r state place port mode (Some bound) =
    sound_whole r state (label_of state.opening port) mode _ (sound_saying r state _ reply.Done refl refl)

sound_connect : (r : Request) (state : PortState) (place port mode : ℕ) (held : Option Held) → Sound r state (connect_into r state place port mode held)
sound_connect r state place port mode (Some held) = sound_saying r state state reply.SlotUsed refl refl
sound_connect r state place port mode None = sound_connected r state place port mode (maps.get state.ports port)

-- a use
sound_used : (r : Request) (state : PortState) (perm : Permission) (held : Option Held) (rest : ℕ → Bound → PortAnswer) → ((port : ℕ) (bound : Bound) → Sound r state (rest port bound)) → Sound r state (used r state perm held rest)
sound_used r state perm None rest is = sound_saying r state state reply.BadSlot refl refl
sound_used r state perm (Some held) rest is =
    sound_if r state (has held.mode perm.index) (with_bound state (maps.get state.ports held.port) asked_whole) (saying state reply.BadMode)
    (on_port (maps.get state.ports held.port)) (sound_saying r state state reply.BadMode refl refl)
  where
    asked_whole : Bound → PortAnswer
    asked_whole bound = after_asking r state (asking_whole r (label_of state.opening held.port) held.mode) (rest held.port bound)

    on_port : (bound : Option Bound) → Sound r state (with_bound state bound asked_whole)
    on_port None = sound_saying r state state reply.BadSlot refl refl
    on_port (Some bound) = sound_whole r state (label_of state.opening held.port) held.mode (rest held.port bound) (is held.port bound)

-- receiving
sound_received : (r : Request) (state : PortState) (port : ℕ) (bound : Bound) (messages : List (List ℕ)) → Sound r state (received state port bound messages)
sound_received r state port bound [] = sound_saying r state state reply.Empty refl refl
sound_received r state port bound (message ∷ messages) = sound_saying r state _ (reply.Bytes message) refl refl

-- sending
sound_sent : (r : Request) (state : PortState) (port : ℕ) (bound : Bound) (message : List ℕ) → Sound r state (sent state port bound message)
sound_sent r state port bound message =
    let grown = saying (with_messages state port bound (bound.messages ++ message ∷ [])) reply.Done in
    let kept = if nat_lt (length bound.messages) message_limit then grown else saying state reply.Full in
    sound_if r state (nat_lt byte_limit (length message)) (saying state reply.TooBig) kept (sound_saying r state state reply.TooBig refl refl)
    (sound_if r state (nat_lt (length bound.messages) message_limit) grown (saying state reply.Full)
    (sound_saying r state _ reply.Done refl refl) (sound_saying r state state reply.Full refl refl))

-- a port that has to be bound
sound_port : (r : Request) (state : PortState) (bound : Option Bound) (rest : Bound → PortAnswer) → ((bound : Bound) → Sound r state (rest bound)) → Sound r state (with_port state bound rest)
sound_port r state None rest is = sound_saying r state state reply.NoPort refl refl
sound_port r state (Some bound) rest is = is bound

-- unbinding
sound_unbound : (r : Request) (state : PortState) (place : ℕ) (held : Option Held) → Sound r state (unbound_at state place held)
sound_unbound r state place None = sound_saying r state state reply.BadSlot refl refl
sound_unbound r state place (Some held) =
    sound_saying r state (if is_binding held then unbound state held.port else freed state place) reply.Done refl
    (elim (is_binding held) as (λ (b : Bool). (if b then unbound state held.port else freed state place).opening ≡ state.opening) [
      | true ↦ refl
      | false ↦ refl
    ])

-- the answer to each call of a request
sound_answered : (r : Request) (state : PortState) (call : PortCall) → Sound r state (answered r state call)
sound_answered r state (call.Bind slot port mode) =
    sound_bind r state (slot_place r.client slot) port mode (maps.get state.slots (slot_place r.client slot))
sound_answered r state (call.Recv slot) =
    sound_used r state port_recv (maps.get state.slots (slot_place r.client slot)) _
    (λ port bound. sound_received r state port bound bound.messages)
sound_answered r state (call.Connect slot port mode) =
    sound_connect r state (slot_place r.client slot) port mode (maps.get state.slots (slot_place r.client slot))
sound_answered r state (call.Push slot piece) =
    sound_used r state port_send (maps.get state.slots (slot_place r.client slot)) _
    (λ port bound. sound_sent r state port bound piece)
sound_answered r state (call.Send port piece) =
    sound_port r state (maps.get state.ports port) _
    (λ bound. sound_asking r state (label_of state.opening port) port_send _ (sound_sent r state port bound piece))
sound_answered r state (call.Unbind slot) = sound_unbound r state (slot_place r.client slot) (maps.get state.slots (slot_place r.client slot))
sound_answered r state (call.StatPort port) =
    sound_port r state (maps.get state.ports port) _
    (λ bound. sound_asking r state (label_of state.opening port) port_getattr _
    (sound_saying r state state (reply.Stat (label_of state.opening port) (length bound.messages)) refl refl))

-- every answer of the plain manager is honest
pub honest_answer : (d : Decisions) (state : PortState) (caller : ℕ) (call : PortCall) (number version : ℕ) → IsHonest denial_of d number version (answer d state caller call number version)
honest_answer d state caller call number version = (sound_answered (request_of d state caller number version) state call).0

-- a call that is well formed stays so, whatever call comes before it
pub formed_stays : (d : Decisions) (state : PortState) (caller : ℕ) (call : PortCall) (number version other : ℕ) (later : PortCall)
    → IsFormed d state other later → IsFormed d (answer d state caller call number version).state other later
formed_stays d state caller call number version other later formed =
    record {
      caller_is = subst (λ (opening : PortOpening). other < length opening.clients)
          (sym (sound_answered (request_of d state caller number version) state call).1) formed.caller_is;
      ranges = formed.ranges;
    }

-- The plain port manager: finite maps, no cache, and a slot that gives nothing by itself.
use Rattle.std.specs.Prelude.{ℕ, ◌/◌, ◌<◌, not, length, Option, Some, None, if◌then◌else◌}
use Rattle.std.specs.FinMap as maps
use Rattle.access_vectors.specs.Decisions.{Decisions}
use Rattle.access_vectors.specs.Stale.{Follows, Pair, slot_place}
use Rattle.manager_history.specs.Answers.{Denial}
use Rattle.mode_questions.specs.Requests.{Request}
use Rattle.port_calls.specs.Formed.{IsCall}
use Rattle.port_calls.specs.States.{Held, PortState, PortAnswer, sid_of, label_of}
use Rattle.port_calls.specs.Rows.{is_on_port, is_binding, bind_row, connect_row, recv_row, push_row, send_row, unbind_row, stat_row}
use Rattle.port_calls.specs.declared.call.PortCall.{PortCall}
use Rattle.port_calls.specs.declared.call.PortCall.TheVariants as call
use Rattle.port_calls.specs.declared.call.PortReply.{PortReply}
use Rattle.port_calls.specs.declared.call.PortReply.TheVariants as reply

-- the plain manager's answer to a call of a request
abbrev pub answered : Request → PortState → PortCall → PortAnswer
answered r state (call.Bind slot port mode) = bind_row r state (slot_place r.client slot) port mode
answered r state (call.Recv slot) = recv_row r state (slot_place r.client slot)
answered r state (call.Connect slot port mode) = connect_row r state (slot_place r.client slot) port mode
answered r state (call.Push slot piece) = push_row r state (slot_place r.client slot) piece
answered r state (call.Send port piece) = send_row r state port piece
answered r state (call.Unbind slot) = unbind_row state (slot_place r.client slot)
answered r state (call.StatPort port) = stat_row r state port

-- the request of a caller under a policy number and its version
abbrev pub request_of : Decisions → PortState → ℕ → ℕ → ℕ → Request
request_of d state caller number version =
    record { decisions = d; version = version; client = caller; subject = sid_of state caller; number = number }

-- the plain manager's answer to a caller's call under a policy number and its version
abbrev pub answer : Decisions → PortState → ℕ → PortCall → ℕ → ℕ → PortAnswer
answer d state caller call number version = answered (request_of d state caller number version) state call

-- the slot that a call uses: recv and push are uses, and no other call is
abbrev pub use_of : ℕ → PortCall → Option ℕ
use_of caller (call.Recv slot) = Some (slot_place caller slot)
use_of caller (call.Push slot piece) = Some (slot_place caller slot)
use_of caller other = None

-- what the slots follow after a call that was done, and before any other
abbrev pub when_done : PortReply → Follows → Follows → Follows
when_done reply.Done changed before = changed
when_done said changed before = before

-- the slots on a port are free, and follow nothing
abbrev pub follows_without : PortState → ℕ → Follows → Follows
follows_without state port follows = maps.retain_keys follows (λ place. not (is_on_port port (maps.get state.slots place)))

-- what the slots follow after what a place holds was unbound
abbrev pub follows_unbound : PortState → ℕ → Option Held → Follows → Follows
follows_unbound state place None follows = follows
follows_unbound state place (Some held) follows = if is_binding held then follows_without state held.port follows else maps.remove follows place

-- what the slots follow after a call of a request that got this reply: a call that fills a slot sets it to the number, and a
-- slot that is free follows nothing
abbrev pub followed_by : Request → PortState → PortCall → PortReply → Follows → Follows
followed_by r state (call.Bind slot port mode) said follows = when_done said (maps.insert follows (slot_place r.client slot) r.number) follows
followed_by r state (call.Connect slot port mode) said follows = when_done said (maps.insert follows (slot_place r.client slot) r.number) follows
followed_by r state (call.Unbind slot) said follows =
    when_done said (follows_unbound state (slot_place r.client slot) (maps.get state.slots (slot_place r.client slot)) follows) follows
followed_by r state other said follows = follows

-- the same after a caller's call, which is done under a number and its version
abbrev pub followed : Decisions → PortState → ℕ → PortCall → ℕ → ℕ → PortReply → Follows → Follows
followed d state caller call number version said follows = followed_by (request_of d state caller number version) state call said follows

-- the pair of a client and the port that a slot of it holds, if any
abbrev pub pair_held : PortState → ℕ → Option Held → Option Pair
pair_held state client None = None
pair_held state client (Some held) = Some (record { source = sid_of state client; target = label_of state.opening held.port })

-- the pair of a place: of the client's identifier, and of the label of the slot's port
abbrev pub pair_of : PortState → ℕ → Option Pair
pair_of state place = pair_held state (place / 256) (maps.get state.slots place)

-- a call as a session may give it: its caller is a client, and its words and numbers are in their ranges
pub record IsFormed (d : Decisions) (state : PortState) (caller : ℕ) (call : PortCall) : Type 0 where
  pub caller_is : caller < length state.opening.clients
  pub ranges : IsCall call

-- the denial that a reply is, if it is one
abbrev pub denial_of : PortReply → Option Denial
denial_of (reply.Denied perm number) = Some (record { perm = perm; policy = number })
denial_of other = None

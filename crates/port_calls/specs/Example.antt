-- A first day of the plain port manager: two clients, and a port that one of them binds and the other sends a message to.
use Rattle.std.specs.Prelude.{◌≡◌, ℕ, true, [], ◌∷◌, codes}
use Rattle.access_vectors.specs.Perms.{port_name_bind, port_recv, port_send, port_connect}
use Rattle.access_vectors.specs.Decisions.{Decisions}
use Rattle.port_calls.specs.declared.opening.PortOpening.{PortOpening}
use Rattle.port_calls.specs.declared.call.PortCall.{PortCall}
use Rattle.port_calls.specs.declared.call.PortCall.TheVariants.{Bind, Connect, Push, Recv, Unbind}
use Rattle.port_calls.specs.declared.call.PortReply.TheVariants.{Done, Bytes, Empty, BadSlot}
use Rattle.port_calls.specs.PlainManager.{answer}
use Rattle.port_calls.specs.States.{PortState, PortAnswer, opened_with}

-- two clients, and one port with a label of its own
abbrev pub one_port_opening : PortOpening
one_port_opening = record { clients = 1 ∷ 2 ∷ []; initial = 3; ports = record { port = 80; sid = 4 } ∷ [] }

-- the decisions of the day: one version, which allows all
abbrev pub day_decisions : Decisions
day_decisions =
    record { versions = 1; known = λ s. true; vector = λ version s t class. 255; label = λ version s t class. t; member = λ version s t class. t }

-- the first client binds the port to receive, and the second connects to it to send
abbrev pub day_bind : PortCall
day_bind = Bind 1 80 3

abbrev pub day_connect : PortCall
day_connect = Connect 2 80 12

abbrev pub day_push : PortCall
day_push = Push 2 (codes "ping")

abbrev pub day_recv : PortCall
day_recv = Recv 1

abbrev pub day_unbind : PortCall
day_unbind = Unbind 1

-- the answer to a client's call, under policy number 0 with version 0
abbrev pub day_answer : PortState → ℕ → PortCall → PortAnswer
day_answer state client call = answer day_decisions state client call 0 0

-- the states of the day, one behind each call
abbrev pub bound_state : PortOpening → PortState
bound_state opening = (day_answer (opened_with opening) 0 day_bind).state

abbrev pub connected_state : PortOpening → PortState
connected_state opening = (day_answer (bound_state opening) 1 day_connect).state

abbrev pub pushed_state : PortOpening → PortState
pushed_state opening = (day_answer (connected_state opening) 1 day_push).state

abbrev pub received_state : PortOpening → PortState
received_state opening = (day_answer (pushed_state opening) 0 day_recv).state

abbrev pub unbound_state : PortOpening → PortState
unbound_state opening = (day_answer (received_state opening) 0 day_unbind).state

-- what the plain manager answers on that day: each call through a slot asks the whole mode of the slot on the port's label; the
-- message that was sent is received once, and nothing waits behind it; after the port is unbound the second client's slot is
-- free too
pub record AnswersOfDay (opening : PortOpening) : Type 0 where
  pub bound : day_answer (opened_with opening) 0 day_bind
      ≡ record {
        reply = Done;
        state = bound_state opening;
        asked = record { s = 1; t = 4; perm = port_name_bind; yes = true } ∷ record { s = 1; t = 4; perm = port_recv; yes = true } ∷ [];
      }
  pub connected : day_answer (bound_state opening) 1 day_connect
      ≡ record {
        reply = Done;
        state = connected_state opening;
        asked = record { s = 2; t = 4; perm = port_send; yes = true } ∷ record { s = 2; t = 4; perm = port_connect; yes = true } ∷ [];
      }
  pub pushed : day_answer (connected_state opening) 1 day_push
      ≡ record {
        reply = Done;
        state = pushed_state opening;
        asked = record { s = 2; t = 4; perm = port_send; yes = true } ∷ record { s = 2; t = 4; perm = port_connect; yes = true } ∷ [];
      }
  pub received : day_answer (pushed_state opening) 0 day_recv
      ≡ record {
        reply = Bytes (codes "ping");
        state = received_state opening;
        asked = record { s = 1; t = 4; perm = port_name_bind; yes = true } ∷ record { s = 1; t = 4; perm = port_recv; yes = true } ∷ [];
      }
  pub nothing_left : day_answer (received_state opening) 0 day_recv
      ≡ record {
        reply = Empty;
        state = received_state opening;
        asked = record { s = 1; t = 4; perm = port_name_bind; yes = true } ∷ record { s = 1; t = 4; perm = port_recv; yes = true } ∷ [];
      }
  pub unbound : day_answer (received_state opening) 0 day_unbind ≡ record { reply = Done; state = unbound_state opening; asked = [] }
  pub free_too : day_answer (unbound_state opening) 1 day_push ≡ record { reply = BadSlot; state = unbound_state opening; asked = [] }

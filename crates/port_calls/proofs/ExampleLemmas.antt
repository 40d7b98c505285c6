-- What the plain manager answers on the first day.
use Rattle.std.proofs.Common.{◌≡◌, ℕ, true, cond, not, List, [], ◌∷◌, Option, None, Some, codes, refl, sym, ap, subst, ◌∙◌}
use Rattle.std.specs.FinMap as maps
use Rattle.std.specs.FinMap.{FinMap, nat_cmp-IsAntisymmetric}
use Rattle.std.specs.Ordering.{nat_cmp}
use Rattle.std.specs.Cmp.{nat_cmp_total}
use Rattle.access_vectors.specs.Perms.{port_name_bind, port_recv, port_send, port_connect}
use Rattle.access_vectors.specs.Vectors.{has}
use Rattle.access_vectors.specs.declared.asked.Asked.{Asked}
use Rattle.mode_questions.specs.Requests.{Request}
use Rattle.port_calls.specs.PlainManager.{request_of}
use Rattle.port_calls.specs.States.{Bound, Held, PortState, PortAnswer, opened_with, asking_whole, after_asking}
use Rattle.port_calls.specs.Rows.{bind_into, bound_at, connect_into, connected_at, used, with_bound, sent, received, is_on_port, slots_without, unbound_at}
use Rattle.port_calls.specs.declared.call.PortCall.{PortCall}
use Rattle.port_calls.specs.declared.call.PortReply.{PortReply}
use Rattle.port_calls.specs.declared.call.PortReply.TheVariants.{Done, Bytes, Empty, BadSlot}
use Rattle.port_calls.specs.Example.{AnswersOfDay, one_port_opening, day_decisions, day_answer, day_bind, day_connect, day_push, day_recv, day_unbind, bound_state, connected_state, pushed_state, received_state, unbound_state}

-- what is bound with no message, and with the day's message
abbrev quiet : Bound
quiet = record { owner = 0; messages = [] }

abbrev waited : Bound
waited = record { owner = 0; messages = codes "ping" ∷ [] }

-- what the slots hold: the first client's slot 1, and the second one's slot 2, at place 258
abbrev first_held : Held
first_held = record { port = 80; mode = 3 }

abbrev second_held : Held
second_held = record { port = 80; mode = 12 }

-- the ports after the bind, the push and the recv
abbrev bound_ports : FinMap nat_cmp Bound
bound_ports = maps.insert maps.empty 80 quiet

abbrev pushed_ports : FinMap nat_cmp Bound
pushed_ports = maps.insert bound_ports 80 waited

abbrev received_ports : FinMap nat_cmp Bound
received_ports = maps.insert pushed_ports 80 quiet

-- the slots after the bind, and after the connect
abbrev one_slot : FinMap nat_cmp Held
one_slot = maps.insert maps.empty 1 first_held

abbrev two_slots : FinMap nat_cmp Held
two_slots = maps.insert one_slot 258 second_held

abbrev state_with : FinMap nat_cmp Bound → FinMap nat_cmp Held → PortState
state_with ports slots = record { opening = one_port_opening; ports = ports; slots = slots }

abbrev unbound_slots : FinMap nat_cmp Held
unbound_slots = slots_without 80 two_slots

-- the state after the unbind
abbrev unbound_now : PortState
unbound_now = state_with (maps.remove received_ports 80) unbound_slots

-- what the maps have
second_free : maps.get one_slot 258 ≡ None
second_free = maps.get-insert nat_cmp_total maps.empty 1 first_held 258 ∙ maps.get-empty nat_cmp 258

first_is : maps.get two_slots 1 ≡ Some first_held
first_is = maps.get-insert nat_cmp_total one_slot 258 second_held 1 ∙ maps.get-insert nat_cmp_total maps.empty 1 first_held 1

second_is : maps.get two_slots 258 ≡ Some second_held
second_is = maps.get-insert nat_cmp_total one_slot 258 second_held 258

port_is : (ports : FinMap nat_cmp Bound) (bound : Bound) → maps.get (maps.insert ports 80 bound) 80 ≡ Some bound
port_is ports bound = maps.get-insert nat_cmp_total ports 80 bound 80

second_gone : maps.get unbound_slots 258 ≡ None
second_gone =
    maps.get-retain_keys two_slots (λ place. not (is_on_port 80 (maps.get two_slots place))) 258
    (λ place tied. ap (λ q. not (is_on_port 80 (maps.get two_slots q))) (sym (nat_cmp-IsAntisymmetric 258 place tied)))
    ∙ ap (λ (held : Option Held). cond (not (is_on_port 80 held)) (maps.get two_slots 258) None) second_is

-- the questions of each client's mode
abbrev first_asked : List Asked
first_asked = record { s = 1; t = 4; perm = port_name_bind; yes = true } ∷ record { s = 1; t = 4; perm = port_recv; yes = true } ∷ []

abbrev second_asked : List Asked
second_asked = record { s = 2; t = 4; perm = port_send; yes = true } ∷ record { s = 2; t = 4; perm = port_connect; yes = true } ∷ []

abbrev told : PortReply → PortState → List Asked → PortAnswer
told said state asked = record { reply = said; state = state; asked = asked }

-- a client's request in a state, under number 0 with version 0
abbrev asks : PortState → ℕ → Request
asks state client = request_of day_decisions state client 0 0

bind_is : day_answer (opened_with one_port_opening) 0 day_bind ≡ told Done (state_with bound_ports one_slot) first_asked
unfolding has
bind_is =
    ap (bind_into (asks (opened_with one_port_opening) 0) (opened_with one_port_opening) 1 80 3) (maps.get-empty nat_cmp 1)
    ∙ ap (bound_at (asks (opened_with one_port_opening) 0) (opened_with one_port_opening) 1 80 3) (maps.get-empty nat_cmp 80)

connect_is : day_answer (state_with bound_ports one_slot) 1 day_connect ≡ told Done (state_with bound_ports two_slots) second_asked
unfolding has
connect_is =
    let state = state_with bound_ports one_slot in
    ap (connect_into (asks state 1) state 258 80 12) second_free ∙ ap (connected_at (asks state 1) state 258 80 12) (port_is maps.empty quiet)

push_is : day_answer (state_with bound_ports two_slots) 1 day_push ≡ told Done (state_with pushed_ports two_slots) second_asked
unfolding has
push_is =
    let state = state_with bound_ports two_slots in
    ap (λ (held : Option Held). used (asks state 1) state port_send held (λ port bound. sent state port bound (codes "ping"))) second_is
    ∙ ap (λ (bound : Option Bound). with_bound state bound (λ bound. after_asking (asks state 1) state (asking_whole (asks state 1) 4 12) (sent state 80 bound (codes "ping")))) (port_is maps.empty quiet)

-- a recv in a state with these ports, by what is bound at the port
recv_is : (ports : FinMap nat_cmp Bound) (bound : Bound) → maps.get ports 80 ≡ Some bound
    → day_answer (state_with ports two_slots) 0 day_recv
    ≡ after_asking (asks (state_with ports two_slots) 0) (state_with ports two_slots) (asking_whole (asks (state_with ports two_slots) 0) 4 3) (received (state_with ports two_slots) 80 bound bound.messages)
unfolding has
recv_is ports bound is =
    let state = state_with ports two_slots in
    ap (λ (held : Option Held). used (asks state 0) state port_recv held (λ port bound. received state port bound bound.messages)) first_is
    ∙ ap (λ (found : Option Bound). with_bound state found (λ bound. after_asking (asks state 0) state (asking_whole (asks state 0) 4 3) (received state 80 bound bound.messages))) is

message_is : day_answer (state_with pushed_ports two_slots) 0 day_recv ≡ told (Bytes (codes "ping")) (state_with received_ports two_slots) first_asked
unfolding has
message_is = recv_is pushed_ports waited (port_is bound_ports waited)

empty_is : day_answer (state_with received_ports two_slots) 0 day_recv ≡ told Empty (state_with received_ports two_slots) first_asked
unfolding has
empty_is = recv_is received_ports quiet (port_is pushed_ports quiet)

unbind_is : day_answer (state_with received_ports two_slots) 0 day_unbind ≡ told Done unbound_now []
unfolding has
unbind_is = ap (unbound_at (state_with received_ports two_slots) 1) first_is

bad_is : day_answer unbound_now 1 day_push ≡ told BadSlot unbound_now []
bad_is = ap (λ (held : Option Held). used (asks unbound_now 1) unbound_now port_send held (λ port bound. sent unbound_now port bound (codes "ping"))) second_gone

-- an answer in a state that is another one by its name
answered : (state now next : PortState) (client : ℕ) (call : PortCall) (said : PortReply) (asked : List Asked) → state ≡ now → day_answer now client call ≡ told said next asked
    → day_answer state client call ≡ told said (day_answer state client call).state asked
answered state now next client call said asked same is =
    let all = ap (λ (s : PortState). day_answer s client call) same ∙ is in
    all ∙ ap (λ (s : PortState). told said s asked) (sym (ap (λ (a : PortAnswer). a.state) all))

next_is : (state now next : PortState) (client : ℕ) (call : PortCall) (said : PortReply) (asked : List Asked) → state ≡ now → day_answer now client call ≡ told said next asked
    → (day_answer state client call).state ≡ next
next_is state now next client call said asked same is = ap (λ (s : PortState). (day_answer s client call).state) same ∙ ap (λ (a : PortAnswer). a.state) is

bound_is : bound_state one_port_opening ≡ state_with bound_ports one_slot
bound_is = next_is (opened_with one_port_opening) (opened_with one_port_opening) (state_with bound_ports one_slot) 0 day_bind Done first_asked refl bind_is

connected_is : connected_state one_port_opening ≡ state_with bound_ports two_slots
connected_is = next_is _ _ _ 1 day_connect Done second_asked bound_is connect_is

pushed_is : pushed_state one_port_opening ≡ state_with pushed_ports two_slots
pushed_is = next_is _ _ _ 1 day_push Done second_asked connected_is push_is

received_is : received_state one_port_opening ≡ state_with received_ports two_slots
received_is = next_is _ _ _ 0 day_recv (Bytes (codes "ping")) first_asked pushed_is message_is

unbound_is : unbound_state one_port_opening ≡ unbound_now
unbound_is = next_is _ _ _ 0 day_unbind Done [] received_is unbind_is

pub answers_of_day : AnswersOfDay one_port_opening
answers_of_day = record {
  bound = answered (opened_with one_port_opening) (opened_with one_port_opening) (state_with bound_ports one_slot) 0 day_bind Done first_asked refl bind_is;
  connected = answered _ _ _ 1 day_connect Done second_asked bound_is connect_is;
  pushed = answered _ _ _ 1 day_push Done second_asked connected_is push_is;
  received = answered _ _ _ 0 day_recv (Bytes (codes "ping")) first_asked pushed_is message_is;
  nothing_left = subst (λ (state : PortState). day_answer state 0 day_recv ≡ told Empty state first_asked) (sym received_is) empty_is;
  unbound = answered _ _ _ 0 day_unbind Done [] received_is unbind_is;
  free_too = subst (λ (state : PortState). day_answer state 1 day_push ≡ told BadSlot state []) (sym unbound_is) bad_is;
}

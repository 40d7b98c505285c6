-- What is bound at a port, and what a change of its messages leaves.
use Rattle.std.specs.Prelude.{ℕ, List, [], ◌∷◌, ◌++◌, drop, length, option_map, Option, Some, None}
use Rattle.std.specs.FinMap as maps
use Rattle.port_calls.specs.States.{Bound, PortState}
use Rattle.port_calls.specs.Rows.{with_messages}
use Rattle.port_store.specs.Stores.{BoundPorts}

-- how many messages wait where this is bound
abbrev pub waiting : Option Bound → ℕ
waiting None = 0
waiting (Some bound) = length bound.messages

-- with one more message, the newest
abbrev pub with_newest : Bound → List ℕ → Bound
with_newest bound message = record { owner = bound.owner; messages = bound.messages ++ message ∷ [] }

-- without the oldest message
abbrev pub without_oldest : Bound → Bound
without_oldest bound = record { owner = bound.owner; messages = drop 1 bound.messages }

-- the ports with this bound at one of them, where it is something
abbrev pub ports_with : BoundPorts → ℕ → Option Bound → BoundPorts
ports_with ports port None = ports
ports_with ports port (Some bound) = maps.insert ports port bound

-- the ports with what is bound at one of them changed so, where something is bound there
abbrev pub changed : BoundPorts → ℕ → (Bound → Bound) → BoundPorts
changed ports port change = ports_with ports port (option_map change (maps.get ports port))

-- the state with one more message at a port where this is bound
abbrev pub pushed : PortState → ℕ → Option Bound → List ℕ → PortState
pushed state port None message = state
pushed state port (Some bound) message = with_messages state port bound (bound.messages ++ message ∷ [])

-- the state without the oldest message at a port where this is bound
abbrev pub popped : PortState → ℕ → Option Bound → PortState
popped state port None = state
popped state port (Some bound) = with_messages state port bound (drop 1 bound.messages)

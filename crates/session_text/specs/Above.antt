-- What the lines above a line declare, and the limits of a session.
use Rattle.std.specs.Prelude.{ℕ, ◌+◌, Bool, ◌==◌, nat_lt, List, Option, Some, None, option_and_then, if◌then◌else◌}
use Rattle.std.specs.List.{list_any, position}
use Rattle.std.specs.Str.{bytes_eq}
use Rattle.flask_sid.specs.declared.context.ContextOf.{ContextOf}
use Rattle.policy_model.specs.declared.policy.ContextLine.{ContextLine}
use Rattle.policy_model.specs.Declarations.{same_context}
use Rattle.port_calls.specs.declared.opening.LabelledPort.{LabelledPort}
use Rattle.session_text.specs.declared.session.ClientLine.{ClientLine}

-- how many there may be: nodes besides the root, ports with contexts of their own, and clients
abbrev pub node_limit : ℕ
node_limit = 4095

abbrev pub port_limit : ℕ
port_limit = 1024

abbrev pub client_limit : ℕ
client_limit = 62

-- the identifier of a place among the context lines, of which there are at most 4,095
abbrev pub sid_at : ℕ → Option ℕ
sid_at at = if nat_lt at 4095 then Some (at + 1) else None

-- the identifier of a declared context: its place among the context lines, from 1
unfoldable pub context_sid : List ContextLine → ContextOf (List ℕ) → Option ℕ
context_sid contexts context = option_and_then sid_at (position (λ line. same_context line.context context) contexts)

-- the number of a client
unfoldable pub client_number : List ClientLine → List ℕ → Option ℕ
client_number clients name = position (λ client. bytes_eq client.name name) clients

-- a client of that name is there
unfoldable pub has_client : List ClientLine → List ℕ → Bool
has_client clients name = list_any (λ client. bytes_eq client.name name) clients

-- a port of that number has a context of its own
unfoldable pub has_port : List LabelledPort → ℕ → Bool
has_port ports number = list_any (λ line. line.port == number) ports

-- A session and the indexes of what it declares.
use Rattle.std.specs.Prelude.{◌≡◌, ℕ, ◌≤◌, List, length, map}
use Rattle.flask_sid.specs.declared.context.ContextOf.{ContextOf}
use Rattle.policy_text.specs.Above.{contexts_in}
use Rattle.file_calls.specs.declared.opening.Node.{Node}
use Rattle.session_text.specs.declared.passes.ClientPasses.{ClientPasses}
use Rattle.session_text.specs.declared.session.ClientLine.{ClientLine}
use Rattle.session_text.specs.declared.session.SessionParts.{SessionParts}
use Rattle.session_text.specs.Passes.{AreHeld}
use Rattle.session_text.specs.Progress.{IsSetUp}
use Rattle.session_text.specs.Sessions.{IsSession}

-- the names of clients, in their order
abbrev pub names_of : List ClientLine → List (List ℕ)
names_of clients = map (λ client. client.name) clients

-- the paths of nodes, in their order
abbrev pub paths_of : List Node → List (List (List ℕ))
paths_of nodes = map (λ node. node.path) nodes

-- a session of which no line runs yet, and the indexes of its contexts, clients and nodes
pub record IsSetUpBy (session : SessionParts) (context_index : List (ContextOf (List ℕ))) (client_index : List (List ℕ)) (node_index : List (List (List ℕ))) : Type 0 where
  pub set_up : IsSetUp session
  pub contexts : context_index ≡ contexts_in session.policy.contexts
  pub clients : client_index ≡ names_of session.clients
  pub nodes : node_index ≡ paths_of session.nodes

-- a session whose lines run, the passes that its clients hold, and the indexes of its contexts and clients
pub record IsRunningBy (session : SessionParts) (table : List ClientPasses) (context_index : List (ContextOf (List ℕ))) (client_index : List (List ℕ)) : Type 0 where
  pub kept : IsSession session
  pub held : AreHeld table (length session.clients) session.lines
  pub contexts : context_index ≡ contexts_in session.policy.contexts
  pub clients : client_index ≡ names_of session.clients
  pub few : length client_index ≤ 62

-- A session that grows by a line still is one.
use Rattle.std.proofs.Common.{ℕ, List, [], Option, refl, arith}
use Rattle.policy_model.specs.Kept.{IsWholePolicy}
use Rattle.policy_model.specs.declared.policy.PolicyParts.{PolicyParts}
use Rattle.policy_model.proofs.GrowsLemmas.{grows_snoc}
use Rattle.session_text.specs.declared.session.Run.{Run}
use Rattle.session_text.specs.declared.session.SessionParts.{SessionParts}
use Rattle.session_text.specs.Sessions.{IsSession, MayPort, MayNode, MayClient, MayLine}
use Rattle.session_text.specs.Grammar.{with_port, with_node, with_client, with_line}
use Rattle.session_text.specs.Progress.{IsSetUp}
use Rattle.session_text.specs.Reading.{session_of_policy}

-- a session of a policy, which has a context, with nothing there yet
pub begun : (policy : PolicyParts) → IsWholePolicy policy → IsSetUp (session_of_policy policy)
begun policy kept =
    record { kept = record { root = (omega arith, kept.context); port = (omega arith, kept.context); ports = tt; nodes = tt; clients = tt; lines = tt }; idle = refl }

-- one port more
pub port_grows : (port sid : ℕ) (session : SessionParts) → IsSetUp session → MayPort session.policy.contexts session.ports (record { port = port; sid = sid }) → IsSetUp (with_port port sid session)
port_grows port sid session is may =
    record {
      kept = record {
        root = is.kept.root;
        port = is.kept.port;
        ports = grows_snoc (MayPort session.policy.contexts) [] session.ports (record { port = port; sid = sid }) is.kept.ports may;
        nodes = is.kept.nodes;
        clients = is.kept.clients;
        lines = is.kept.lines;
      };
      idle = is.idle;
    }

-- one node more
pub node_grows : (path : List (List ℕ)) (sid : ℕ) (bytes : Option (List ℕ)) (session : SessionParts) → IsSetUp session → MayNode session.policy.contexts session.nodes (record { path = path; sid = sid; bytes = bytes }) → IsSetUp (with_node path sid bytes session)
node_grows path sid bytes session is may =
    record {
      kept = record {
        root = is.kept.root;
        port = is.kept.port;
        ports = is.kept.ports;
        nodes = grows_snoc (MayNode session.policy.contexts) [] session.nodes (record { path = path; sid = sid; bytes = bytes }) is.kept.nodes may;
        clients = is.kept.clients;
        lines = is.kept.lines;
      };
      idle = is.idle;
    }

-- one client more, where no line runs yet
pub client_grows : (name : List ℕ) (sid : ℕ) (session : SessionParts) → IsSetUp session → MayClient session.policy.contexts session.clients (record { name = name; sid = sid }) → IsSetUp (with_client name sid session)
client_grows name sid session is may =
    record {
      kept = record {
        root = is.kept.root;
        port = is.kept.port;
        ports = is.kept.ports;
        nodes = is.kept.nodes;
        clients = grows_snoc (MayClient session.policy.contexts) [] session.clients (record { name = name; sid = sid }) is.kept.clients may;
        lines = rw is.idle tt;
      };
      idle = is.idle;
    }

-- one line more that runs
pub line_grows : (n : ℕ) (run : Run) (session : SessionParts) → IsSession session → MayLine session.policy.contexts session.clients session.lines (record { line = n; run = run }) → IsSession (with_line n run session)
line_grows n run session is may =
    record {
      root = is.root;
      port = is.port;
      ports = is.ports;
      nodes = is.nodes;
      clients = is.clients;
      lines = grows_snoc (MayLine session.policy.contexts session.clients) [] session.lines (record { line = n; run = run }) is.lines may;
    }

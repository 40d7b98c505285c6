-- The session lines of a session that was printed lead from its policy to all that they say.
use Rattle.std.proofs.Common.{ℕ, Bool, true, false, List, [], ◌∷◌, ◌++◌, map, refl}
use Rattle.std.specs.Prelude.{codes}
use Rattle.text_print.proofs.LeadLaws.{AllLead, lead_append}
use Rattle.policy_model.specs.Kept.{Grown}
use Rattle.policy_print.proofs.LeadLaws.{grown_lead}
use Rattle.file_calls.specs.declared.opening.Node.{Node}
use Rattle.port_calls.specs.declared.opening.LabelledPort.{LabelledPort}
use Rattle.session_text.specs.declared.session.ClientLine.{ClientLine}
use Rattle.session_text.specs.declared.session.SessionParts.{SessionParts}
use Rattle.session_text.specs.Grammar.{Setup, with_root}
use Rattle.session_text.specs.Reading.{session_of_policy, setup_of_policy}
use Rattle.session_text.specs.Sessions.{MayPort, MayNode, MayClient, IsSession}
use Rattle.session_print.specs.Printed.{initial_words, labelled_port_words, audit_lines, node_words, client_words, setup_lines}
use Rattle.session_print.proofs.SetupLaws.{IsSameSetup, setup_line, said_leads, root_says, initial_port_says, port_says, audit_says, node_says, client_says}

-- below the line `initial root`
abbrev at_root : SessionParts → Setup
at_root session = record { session = with_root session.root (session_of_policy session.policy); root_given = true; port_given = false }

-- below both `initial` lines, with this session so far
abbrev below_initial : SessionParts → Setup
below_initial session = record { session = session; root_given = true; port_given = true }

-- the contexts of the root and of ports, and some ports
abbrev at_ports : SessionParts → List LabelledPort → SessionParts
at_ports session ports = record (session_of_policy session.policy) { root = session.root; port = session.port; ports = ports }

-- all ports, and whether audit lines are printed
abbrev at_audit : SessionParts → Bool → SessionParts
at_audit session audit = record (at_ports session session.ports) { audit = audit }

-- this too, and some nodes
abbrev at_nodes : SessionParts → List Node → SessionParts
at_nodes session nodes = record (at_audit session session.audit) { nodes = nodes }

-- all nodes, and some clients
abbrev at_clients : SessionParts → List ClientLine → SessionParts
at_clients session clients = record (at_nodes session session.nodes) { clients = clients }

-- a session whose lines that run have not been read yet
abbrev pub before_lines : SessionParts → SessionParts
before_lines session = record session { lines = [] }

-- session lines that lead from one setup to another
abbrev Lead : List (List (List ℕ)) → Setup → Setup → Type 0
Lead lines one other = AllLead setup_line IsSameSetup lines one other

-- the ports
ports_lead : (session : SessionParts) → Grown session.policy → IsSession session → Lead (map (labelled_port_words session.policy.contexts) session.ports) (below_initial (at_ports session [])) (below_initial (at_ports session session.ports))
ports_lead session grown kept =
    grown_lead setup_line IsSameSetup (MayPort session.policy.contexts) (labelled_port_words session.policy.contexts) (λ ports. below_initial (at_ports session ports)) (λ seen line may.
    said_leads (labelled_port_words session.policy.contexts line) (below_initial (at_ports session seen)) (below_initial (at_ports session (seen ++ line ∷ [])))
    (port_says (below_initial (at_ports session seen)) grown line may)) [] session.ports kept.ports

-- `audit`, where it is set
audit_lead : (session : SessionParts) (audit : Bool) → Lead (audit_lines audit) (below_initial (at_audit session false)) (below_initial (at_audit session audit))
audit_lead session false = refl
audit_lead session true =
    (below_initial (at_audit session true), said_leads (codes "audit" ∷ []) (below_initial (at_audit session false)) (below_initial (at_audit session true)) (audit_says (below_initial (at_audit session false)) refl), refl)

-- the nodes
nodes_lead : (session : SessionParts) → Grown session.policy → IsSession session → Lead (map (node_words session.policy.contexts) session.nodes) (below_initial (at_audit session session.audit)) (below_initial (at_nodes session session.nodes))
nodes_lead session grown kept =
    grown_lead setup_line IsSameSetup (MayNode session.policy.contexts) (node_words session.policy.contexts) (λ nodes. below_initial (at_nodes session nodes)) (λ seen node may.
    said_leads (node_words session.policy.contexts node) (below_initial (at_nodes session seen)) (below_initial (at_nodes session (seen ++ node ∷ [])))
    (node_says (below_initial (at_nodes session seen)) grown node may)) [] session.nodes kept.nodes

-- the clients
clients_lead : (session : SessionParts) → Grown session.policy → IsSession session → Lead (map (client_words session.policy.contexts) session.clients) (below_initial (at_nodes session session.nodes)) (below_initial (before_lines session))
clients_lead session grown kept =
    grown_lead setup_line IsSameSetup (MayClient session.policy.contexts) (client_words session.policy.contexts) (λ clients. below_initial (at_clients session clients)) (λ seen client may.
    said_leads (client_words session.policy.contexts client) (below_initial (at_clients session seen)) (below_initial (at_clients session (seen ++ client ∷ [])))
    (client_says (below_initial (at_clients session seen)) grown client may)) [] session.clients kept.clients

-- all session lines but `run`
pub setup_lines_lead : (session : SessionParts) → Grown session.policy → IsSession session → AllLead setup_line IsSameSetup (setup_lines session) (setup_of_policy session.policy) (record { session = before_lines session; root_given = true; port_given = true })
unfolding setup_lines
setup_lines_lead session grown kept =
    let nodes = lead_append setup_line IsSameSetup (map (node_words session.policy.contexts) session.nodes) _ _ _ _ (nodes_lead session grown kept) (clients_lead session grown kept) in
    let audit = lead_append setup_line IsSameSetup (audit_lines session.audit) _ _ _ _ (audit_lead session session.audit) nodes in
    let ports = lead_append setup_line IsSameSetup (map (labelled_port_words session.policy.contexts) session.ports) _ _ _ _ (ports_lead session grown kept) audit in
    let port = said_leads (initial_words session.policy.contexts (codes "port") session.port) (at_root session) (below_initial (at_ports session [])) (initial_port_says (at_root session) grown session.port kept.port refl) in
    let root = said_leads (initial_words session.policy.contexts (codes "root") session.root) (setup_of_policy session.policy) (at_root session) (root_says (setup_of_policy session.policy) grown session.root kept.root refl) in
    (at_root session, root, (below_initial (at_ports session []), port, ports))

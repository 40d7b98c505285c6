-- The text of a session, from its front.
use Rattle.std.proofs.Common.{◌≡◌, ◌∙◌, ℕ, List, [], ◌∷◌, ◌++◌, map, sym, ap, append_assoc}
use Rattle.std.specs.Prelude.{codes}
use Rattle.std.proofs.lemmas.Grind.{flat_map-append}
use Rattle.std.proofs.lemmas.List.Folds.{flat_map-map}
use Rattle.text_print.specs.Printed.{ended, text_of}
use Rattle.policy_print.specs.Printed.{policy_lines, texts_of, printed as policy_text}
use Rattle.session_text.specs.declared.session.SessionParts.{SessionParts}
use Rattle.session_print.specs.Printed.{initial_words, labelled_port_words, audit_lines, node_words, client_words, run_line_words, setup_lines, run_lines, lines_below_policy, session_lines, printed}

-- lines, and the lines below them, behind some text
onto : (out : List ℕ) (front back : List (List (List ℕ))) → out ++ text_of (front ++ back) ≡ (out ++ text_of front) ++ text_of back
onto out front back = ap (λ text. out ++ text) (flat_map-append ended front back) ∙ sym (append_assoc out (text_of front) (text_of back))

-- one list of lines, and the lines below it
list_onto : {X : Type 0} (out : List ℕ) (words : X → List (List ℕ)) (members : List X) (back : List (List (List ℕ))) → out ++ text_of (map words members ++ back) ≡ (out ++ texts_of words members) ++ text_of back
list_onto out words members back = onto out (map words members) back ∙ ap (λ text. (out ++ text) ++ text_of back) (flat_map-map ended words members)

-- the session lines, behind some text
pub setup_from : (out : List ℕ) (session : SessionParts) → out ++ text_of (setup_lines session) ≡ (((((out ++ ended (initial_words session.policy.contexts (codes "root") session.root)) ++ ended (initial_words session.policy.contexts (codes "port") session.port)) ++ texts_of (labelled_port_words session.policy.contexts) session.ports) ++ text_of (audit_lines session.audit)) ++ texts_of (node_words session.policy.contexts) session.nodes) ++ texts_of (client_words session.policy.contexts) session.clients
unfolding setup_lines
setup_from out session =
    let contexts = session.policy.contexts in
    let root = ended (initial_words contexts (codes "root") session.root) in
    let port = ended (initial_words contexts (codes "port") session.port) in
    let clients = map (client_words contexts) session.clients in
    let nodes = map (node_words contexts) session.nodes ++ clients in
    let audit = audit_lines session.audit ++ nodes in
    let ports = map (labelled_port_words contexts) session.ports ++ audit in
    let out1 = out ++ root in
    let out2 = out1 ++ port in
    let out3 = out2 ++ texts_of (labelled_port_words contexts) session.ports in
    let out4 = out3 ++ text_of (audit_lines session.audit) in
    let out5 = out4 ++ texts_of (node_words contexts) session.nodes in
    sym (append_assoc out root (port ++ text_of ports))
    ∙ sym (append_assoc out1 port (text_of ports))
    ∙ list_onto out2 (labelled_port_words contexts) session.ports audit
    ∙ onto out3 (audit_lines session.audit) nodes
    ∙ list_onto out4 (node_words contexts) session.nodes clients
    ∙ ap (λ text. out5 ++ text) (flat_map-map ended (client_words contexts) session.clients)

-- the lines below the policy, behind some text
pub below_policy_from : (out : List ℕ) (session : SessionParts) → out ++ text_of (lines_below_policy session) ≡ (((out ++ codes "session\n") ++ text_of (setup_lines session)) ++ codes "run\n") ++ texts_of (run_line_words session.policy.contexts session.clients) session.lines
unfolding lines_below_policy run_lines
below_policy_from out session =
    let runs = map (run_line_words session.policy.contexts session.clients) session.lines in
    let below = (codes "run" ∷ []) ∷ runs in
    let out1 = out ++ codes "session\n" in
    let out2 = out1 ++ text_of (setup_lines session) in
    let out3 = out2 ++ codes "run\n" in
    sym (append_assoc out (codes "session\n") (text_of (setup_lines session ++ below)))
    ∙ onto out1 (setup_lines session) below
    ∙ sym (append_assoc out2 (codes "run\n") (text_of runs))
    ∙ ap (λ text. out3 ++ text) (flat_map-map ended (run_line_words session.policy.contexts session.clients) session.lines)

-- a session is its policy, and the lines below it
pub printed_parts : (session : SessionParts) → printed session ≡ policy_text session.policy ++ text_of (lines_below_policy session)
unfolding printed session_lines policy_text
printed_parts session = flat_map-append ended (policy_lines session.policy) (lines_below_policy session)

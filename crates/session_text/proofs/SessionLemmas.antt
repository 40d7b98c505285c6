-- What a session's users may rely on.
use Rattle.std.proofs.Common.{◌≡◌, ◌<◌, ◌≤◌, ◌+◌, ℕ, List, [], ◌∷◌, ◌++◌, length, length-append, All, arith}
use Rattle.std.proofs.lemmas.List.Elements.{All-cons, All-nil, All-head, All-tail}
use Rattle.file_calls.specs.Openings.{AreEntries, AreNodes}
use Rattle.file_calls.specs.declared.opening.Node.{Node}
use Rattle.policy_model.specs.Kept.{Grows}
use Rattle.policy_model.specs.declared.policy.ContextLine.{ContextLine}
use Rattle.session_text.specs.declared.session.ClientLine.{ClientLine}
use Rattle.session_text.specs.declared.session.RunLine.{RunLine}
use Rattle.session_text.specs.declared.session.SessionParts.{SessionParts}
use Rattle.session_text.specs.Above.{node_limit, port_limit, client_limit}
use Rattle.session_text.specs.Sessions.{IsSession, IsSidOf, IsRun, MayPort, MayNode, MayClient, MayLine}

-- what holds of each member by what it may follow
pub all_of : {X : Type 0} (May : List X → X → Type 0) (P : X → Type 0) → ((seen : List X) (x : X) → May seen x → P x) → (seen xs : List X) → Grows May seen xs → All P xs
all_of May P each seen [] grown = All-nil P
all_of May P each seen (x ∷ xs) grown = All-cons P x xs (each seen x grown.0) (all_of May P each (seen ++ x ∷ []) xs grown.1)

-- a list of which no member follows so many has no more
few_more : {X : Type 0} (May : List X → X → Type 0) (limit : ℕ) → ((seen : List X) (x : X) → May seen x → length seen < limit) → (seen xs : List X) → length seen ≤ limit → Grows May seen xs → length seen + length xs ≤ limit
few_more May limit few seen [] within grown = omega arith
few_more May limit few seen (x ∷ xs) within grown =
    let below : length seen < limit = few seen x grown.0 in
    let one : length (seen ++ x ∷ []) ≡ length seen + 1 = length-append seen (x ∷ []) in
    let rest = few_more May limit few (seen ++ x ∷ []) xs (omega arith) grown.1 in
    omega arith

pub few_of : {X : Type 0} (May : List X → X → Type 0) (limit : ℕ) → ((seen : List X) (x : X) → May seen x → length seen < limit) → (xs : List X) → Grows May [] xs → length xs ≤ limit
few_of May limit few xs grown = let within = few_more May limit few [] xs (omega arith) grown in omega (arith, within)

-- the labels of ports, nodes and clients are declared
pub ports_known : (session : SessionParts) → IsSession session → All (λ line. IsSidOf session.policy.contexts line.sid) session.ports
ports_known session is = all_of (MayPort session.policy.contexts) _ (λ seen line may. may.place.1) [] session.ports is.ports

pub nodes_known : (session : SessionParts) → IsSession session → All (λ node. IsSidOf session.policy.contexts node.sid) session.nodes
nodes_known session is = all_of (MayNode session.policy.contexts) _ (λ seen node may. may.sid) [] session.nodes is.nodes

pub clients_known : (session : SessionParts) → IsSession session → All (λ client. IsSidOf session.policy.contexts client.sid) session.clients
clients_known session is = all_of (MayClient session.policy.contexts) _ (λ seen client may. may.sid) [] session.clients is.clients

-- there are at most 4,095 nodes, 1,024 ports with labels and 62 clients
pub few_nodes : (session : SessionParts) → IsSession session → length session.nodes ≤ node_limit
few_nodes session is = few_of (MayNode session.policy.contexts) node_limit (λ seen node may. may.few) session.nodes is.nodes

pub few_ports : (session : SessionParts) → IsSession session → length session.ports ≤ port_limit
few_ports session is = few_of (MayPort session.policy.contexts) port_limit (λ seen line may. may.few) session.ports is.ports

pub few_clients : (session : SessionParts) → IsSession session → length session.clients ≤ client_limit
few_clients session is = few_of (MayClient session.policy.contexts) client_limit (λ seen client may. may.few) session.clients is.clients

-- the nodes are those of an opening
entries_of : (contexts : List ContextLine) (before nodes : List Node) → Grows (MayNode contexts) before nodes → AreEntries before nodes
entries_of contexts before [] grown = tt
entries_of contexts before (node ∷ nodes) grown =
    (record { below = grown.0.place.0; parent = grown.0.place.1; free = grown.0.place.2 }, entries_of contexts (before ++ node ∷ []) nodes grown.1)

pub are_nodes : (session : SessionParts) → IsSession session → AreNodes session.nodes
are_nodes session is =
    let few = few_nodes session is in
    record { entries = entries_of session.policy.contexts [] session.nodes is.nodes; few = omega arith }

-- the last member of a list
last_of : {X : Type 0} (P : X → Type 0) (xs : List X) (x : X) → All P (xs ++ x ∷ []) → P x
last_of P [] x all = All-head P x [] all
last_of P (y ∷ ys) x all = last_of P ys x (All-tail P y (ys ++ x ∷ []) all)

-- lines that follow others, below so many of which no number is free, are few
lines_span : (contexts : List ContextLine) (clients : List ClientLine) (seen lines : List RunLine) (low : ℕ) → low ≤ 100001 → ((n : ℕ) → All (λ above. above.line < n) seen → low ≤ n)
    → Grows (MayLine contexts clients) seen lines → low + length lines ≤ 100001
lines_span contexts clients seen [] low few least grown = omega (arith, few)
lines_span contexts clients seen (line ∷ lines) low few least grown =
    let here : low ≤ line.line = least line.line grown.0.below in
    let within : line.line ≤ 100000 = grown.0.within in
    let rest : low + 1 + length lines ≤ 100001 =
    lines_span contexts clients (seen ++ line ∷ []) lines (low + 1) (omega (arith, here, within))
    (λ n all. let before : line.line < n = last_of (λ above. above.line < n) seen line all in omega (arith, here, before)) grown.1 in
    omega (arith, rest)

-- a session has no more lines than its text
pub few_lines : (session : SessionParts) → IsSession session → length session.lines ≤ 100001
few_lines session is =
    let span : 0 + length session.lines ≤ 100001 = lines_span session.policy.contexts session.clients [] session.lines 0 (omega arith) (λ n all. omega arith) is.lines in
    omega (arith, span)

-- each line asks what a line may ask
pub lines_run : (session : SessionParts) → IsSession session → All (λ line. IsRun (IsSidOf session.policy.contexts) (length session.clients) line.run) session.lines
lines_run session is = all_of (MayLine session.policy.contexts session.clients) _ (λ seen line may. may.run) [] session.lines is.lines

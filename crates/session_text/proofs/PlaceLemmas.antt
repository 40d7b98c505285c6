-- What session lines give may stand in a session.
use Rattle.std.proofs.Common.{◌≡◌, ◌<◌, ℕ, Bool, true, false, not, leb, List, length, Option, None, Some, Ok, refl, ap, arith}
use Rattle.std.specs.Prelude.{IfSome, IfOk, ◌==◌, ◌||◌, nat_le, codes}
use Rattle.std.specs.Str.{bytes_eq}
use Rattle.std.proofs.lemmas.Bool.{and_from, leb-false}
use Rattle.std.proofs.lemmas.Bool.Decides.{nat_tests}
use Rattle.flask_sid.specs.Names.{is_name, is_name_form, is_long}
use Rattle.flask_sid.specs.Contexts.{is_long_context}
use Rattle.flask_sid.specs.declared.context.ContextOf.{ContextOf}
use Rattle.text_lines.specs.declared.fault.FaultKind.TheVariants.{Unknown, Undeclared, Twice}
use Rattle.text_lines.specs.ResultSteps.{found_or}
use Rattle.policy_text.proofs.StepLemmas.{unless, after}
use Rattle.file_calls.specs.Openings.{has_node, is_parent_there}
use Rattle.session_forms.specs.PathForms.{is_long_path}
use Rattle.session_forms.specs.Ranges.{is_past_place, is_long_data}
use Rattle.session_forms.specs.ArgumentForms.{IsWord, IsPathForm}
use Rattle.session_text.specs.Above.{node_limit, port_limit, client_limit, context_sid, has_client, has_port}
use Rattle.session_text.specs.Grammar.{data_bytes, is_past_node, is_taken, node_sid, is_past_client, is_named, client_sid, is_past_port_line}
use Rattle.session_text.specs.Sessions.{IsSidOf, IsDatum, IsPlace, MayPort, MayNode, MayClient}
use Rattle.session_text.specs.declared.session.SessionParts.{SessionParts}
use Rattle.session_text.proofs.ArgumentLemmas.{if_ok}
use Rattle.session_text.proofs.LimitLemmas.{neither, path_formed, written, place_formed, sid_within}

-- a list that is not at its limit
below : (limit n : ℕ) → leb limit n ≡ false → n < limit
below limit n is = leb-false limit n is

-- what is declared, where it is found
known : (session : SessionParts) (context : ContextOf (List ℕ)) (sid : ℕ) → found_or Undeclared (context_sid session.policy.contexts context) ≡ Ok sid → IsSidOf session.policy.contexts sid
known session context sid is = of_found (context_sid session.policy.contexts context) (sid_within session.policy.contexts context) is
  where
    of_found : (found : Option ℕ) → IfSome found (IsSidOf session.policy.contexts) → found_or Undeclared found ≡ Ok sid → IsSidOf session.policy.contexts sid
    of_found None within none = cc
    of_found (Some at) within same = let one : at ≡ sid = cc in rw (← one) within

-- a label that a node gets is declared, and its path is free
node_given : (path : List (List ℕ)) (context : ContextOf (List ℕ)) (session : SessionParts) → IfOk (node_sid path context session) (λ sid. IsPlace session.nodes path × IsSidOf session.policy.contexts sid)
unfolding node_sid is_taken
node_given path context session =
    unless (not (is_parent_there session.nodes path)) Unknown _ (λ sid. IsPlace session.nodes path × IsSidOf session.policy.contexts sid) (λ parent.
    after (found_or Undeclared (context_sid session.policy.contexts context)) _ (λ sid. IsPlace session.nodes path × IsSidOf session.policy.contexts sid) (λ sid is.
    unless (is_taken session.nodes path) Twice (Ok sid) (λ sid. IsPlace session.nodes path × IsSidOf session.policy.contexts sid) (λ free.
    let apart = neither (length path == 0) (has_node session.nodes path) free in
    ((grind (arith, nat_tests), there (is_parent_there session.nodes path) parent, apart.1), known session context sid is))))
  where
    there : (b : Bool) → not b ≡ false → b ≡ true
    there true is = refl
    there false is = cc

-- the bytes that a file may have
datum : (bytes : Option (List ℕ)) → is_long_data bytes ≡ false → IfSome bytes IsWord → IsDatum (data_bytes bytes)
datum None short word = record { short = omega arith; written = refl }
datum (Some bytes) short word = record { short = grind (arith, nat_tests); written = written bytes word }

-- a node within the limits
pub node_may : (path : List (List ℕ)) (context : ContextOf (List ℕ)) (session : SessionParts) (sid : ℕ) (bytes : Option (List ℕ)) → IsPathForm path → is_past_node path context (length session.nodes) ≡ false → node_sid path context session ≡ Ok sid → IfSome bytes IsDatum → MayNode session.policy.contexts session.nodes (record { path = path; sid = sid; bytes = bytes })
unfolding is_past_node
node_may path context session sid bytes formed within is may =
    let last = neither (is_long_path path || is_long_context context) (nat_le node_limit (length session.nodes)) within in
    let short = neither (is_long_path path) (is_long_context context) last.0 in
    let given = if_ok (node_sid path context session) sid (λ sid. IsPlace session.nodes path × IsSidOf session.policy.contexts sid) (node_given path context session) is in
    record { few = below node_limit (length session.nodes) last.1; formed = path_formed path formed short.0; place = given.0; sid = given.1; datum = may }

-- a file within the limits
pub file_may : (path : List (List ℕ)) (context : ContextOf (List ℕ)) (session : SessionParts) (sid : ℕ) (bytes : Option (List ℕ)) → IsPathForm path → IfSome bytes IsWord → is_past_node path context (length session.nodes) ≡ false → is_long_data bytes ≡ false → node_sid path context session ≡ Ok sid → MayNode session.policy.contexts session.nodes (record { path = path; sid = sid; bytes = Some (data_bytes bytes) })
file_may path context session sid bytes formed word within short is = node_may path context session sid (Some (data_bytes bytes)) formed within is (datum bytes short word)

-- a label that a client gets is declared, and its name is free
client_given : (name : List ℕ) (context : ContextOf (List ℕ)) (session : SessionParts) → IfOk (client_sid name context session) (λ sid. (is_named session.clients name ≡ false) × IsSidOf session.policy.contexts sid)
unfolding client_sid
client_given name context session =
    after (found_or Undeclared (context_sid session.policy.contexts context)) _ (λ sid. (is_named session.clients name ≡ false) × IsSidOf session.policy.contexts sid) (λ sid is.
    unless (is_named session.clients name) Twice (Ok sid) (λ sid. (is_named session.clients name ≡ false) × IsSidOf session.policy.contexts sid) (λ free. (free, known session context sid is)))

-- a client within the limits
pub client_may : (name : List ℕ) (context : ContextOf (List ℕ)) (session : SessionParts) (sid : ℕ) → is_name_form name ≡ true → is_past_client name context (length session.clients) ≡ false → client_sid name context session ≡ Ok sid → MayClient session.policy.contexts session.clients (record { name = name; sid = sid })
unfolding is_past_client is_named is_name
client_may name context session sid formed within is =
    let last = neither (is_long name || is_long_context context) (nat_le client_limit (length session.clients)) within in
    let short = neither (is_long name) (is_long_context context) last.0 in
    let given = if_ok (client_sid name context session) sid (λ sid. (is_named session.clients name ≡ false) × IsSidOf session.policy.contexts sid) (client_given name context session) is in
    let free = neither (bytes_eq name (codes "admin")) (has_client session.clients name) given.0 in
    record {
      few = below client_limit (length session.clients) last.1;
      named = and_from (is_name_form name) (not (is_long name)) formed (ap not short.0);
      other = free.0;
      new = free.1;
      sid = given.1;
    }

-- a port within the limits
pub port_may : (port : ℕ) (context : ContextOf (List ℕ)) (session : SessionParts) (sid : ℕ) → is_past_port_line port context (length session.ports) ≡ false → IsSidOf session.policy.contexts sid → has_port session.ports port ≡ false → MayPort session.policy.contexts session.ports (record { port = port; sid = sid })
unfolding is_past_port_line
port_may port context session sid within declared new =
    let last = neither (is_past_place port || is_long_context context) (nat_le port_limit (length session.ports)) within in
    let apart = neither (is_past_place port) (is_long_context context) last.0 in
    record { few = below port_limit (length session.ports) last.1; place = (place_formed port apart.0, declared); new = new }

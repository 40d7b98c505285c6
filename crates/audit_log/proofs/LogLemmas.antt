-- Logs that grow.
use Rattle.std.proofs.Common.{◌≡◌, ◌∙◌, ℕ, Bool, true, false, eqb, List, [], ◌∷◌, ◌++◌, length, map, refl, sym, ap, append_assoc, append-nil, arith}
use Rattle.std.specs.List.{filter}
use Rattle.std.proofs.lemmas.Bool.Decides.{nat_tests}
use Rattle.std.proofs.lemmas.List.{map-append}
use Rattle.std.proofs.lemmas.List.Elements.{filter-append}
use Rattle.flask_sid.specs.declared.context.ContextOf.{ContextOf}
use Rattle.access_vectors.specs.declared.asked.Asked.{Asked}
use Rattle.policy_model.specs.declared.policy.PolicyParts.{PolicyParts}
use Rattle.audit_log.specs.Audited.{is_audited, line_for, lines_asked}
use Rattle.audit_log.specs.Logs.{of_client, is_of, lines_by, Gains}
use Rattle.audit_log.specs.declared.audited.Acting.{Acting}
use Rattle.audit_log.specs.declared.audited.AuditLine.{AuditLine}

-- nothing was put
pub gains_nothing : (log : List (List AuditLine)) → Gains log log []
gains_nothing log = record { clients = refl; each = λ client. sym (append-nil (of_client log client)) }

-- a log that gained these lines, and then those
pub gains_more : (old mid new : List (List AuditLine)) (front back : List AuditLine) → Gains old mid front → Gains mid new back → Gains old new (front ++ back)
gains_more old mid new front back first then_more = record {
  clients = then_more.clients ∙ first.clients;
  each = λ client.
      then_more.each client ∙ ap (λ lines. lines ++ lines_by client back) (first.each client) ∙ append_assoc (of_client old client) (lines_by client front) (lines_by client back)
      ∙ ap (λ lines. of_client old client ++ lines) (sym (filter-append (is_of client) front back));
}

-- a line was put behind those of its client alone
pub gains_line : (old new : List (List AuditLine)) (line : AuditLine) → of_client new line.client ≡ of_client old line.client ++ line ∷ []
    → ((client : ℕ) → (line.client ≡ client → ⊥) → of_client new client ≡ of_client old client) → length new ≡ length old → Gains old new (line ∷ [])
gains_line old new line own others clients = record { clients = clients; each = λ client. by_test client (eqb line.client client) refl }
  where
    by_test : (client : ℕ) (same : Bool) → eqb line.client client ≡ same → of_client new client ≡ of_client old client ++ lines_by client (line ∷ [])
    by_test client true is =
        let at : line.client ≡ client = grind (arith, nat_tests, is) in
        rw (is, ← at) own
    by_test client false is =
        let apart : line.client ≡ client → ⊥ = λ at. grind (arith, nat_tests, is, at) in
        rw is (others client apart ∙ sym (append-nil (of_client old client)))

-- what was asked, and one question more that has a line, or has none
pub asked_more : (policy : PolicyParts) (contexts : List (ContextOf (List ℕ))) (acting : Acting) (front : List Asked) (question : Asked)
    → is_audited policy contexts question ≡ true → lines_asked policy contexts acting (front ++ question ∷ []) ≡ lines_asked policy contexts acting front ++ line_for acting question ∷ []
asked_more policy contexts acting front question is =
    let kept : filter (is_audited policy contexts) (question ∷ []) ≡ question ∷ [] = rw is refl in
    ap (map (line_for acting)) (filter-append (is_audited policy contexts) front (question ∷ []) ∙ ap (λ more. filter (is_audited policy contexts) front ++ more) kept)
    ∙ map-append (line_for acting) (filter (is_audited policy contexts) front) (question ∷ [])

pub asked_none : (policy : PolicyParts) (contexts : List (ContextOf (List ℕ))) (acting : Acting) (front : List Asked) (question : Asked)
    → is_audited policy contexts question ≡ false → lines_asked policy contexts acting (front ++ question ∷ []) ≡ lines_asked policy contexts acting front
asked_none policy contexts acting front question is =
    let kept : filter (is_audited policy contexts) (question ∷ []) ≡ [] = rw is refl in
    ap (map (line_for acting)) (filter-append (is_audited policy contexts) front (question ∷ []) ∙ ap (λ more. filter (is_audited policy contexts) front ++ more) kept
    ∙ append-nil (filter (is_audited policy contexts) front))

-- a log that gained the lines of what was asked so far gains those of one question more
pub gains_question : (old mid new : List (List AuditLine)) (policy : PolicyParts) (contexts : List (ContextOf (List ℕ))) (acting : Acting) (front : List Asked) (question : Asked)
    → Gains old mid (lines_asked policy contexts acting front) → is_audited policy contexts question ≡ true → Gains mid new (line_for acting question ∷ [])
    → Gains old new (lines_asked policy contexts acting (front ++ question ∷ []))
gains_question old mid new policy contexts acting front question so_far is one =
    rw (asked_more policy contexts acting front question is) (gains_more old mid new (lines_asked policy contexts acting front) (line_for acting question ∷ []) so_far one)

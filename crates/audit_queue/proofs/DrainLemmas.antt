-- A log that takes the lines of a queue.
use Rattle.std.proofs.Common.{◌≡◌, ◌<◌, ◌≤◌, ℕ, zero, suc, Bool, true, false, eqb, List, [], ◌∷◌, ◌++◌, length, replicate, refl, sym, ap, ◌∙◌, subst, append-nil, arith}
use Rattle.std.proofs.lemmas.Bool.Decides.{nat_tests}
use mathlib.Core.Option.{some}
use lib.ListN.{get_elem?}
use Rattle.audit_log.specs.Logs.{of_client, lines_by}
use Rattle.audit_log.specs.declared.audited.AuditLine.{AuditLine}
use Rattle.audit_queue.specs.declared.knowledge.KeptLines.{KeptLines}
use Rattle.audit_queue.specs.declared.knowledge.Knowledge.{Knowledge}
use Rattle.audit_queue.specs.Delivery.{HasGot, IsLeft, IsTakenAll, IsTakenFront}
use Rattle.audit_queue.proofs.DeliveryLemmas.{lines_more, lines_same}

-- an empty log has no line of any client
pub of_blank : (n client : ℕ) → of_client (replicate n []) client ≡ []
of_blank zero client = refl
of_blank (suc n) zero = refl
of_blank (suc n) (suc client) = of_blank n client

-- which is a front of everything
pub blank_fronts : (v : Knowledge) (n : ℕ) (log : List (List AuditLine)) → log ≡ replicate n [] → IsTakenFront v log
blank_fronts v n log blank k one there_is = (one.lines, sym (ap (λ lines. lines ++ one.lines) (ap (λ l. of_client l one.pen) blank ∙ of_blank n one.pen)))

-- the log has what was got
abbrev pub HasGotAll : Knowledge → List (List AuditLine) → Type 0
HasGotAll v log = (client : ℕ) → of_client log client ≡ lines_by client v.got

-- after a line more
pub got_more : (v w : Knowledge) (line : AuditLine) (old new : List (List AuditLine)) → HasGot v line w → HasGotAll v old → of_client new line.client ≡ of_client old line.client ++ line ∷ []
    → ((client : ℕ) → (line.client ≡ client → ⊥) → of_client new client ≡ of_client old client) → HasGotAll w new
got_more v w line old new got all own others client = by_test (eqb line.client client) refl
  where
    now : lines_by client w.got ≡ lines_by client (v.got ++ line ∷ [])
    now = ap (λ (u : Knowledge). lines_by client u.got) got.0

    by_test : (same : Bool) → eqb line.client client ≡ same → of_client new client ≡ lines_by client w.got
    by_test true is =
        let at : line.client ≡ client = grind (arith, nat_tests, is) in
        subst (λ n. of_client new n ≡ of_client old n ++ line ∷ []) at own ∙ ap (λ l. l ++ line ∷ []) (all client) ∙ sym (lines_more client v.got line at) ∙ sym now
    by_test false is =
        let apart : line.client ≡ client → ⊥ = λ at. grind (arith, nat_tests, is, at) in
        others client apart ∙ all client ∙ sym (lines_same client v.got line apart) ∙ sym now

-- a client without a pen has no line still
pub unmade_more : (v w : Knowledge) (made : ℕ) (line : AuditLine) (old new : List (List AuditLine)) → HasGot v line w → v.made ≡ made
    → ((client : ℕ) → made ≤ client → of_client old client ≡ []) → ((client : ℕ) → (line.client ≡ client → ⊥) → of_client new client ≡ of_client old client)
    → (client : ℕ) → made ≤ client → of_client new client ≡ []
unmade_more v w made line old new got same none others client above = others client (λ at. omega (arith, got.1, same, above, at)) ∙ none client above

-- what the log has of retired pens is a front still
pub fronts_more : (v w start : Knowledge) (line : AuditLine) (new : List (List AuditLine)) → HasGot v line w → v.kept ≡ start.kept → HasGotAll w new → IsTakenFront start new
fronts_more v w start line new got same all k one there_is =
    let front = got.2 k one (ap (λ l. get_elem? l k) same ∙ there_is) in
    (front.0, front.1 ∙ ap (λ l. l ++ front.0) (sym (all one.pen)))

-- where the queue holds nothing the log has all
pub taken_all : (v start : Knowledge) (log : List (List AuditLine)) → IsLeft v [] → v.kept ≡ start.kept → HasGotAll v log → ((client : ℕ) → start.made ≤ client → of_client log client ≡ []) → IsTakenAll start log
taken_all v start log left same all none = record {
  kept = λ k one there_is. all one.pen ∙ ap (lines_by one.pen) (sym (append-nil v.got)) ∙ sym (left k one (ap (λ l. get_elem? l k) same ∙ there_is));
  others = none;
}

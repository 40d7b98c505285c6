-- An audit line is put together of its parts.
use Rattle.std.proofs.Common.{◌≡◌, ◌∙◌, ℕ, List, [], ◌∷◌, ◌++◌, refl, sym, ap, append_assoc}
use Rattle.std.specs.List.{flat_map}
use Rattle.std.specs.Prelude.{codes, decimal, Result, Ok, Err, OnOk}
use Rattle.std.proofs.lemmas.Grind.{flat_map-append}
use Rattle.flask_sid.specs.declared.context.ContextOf.{ContextOf}
use Rattle.text_print.specs.Printed.{behind, spaced}
use Rattle.audit_log.specs.Texts.{answer_word, call_words, question_words, policy_words, line_text}
use Rattle.audit_log.specs.declared.audited.AuditLine.{AuditLine}

-- words behind words
spaced_append : (word : List ℕ) (front back : List (List ℕ)) → spaced (word ∷ (front ++ back)) ≡ spaced (word ∷ front) ++ flat_map behind back
spaced_append word front back =
    ap (λ rest. word ++ rest) (flat_map-append behind front back) ∙ sym (append_assoc word (flat_map behind front) (flat_map behind back))

-- parts put down one after another, or at once
regroup : (out a b p e : List ℕ) → out ++ a ++ b ++ (p ++ e) ≡ out ++ (a ++ b ++ p ++ e)
regroup out a b p e = rw (append_assoc out a b, append_assoc out (a ++ b) (p ++ e), append_assoc (a ++ b) p e) refl

-- the call, the question and the policy number, one behind the other
pub line_from : (contexts : List (ContextOf (List ℕ))) (name : List ℕ) (line : AuditLine) (out : List ℕ)
    → out ++ spaced (call_words name line) ++ flat_map behind (question_words contexts line.asked) ++ (flat_map behind (policy_words line.number) ++ 10 ∷ []) ≡ out ++ line_text contexts name line
line_from contexts name line out =
    let behind_audit : List (List ℕ) = name ∷ decimal line.mark ∷ answer_word line.asked.yes ∷ [] in
    let question : List (List ℕ) = question_words contexts line.asked in
    let policy : List (List ℕ) = policy_words line.number in
    let parts = spaced_append (codes "audit") (behind_audit ++ question) policy ∙ ap (λ front. front ++ flat_map behind policy) (spaced_append (codes "audit") behind_audit question) in
    regroup out (spaced (call_words name line)) (flat_map behind question) (flat_map behind policy) (10 ∷ [])
    ∙ ap (λ text. out ++ (text ++ 10 ∷ [])) (sym parts)

-- a line that was put in these three steps is the line
pub put_parts : {X E : Type 0} (result : Result X E) (contexts : List (ContextOf (List ℕ))) (name : List ℕ) (line : AuditLine) (out called asked ended : List ℕ)
    → called ≡ out ++ spaced (call_words name line) → asked ≡ called ++ flat_map behind (question_words contexts line.asked)
    → OnOk result (ended ≡ asked ++ (flat_map behind (policy_words line.number) ++ 10 ∷ [])) → OnOk result (ended ≡ out ++ line_text contexts name line)
put_parts (Ok x) contexts name line out called asked ended call question policy =
    policy ∙ ap (λ front. front ++ (flat_map behind (policy_words line.number) ++ 10 ∷ [])) (question ∙ ap (λ front. front ++ flat_map behind (question_words contexts line.asked)) call)
    ∙ line_from contexts name line out
put_parts (Err e) contexts name line out called asked ended call question policy = tt

-- How an audit line is written.
use Rattle.std.specs.Prelude.{ℕ, Bool, true, false, List, [], ◌∷◌, ◌++◌, codes, decimal}
use Rattle.flask_sid.specs.Contexts.{context_text}
use Rattle.flask_sid.specs.declared.context.ContextOf.{ContextOf}
use Rattle.access_vectors.specs.Table.{class_word, perm_word}
use Rattle.text_print.specs.Printed.{context_with, ended}
use Rattle.access_vectors.specs.declared.asked.Asked.{Asked}
use Rattle.audit_log.specs.declared.audited.AuditLine.{AuditLine}

-- how a question was answered
abbrev pub answer_word : Bool → List ℕ
answer_word true = codes "granted"
answer_word false = codes "denied"

-- the words of a question: source and target as contexts, class and permission
abbrev pub question_words : List (ContextOf (List ℕ)) → Asked → List (List ℕ)
question_words contexts asked =
    context_text (context_with contexts asked.s) ∷ context_text (context_with contexts asked.t) ∷ class_word asked.perm.class ∷ perm_word asked.perm ∷ []

-- the words that say which call of which client it is, by the client's name, and how a question of it was answered
abbrev pub call_words : List ℕ → AuditLine → List (List ℕ)
call_words name line = codes "audit" ∷ name ∷ decimal line.mark ∷ answer_word line.asked.yes ∷ []

-- the words that say under which policy number it was
abbrev pub policy_words : ℕ → List (List ℕ)
policy_words number = codes "policy" ∷ decimal number ∷ []

-- an audit line: the call and the answer, the question, and the policy number
abbrev pub line_text : List (ContextOf (List ℕ)) → List ℕ → AuditLine → List ℕ
line_text contexts name line = ended (call_words name line ++ question_words contexts line.asked ++ policy_words line.number)

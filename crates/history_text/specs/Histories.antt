-- The text of a manager's history: a heading, and a line for each entry.
use Rattle.std.specs.Prelude.{ℕ, List, [], ◌∷◌, ◌++◌, map, codes, decimal}
use Rattle.text_print.specs.Printed.{text_of}
use Rattle.manager_history.specs.declared.entry.Entry.{Entry}
use Rattle.manager_history.specs.declared.entry.Entry.TheVariants.{Op, Aborted, Notice, Ack, Forced}
use Rattle.session_forms.specs.declared.run_forms.Manager.{Manager}
use Rattle.session_print.specs.Words.{manager_word}
use Rattle.session_text.specs.declared.session.ClientLine.{ClientLine}
use Rattle.answer_text.specs.Fronts.{front_words, aborted_words}
use Rattle.answer_text.specs.declared.fronts.Front.{Front}

-- the line above a manager's entries
abbrev pub heading_words : Manager → List (List ℕ)
heading_words manager = codes "history" ∷ manager_word manager ∷ []

-- what the administrator did, and the policy number
abbrev pub event_words : List ℕ → ℕ → List (List ℕ)
event_words word number = word ∷ decimal number ∷ []

-- which call of a history it was
abbrev pub front_of : ℕ → ℕ → Manager → ℕ → Front
front_of line client manager number = record { line = line; client = client; manager = manager; number = number }

-- the line of an entry, by the words of a reply: a call with what it got, a notice with its version, or an acknowledgement
abbrev pub entry_words : {Call Reply : Type 0} → (Reply → List (List ℕ)) → List ClientLine → Manager → Entry Call Reply → List (List ℕ)
entry_words words clients manager (Op caller mark call number asked reply) = front_words clients (front_of mark caller manager number) ++ words reply
entry_words words clients manager (Aborted caller mark call number) = front_words clients (front_of mark caller manager number) ++ aborted_words
entry_words words clients manager (Notice number version) = event_words (codes "notice") number ++ decimal version ∷ []
entry_words words clients manager (Ack number) = event_words (codes "ack") number
entry_words words clients manager (Forced number) = event_words (codes "forced") number

-- the lines of a history
abbrev pub history_lines : {Call Reply : Type 0} → (Reply → List (List ℕ)) → List ClientLine → Manager → List (Entry Call Reply) → List (List (List ℕ))
history_lines words clients manager entries = heading_words manager ∷ map (entry_words words clients manager) entries

-- the text of a history
abbrev pub history_text : {Call Reply : Type 0} → (Reply → List (List ℕ)) → List ClientLine → Manager → List (Entry Call Reply) → List ℕ
history_text words clients manager entries = text_of (history_lines words clients manager entries)

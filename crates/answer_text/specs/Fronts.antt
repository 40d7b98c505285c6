-- What stands in front of a reply in its line.
use Rattle.std.specs.Prelude.{ℕ, List, [], ◌∷◌, codes, decimal}
use Rattle.session_print.specs.Words.{client_word, manager_word}
use Rattle.session_text.specs.declared.session.ClientLine.{ClientLine}
use Rattle.answer_text.specs.declared.fronts.Front.{Front}

-- which call it was: the number of its line, the client's name, the manager, and the policy number
abbrev pub front_words : List ClientLine → Front → List (List ℕ)
front_words clients front =
    decimal front.line ∷ client_word clients front.client ∷ manager_word front.manager ∷ decimal front.number ∷ []

-- what stands for a reply where the call was aborted
abbrev pub aborted_words : List (List ℕ)
aborted_words = codes "aborted" ∷ []

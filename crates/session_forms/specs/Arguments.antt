-- The words behind the first ones of a line, where just so many are wanted, and what they are as arguments of these types.
use Rattle.std.specs.Prelude.{ℕ, Bool, true, false, List, [], ◌∷◌, Option, Some, None, option_and_then, Result, Ok, Err}
use Rattle.flask_sid.specs.Contexts.{context_form}
use Rattle.flask_sid.specs.declared.context.ContextOf.{ContextOf}
use Rattle.text_lines.specs.declared.fault.FaultKind.{FaultKind}
use Rattle.text_lines.specs.declared.fault.FaultKind.TheVariants.{Syntax}
use Rattle.text_lines.specs.ResultSteps.{◌>>=◌}
use Rattle.session_forms.specs.FirstFaults.{both}

-- the word, where it is alone
unfoldable pub only_word : List (List ℕ) → Option (List ℕ)
only_word (word ∷ []) = Some word
only_word _ = None

-- the one word left, if there is one; nothing where more are left
unfoldable pub last_word : List (List ℕ) → Option (Option (List ℕ))
last_word [] = Some None
last_word (word ∷ []) = Some (Some word)
last_word _ = None

-- no word is left
abbrev pub is_end : List (List ℕ) → Bool
is_end [] = true
is_end (word ∷ words) = false

-- a context alone
unfoldable pub only_context : List (List ℕ) → Option (ContextOf (List ℕ))
only_context words = option_and_then context_form (only_word words)

-- the path of the root
abbrev pub is_root : List (List ℕ) → Bool
is_root [] = true
is_root (part ∷ parts) = false

-- just one word: another number of them is a syntax fault
unfoldable pub one_word : List (List ℕ) → Result (List ℕ) FaultKind
one_word (word ∷ []) = Ok word
one_word _ = Err Syntax

-- just two words
unfoldable pub two_words : List (List ℕ) → Result (List ℕ × List ℕ) FaultKind
two_words (first ∷ second ∷ []) = Ok (first, second)
two_words _ = Err Syntax

-- just three words
unfoldable pub three_words : List (List ℕ) → Result (List ℕ × List ℕ × List ℕ) FaultKind
three_words (first ∷ second ∷ third ∷ []) = Ok (first, second, third)
three_words _ = Err Syntax

-- one argument, of this type
abbrev pub of_one : {A : Type 0} → (List ℕ → Result A FaultKind) → List (List ℕ) → Result A FaultKind
of_one read words = one_word words >>= read

-- two arguments, of these types
abbrev pub of_two : {A B : Type 0} → (List ℕ → Result A FaultKind) → (List ℕ → Result B FaultKind) → List (List ℕ) → Result (A × B) FaultKind
of_two first second words = two_words words >>= λ said. both (first said.0) (second said.1)

-- three arguments, of these types
abbrev pub of_three : {A B C : Type 0} → (List ℕ → Result A FaultKind) → (List ℕ → Result B FaultKind) → (List ℕ → Result C FaultKind) → List (List ℕ) → Result (A × (B × C)) FaultKind
of_three first second third words = three_words words >>= λ said. both (first said.0) (both (second said.1) (third said.2))

-- What it is for the words of a call to say that call, and for words to begin no comment.
use Rattle.std.proofs.Common.{◌≡◌, ◌<◌, ℕ, Bool, true, false, not, List, [], ◌∷◌, Ok, arith}
use Rattle.std.specs.Prelude.{◌==◌}
use Rattle.std.specs.List.{list_all}
use Rattle.std.proofs.lemmas.Bool.{ne_eqb}
use Rattle.text_lines.specs.Lines.{is_comment}
use Rattle.text_print.specs.Printed.{is_word}
use Rattle.policy_model.specs.declared.policy.PolicyParts.{PolicyParts}
use Rattle.policy_print.specs.Same.{IsSamePolicy}
use Rattle.session_forms.specs.declared.run_forms.Manager.{Manager}
use Rattle.session_text.specs.declared.session.ClientLine.{ClientLine}
use Rattle.session_text.specs.declared.session.Run.{Run}
use Rattle.session_text.specs.declared.session.SessionParts.{SessionParts}
use Rattle.session_text.specs.Calls.{client_of}
use Rattle.session_text.specs.Grammar.{asked_run}

-- words say a call of a manager by a client: where the policy says the same and the clients are these, they ask this under its name
pub record CallSays (policy : PolicyParts) (clients : List ClientLine) (manager : Manager) (client : ℕ) (words : List (List ℕ)) (run : Run) : Type 0 where
  pub words_are : list_all is_word words ≡ true
  pub asked : (state : SessionParts) (name : List ℕ) → IsSamePolicy state.policy policy → state.clients ≡ clients → client_of state.clients name ≡ Ok client → asked_run state name manager words ≡ Ok run

-- some are not none
pub some_is : (n : ℕ) → 0 < n → (n == 0) ≡ false
some_is n some = ne_eqb n 0 (λ none. absurd (omega (arith, none, some)))

-- there are words, and no comment begins with them
abbrev pub is_plain : List (List ℕ) → Bool
is_plain [] = false
is_plain (first ∷ words) = not (is_comment first)

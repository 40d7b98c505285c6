-- What the words of a session line give of its arguments.
use Rattle.std.proofs.Common.{◌≡◌, ℕ, Bool, true, false, List, [], ◌∷◌, None, Some, Ok, refl}
use Rattle.std.specs.Prelude.{IfSome, if◌then◌else◌, codes}
use Rattle.std.specs.Str.{bytes_eq}
use Rattle.flask_sid.specs.Names.{is_name_form}
use Rattle.flask_sid.specs.Contexts.{context_form}
use Rattle.text_lines.specs.Lines.{line_words}
use Rattle.text_lines.specs.Numerals.{numeral_of}
use Rattle.session_forms.specs.Arguments.{last_word, only_context}
use Rattle.session_forms.specs.PathForms.{path_form}
use Rattle.session_forms.specs.SetupForms.{file_form, directory_form, client_form, initial_form, initial_of, port_form, setup_form, alone}
use Rattle.session_forms.specs.ArgumentForms.{is_word, IsWord, IsPathForm, IsSetupForm}
use Rattle.session_forms.specs.declared.setup_forms.SetupForm.{SetupForm}
use Rattle.session_forms.specs.declared.setup_forms.SetupForm.TheVariants as form
use Rattle.session_forms.proofs.WordLemmas.{AreWords, both, line_are_words}
use Rattle.session_forms.proofs.FormedLemmas.{by_test, by_step, if_found, parts_given, words_behind}

-- the one word left, if there is one
last_said : (words : List (List ℕ)) → AreWords words → IfSome (last_word words) (λ word. IfSome word IsWord)
unfolding last_word
last_said [] are = tt
last_said (word ∷ []) are = (both (is_word word) true are).0
last_said (word ∷ next ∷ words) are = tt

file_given : (words : List (List ℕ)) → AreWords words → IfSome (file_form words) IsSetupForm
unfolding file_form IsSetupForm
file_given [] are = tt
file_given (path ∷ []) are = tt
file_given (path ∷ context ∷ words) are =
    by_step IsSetupForm (last_word words) _ (λ bytes bytes_are.
    by_step IsSetupForm (path_form path) _ (λ parts path_is.
    by_step IsSetupForm (context_form context) (λ named. Some (form.File parts named bytes)) (λ named context_is. (
      if_found IsPathForm (path_form path) parts (parts_given path) path_is,
      if_found (λ word. IfSome word IsWord) (last_word words) bytes (last_said words (words_behind context words (words_behind path (context ∷ words) are))) bytes_are,
    ))))

directory_given : (words : List (List ℕ)) → IfSome (directory_form words) IsSetupForm
unfolding directory_form IsSetupForm
directory_given [] = tt
directory_given (path ∷ words) =
    by_step IsSetupForm (only_context words) _ (λ context said.
    by_step IsSetupForm (path_form path) (λ parts. Some (form.Directory parts context)) (λ parts path_is.
    if_found IsPathForm (path_form path) parts (parts_given path) path_is))

-- a name of its form
name_given : (name : List ℕ) (said : SetupForm) → (is_name_form name ≡ true → IsSetupForm said) → IfSome (if is_name_form name then Some said else None) IsSetupForm
name_given name said is =
    elim (is_name_form name) as (λ (b : Bool). is_name_form name ≡ b → IfSome (if b then Some said else None) IsSetupForm) [
      | true ↦ λ named. is named
      | false ↦ λ other. tt
    ] refl

client_given : (words : List (List ℕ)) → IfSome (client_form words) IsSetupForm
unfolding client_form IsSetupForm
client_given [] = tt
client_given (name ∷ words) = by_step IsSetupForm (only_context words) _ (λ context said. name_given name (form.Client name context) (λ named. named))

initial_given : (words : List (List ℕ)) → IfSome (initial_form words) IsSetupForm
unfolding initial_form IsSetupForm
initial_given [] = tt
initial_given (what ∷ words) = by_step IsSetupForm (only_context words) _ (λ context said. by_step IsSetupForm (initial_of what) _ (λ initial is. tt))

port_given : (words : List (List ℕ)) → IfSome (port_form words) IsSetupForm
unfolding port_form IsSetupForm
port_given [] = tt
port_given (port ∷ words) = by_step IsSetupForm (only_context words) _ (λ context said. by_step IsSetupForm (numeral_of port) _ (λ number is. tt))

-- a line of one word
alone_given : (words : List (List ℕ)) (said : SetupForm) → IsSetupForm said → IfSome (alone words said) IsSetupForm
alone_given [] said is = is
alone_given (word ∷ words) said is = tt

setup_given : (first : List ℕ) (words : List (List ℕ)) → AreWords words → IfSome (setup_form first words) IsSetupForm
unfolding setup_form IsSetupForm
setup_given first words are =
    by_test IsSetupForm (bytes_eq first (codes "file")) _ _ (file_given words are)
    (by_test IsSetupForm (bytes_eq first (codes "dir")) _ _ (directory_given words)
    (by_test IsSetupForm (bytes_eq first (codes "client")) _ _ (client_given words)
    (by_test IsSetupForm (bytes_eq first (codes "initial")) _ _ (initial_given words)
    (by_test IsSetupForm (bytes_eq first (codes "port")) _ _ (port_given words)
    (by_test IsSetupForm (bytes_eq first (codes "audit")) _ _ (alone_given words form.Audit tt)
    (by_test IsSetupForm (bytes_eq first (codes "run")) _ None (alone_given words form.Run tt) tt))))))

-- a session line has its forms
pub setup_formed : (n : ℕ) (line first : List ℕ) (words : List (List ℕ)) (said : SetupForm) → line_words n line ≡ Ok (first ∷ words) → setup_form first words ≡ Some said → IsSetupForm said
setup_formed n line first words said line_is is =
    if_found IsSetupForm (setup_form first words) said (setup_given first words (words_behind first words (line_are_words n line (first ∷ words) line_is))) is

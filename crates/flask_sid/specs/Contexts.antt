-- Security contexts, as the texts write them.
use Rattle.std.specs.Prelude.{◌≡◌, ℕ, Bool, ◌&&◌, ◌||◌, ◌==◌, List, [], ◌∷◌, ◌++◌, Option, Some, None, Result, Ok, Err, if◌then◌else◌, codes}
use Rattle.std.specs.List.{slice_split}
use Rattle.flask_sid.specs.Names.{is_name_form, is_kind_form, is_long}
use Rattle.flask_sid.specs.declared.context.ContextOf.{ContextOf}
use Rattle.flask_sid.specs.declared.context.ContextFault.{ContextFault}
use Rattle.flask_sid.specs.declared.context.ContextFault.TheVariants.{Syntax, Memory}

-- the context that three words give
unfoldable pub context_of_parts : List (List ℕ) → Option (ContextOf (List ℕ))
context_of_parts (user ∷ role ∷ kind ∷ []) =
    if is_name_form user && is_name_form role && is_kind_form kind then Some (record { user = user; role = role; kind = kind }) else None
context_of_parts _ = None

-- a word `user:role:type`, whose names may be too long yet
unfoldable pub context_form : List ℕ → Option (ContextOf (List ℕ))
context_form word = context_of_parts (slice_split (λ b. b == 58) word)

-- some name of the context is longer than a name may be
unfoldable pub is_long_context : ContextOf (List ℕ) → Bool
is_long_context context = is_long context.user || is_long context.role || is_long context.kind

-- the context that a word is, if it is one
unfoldable pub context_of : List ℕ → Option (ContextOf (List ℕ))
context_of word = short_context (context_form word)
  where
    short_context : Option (ContextOf (List ℕ)) → Option (ContextOf (List ℕ))
    short_context None = None
    short_context (Some context) = if is_long_context context then None else Some context

-- the text of a context: user, role and type, with `:` between them
unfoldable pub context_text : ContextOf (List ℕ) → List ℕ
context_text context = context.user ++ codes ":" ++ context.role ++ codes ":" ++ context.kind

-- what reading a word as a context may answer: `Syntax` exactly where it is none, and want of memory at any time
abbrev pub IsRead : Result (ContextOf (List ℕ)) ContextFault → Option (ContextOf (List ℕ)) → Type 0
IsRead (Ok context) said = said ≡ Some context
IsRead (Err Syntax) said = said ≡ None
IsRead (Err Memory) said = Unit {0}

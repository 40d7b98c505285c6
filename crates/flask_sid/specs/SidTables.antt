-- Tables of identifiers: a table is the list of its contexts, in the order of their numbers.
use Rattle.std.specs.Prelude.{ℕ, ◌+◌, ◌-◌, Bool, ◌&&◌, List, [], ◌∷◌, ◌++◌, Option, if◌then◌else◌, slice_get}
use Rattle.std.specs.List.{position, list_any, IsDistinct}
use Rattle.std.specs.Option.{option_map}
use Rattle.std.specs.Str.{bytes_eq}
use Rattle.flask_sid.specs.declared.context.ContextOf.{ContextOf}

-- the two contexts have the same user, role and type
abbrev pub is_same_context : ContextOf (List ℕ) → ContextOf (List ℕ) → Bool
is_same_context a b = bytes_eq a.user b.user && (bytes_eq a.role b.role && bytes_eq a.kind b.kind)

-- the context is one of these
abbrev pub is_kept : List (ContextOf (List ℕ)) → ContextOf (List ℕ) → Bool
is_kept contexts context = list_any (is_same_context context) contexts

-- the identifier of a context in a table: its place, counted from 1
abbrev pub sid_of : List (ContextOf (List ℕ)) → ContextOf (List ℕ) → Option ℕ
sid_of contexts context = option_map (λ place. place + 1) (position (is_same_context context) contexts)

-- the context that an identifier stands for
abbrev pub context_of_sid : List (ContextOf (List ℕ)) → ℕ → Option (ContextOf (List ℕ))
context_of_sid contexts sid = slice_get contexts (sid - 1)

-- the table once a context is in it: a new one goes last
abbrev pub with_context : List (ContextOf (List ℕ)) → ContextOf (List ℕ) → List (ContextOf (List ℕ))
with_context contexts context = if is_kept contexts context then contexts else contexts ++ context ∷ []

-- no two contexts of the table are the same
abbrev pub AreDistinct : List (ContextOf (List ℕ)) → Type 0
AreDistinct contexts = IsDistinct is_same_context contexts

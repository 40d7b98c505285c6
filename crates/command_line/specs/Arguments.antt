-- The words that the parser is given.
use Rattle.std.specs.Prelude.{ℕ, Bool, false, not, ◌&&◌, ◌==◌, List, [], ◌∷◌, map, Option, option_map}
use Rattle.std.specs.Borrow.{Bor}
use Rattle.std.specs.Str.{is_utf8}

-- a word that begins with `-`
abbrev pub begins_with_dash : List ℕ → Bool
begins_with_dash [] = false
begins_with_dash (b ∷ bs) = b == 45

-- a text that begins with no `-`
unfoldable pub is_argument : List ℕ → Bool
is_argument word = not (begins_with_dash word) && is_utf8 word

-- the texts behind references
abbrev pub texts : List (Bor (List ℕ)) → List (List ℕ)
texts = map (λ text. text.now)

-- the text behind a reference that may be missing
abbrev pub told : Option (Bor (List ℕ)) → Option (List ℕ)
told = option_map (λ text. text.now)

-- What reading to the end takes.
use Rattle.std.specs.Prelude.{◌≡◌, ℕ, List, [], Option, IfSome}

-- nothing is left, where the source tells it
abbrev pub IsEnd : Option (List ℕ) → Type 0
IsEnd left = IfSome left (λ bytes. bytes ≡ [])

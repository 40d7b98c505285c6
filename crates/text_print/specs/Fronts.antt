-- What stands where something was put, after want of memory.
use Rattle.std.specs.Prelude.{◌≡◌, List, take, length}

-- the whole begins with the front
abbrev pub IsFront : {A : Type 0} → List A → List A → Type 0
IsFront front whole = take (length front) whole ≡ front

-- Access vectors: sets of permissions of one class, as numbers below 65,536.
use Rattle.std.specs.Prelude.{ℕ, Bool, ◌==◌, ◌-◌, ◌^◌, bit_and, bit_or}
use Rattle.std.specs.Int.{bit_at}

-- the permission at that index is in the vector
unfoldable pub has : ℕ → ℕ → Bool
has bits index = bit_at bits index == 1

-- the vector with that permission besides
unfoldable pub with_index : ℕ → ℕ → ℕ
with_index bits index = bit_or bits (2 ^ index)

-- the vector without that permission
unfoldable pub without_index : ℕ → ℕ → ℕ
without_index bits index = bit_and bits (65535 - 2 ^ index)

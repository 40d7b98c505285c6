-- What the usable bits of a mode say of a permission of the mode.
use Rattle.std.proofs.Common.{◌≡◌, ℕ, Bool, true, bit_and, ap, ◌∙◌}
use Rattle.std.specs.Prelude.{◌&&◌}
use Rattle.access_vectors.specs.Vectors.{has}
use Rattle.access_vectors.proofs.Members.{has-both}

-- the bits of a mode under a vector have a permission of the mode where the vector has it
pub has_ruled : (bits mode vector index : ℕ) → bits ≡ bit_and mode vector → has mode index ≡ true → has bits index ≡ has vector index
has_ruled bits mode vector index is held =
    ap (λ b. has b index) is ∙ has-both mode vector index ∙ ap (λ (b : Bool). b && has vector index) held

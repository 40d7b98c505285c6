-- The permissions of a port's mode are those that are asked.
use Rattle.std.proofs.Common.{◌≡◌, ℕ, zero, suc, ◌<◌, true, eqb, refl, sym, ap, ◌∙◌, inl, inr, arith}
use Rattle.std.specs.Prelude.{◌==◌, [], ◌∷◌}
use Rattle.std.specs.List.{list_any}
use Rattle.std.proofs.lemmas.Bool.{cases_lt, false≢true}
use Rattle.std.proofs.lemmas.Nat.Bits.{bit_at_above}
use Rattle.std.proofs.lemmas.List.Elements.{All-cons, All-nil}
use Rattle.access_vectors.specs.Table.{Permission}
use Rattle.access_vectors.specs.Vectors.{has}
use Rattle.access_vectors.specs.Perms.{port_name_bind, port_recv, port_send, port_connect}
use Rattle.access_vectors.specs.declared.class.Class.TheVariants.{Port}
use Rattle.mode_questions.specs.Covered.{IsModeOf}
use Rattle.port_calls.specs.States.{mode_perms}
use Rattle.port_store.specs.Stores.{IsMode}

-- a permission of a mode is one of the first four
has_within : (mode index : ℕ) → mode < 16 → has mode index ≡ true → index < 4
unfolding has
has_within mode index within is = elim (cases_lt index 4) [
  | inl small ↦ small
  | inr past ↦ absurd (false≢true (ap (λ bit. eqb bit 1) (sym (bit_at_above mode 4 index within past)) ∙ is))
]

listed : (index : ℕ) → index < 4 → list_any (λ (perm : Permission). perm.index == index) mode_perms ≡ true
listed zero small = refl
listed (suc zero) small = refl
listed (suc (suc zero)) small = refl
listed (suc (suc (suc zero))) small = refl
listed (suc (suc (suc (suc index)))) small = absurd (omega arith)

abbrev IsOfPort : Permission → Type 0
IsOfPort perm = perm.class ≡ Port

-- a mode of ports is one of the permissions that are asked
pub mode_of : (mode : ℕ) → IsMode mode → IsModeOf Port mode_perms mode
mode_of mode is = record {
  classes = All-cons IsOfPort port_name_bind (port_recv ∷ port_send ∷ port_connect ∷ []) refl (All-cons IsOfPort port_recv (port_send ∷ port_connect ∷ []) refl (All-cons IsOfPort port_send (port_connect ∷ []) refl (All-cons IsOfPort port_connect [] refl (All-nil IsOfPort))));
  covered = λ index has_it. listed index (has_within mode index is.within has_it);
}

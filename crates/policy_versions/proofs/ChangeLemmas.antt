-- What changes make of a cell's bits.
use Rattle.std.proofs.Common.{◌≡◌, ◌∙◌, ℕ, ◌-◌, ◌<◌, ◌≤◌, Bool, true, false, not, bit_and, bit_or, refl, sym, ap, arith, w16, ⊎_elim}
use Rattle.std.specs.Prelude.{◌&&◌, ◌||◌, ◌==◌, bit_xor}
use Rattle.std.specs.Int.{bit_at}
use Rattle.std.proofs.lemmas.Bool.{cases_lt}
use Rattle.std.proofs.lemmas.Bool.Decides.{nat_tests}
use Rattle.std.proofs.lemmas.Nat.Bits.{bit_at-lt, bit_at_not}
use Rattle.access_vectors.specs.Vectors.{has}
use Rattle.access_vectors.proofs.Members.{has-empty, has-both, same_from_has}
use Rattle.policy_model.proofs.VectorLemmas.{has-or, has-out}

-- the other value of a bit
other_bit : (x : ℕ) → x < 2 → (1 - x == 1) ≡ not (x == 1)
other_bit x h = grind (arith, nat_tests)

-- what a complement has below 16
has-complement : (p index : ℕ) → p < 65536 → index < 16 → has (65535 - p) index ≡ not (has p index)
unfolding has
has-complement p index small within =
    let turned : bit_at (65535 - p) index ≡ 1 - bit_at p index = bit_at_not w16 p index small within in
    ap (λ bit. bit == 1) turned ∙ other_bit _ (bit_at-lt p index)

-- what is kept where some permissions are taken out, when none stands at 16 or above
has-kept : (b p index : ℕ) → ((i : ℕ) → 16 ≤ i → has b i ≡ false) → p < 65536 → has (bit_and b (65535 - p)) index ≡ (has b index && not (has p index))
has-kept b p index above small =
    has-both b (65535 - p) index ∙ ⊎_elim
    (λ within. ap (λ x. has b index && x) (has-complement p index small within))
    (λ high. rw (above index high) refl)
    (cases_lt index 16)

-- permissions that are taken out and put in again
out_and_in : (b p : Bool) → ((b && not p) || p) ≡ (b || p)
out_and_in true true = refl
out_and_in true false = refl
out_and_in false true = refl
out_and_in false false = refl

-- permissions that are put in where others are kept
pub put_in : (b p : ℕ) → ((i : ℕ) → 16 ≤ i → has b i ≡ false) → p < 65536 → bit_or (bit_and b (65535 - p)) p ≡ bit_or b p
put_in b p above small =
    same_from_has _ _ (λ index. has-or (bit_and b (65535 - p)) p index
    ∙ ap (λ x. x || has p index) (has-kept b p index above small)
    ∙ out_and_in (has b index) (has p index)
    ∙ sym (has-or b p index))

-- nothing put in
or_false : (x : Bool) → (x || false) ≡ x
or_false true = refl
or_false false = refl

-- permissions that are taken out
pub taken_out : (b p : ℕ) → ((i : ℕ) → 16 ≤ i → has b i ≡ false) → p < 65536 → bit_or (bit_and b (65535 - p)) 0 ≡ bit_xor b (bit_and b p)
taken_out b p above small =
    same_from_has _ _ (λ index. has-or (bit_and b (65535 - p)) 0 index
    ∙ ap (λ x. has (bit_and b (65535 - p)) index || x) (has-empty index)
    ∙ or_false _
    ∙ has-kept b p index above small
    ∙ sym (has-out b p index))

-- nothing kept
none_and : (x y : Bool) → ((x && false) || y) ≡ y
none_and true y = refl
none_and false y = refl

-- a cell that is replaced
pub replaced : (b v : ℕ) → bit_or (bit_and b 0) v ≡ v
replaced b v =
    same_from_has _ _ (λ index. has-or (bit_and b 0) v index
    ∙ ap (λ x. x || has v index) (has-both b 0 index ∙ ap (λ x. has b index && x) (has-empty index))
    ∙ none_and (has b index) (has v index))

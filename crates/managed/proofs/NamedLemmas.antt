-- The policy numbers of held passes, as the phase goes on.
use Rattle.std.proofs.Common.{◌≡◌, ◌+◌, ◌-◌, ℕ, zero, suc, true, false, cond, List, [], ◌∷◌, slice_set, replicate, Option, Some, None, unwrap_or, refl, inl, inr, arith}
use Rattle.std.specs.Prelude.{max}
use Rattle.std.proofs.lemmas.Bool.Decides.{nat_tests}
use Rattle.std.proofs.lemmas.List.Sums.{sum_by-cons}
use Rattle.access_vectors.specs.Phases.{number_of, noticed}
use Rattle.access_vectors.specs.Forced.{MayCall}
use Rattle.access_vectors.specs.declared.phase.Phase.{Phase}
use Rattle.access_vectors.specs.declared.phase.Phase.TheVariants.{Settled, Pending}
use Rattle.manager_history.specs.Passing.{pass_of, is_at, count_at}
use Rattle.managed.specs.Posts.{IsNamed, AreNamed}

-- a call may have the newest number
pub newest_named : (phase : Phase) (forced : ℕ) → MayCall phase forced (number_of phase)
newest_named (Settled number version) forced = inl refl
newest_named (Pending number old new) forced = inl (inl refl)

-- no pass
pub none_named : (phase : Phase) (forced n : ℕ) → AreNamed phase forced (replicate n None)
none_named phase forced zero = tt
none_named phase forced (suc n) = (tt, none_named phase forced n)

-- one caller's pass
pub named_at : (phase : Phase) (forced : ℕ) (held : List (Option ℕ)) (client : ℕ) → AreNamed phase forced held → IsNamed phase forced (pass_of held client)
named_at phase forced [] client named = tt
named_at phase forced (one ∷ held) zero named = named.0
named_at phase forced (one ∷ held) (suc client) named = named_at phase forced held client named.1

-- one pass more, or less
pub named_set : (phase : Phase) (forced : ℕ) (held : List (Option ℕ)) (client : ℕ) (one : Option ℕ) → AreNamed phase forced held → IsNamed phase forced one → AreNamed phase forced (slice_set held client one)
named_set phase forced [] client one named is = named
named_set phase forced (first ∷ held) zero one named is = (is, named.1)
named_set phase forced (first ∷ held) (suc client) one named is = (named.0, named_set phase forced held client one named.1 is)

-- a number that a call may have while settled it may have while the next is pending
one_noticed : (number version next new forced : ℕ) (one : Option ℕ) → next ≡ number + 1 → IsNamed (Settled number version) forced one → IsNamed (noticed (Settled number version) next new) forced one
one_noticed number version next new forced None is named = tt
one_noticed number version next new forced (Some held) is (inl named) = inl (inr (omega arith))
one_noticed number version next new forced (Some held) is (inr below) = inr (omega (arith, below.0), below.1)

pub all_noticed : (number version next new forced : ℕ) (held : List (Option ℕ)) → next ≡ number + 1 → AreNamed (Settled number version) forced held → AreNamed (noticed (Settled number version) next new) forced held
all_noticed number version next new forced [] is named = tt
all_noticed number version next new forced (one ∷ held) is named =
    (one_noticed number version next new forced one is named.0, all_noticed number version next new forced held is named.1)

-- where no pass is of the settled number, each is of the pending one, or below the greatest forced one
one_acknowledged : (pending old new forced : ℕ) (one : Option ℕ) → is_at (pending - 1) one ≡ false → IsNamed (Pending pending old new) forced one → IsNamed (Settled pending new) forced one
one_acknowledged pending old new forced None apart named = tt
one_acknowledged pending old new forced (Some held) apart (inl (inl same)) = inl same
one_acknowledged pending old new forced (Some held) apart (inl (inr before)) = absurd (grind (arith, nat_tests))
one_acknowledged pending old new forced (Some held) apart (inr below) = inr (omega (arith, below.0), below.1)

pub all_acknowledged : (pending old new forced : ℕ) (held : List (Option ℕ)) → count_at (pending - 1) held ≡ 0 → AreNamed (Pending pending old new) forced held → AreNamed (Settled pending new) forced held
all_acknowledged pending old new forced [] none named = tt
all_acknowledged pending old new forced (one ∷ held) none named =
    elim (is_at (pending - 1) one) as (λ b. is_at (pending - 1) one ≡ b → cond b 1 0 + count_at (pending - 1) held ≡ 0 → AreNamed (Settled pending new) forced (one ∷ held)) [
      | true ↦ λ is e. absurd (omega arith)
      | false ↦ λ is e. (one_acknowledged pending old new forced one is named.0, all_acknowledged pending old new forced held (omega arith) named.1)
    ] refl (rw (sum_by-cons (λ held. cond (is_at (pending - 1) held) 1 0) one held) at none)

-- where the pending number is forced, each pass is of it, or below it
one_forced : (pending old new forced : ℕ) (one : Option ℕ) → IsNamed (Pending pending old new) forced one → IsNamed (Settled pending new) (max forced pending) one
one_forced pending old new forced None named = tt
one_forced pending old new forced (Some held) (inl (inl same)) = inl same
one_forced pending old new forced (Some held) (inl (inr before)) = inr (omega arith, omega arith)
one_forced pending old new forced (Some held) (inr below) = inr (omega (arith, below.0), omega (arith, below.1))

pub all_forced : (pending old new forced : ℕ) (held : List (Option ℕ)) → AreNamed (Pending pending old new) forced held → AreNamed (Settled pending new) (max forced pending) held
all_forced pending old new forced [] named = tt
all_forced pending old new forced (one ∷ held) named = (one_forced pending old new forced one named.0, all_forced pending old new forced held named.1)

-- a call may have the number under which a client acts
pub acting_named : (phase : Phase) (forced : ℕ) (held : List (Option ℕ)) (client : ℕ) → AreNamed phase forced held → MayCall phase forced (unwrap_or (pass_of held client) (number_of phase))
acting_named phase forced held client named =
    elim (pass_of held client) as (λ one. IsNamed phase forced one → MayCall phase forced (unwrap_or one (number_of phase))) [
      | None ↦ λ is. newest_named phase forced
      | Some number ↦ λ is. is
    ] (named_at phase forced held client named)

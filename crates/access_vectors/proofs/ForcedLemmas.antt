-- The greatest forced number of a history that grows, and the numbers that calls may have.
use Rattle.std.proofs.Common.{◌≡◌, ℕ, true, false, List, [], ◌∷◌, ◌++◌, Option, inl, inr, arith}
use Rattle.std.proofs.lemmas.List.Sums.{fold_push}
use Rattle.std.proofs.lemmas.Bool.Decides.{nat_tests}
use Rattle.access_vectors.specs.Phases.{MayName}
use Rattle.access_vectors.specs.declared.phase.Phase.{Phase}
use Rattle.access_vectors.specs.declared.phase.Phase.TheVariants.{Settled, Pending}
use Rattle.access_vectors.specs.Forced.{forced_to, forced_in, is_aborted, MayAbort, MayCall}

-- one entry more
pub forced_push : {Entry : Type 0} (forced_of : Entry → Option ℕ) (history : List Entry) (entry : Entry)
    → forced_in forced_of (history ++ entry ∷ []) ≡ forced_to (forced_in forced_of history) (forced_of entry)
forced_push forced_of history entry = fold_push (λ most e. forced_to most (forced_of e)) 0 history entry

-- a call that is not aborted has a number that an operation may name
pub named_unless_aborted : (phase : Phase) (forced number : ℕ) → MayCall phase forced number → is_aborted phase number ≡ false → MayName phase number
named_unless_aborted phase forced number (inl named) goes = named
named_unless_aborted phase forced number (inr below) goes = absurd (grind (arith, nat_tests, below.0))

-- one that is aborted may be
pub aborted_may : (phase : Phase) (forced number : ℕ) → MayCall phase forced number → is_aborted phase number ≡ true → MayAbort phase forced number
aborted_may (Settled settled version) forced number (inl named) stops = absurd (grind (arith, nat_tests))
aborted_may (Pending pending old new) forced number (inl (inl newest)) stops = absurd (grind (arith, nat_tests))
aborted_may (Pending pending old new) forced number (inl (inr before)) stops = absurd (grind (arith, nat_tests))
aborted_may phase forced number (inr below) stops = below

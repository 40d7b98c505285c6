-- The newest version.
use Rattle.std.proofs.Common.{◌≡◌, ◌+◌, ◌≤◌, ℕ, zero, suc, List, [], ◌∷◌, ◌++◌, length, slice_index_or, slice_set, refl, ap, arith}
use Rattle.policy_model.specs.declared.policy.RuleLine.{RuleLine}
use Rattle.policy_model.specs.declared.policy.Version.{Version}
use Rattle.policy_text.specs.Grammar.{with_rule}

-- without a version there is no place for a rule
pub with_rule_none : (rule : RuleLine) (versions : List Version) → length versions ≤ 0 → versions ≡ with_rule rule versions
unfolding with_rule
with_rule_none rule [] none = refl
with_rule_none rule (version ∷ versions) none = absurd (omega (arith, none))

-- a rule goes to the version that was added last
pub with_rule_last : (rule : RuleLine) (versions : List Version) (last : ℕ) (newest : Version) (rules : List RuleLine) → last + 1 ≡ length versions → newest ≡ slice_index_or versions last newest → rules ≡ newest.rules ++ rule ∷ [] → slice_set versions last (record { line = newest.line; rules = rules }) ≡ with_rule rule versions
unfolding with_rule
with_rule_last rule [] last newest rules at is more = absurd (omega (arith, at))
with_rule_last rule (version ∷ []) zero newest rules at is more = rw (more, is) refl
with_rule_last rule (version ∷ []) (suc last) newest rules at is more = absurd (omega (arith, at))
with_rule_last rule (version ∷ next ∷ versions) zero newest rules at is more = absurd (omega (arith, at))
with_rule_last rule (version ∷ next ∷ versions) (suc last) newest rules at is more =
    ap (λ vs. version ∷ vs) (with_rule_last rule (next ∷ versions) last newest rules (omega (arith, at)) is more)

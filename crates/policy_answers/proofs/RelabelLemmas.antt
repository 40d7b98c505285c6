-- Types that are given, by their places and by their names.
use Rattle.std.proofs.Common.{◌≡◌, ℕ, List, Option, Some, None, refl}
use Rattle.policy_model.specs.declared.policy.PolicyParts.{PolicyParts}
use Rattle.policy_model.specs.Kept.{IsWholePolicy}
use Rattle.policy_versions.specs.Given.{IsGiven}
use Rattle.policy_versions.proofs.KindLemmas.{kinds_apart, same_place}
use Rattle.policy_answers.specs.Relabels.{is_same_place, is_same_given}

-- two given types are the same exactly where their places are
pub same_given : (policy : PolicyParts) → IsWholePolicy policy → (p q : Option ℕ) (a b : Option (List ℕ)) → IsGiven policy p a → IsGiven policy q b → is_same_place p q ≡ is_same_given a b
same_given policy kept None None a b of_a of_b = rw (← of_a.named, ← of_b.named) refl
same_given policy kept None (Some q) a b of_a of_b = rw (← of_a.named, ← of_b.named) refl
same_given policy kept (Some p) None a b of_a of_b = rw (← of_a.named, ← of_b.named) refl
same_given policy kept (Some p) (Some q) a b of_a of_b = rw (← of_a.named, ← of_b.named) (same_place policy.kinds p q (kinds_apart policy kept) of_a.declared of_b.declared)

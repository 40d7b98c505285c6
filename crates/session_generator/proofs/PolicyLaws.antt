-- The policy of the sessions is one, and what it declares.
use Rattle.std.proofs.Common.{◌≡◌, ◌∙◌, ℕ, ◌<◌, ◌≤◌, List, length, Ok, Err, refl, sym, ap}
use Rattle.text_lines.specs.ResultSteps.{LineFault}
use Rattle.policy_text.specs.Grammar.{policy_of}
use Rattle.policy_model.specs.declared.policy.PolicyParts.{PolicyParts}
use Rattle.policy_text.proofs.OnLiterals.{policies_on_literals}
use Rattle.session_text.specs.Sessions.{IsSidOf}
use Rattle.session_generator.specs.Generated.{policy_text, policy}

-- the text is a policy
pub policy_is_read : policy_of policy_text ≡ Ok policy
unfolding policies_on_literals policy
policy_is_read = refl

-- so what reading it gives is the policy, and no fault
pub is_policy : (bytes : List ℕ) (found : PolicyParts) → bytes ≡ policy_text → policy_of bytes ≡ Ok found → found ≡ policy
is_policy bytes found same read =
    let both : Ok found ≡ Ok policy = sym read ∙ ap policy_of same ∙ policy_is_read in
    cc

pub no_fault : (bytes : List ℕ) (fault : LineFault) → bytes ≡ policy_text → policy_of bytes ≡ Err fault → ⊥
no_fault bytes fault same read =
    let both : Err fault ≡ Ok policy = sym read ∙ ap policy_of same ∙ policy_is_read in
    cc

-- it has three contexts
pub three_contexts : length policy.contexts ≡ 3
unfolding policies_on_literals policy
three_contexts = refl

-- 1, 2 and 3 are their identifiers
pub is_sid : (sid : ℕ) → 0 < sid → sid ≤ 3 → IsSidOf policy.contexts sid
is_sid sid some most = (some, rw three_contexts most)

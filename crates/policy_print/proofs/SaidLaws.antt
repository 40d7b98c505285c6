-- No printed line of a policy is a comment or the line below which a session stands.
use Rattle.std.proofs.Common.{◌≡◌, ◌∙◌, ℕ, Bool, true, false, not, List, [], ◌∷◌, ◌++◌, map, refl}
use Rattle.std.specs.Prelude.{◌&&◌, codes}
use Rattle.std.specs.Str.{bytes_eq}
use Rattle.std.specs.List.{list_all, flat_map}
use Rattle.std.proofs.lemmas.Bool.{and_from}
use Rattle.std.proofs.lemmas.List.Folds.{list_all-append}
use Rattle.access_vectors.specs.Table.{class_word}
use Rattle.text_lines.specs.Lines.{is_comment}
use Rattle.policy_model.specs.declared.policy.Verdict.{Verdict}
use Rattle.policy_model.specs.declared.policy.Verdict.TheVariants.{Allow, Withhold, Transition, Member}
use Rattle.policy_model.specs.declared.policy.RuleLine.{RuleLine}
use Rattle.policy_model.specs.declared.policy.Version.{Version}
use Rattle.policy_model.specs.declared.policy.PolicyParts.{PolicyParts}
use Rattle.policy_print.specs.Printed.{who_word, verdict_word, verdict_words, kind_words, context_words, attribute_words, pattern_words, rule_words, version_lines, policy_lines}

-- a line that is said in a policy: its first word begins no comment, and is not `session`
abbrev pub is_said : List (List ℕ) → Bool
is_said [] = false
is_said (first ∷ words) = not (is_comment first) && not (bytes_eq first (codes "session"))

-- lines of one kind are said where each one is
all_said : {X : Type 0} (words : X → List (List ℕ)) → ((x : X) → is_said (words x) ≡ true) → (xs : List X) → list_all is_said (map words xs) ≡ true
all_said words said [] = refl
all_said words said (x ∷ xs) = and_from (is_said (words x)) (list_all is_said (map words xs)) (said x) (all_said words said xs)

-- and so are lines and the lines below them
both_said : (front back : List (List (List ℕ))) → list_all is_said front ≡ true → list_all is_said back ≡ true → list_all is_said (front ++ back) ≡ true
both_said front back f b = list_all-append is_said front back ∙ and_from (list_all is_said front) (list_all is_said back) f b

-- a rule line is said
rule_said : (rule : RuleLine) → is_said (rule_words rule) ≡ true
rule_said rule = by_verdict rule.verdict
  where
    by_verdict : (verdict : Verdict) → is_said (verdict_word verdict ∷ who_word rule.source ∷ who_word rule.target ∷ class_word rule.class ∷ verdict_words rule.class verdict) ≡ true
    by_verdict (Allow perms) = refl
    by_verdict (Withhold perms) = refl
    by_verdict (Transition kind) = refl
    by_verdict (Member kind) = refl

-- the lines of versions are said
versions_said : (versions : List Version) → list_all is_said (flat_map version_lines versions) ≡ true
versions_said [] = refl
versions_said (version ∷ versions) =
    both_said (version_lines version) (flat_map version_lines versions) (all_said rule_words rule_said version.rules) (versions_said versions)

-- each line of a policy is said
pub policy_lines_said : (policy : PolicyParts) → list_all is_said (policy_lines policy) ≡ true
unfolding policy_lines
policy_lines_said policy =
    both_said (map kind_words policy.kinds) _ (all_said kind_words (λ kind. refl) policy.kinds)
    (both_said (map context_words policy.contexts) _ (all_said context_words (λ line. refl) policy.contexts)
    (both_said (map attribute_words policy.attributes) _ (all_said attribute_words (λ line. refl) policy.attributes)
    (both_said (map (pattern_words (codes "neverallow")) policy.nevers) _ (all_said (pattern_words (codes "neverallow")) (λ pattern. refl) policy.nevers)
    (both_said (map (pattern_words (codes "dontaudit")) policy.silent) _ (all_said (pattern_words (codes "dontaudit")) (λ pattern. refl) policy.silent)
    (both_said (map (pattern_words (codes "auditallow")) policy.loud) _ (all_said (pattern_words (codes "auditallow")) (λ pattern. refl) policy.loud)
    (versions_said policy.versions))))))

-- The text of a policy, from its front.
use Rattle.std.proofs.Common.{◌≡◌, ◌∙◌, ℕ, List, [], ◌∷◌, ◌++◌, map, refl, sym, ap, append_assoc}
use Rattle.std.specs.Prelude.{codes}
use Rattle.std.specs.List.{flat_map}
use Rattle.std.proofs.lemmas.Grind.{flat_map-append}
use Rattle.std.proofs.lemmas.List.Folds.{flat_map-map}
use Rattle.text_print.specs.Printed.{ended, text_of}
use Rattle.policy_model.specs.declared.policy.Version.{Version}
use Rattle.policy_model.specs.declared.policy.PolicyParts.{PolicyParts}
use Rattle.policy_print.specs.Printed.{kind_words, context_words, attribute_words, pattern_words, rule_words, version_lines, policy_lines, texts_of, printed}

-- one list of lines, and the lines below it, behind some text
onto : {X : Type 0} (out : List ℕ) (words : X → List (List ℕ)) (members : List X) (rest : List (List (List ℕ))) → out ++ text_of (map words members ++ rest) ≡ (out ++ texts_of words members) ++ text_of rest
onto out words members rest =
    ap (λ text. out ++ text) (flat_map-append ended (map words members) rest ∙ ap (λ text. text ++ text_of rest) (flat_map-map ended words members))
    ∙ sym (append_assoc out (texts_of words members) (text_of rest))

-- the versions, one behind another
versions_text : (versions : List Version) → text_of (flat_map version_lines versions) ≡ flat_map (λ version. text_of (version_lines version)) versions
versions_text [] = refl
versions_text (version ∷ versions) =
    flat_map-append ended (version_lines version) (flat_map version_lines versions) ∙ ap (λ text. text_of (version_lines version) ++ text) (versions_text versions)

-- a version, behind some text
pub version_from : (out : List ℕ) (version : Version) → out ++ text_of (version_lines version) ≡ (out ++ codes "version\n") ++ texts_of rule_words version.rules
version_from out version =
    ap (λ text. out ++ (codes "version\n" ++ text)) (flat_map-map ended rule_words version.rules)
    ∙ sym (append_assoc out (codes "version\n") (texts_of rule_words version.rules))

-- a policy, behind some text
pub printed_from : (out : List ℕ) (policy : PolicyParts) → out ++ printed policy ≡ (((((((out ++ codes "policy 1\n") ++ texts_of kind_words policy.kinds) ++ texts_of context_words policy.contexts) ++ texts_of attribute_words policy.attributes) ++ texts_of (pattern_words (codes "neverallow")) policy.nevers) ++ texts_of (pattern_words (codes "dontaudit")) policy.silent) ++ texts_of (pattern_words (codes "auditallow")) policy.loud) ++ flat_map (λ version. text_of (version_lines version)) policy.versions
unfolding printed policy_lines
printed_from out policy =
    let versions = flat_map version_lines policy.versions in
    let loud = map (pattern_words (codes "auditallow")) policy.loud ++ versions in
    let silent = map (pattern_words (codes "dontaudit")) policy.silent ++ loud in
    let nevers = map (pattern_words (codes "neverallow")) policy.nevers ++ silent in
    let attributes = map attribute_words policy.attributes ++ nevers in
    let contexts = map context_words policy.contexts ++ attributes in
    let kinds = map kind_words policy.kinds ++ contexts in
    let out1 = out ++ codes "policy 1\n" in
    let out2 = out1 ++ texts_of kind_words policy.kinds in
    let out3 = out2 ++ texts_of context_words policy.contexts in
    let out4 = out3 ++ texts_of attribute_words policy.attributes in
    let out5 = out4 ++ texts_of (pattern_words (codes "neverallow")) policy.nevers in
    let out6 = out5 ++ texts_of (pattern_words (codes "dontaudit")) policy.silent in
    let out7 = out6 ++ texts_of (pattern_words (codes "auditallow")) policy.loud in
    sym (append_assoc out (codes "policy 1\n") (text_of kinds))
    ∙ onto out1 kind_words policy.kinds contexts
    ∙ onto out2 context_words policy.contexts attributes
    ∙ onto out3 attribute_words policy.attributes nevers
    ∙ onto out4 (pattern_words (codes "neverallow")) policy.nevers silent
    ∙ onto out5 (pattern_words (codes "dontaudit")) policy.silent loud
    ∙ onto out6 (pattern_words (codes "auditallow")) policy.loud versions
    ∙ ap (λ text. out7 ++ text) (versions_text policy.versions)

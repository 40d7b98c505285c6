-- The newest of versions that are the same but for their lines.
use Rattle.std.proofs.Common.{◌≡◌, ◌∙◌, ◌<◌, ◌+◌, ◌-◌, true, not, List, [], ◌∷◌, ◌++◌, map, length, Option, Some, None, refl, sym, ap, arith, length-append}
use Rattle.std.specs.Prelude.{◌==◌, slice_get}
use Rattle.std.specs.Option.{option_map}
use Rattle.std.proofs.lemmas.Bool.{ne_eqb}
use Rattle.std.proofs.lemmas.List.{length-map, map-append}
use Rattle.std.proofs.lemmas.Option.{slice_get-map, slice_get-get_or}
use Rattle.std.proofs.Math.Seq.{get_or-append_seam}
use Rattle.policy_model.specs.declared.policy.RuleLine.{RuleLine}
use Rattle.policy_model.specs.declared.policy.Version.{Version}
use Rattle.policy_model.specs.Declarations.{rules_of}
use Rattle.policy_text.specs.Above.{newest_rules}
use Rattle.policy_text.specs.Grammar.{with_rule}
use Rattle.policy_print.specs.Same.{bare_rule, bare_version}

-- one rule line more, without lines
bare_with_rule : (rule : RuleLine) (versions : List Version) → map bare_version (with_rule rule versions) ≡ with_rule (bare_rule rule) (map bare_version versions)
unfolding with_rule
bare_with_rule rule [] = refl
bare_with_rule rule (version ∷ []) = bare_last version
  where
    bare_last : (one : Version) → bare_version (record one { rules = one.rules ++ rule ∷ [] }) ∷ [] ≡ record (bare_version one) { rules = map bare_rule one.rules ++ bare_rule rule ∷ [] } ∷ []
    bare_last one = ap (λ rules. record { line = 0; rules = rules } ∷ []) (map-append bare_rule one.rules (rule ∷ []))
bare_with_rule rule (version ∷ next ∷ versions) = ap (λ newer. bare_version version ∷ newer) (bare_with_rule rule (next ∷ versions))

-- a rule goes to the version that was added last
rule_to_last : (rule : RuleLine) (versions : List Version) (version : Version) → with_rule rule (versions ++ version ∷ []) ≡ versions ++ record version { rules = version.rules ++ rule ∷ [] } ∷ []
unfolding with_rule
rule_to_last rule [] version = refl
rule_to_last rule (one ∷ []) version = refl
rule_to_last rule (one ∷ next ∷ versions) version = ap (λ vs. one ∷ vs) (rule_to_last rule (next ∷ versions) version)

-- the same rule line more in the newest version
pub same_with_rule : (rule other : RuleLine) (versions done : List Version) (version : Version) → bare_rule rule ≡ bare_rule other → map bare_version versions ≡ map bare_version (done ++ version ∷ []) → map bare_version (with_rule rule versions) ≡ map bare_version (done ++ record version { rules = version.rules ++ other ∷ [] } ∷ [])
same_with_rule rule other versions done version one same =
    bare_with_rule rule versions
    ∙ ap (λ bare. with_rule bare (map bare_version versions)) one
    ∙ ap (λ bare. with_rule (bare_rule other) bare) same
    ∙ sym (bare_with_rule other (done ++ version ∷ []))
    ∙ ap (λ vs. map bare_version vs) (rule_to_last other done version)

-- the rule lines of a version, without lines
bare_rules : (found : Option Version) → rules_of (option_map bare_version found) ≡ map bare_rule (rules_of found)
bare_rules None = refl
bare_rules (Some version) = refl

-- the rule lines of the newest version, without lines
newest_bare : (versions : List Version) → newest_rules (map bare_version versions) ≡ map bare_rule (newest_rules versions)
unfolding newest_rules
newest_bare versions =
    ap (λ n. rules_of (slice_get (map bare_version versions) (n - 1))) (length-map versions bare_version)
    ∙ ap rules_of (slice_get-map bare_version versions (length versions - 1))
    ∙ bare_rules (slice_get versions (length versions - 1))

-- the newest version is the last one
newest_last : (done : List Version) (version : Version) → newest_rules (done ++ version ∷ []) ≡ version.rules
unfolding newest_rules
newest_last done version =
    let count : length (done ++ version ∷ []) ≡ length done + 1 = length-append done (version ∷ []) in
    let place : length (done ++ version ∷ []) - 1 ≡ length done = omega (arith, count) in
    let within : length done < length (done ++ version ∷ []) = omega (arith, count) in
    rw (place, slice_get-get_or (done ++ version ∷ []) (length done) version within, get_or-append_seam done version [] version) refl

-- how many rule lines the newest version has
pub newest_length : (versions done : List Version) (version : Version) → map bare_version versions ≡ map bare_version (done ++ version ∷ []) → length (newest_rules versions) ≡ length version.rules
newest_length versions done version same =
    sym (length-map (newest_rules versions) bare_rule)
    ∙ ap length (sym (newest_bare versions) ∙ ap newest_rules same ∙ newest_bare (done ++ version ∷ []))
    ∙ length-map (newest_rules (done ++ version ∷ [])) bare_rule
    ∙ ap length (newest_last done version)

-- where there is a newest version, one has begun
pub last_begun : (versions done : List Version) (version : Version) → map bare_version versions ≡ map bare_version (done ++ version ∷ []) → not (length versions == 0) ≡ true
last_begun [] done version same =
    let none : 0 ≡ length (done ++ version ∷ []) = ap length same ∙ length-map (done ++ version ∷ []) bare_version in
    absurd (omega (arith, none, length-append done (version ∷ [])))
last_begun (one ∷ versions) done version same = ap not (ne_eqb (length (one ∷ versions)) 0 (λ none. omega (arith, none)))

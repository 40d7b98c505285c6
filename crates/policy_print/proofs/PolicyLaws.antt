-- The printed lines of a policy, read again line after line.
use Rattle.std.proofs.Common.{◌≡◌, ◌<◌, ◌≤◌, ◌+◌, ℕ, true, false, List, [], ◌∷◌, ◌++◌, map, length, Option, Some, None, Ok, refl, arith, length-append}
use Rattle.std.specs.Prelude.{codes}
use Rattle.std.specs.List.{list_all, flat_map}
use Rattle.access_vectors.specs.Table.{class_word}
use Rattle.text_lines.specs.Lines.{is_comment, line_limit}
use Rattle.text_print.specs.Printed.{is_word, spaced}
use Rattle.text_print.proofs.WordLaws.{line_words_spaced}
use Rattle.text_print.proofs.LeadLaws.{Leads, AllLead, lead_append, lead_words}
use Rattle.policy_model.specs.declared.policy.WhoOf.{WhoOf}
use Rattle.policy_model.specs.declared.policy.ContextLine.{ContextLine}
use Rattle.policy_model.specs.declared.policy.KindLine.{KindLine}
use Rattle.policy_model.specs.declared.policy.AttributeLine.{AttributeLine}
use Rattle.policy_model.specs.declared.policy.Pattern.{Pattern}
use Rattle.policy_model.specs.declared.policy.Verdict.{Verdict}
use Rattle.policy_model.specs.declared.policy.Verdict.TheVariants.{Allow, Withhold, Transition, Member}
use Rattle.policy_model.specs.declared.policy.RuleLine.{RuleLine}
use Rattle.policy_model.specs.declared.policy.Version.{Version}
use Rattle.policy_model.specs.declared.policy.PolicyParts.{PolicyParts}
use Rattle.policy_text.specs.declared.form.Form.TheVariants as form
use Rattle.policy_text.specs.declared.form.Listing.{Listing}
use Rattle.policy_text.specs.declared.form.Listing.TheVariants.{Never, Silent, Loud}
use Rattle.policy_text.specs.declared.form.Decision.TheVariants as decision
use Rattle.policy_model.specs.declared.policy.Labelling.TheVariants as labelling
use Rattle.policy_model.specs.Declarations.{listed_limit, listed_count, is_attribute, is_known_who}
use Rattle.policy_text.specs.Above.{has_version}
use Rattle.policy_text.specs.Grammar.{with_listed, no_parts, form_read, words_read, line_read}
use Rattle.policy_model.specs.Kept.{Grows, MayKind, MayContext, MayAttribute, IsApart, MayPattern, MayVerdict, MayRule, MayVersion, is_source, Grown}
use Rattle.policy_print.specs.Printed.{who_word, verdict_word, verdict_words, header_words, kind_words, context_words, attribute_words, pattern_words, rule_words, version_lines, policy_lines}
use Rattle.policy_print.specs.Same.{IsSameAbove}
use Rattle.policy_print.proofs.SameLaws.{same_itself}
use Rattle.policy_print.proofs.FieldLaws.{declared_kind, known_well, members_named}
use Rattle.policy_print.proofs.FormLaws.{WhosAre, listing_word, header_says, kind_says, context_says, attribute_says, listed_says, version_says, allow_says, withhold_says, transition_says, member_says}
use Rattle.policy_print.proofs.StepLaws.{WhosKnown, with_newest, with_more, kind_steps, context_steps, attribute_steps, listed_steps, version_steps, decided_steps, labelled_steps}
use Rattle.policy_print.proofs.LeadLaws.{grown_lead, grown_blocks_lead, line_leads}

-- lines that lead from one policy to another
abbrev Lead : List (List (List ℕ)) → PolicyParts → PolicyParts → Type 0
Lead lines one other = AllLead line_read IsSameAbove lines (Some one) (Some other)

-- a policy of which some types have been read
abbrev at_kinds : List KindLine → PolicyParts
at_kinds kinds = record no_parts { kinds = kinds }

-- all types, and some contexts
abbrev at_contexts : PolicyParts → List ContextLine → PolicyParts
at_contexts policy contexts = record (at_kinds policy.kinds) { contexts = contexts }

-- all contexts, and some attributes
abbrev at_attributes : PolicyParts → List AttributeLine → PolicyParts
at_attributes policy attributes = record (at_contexts policy policy.contexts) { attributes = attributes }

-- all attributes, and some `neverallow` lines
abbrev at_nevers : PolicyParts → List Pattern → PolicyParts
at_nevers policy nevers = record (at_attributes policy policy.attributes) { nevers = nevers }

-- all of these, and some `dontaudit` lines
abbrev at_silent : PolicyParts → List Pattern → PolicyParts
at_silent policy silent = record (at_nevers policy policy.nevers) { silent = silent }

-- all of these, and some `auditallow` lines
abbrev at_loud : PolicyParts → List Pattern → PolicyParts
at_loud policy loud = record (at_silent policy policy.silent) { loud = loud }

-- all of these, and some versions
abbrev at_versions : PolicyParts → List Version → PolicyParts
at_versions policy versions = record policy { versions = versions }

-- both facts of each member
grows_both : {X : Type 0} (One Other : List X → X → Type 0) (seen xs : List X) → Grows One seen xs → Grows Other seen xs → Grows (λ before x. One before x × Other before x) seen xs
grows_both One Other seen [] one other = tt
grows_both One Other seen (x ∷ xs) one other = ((one.0, other.0), grows_both One Other (seen ++ x ∷ []) xs one.1 other.1)

-- the first line
header_leads : Leads line_read IsSameAbove header_words None (Some no_parts)
unfolding line_read words_read form_read
header_leads = record { words_are = header_says.words_are; step = from_above }
  where
    from_above : (n : ℕ) (state : Option PolicyParts) → n ≤ line_limit → IsSameAbove state None → (next : Option PolicyParts) × (line_read n (spaced header_words) state ≡ Ok next) × IsSameAbove next (Some no_parts)
    from_above n (Some state) counted same = absurd same
    from_above n None counted same =
        (Some no_parts, rw (line_words_spaced n (codes "policy") (codes "1" ∷ []) counted header_says.words_are refl, header_says.says) refl, same_itself no_parts)

-- the types
kinds_lead : (policy : PolicyParts) → Grown policy → Lead (map kind_words policy.kinds) no_parts (at_kinds policy.kinds)
unfolding is_attribute
kinds_lead policy grown =
    grown_lead line_read IsSameAbove MayKind kind_words (λ kinds. Some (at_kinds kinds)) (λ seen kind may.
    line_leads (codes "type") (kind.name ∷ []) (form.Kind kind.name) (at_kinds seen) (at_kinds (seen ++ kind ∷ [])) refl
    (kind_says kind may.named) (kind_steps (at_kinds seen) kind refl refl may)) [] policy.kinds grown.kinds

-- the contexts
contexts_lead : (policy : PolicyParts) → Grown policy → Lead (map context_words policy.contexts) (at_kinds policy.kinds) (at_contexts policy policy.contexts)
unfolding is_attribute
contexts_lead policy grown =
    grown_lead line_read IsSameAbove (MayContext policy.kinds) context_words (λ contexts. Some (at_contexts policy contexts)) (λ seen line may.
    let named = declared_kind policy.kinds grown.kinds line.context.kind may.kind in
    line_leads (codes "context") _ (form.Context line.context) (at_contexts policy seen) (at_contexts policy (seen ++ line ∷ [])) refl
    (context_says line may.user may.role named) (context_steps (at_contexts policy seen) line refl refl named may)) [] policy.contexts grown.contexts

-- the attributes
attributes_lead : (policy : PolicyParts) → Grown policy → Lead (map attribute_words policy.attributes) (at_contexts policy policy.contexts) (at_attributes policy policy.attributes)
attributes_lead policy grown =
    let both = grows_both (MayAttribute policy.kinds) (λ seen line. IsApart policy.kinds line) [] policy.attributes grown.attributes grown.apart in
    grown_lead line_read IsSameAbove (λ seen line. MayAttribute policy.kinds seen line × IsApart policy.kinds line) attribute_words (λ attributes. Some (at_attributes policy attributes)) (λ seen line may.
    let members = members_named policy.kinds grown.kinds line.members may.0.members in
    line_leads (codes "attribute") (line.name ∷ line.members) (form.Attribute line.name line.members) (at_attributes policy seen) (at_attributes policy (seen ++ line ∷ [])) refl
    (attribute_says line may.0.named may.0.some members) (attribute_steps (at_attributes policy seen) line refl members may.1 may.0)) [] policy.attributes both

-- whom a line of a kept policy speaks of
whos_are : (policy : PolicyParts) → Grown policy → (source target : WhoOf (List ℕ)) → is_source source ≡ true → is_known_who policy.kinds policy.attributes source ≡ true → is_known_who policy.kinds policy.attributes target ≡ true → WhosAre source target
whos_are policy grown source target is source_known target_known =
    record {
      source_is = is;
      source_well = known_well policy.kinds policy.attributes grown.kinds grown.attributes source source_known;
      target_well = known_well policy.kinds policy.attributes grown.kinds grown.attributes target target_known;
    }

-- a line on permissions outside the versions, below declarations that are those of a kept policy
listed_leads : (policy : PolicyParts) → Grown policy → (listing : Listing) (one : PolicyParts) (pattern : Pattern) → one.kinds ≡ policy.kinds → one.attributes ≡ policy.attributes → has_version one ≡ false → listed_count one < listed_limit → MayPattern policy.kinds policy.attributes pattern → is_comment (listing_word listing) ≡ false → Leads line_read IsSameAbove (pattern_words (listing_word listing) pattern) (Some one) (Some (with_listed listing pattern one))
listed_leads policy grown listing one pattern kinds attributes none few may plain =
    let whos = whos_are policy grown pattern.source pattern.target may.source may.source_known may.target_known in
    let known : WhosKnown one pattern.source pattern.target = record { source_known = rw (kinds, attributes) may.source_known; target_known = rw (kinds, attributes) may.target_known } in
    line_leads (listing_word listing) _ (form.Listed listing _) one (with_listed listing pattern one) plain
    (listed_says listing pattern whos may.perms) (listed_steps listing one pattern none few whos known may.perms)

-- members of a list that is within a bound
grows_within : {X : Type 0} (May : List X → X → Type 0) (bound : ℕ) (seen xs : List X) → length seen + length xs ≤ bound → Grows May seen xs → Grows (λ before x. (length before < bound) × May before x) seen xs
grows_within May bound seen [] within grown = tt
grows_within May bound seen (x ∷ xs) within grown =
    let one : length (seen ++ x ∷ []) ≡ length seen + 1 = length-append seen (x ∷ []) in
    ((omega (arith, within), grown.0), grows_within May bound (seen ++ x ∷ []) xs (omega (arith, one, within)) grown.1)

-- the `neverallow` lines
nevers_lead : (policy : PolicyParts) → Grown policy → Lead (map (pattern_words (codes "neverallow")) policy.nevers) (at_attributes policy policy.attributes) (at_nevers policy policy.nevers)
nevers_lead policy grown =
    let within = grows_within (λ seen pattern. MayPattern policy.kinds policy.attributes pattern) (length policy.nevers) [] policy.nevers (omega arith) grown.nevers in
    grown_lead line_read IsSameAbove (λ seen pattern. (length seen < length policy.nevers) × MayPattern policy.kinds policy.attributes pattern) (pattern_words (codes "neverallow")) (λ nevers. Some (at_nevers policy nevers)) (λ seen pattern may.
    listed_leads policy grown Never (at_nevers policy seen) pattern refl refl refl (omega (arith, may.0, grown.listed)) may.1 refl) [] policy.nevers within

-- the `dontaudit` lines
silent_lead : (policy : PolicyParts) → Grown policy → Lead (map (pattern_words (codes "dontaudit")) policy.silent) (at_nevers policy policy.nevers) (at_silent policy policy.silent)
silent_lead policy grown =
    let within = grows_within (λ seen pattern. MayPattern policy.kinds policy.attributes pattern) (length policy.silent) [] policy.silent (omega arith) grown.silent in
    grown_lead line_read IsSameAbove (λ seen pattern. (length seen < length policy.silent) × MayPattern policy.kinds policy.attributes pattern) (pattern_words (codes "dontaudit")) (λ silent. Some (at_silent policy silent)) (λ seen pattern may.
    listed_leads policy grown Silent (at_silent policy seen) pattern refl refl refl (omega (arith, may.0, grown.listed)) may.1 refl) [] policy.silent within

-- the `auditallow` lines
loud_lead : (policy : PolicyParts) → Grown policy → Lead (map (pattern_words (codes "auditallow")) policy.loud) (at_silent policy policy.silent) (at_loud policy policy.loud)
loud_lead policy grown =
    let within = grows_within (λ seen pattern. MayPattern policy.kinds policy.attributes pattern) (length policy.loud) [] policy.loud (omega arith) grown.loud in
    grown_lead line_read IsSameAbove (λ seen pattern. (length seen < length policy.loud) × MayPattern policy.kinds policy.attributes pattern) (pattern_words (codes "auditallow")) (λ loud. Some (at_loud policy loud)) (λ seen pattern may.
    listed_leads policy grown Loud (at_loud policy seen) pattern refl refl refl (omega (arith, may.0, grown.listed)) may.1 refl) [] policy.loud within

-- a rule line of the newest version
rule_leads : (policy : PolicyParts) → Grown policy → (done : List Version) (version : Version) (rule : RuleLine) → MayRule policy.kinds policy.attributes version.rules rule → Leads line_read IsSameAbove (rule_words rule) (Some (with_newest policy done version)) (Some (with_newest policy done (with_more version rule)))
rule_leads policy grown done version rule may =
    let whos = whos_are policy grown rule.source rule.target may.good.source may.good.source_known may.good.target_known in
    let known : WhosKnown policy rule.source rule.target = record { source_known = may.good.source_known; target_known = may.good.target_known } in
    by_verdict whos known rule.verdict refl may.good.verdict
  where
    by_verdict : WhosAre rule.source rule.target → WhosKnown policy rule.source rule.target → (verdict : Verdict) → rule.verdict ≡ verdict → MayVerdict policy.kinds rule.class verdict → Leads line_read IsSameAbove (verdict_word verdict ∷ who_word rule.source ∷ who_word rule.target ∷ class_word rule.class ∷ verdict_words rule.class verdict) (Some (with_newest policy done version)) (Some (with_newest policy done (with_more version rule)))
    by_verdict whos known (Allow perms) is are =
        line_leads (codes "allow") _ _ (with_newest policy done version) (with_newest policy done (with_more version rule)) refl
        (allow_says rule perms whos are) (decided_steps decision.Allow policy done version rule perms is may.few whos known are)
    by_verdict whos known (Withhold perms) is are =
        line_leads (codes "withhold") _ _ (with_newest policy done version) (with_newest policy done (with_more version rule)) refl
        (withhold_says rule perms whos are) (decided_steps decision.Withhold policy done version rule perms is may.few whos known are)
    by_verdict whos known (Transition kind) is there =
        let named = declared_kind policy.kinds grown.kinds kind there in
        line_leads (codes "transition") _ _ (with_newest policy done version) (with_newest policy done (with_more version rule)) refl
        (transition_says rule kind whos named) (labelled_steps labelling.Transition policy done version rule kind is may.few whos known named there)
    by_verdict whos known (Member kind) is there =
        let named = declared_kind policy.kinds grown.kinds kind there in
        line_leads (codes "member") _ _ (with_newest policy done version) (with_newest policy done (with_more version rule)) refl
        (member_says rule kind whos named) (labelled_steps labelling.Member policy done version rule kind is may.few whos known named there)

-- a version and its rule lines
version_leads : (policy : PolicyParts) → Grown policy → (done : List Version) (version : Version) → MayVersion policy.kinds policy.attributes done version → Lead (version_lines version) (at_versions policy done) (with_newest policy done version)
version_leads policy grown done version may =
    let begun : Version = record version { rules = [] } in (
      Some (with_newest policy done begun),
      line_leads (codes "version") [] form.Version (at_versions policy done) (with_newest policy done begun) refl version_says (version_steps (at_versions policy done) version.line may.few),
      grown_lead line_read IsSameAbove (MayRule policy.kinds policy.attributes) rule_words (λ rules. Some (with_newest policy done (record version { rules = rules }))) (λ seen rule may_rule.
          rule_leads policy grown done (record version { rules = seen }) rule may_rule) [] version.rules may.rules,
    )

-- the versions
versions_lead : (policy : PolicyParts) → Grown policy → Lead (flat_map version_lines policy.versions) (at_loud policy policy.loud) policy
versions_lead policy grown =
    grown_blocks_lead line_read IsSameAbove (MayVersion policy.kinds policy.attributes) version_lines (λ versions. Some (at_versions policy versions)) (λ seen version may. version_leads policy grown seen version may) [] policy.versions grown.versions

-- the lines of a policy lead from nothing to that policy
pub policy_lines_lead : (policy : PolicyParts) → Grown policy → AllLead line_read IsSameAbove (policy_lines policy) None (Some policy)
unfolding policy_lines
policy_lines_lead policy grown =
    let loud = lead_append line_read IsSameAbove (map (pattern_words (codes "auditallow")) policy.loud) _ _ _ _ (loud_lead policy grown) (versions_lead policy grown) in
    let silent = lead_append line_read IsSameAbove (map (pattern_words (codes "dontaudit")) policy.silent) _ _ _ _ (silent_lead policy grown) loud in
    let nevers = lead_append line_read IsSameAbove (map (pattern_words (codes "neverallow")) policy.nevers) _ _ _ _ (nevers_lead policy grown) silent in
    let attributes = lead_append line_read IsSameAbove (map attribute_words policy.attributes) _ _ _ _ (attributes_lead policy grown) nevers in
    let contexts = lead_append line_read IsSameAbove (map context_words policy.contexts) _ _ _ _ (contexts_lead policy grown) attributes in
    let kinds = lead_append line_read IsSameAbove (map kind_words policy.kinds) _ _ _ _ (kinds_lead policy grown) contexts in
    (Some no_parts, header_leads, kinds)

-- each line of a policy is made of words
pub policy_lines_words : (policy : PolicyParts) → Grown policy → list_all (list_all is_word) (policy_lines policy) ≡ true
policy_lines_words policy grown = lead_words line_read IsSameAbove (policy_lines policy) None (Some policy) (policy_lines_lead policy grown)

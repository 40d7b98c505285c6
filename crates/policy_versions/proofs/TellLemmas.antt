-- What cells tell of one rule line more.
use Rattle.std.proofs.Common.{◌≡◌, ◌∙◌, ℕ, ◌+◌, ◌-◌, ◌<◌, ◌≤◌, ◌^◌, Bool, true, false, cond, ltb, leb, List, [], ◌∷◌, ◌++◌, length, Option, Some, None, bit_and, bit_or, refl, sym, ap, arith}
use Rattle.std.specs.Prelude.{◌&&◌, bit_xor, IfSome}
use Rattle.std.specs.Option.{option_map}
use Rattle.std.proofs.lemmas.Bool.{lt-ltb, le-ltb, le-leb, and_parts, and_left, and_right, ltb-true}
use Rattle.access_vectors.specs.declared.class.Class.{Class}
use Rattle.access_vectors.specs.declared.class.Class.TheVariants.{File, Dir, Process, Port, Security}
use Rattle.access_vectors.specs.Table.{perm_count}
use Rattle.access_vectors.specs.Vectors.{has}
use Rattle.policy_model.specs.declared.policy.PolicyParts.{PolicyParts}
use Rattle.policy_model.specs.declared.policy.AttributeLine.{AttributeLine}
use Rattle.policy_model.specs.declared.policy.RuleLine.{RuleLine}
use Rattle.policy_model.specs.declared.policy.Verdict.{Verdict}
use Rattle.policy_model.specs.declared.policy.Verdict.TheVariants.{Allow, Withhold, Transition, Member}
use Rattle.policy_model.specs.declared.policy.Labelling.{Labelling}
use Rattle.policy_model.specs.declared.policy.Labelling.TheVariants as labelling
use Rattle.policy_model.specs.Kept.{IsRule, MayVerdict}
use Rattle.policy_model.specs.Matching.{matches, matches_source, matches_target, is_same_class}
use Rattle.policy_model.specs.Deciding.{decided_vector, is_allowed, last_said, gives_kind, verdict_on, or_else}
use Rattle.policy_model.proofs.VectorLemmas.{has-where}
use Rattle.policy_model.proofs.DecidingLemmas.{none_allowed, unmatched_more, labelling_more, allow_more, withhold_more, last_said-snoc}
use Rattle.policy_versions.specs.declared.change.Change.{Change}
use Rattle.policy_versions.specs.declared.change.Content.{Content}
use Rattle.policy_versions.specs.declared.change.Content.TheVariants.{Vectors, Given}
use Rattle.policy_versions.specs.Places.{kind_at}
use Rattle.policy_versions.specs.Changes.{changed, Gives, place_in, Tells, IsChangeOf, PutsKind, GivesDeclared}
use Rattle.policy_versions.specs.Given.{IsGiven}
use Rattle.policy_versions.proofs.ChangeLemmas.{put_in, taken_out, replaced}

-- no line tells of nothing
pub told_none : (content : Content) (policy : PolicyParts) (class : Class) (s t : ℕ) → Tells content policy [] class s t 0
told_none Vectors policy class s t = sym (none_allowed policy.attributes (kind_at policy s) (kind_at policy t) class)
told_none (Given kind) policy class s t = record { within = omega arith; named = refl }

-- what lines give, and one more that says nothing
unsaid : (kind : Labelling) (attributes : List AttributeLine) (above : List RuleLine) (rule : RuleLine) (s t : List ℕ) (class : Class) → gives_kind kind attributes s t class rule ≡ None → last_said (gives_kind kind attributes s t class) (above ++ rule ∷ []) ≡ last_said (gives_kind kind attributes s t class) above
unsaid kind attributes above rule s t class none =
    last_said-snoc (gives_kind kind attributes s t class) above rule
    ∙ ap (λ o. or_else o (last_said (gives_kind kind attributes s t class) above)) none

-- a line that does not match
pub told_unmatched : (content : Content) (policy : PolicyParts) (above : List RuleLine) (rule : RuleLine) (class : Class) (s t cell : ℕ) → matches policy.attributes rule (kind_at policy s) (kind_at policy t) class ≡ false → Tells content policy above class s t cell → Tells content policy (above ++ rule ∷ []) class s t cell
unfolding gives_kind
told_unmatched Vectors policy above rule class s t cell unmatched told =
    told ∙ sym (unmatched_more policy.attributes above rule (kind_at policy s) (kind_at policy t) class unmatched)
told_unmatched (Given kind) policy above rule class s t cell unmatched told =
    record {
      within = told.within;
      named = told.named ∙ sym (unsaid kind policy.attributes above rule (kind_at policy s) (kind_at policy t) class (rw unmatched refl));
    }

-- the vector that lines decide has nothing at 16 or above
decided_small : (attributes : List AttributeLine) (rules : List RuleLine) (s t : List ℕ) (class : Class) (index : ℕ) → 16 ≤ index → has (decided_vector attributes rules s t class) index ≡ false
unfolding decided_vector
decided_small attributes rules s t class index high =
    has-where 16 (is_allowed attributes rules s t class) index
    ∙ ap (λ b. b && is_allowed attributes rules s t class index) (le-ltb index 16 high)

-- permissions of a class are few
perms_small : (class : Class) (perms : ℕ) → perms < 2 ^ perm_count class → perms < 65536
perms_small File perms h = omega arith
perms_small Dir perms h = omega arith
perms_small Process perms h = omega arith
perms_small Port perms h = omega arith
perms_small Security perms h = omega arith

-- a cell after what may be a change
abbrev pub after : Option Change → ℕ → ℕ
after None cell = cell
after (Some change) cell = changed change cell

-- the place that a cell gives
place_in-put : (place : ℕ) → place < 128 → place_in (place + 1) ≡ Some place
place_in-put place h =
    let low : ltb 0 (place + 1) ≡ true = lt-ltb 0 (place + 1) (omega arith) in
    let high : leb (place + 1) 128 ≡ true = le-leb (place + 1) 128 (omega arith) in
    let back : (place + 1) - 1 ≡ place = omega arith in
    rw (low, high, back) refl

-- the last line gives a type
gives_now : (kind : Labelling) (policy : PolicyParts) (above : List RuleLine) (rule : RuleLine) (class : Class) (s t cell : ℕ) (name : List ℕ) (change : Option Change) → length policy.kinds ≤ 128 → gives_kind kind policy.attributes (kind_at policy s) (kind_at policy t) class rule ≡ Some name → PutsKind policy name change → Gives policy (after change cell) (last_said (gives_kind kind policy.attributes (kind_at policy s) (kind_at policy t) class) (above ++ rule ∷ []))
gives_now kind policy above rule class s t cell name change few gives puts =
    let says = gives_kind kind policy.attributes (kind_at policy s) (kind_at policy t) class in
    let now : after change cell ≡ puts.place + 1 = ap (λ c. after c cell) puts.puts ∙ replaced cell (puts.place + 1) in
    let within : puts.place < length policy.kinds = puts.within in
    let at : place_in (puts.place + 1) ≡ Some puts.place = place_in-put puts.place (omega arith) in
    let said : last_said says (above ++ rule ∷ []) ≡ Some name = last_said-snoc says above rule ∙ ap (λ o. or_else o (last_said says above)) gives in
    record {
      within = omega arith;
      named = ap (λ c. option_map (kind_at policy) (place_in c)) now ∙ ap (option_map (kind_at policy)) at ∙ ap Some puts.named ∙ sym said;
    }

-- the last line gives none
gives_on : (kind : Labelling) (policy : PolicyParts) (above : List RuleLine) (rule : RuleLine) (class : Class) (s t cell : ℕ) (change : Option Change) → gives_kind kind policy.attributes (kind_at policy s) (kind_at policy t) class rule ≡ None → change ≡ None → Gives policy cell (last_said (gives_kind kind policy.attributes (kind_at policy s) (kind_at policy t) class) above) → Gives policy (after change cell) (last_said (gives_kind kind policy.attributes (kind_at policy s) (kind_at policy t) class) (above ++ rule ∷ []))
gives_on kind policy above rule class s t cell change none no_change told =
    let same : after change cell ≡ cell = ap (λ c. after c cell) no_change in
    record {
      within = rw same told.within;
      named = ap (λ c. option_map (kind_at policy) (place_in c)) same ∙ told.named ∙ sym (unsaid kind policy.attributes above rule (kind_at policy s) (kind_at policy t) class none);
    }

-- a line that matches
told_matched : (content : Content) (policy : PolicyParts) (above : List RuleLine) (rule : RuleLine) (class : Class) (s t cell : ℕ) (change : Option Change) (verdict : Verdict) → rule.verdict ≡ verdict → MayVerdict policy.kinds rule.class verdict → length policy.kinds ≤ 128 → matches policy.attributes rule (kind_at policy s) (kind_at policy t) class ≡ true → IsChangeOf content policy verdict change → Tells content policy above class s t cell → Tells content policy (above ++ rule ∷ []) class s t (after change cell)
unfolding gives_kind verdict_on
told_matched Vectors policy above rule class s t cell change (Allow perms) is may few matched changes told =
    let small : perms < 65536 = perms_small rule.class perms may.within in
    ap (λ c. after c cell) changes
    ∙ put_in cell perms (λ i high. ap (λ x. has x i) told ∙ decided_small _ above _ _ class i high) small
    ∙ ap (λ x. bit_or x perms) told
    ∙ sym (allow_more policy.attributes above rule (kind_at policy s) (kind_at policy t) class perms matched is small)
told_matched Vectors policy above rule class s t cell change (Withhold perms) is may few matched changes told =
    let small : perms < 65536 = perms_small rule.class perms may.within in
    ap (λ c. after c cell) changes
    ∙ taken_out cell perms (λ i high. ap (λ x. has x i) told ∙ decided_small _ above _ _ class i high) small
    ∙ ap (λ x. bit_xor x (bit_and x perms)) told
    ∙ sym (withhold_more policy.attributes above rule (kind_at policy s) (kind_at policy t) class perms matched is)
told_matched Vectors policy above rule class s t cell change (Transition name) is may few matched changes told =
    ap (λ c. after c cell) changes ∙ told
    ∙ sym (labelling_more policy.attributes above rule (kind_at policy s) (kind_at policy t) class matched (λ index. rw is refl))
told_matched Vectors policy above rule class s t cell change (Member name) is may few matched changes told =
    ap (λ c. after c cell) changes ∙ told
    ∙ sym (labelling_more policy.attributes above rule (kind_at policy s) (kind_at policy t) class matched (λ index. rw is refl))
told_matched (Given labelling.Transition) policy above rule class s t cell change (Transition name) is may few matched changes told =
    gives_now labelling.Transition policy above rule class s t cell name change few (rw (matched, is) refl) changes
told_matched (Given labelling.Transition) policy above rule class s t cell change (Member name) is may few matched changes told =
    gives_on labelling.Transition policy above rule class s t cell change (rw (matched, is) refl) changes told
told_matched (Given labelling.Transition) policy above rule class s t cell change (Allow perms) is may few matched changes told =
    gives_on labelling.Transition policy above rule class s t cell change (rw (matched, is) refl) changes told
told_matched (Given labelling.Transition) policy above rule class s t cell change (Withhold perms) is may few matched changes told =
    gives_on labelling.Transition policy above rule class s t cell change (rw (matched, is) refl) changes told
told_matched (Given labelling.Member) policy above rule class s t cell change (Member name) is may few matched changes told =
    gives_now labelling.Member policy above rule class s t cell name change few (rw (matched, is) refl) changes
told_matched (Given labelling.Member) policy above rule class s t cell change (Transition name) is may few matched changes told =
    gives_on labelling.Member policy above rule class s t cell change (rw (matched, is) refl) changes told
told_matched (Given labelling.Member) policy above rule class s t cell change (Allow perms) is may few matched changes told =
    gives_on labelling.Member policy above rule class s t cell change (rw (matched, is) refl) changes told
told_matched (Given labelling.Member) policy above rule class s t cell change (Withhold perms) is may few matched changes told =
    gives_on labelling.Member policy above rule class s t cell change (rw (matched, is) refl) changes told

-- a line whose class is the class
pub told_line : (content : Content) (policy : PolicyParts) (above : List RuleLine) (rule : RuleLine) (class : Class) (s t cell : ℕ) (change : Option Change) → IsRule policy.kinds policy.attributes rule → length policy.kinds ≤ 128 → is_same_class rule.class class ≡ true → IsChangeOf content policy rule.verdict change → Tells content policy above class s t cell → Tells content policy (above ++ rule ∷ []) class s t (cond (matches_source policy.attributes rule.source (kind_at policy s) && matches_target policy.attributes rule.target (kind_at policy s) (kind_at policy t)) (after change cell) cell)
unfolding matches
told_line content policy above rule class s t cell change good few same changes told =
    by_match (matches_source policy.attributes rule.source (kind_at policy s) && matches_target policy.attributes rule.target (kind_at policy s) (kind_at policy t)) refl
  where
    by_match : (b : Bool) → (matches_source policy.attributes rule.source (kind_at policy s) && matches_target policy.attributes rule.target (kind_at policy s) (kind_at policy t)) ≡ b → Tells content policy (above ++ rule ∷ []) class s t (cond b (after change cell) cell)
    by_match true both =
        let parts = and_parts (matches_source policy.attributes rule.source (kind_at policy s)) (matches_target policy.attributes rule.target (kind_at policy s) (kind_at policy t)) both in
        told_matched content policy above rule class s t cell change rule.verdict refl good.verdict few (rw (parts.0, parts.1) same) changes told
    by_match false both =
        told_unmatched content policy above rule class s t cell (and_left (matches_source policy.attributes rule.source (kind_at policy s) && matches_target policy.attributes rule.target (kind_at policy s) (kind_at policy t)) (is_same_class rule.class class) both) told

-- a line that says nothing in a table, whether it matches or not
pub told_silent : (content : Content) (policy : PolicyParts) (above : List RuleLine) (rule : RuleLine) (class : Class) (s t cell : ℕ) → IsRule policy.kinds policy.attributes rule → length policy.kinds ≤ 128 → IsChangeOf content policy rule.verdict None → Tells content policy above class s t cell → Tells content policy (above ++ rule ∷ []) class s t cell
told_silent content policy above rule class s t cell good few changes told =
    by_match (matches policy.attributes rule (kind_at policy s) (kind_at policy t) class) refl
  where
    by_match : (b : Bool) → matches policy.attributes rule (kind_at policy s) (kind_at policy t) class ≡ b → Tells content policy (above ++ rule ∷ []) class s t cell
    by_match true matched = told_matched content policy above rule class s t cell None rule.verdict refl good.verdict few matched changes told
    by_match false unmatched = told_unmatched content policy above rule class s t cell unmatched told

-- a line of another class
pub told_other : (content : Content) (policy : PolicyParts) (above : List RuleLine) (rule : RuleLine) (class : Class) (s t cell : ℕ) → is_same_class rule.class class ≡ false → Tells content policy above class s t cell → Tells content policy (above ++ rule ∷ []) class s t cell
unfolding matches
told_other content policy above rule class s t cell other told =
    told_unmatched content policy above rule class s t cell (and_right (matches_source policy.attributes rule.source (kind_at policy s) && matches_target policy.attributes rule.target (kind_at policy s) (kind_at policy t)) (is_same_class rule.class class) other) told

-- a rule's verdict gives no type that is not declared
pub gives_declared : (policy : PolicyParts) (class : Class) (verdict : Verdict) → MayVerdict policy.kinds class verdict → GivesDeclared policy verdict
gives_declared policy class (Allow perms) may = tt
gives_declared policy class (Withhold perms) may = tt
gives_declared policy class (Transition name) may = may
gives_declared policy class (Member name) may = may

-- the type that a cell gives, by its place
pub given_from : (policy : PolicyParts) (cell : ℕ) (name : Option (List ℕ)) → Gives policy cell name → IsGiven policy (place_in cell) name
given_from policy cell name gives = record { declared = by_test (ltb 0 cell && leb cell 128) refl; named = gives.named }
  where
    by_test : (b : Bool) → (ltb 0 cell && leb cell 128) ≡ b → IfSome (cond b (Some (cell - 1)) None) (λ at. at < length policy.kinds)
    by_test false h = tt
    by_test true h =
        let low : 0 < cell = ltb-true 0 cell (and_parts (ltb 0 cell) (leb cell 128) h).0 in
        let within : cell ≤ length policy.kinds = gives.within in
        omega arith

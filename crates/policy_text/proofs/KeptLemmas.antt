-- What is read is kept: no line takes away what holds of the lines above it.
use Rattle.std.proofs.Common.{◌≡◌, ◌<◌, ◌+◌, ◌-◌, ◌∙◌, ℕ, suc, Bool, true, false, cond, not, eqb, leb, List, [], ◌∷◌, ◌++◌, length, Option, Some, None, Result, Ok, Err, refl, sym, ap, subst, arith, length-append}
use Rattle.std.specs.Prelude.{◌&&◌, ◌||◌, IfOk}
use Rattle.std.specs.List.{list_all, list_any}
use Rattle.std.specs.Str.{bytes_eq}
use Rattle.std.proofs.lemmas.Bool.{and_parts, or_parts, and_from, leb-false}
use Rattle.std.proofs.lemmas.Bool.Decides.{nat_tests, same_from_decides}
use Rattle.std.proofs.lemmas.Slice.Eq.{bytes_eq-Decides}
use Rattle.flask_sid.specs.Names.{is_name_form, is_name, is_long, is_kind_form}
use Rattle.flask_sid.specs.Contexts.{is_long_context}
use Rattle.flask_sid.specs.declared.context.ContextOf.{ContextOf}
use Rattle.text_lines.specs.declared.fault.FaultKind.{FaultKind}
use Rattle.text_lines.specs.declared.fault.FaultKind.TheVariants.{Syntax, Order, Limit, Unknown, Twice}
use Rattle.text_lines.specs.Lines.{line_words}
use Rattle.text_lines.specs.ResultSteps.{found_or}
use Rattle.policy_model.specs.declared.policy.ContextLine.{ContextLine}
use Rattle.policy_model.specs.declared.policy.KindLine.{KindLine}
use Rattle.policy_model.specs.declared.policy.AttributeLine.{AttributeLine}
use Rattle.policy_model.specs.declared.policy.Pattern.{Pattern}
use Rattle.policy_model.specs.declared.policy.RuleLine.{RuleLine}
use Rattle.policy_model.specs.declared.policy.Version.{Version}
use Rattle.policy_model.specs.declared.policy.PolicyParts.{PolicyParts}
use Rattle.policy_text.specs.declared.form.Form.{Form}
use Rattle.policy_text.specs.declared.form.Form.TheVariants as form
use Rattle.policy_text.specs.declared.form.Listing.{Listing}
use Rattle.policy_text.specs.declared.form.Listing.TheVariants.{Never, Silent, Loud}
use Rattle.policy_text.specs.declared.form.Decision.{Decision}
use Rattle.policy_model.specs.declared.policy.Labelling.{Labelling}
use Rattle.policy_text.specs.declared.form.PatternForm.{PatternForm}
use Rattle.policy_text.specs.declared.form.LabelForm.{LabelForm}
use Rattle.policy_text.specs.Forms.{line_form, are_members}
use Rattle.policy_model.specs.Declarations.{context_limit, kind_limit, attribute_limit, listed_limit, version_limit, rule_limit, is_kind, is_attribute, has_context, listed_count}
use Rattle.policy_text.specs.Above.{is_long_pattern, is_long_label, has_version, newest_rules, is_full_for}
use Rattle.policy_text.specs.Known.{pattern_of, deciding_rule, labelling_rule}
use Rattle.policy_text.specs.Grammar.{with_kind, with_context, with_listed, with_rule, context_read, kind_read, attribute_read, listed_read, version_read, decided_read, labelled_read, below_header, no_parts, form_read, words_read, line_read, is_whole}
use Rattle.policy_model.specs.Kept.{Grows, is_kind_name, MayKind, MayContext, MayAttribute, IsApart, MayPattern, IsRule, MayRule, MayVersion, Grown, IsWholePolicy, GrownAbove}
use Rattle.policy_model.proofs.GrowsLemmas.{grows_snoc, grows_more, none_snoc, all_more}
use Rattle.policy_text.proofs.StepLemmas.{unless, after}
use Rattle.policy_text.proofs.FormLemmas.{GoodContext, GoodPattern, GoodLabel, Good, if_some, good_line}
use Rattle.policy_text.proofs.DeclaredLemmas.{KindsStay, AttributesStay, kinds_stay, attributes_stay, kinds_snoc, attributes_snoc, known_stays, known_pattern, good_deciding, known_label}

-- no version has begun
none_begun : (versions : List Version) → not (eqb (length versions) 0) ≡ false → versions ≡ []
none_begun [] h = refl
none_begun (version ∷ versions) h =
    let some : eqb (length (version ∷ versions)) 0 ≡ false = grind (arith, nat_tests) in
    absurd (grind (arith, nat_tests, h, some))

-- the name of a type, which is not too long
kind_named : (name : List ℕ) → is_kind_form name ≡ true → is_long name ≡ false → is_kind_name name ≡ true
unfolding is_kind_name
kind_named name form short = and_from (is_kind_form name) (not (is_long name)) form (ap not short)

-- a name, which is not too long
named : (name : List ℕ) → is_name_form name ≡ true → is_long name ≡ false → is_name name ≡ true
unfolding is_name
named name form short = and_from (is_name_form name) (not (is_long name)) form (ap not short)

-- fewer than a limit
few : (limit n : ℕ) → leb limit n ≡ false → n < limit
few limit n h = leb-false limit n h

-- patterns stay what they are
patterns_stay : (kinds kinds' : List KindLine) (attributes attributes' : List AttributeLine) → KindsStay kinds kinds' → AttributesStay attributes attributes' → (patterns : List Pattern) → Grows (λ seen pattern. MayPattern kinds attributes pattern) [] patterns → Grows (λ seen pattern. MayPattern kinds' attributes' pattern) [] patterns
patterns_stay kinds kinds' attributes attributes' k a patterns g =
    grows_more _ (λ seen pattern. MayPattern kinds' attributes' pattern) (λ seen pattern may. record {
      source = may.source;
      source_known = known_stays kinds kinds' attributes attributes' k a pattern.source may.source_known;
      target_known = known_stays kinds kinds' attributes attributes' k a pattern.target may.target_known;
      perms = may.perms;
    }) [] patterns g

-- contexts stay what they are
contexts_stay : (kinds kinds' : List KindLine) → KindsStay kinds kinds' → (contexts : List ContextLine) → Grows (MayContext kinds) [] contexts → Grows (MayContext kinds') [] contexts
contexts_stay kinds kinds' k contexts g =
    grows_more (MayContext kinds) (MayContext kinds') (λ seen line may. record { user = may.user; role = may.role; kind = k.stay line.context.kind may.kind; few = may.few; new = may.new }) [] contexts g

-- attributes stay what they are
members_stay : (kinds kinds' : List KindLine) → KindsStay kinds kinds' → (attributes : List AttributeLine) → Grows (MayAttribute kinds) [] attributes → Grows (MayAttribute kinds') [] attributes
members_stay kinds kinds' k attributes g =
    grows_more (MayAttribute kinds) (MayAttribute kinds') (λ seen line may. record {
      named = may.named;
      some = may.some;
      members = all_more (is_kind kinds) (is_kind kinds') k.stay line.members may.members;
      few = may.few;
      new = may.new;
    }) [] attributes g

-- equal names, in either order
turned : (a b : List ℕ) → bytes_eq a b ≡ bytes_eq b a
turned a b =
    same_from_decides (bytes_eq a b) (bytes_eq b a) (bytes_eq-Decides a b) ((λ h. sym ((bytes_eq-Decides b a).0 h)), (λ e. (bytes_eq-Decides b a).1 (sym e)))

-- attributes stay apart from one type more
apart_stay : (kinds : List KindLine) (n : ℕ) (name : List ℕ) (seen attributes : List AttributeLine) → is_attribute attributes name ≡ false → Grows (λ seen line. IsApart kinds line) seen attributes → Grows (λ seen line. IsApart (kinds ++ record { line = n; name = name } ∷ []) line) seen attributes
unfolding is_attribute is_kind
apart_stay kinds n name seen [] none g = tt
apart_stay kinds n name seen (line ∷ attributes) none g =
    let both = or_parts (bytes_eq line.name name) (list_any (λ one. bytes_eq one.name name) attributes) none in
    let other : bytes_eq name line.name ≡ false = turned name line.name ∙ both.0 in
    (record { apart = none_snoc (λ kind. bytes_eq kind.name line.name) kinds (record { line = n; name = name }) g.0.apart other }, apart_stay kinds n name (seen ++ line ∷ []) attributes both.1 g.1)

-- one type more
with_kind_keeps : (n : ℕ) (name : List ℕ) (policy : PolicyParts) → Grown policy → policy.versions ≡ [] → is_kind_name name ≡ true → length policy.kinds < kind_limit → is_kind policy.kinds name ≡ false → is_attribute policy.attributes name ≡ false → Grown (with_kind n name policy)
with_kind_keeps n name policy grown none good short new apart =
    let stay : KindsStay policy.kinds (policy.kinds ++ record { line = n; name = name } ∷ []) = kinds_snoc policy.kinds (record { line = n; name = name }) in
    let same : AttributesStay policy.attributes policy.attributes = attributes_stay policy.attributes in
    record {
      kinds = grows_snoc MayKind [] policy.kinds (record { line = n; name = name }) grown.kinds (record { named = good; few = short; new = new });
      contexts = contexts_stay policy.kinds _ stay policy.contexts grown.contexts;
      attributes = members_stay policy.kinds _ stay policy.attributes grown.attributes;
      apart = apart_stay policy.kinds n name [] policy.attributes apart grown.apart;
      nevers = patterns_stay policy.kinds _ policy.attributes policy.attributes stay same policy.nevers grown.nevers;
      silent = patterns_stay policy.kinds _ policy.attributes policy.attributes stay same policy.silent grown.silent;
      loud = patterns_stay policy.kinds _ policy.attributes policy.attributes stay same policy.loud grown.loud;
      listed = grown.listed;
      versions = rw none tt;
    }

-- a `type` line
kind_keeps : (n : ℕ) (name : List ℕ) (policy : PolicyParts) → Grown policy → is_kind_form name ≡ true → IfOk (kind_read n name policy) Grown
unfolding kind_read
kind_keeps n name policy grown good =
    unless (has_version policy) Order _ Grown (λ order.
    unless (is_long name || leb kind_limit (length policy.kinds)) Limit _ Grown (λ limit.
    unless (is_kind policy.kinds name || is_attribute policy.attributes name) Twice _ Grown (λ twice.
    let l = or_parts (is_long name) (leb kind_limit (length policy.kinds)) limit in
    let t = or_parts (is_kind policy.kinds name) (is_attribute policy.attributes name) twice in
    with_kind_keeps n name policy grown (none_begun policy.versions order) (kind_named name good l.0) (few kind_limit _ l.1) t.0 t.1)))

-- one context more, of a declared type
context_keeps : (n : ℕ) (context : ContextOf (List ℕ)) (policy : PolicyParts) (before : List ContextLine) → Grown policy → before ≡ policy.contexts → GoodContext context → is_long_context context ≡ false → is_kind policy.kinds context.kind ≡ true → length before < context_limit → has_context before context ≡ false → Grown (record policy { contexts = before ++ record { line = n; context = context } ∷ [] })
unfolding is_long_context
context_keeps n context policy before grown same good short known few_contexts new =
    let both = or_parts (is_long context.user || is_long context.role) (is_long context.kind) short in
    let names = or_parts (is_long context.user) (is_long context.role) both.0 in
    record {
      kinds = grown.kinds;
      contexts = grows_snoc (MayContext policy.kinds) [] before (record { line = n; context = context }) (rw same grown.contexts) (record {
        user = named context.user good.user names.0;
        role = named context.role good.role names.1;
        kind = known;
        few = few_contexts;
        new = new;
      });
      attributes = grown.attributes;
      apart = grown.apart;
      nevers = grown.nevers;
      silent = grown.silent;
      loud = grown.loud;
      listed = grown.listed;
      versions = grown.versions;
    }

-- a type is declared where it was added last
is_kind_last : (kinds : List KindLine) (n : ℕ) (name : List ℕ) → is_kind (kinds ++ record { line = n; name = name } ∷ []) name ≡ true
unfolding is_kind
is_kind_last [] n name = ap (λ b. b || false) ((bytes_eq-Decides name name).1 refl)
is_kind_last (kind ∷ kinds) n name = or_last (bytes_eq kind.name name) _ (is_kind_last kinds n name)
  where
    or_last : (a b : Bool) → b ≡ true → (a || b) ≡ true
    or_last true b h = refl
    or_last false b h = h

-- one context more, and its type where that is new
with_context_keeps : (n : ℕ) (context : ContextOf (List ℕ)) (policy : PolicyParts) → Grown policy → policy.versions ≡ [] → GoodContext context → is_long_context context ≡ false → (is_kind policy.kinds context.kind ≡ false → length policy.kinds < kind_limit) → length policy.contexts < context_limit → has_context policy.contexts context ≡ false → is_attribute policy.attributes context.kind ≡ false → Grown (with_context n context policy)
unfolding with_context is_long_context
with_context_keeps n context policy grown none good short room few_contexts new apart = by_kind (is_kind policy.kinds context.kind) refl
  where
    long_kind : is_long_context context ≡ false → is_long context.kind ≡ false
    long_kind h = (or_parts (is_long context.user || is_long context.role) (is_long context.kind) h).1

    by_kind : (b : Bool) → is_kind policy.kinds context.kind ≡ b → Grown (record (cond b policy (with_kind n context.kind policy)) { contexts = policy.contexts ++ record { line = n; context = context } ∷ [] })
    by_kind true known = context_keeps n context policy policy.contexts grown refl good short known few_contexts new
    by_kind false unknown =
        context_keeps n context (with_kind n context.kind policy) policy.contexts
        (with_kind_keeps n context.kind policy grown none (kind_named context.kind good.kind (long_kind short)) (room unknown) unknown apart)
        refl good short (is_kind_last policy.kinds n context.kind) few_contexts new

-- a `context` line
context_read_keeps : (n : ℕ) (context : ContextOf (List ℕ)) (policy : PolicyParts) → Grown policy → GoodContext context → IfOk (context_read n context policy) Grown
unfolding context_read is_full_for
context_read_keeps n context policy grown good =
    unless (has_version policy) Order _ Grown (λ order.
    unless (is_long_context context || (leb context_limit (length policy.contexts) || (not (is_kind policy.kinds context.kind) && leb kind_limit (length policy.kinds)))) Limit _ Grown (λ limit.
    unless (has_context policy.contexts context || is_attribute policy.attributes context.kind) Twice _ Grown (λ twice.
    let l = or_parts (is_long_context context) (leb context_limit (length policy.contexts) || (not (is_kind policy.kinds context.kind) && leb kind_limit (length policy.kinds))) limit in
    let f = or_parts (leb context_limit (length policy.contexts)) (not (is_kind policy.kinds context.kind) && leb kind_limit (length policy.kinds)) l.1 in
    let t = or_parts (has_context policy.contexts context) (is_attribute policy.attributes context.kind) twice in
    let room : is_kind policy.kinds context.kind ≡ false → length policy.kinds < kind_limit = λ unknown. few kind_limit _ (sym (ap (λ b. not b && leb kind_limit (length policy.kinds)) unknown) ∙ f.1) in
    with_context_keeps n context policy grown (none_begun policy.versions order) good l.0 room (few context_limit _ f.0) t.0 t.1)))

-- an `attribute` line
attribute_keeps : (n : ℕ) (name : List ℕ) (members : List (List ℕ)) (policy : PolicyParts) → Grown policy → is_kind_form name ≡ true → are_members members ≡ true → IfOk (attribute_read n name members policy) Grown
unfolding attribute_read are_members
attribute_keeps n name members policy grown good some =
    unless (has_version policy) Order _ Grown (λ order.
    unless (is_long name || list_any is_long members || leb attribute_limit (length policy.attributes)) Limit _ Grown (λ limit.
    unless (not (list_all (is_kind policy.kinds) members)) Unknown _ Grown (λ unknown.
    unless (is_kind policy.kinds name || is_attribute policy.attributes name) Twice _ Grown (λ twice.
    let l = or_parts (is_long name || list_any is_long members) (leb attribute_limit (length policy.attributes)) limit in
    let long = or_parts (is_long name) (list_any is_long members) l.0 in
    let t = or_parts (is_kind policy.kinds name) (is_attribute policy.attributes name) twice in
    let all : list_all (is_kind policy.kinds) members ≡ true = not_not _ unknown in
    let stay : KindsStay policy.kinds policy.kinds = kinds_stay policy.kinds in
    let more : AttributesStay policy.attributes (policy.attributes ++ record { line = n; name = name; members = members } ∷ []) = attributes_snoc policy.attributes (record { line = n; name = name; members = members }) in
    record {
      kinds = grown.kinds;
      contexts = grown.contexts;
      attributes = grows_snoc (MayAttribute policy.kinds) [] policy.attributes (record { line = n; name = name; members = members }) grown.attributes (record {
        named = kind_named name good long.0;
        some = filled members some;
        members = all;
        few = few attribute_limit _ l.1;
        new = t.1;
      });
      apart = grows_snoc (λ seen line. IsApart policy.kinds line) [] policy.attributes (record { line = n; name = name; members = members }) grown.apart (record { apart = t.0 });
      nevers = patterns_stay policy.kinds policy.kinds policy.attributes _ stay more policy.nevers grown.nevers;
      silent = patterns_stay policy.kinds policy.kinds policy.attributes _ stay more policy.silent grown.silent;
      loud = patterns_stay policy.kinds policy.kinds policy.attributes _ stay more policy.loud grown.loud;
      listed = grown.listed;
      versions = rw (none_begun policy.versions order) tt;
    }))))
  where
    not_not : (b : Bool) → not b ≡ false → b ≡ true
    not_not true h = refl
    not_not false h = cc

    filled : (words : List (List ℕ)) → are_members words ≡ true → 0 < length words
    filled [] h = cc
    filled (word ∷ words) h = omega arith

-- what was found
found_is : {X : Type 0} (e : FaultKind) (o : Option X) (x : X) → found_or e o ≡ Ok x → o ≡ Some x
found_is {X = X} e (Some y) x h = ap (λ (r : Result X FaultKind). elim r [ Ok z ↦ Some z | Err f ↦ None ]) h
found_is e None x h = cc

-- one more line on permissions outside the versions
with_listed_keeps : (listing : Listing) (pattern : Pattern) (policy : PolicyParts) → Grown policy → listed_count policy < listed_limit → MayPattern policy.kinds policy.attributes pattern → Grown (with_listed listing pattern policy)
with_listed_keeps Never pattern policy grown room may =
    let count : length (policy.nevers ++ pattern ∷ []) ≡ length policy.nevers + 1 = length-append policy.nevers (pattern ∷ []) in
    record {
      kinds = grown.kinds;
      contexts = grown.contexts;
      attributes = grown.attributes;
      apart = grown.apart;
      nevers = grows_snoc (λ seen one. MayPattern policy.kinds policy.attributes one) [] policy.nevers pattern grown.nevers may;
      silent = grown.silent;
      loud = grown.loud;
      listed = omega (arith, count, room, grown.listed);
      versions = grown.versions;
    }
with_listed_keeps Silent pattern policy grown room may =
    let count : length (policy.silent ++ pattern ∷ []) ≡ length policy.silent + 1 = length-append policy.silent (pattern ∷ []) in
    record {
      kinds = grown.kinds;
      contexts = grown.contexts;
      attributes = grown.attributes;
      apart = grown.apart;
      nevers = grown.nevers;
      silent = grows_snoc (λ seen one. MayPattern policy.kinds policy.attributes one) [] policy.silent pattern grown.silent may;
      loud = grown.loud;
      listed = omega (arith, count, room, grown.listed);
      versions = grown.versions;
    }
with_listed_keeps Loud pattern policy grown room may =
    let count : length (policy.loud ++ pattern ∷ []) ≡ length policy.loud + 1 = length-append policy.loud (pattern ∷ []) in
    record {
      kinds = grown.kinds;
      contexts = grown.contexts;
      attributes = grown.attributes;
      apart = grown.apart;
      nevers = grown.nevers;
      silent = grown.silent;
      loud = grows_snoc (λ seen one. MayPattern policy.kinds policy.attributes one) [] policy.loud pattern grown.loud may;
      listed = omega (arith, count, room, grown.listed);
      versions = grown.versions;
    }

-- a `neverallow`, `dontaudit` or `auditallow` line
listed_keeps : (n : ℕ) (listing : Listing) (form : PatternForm) (policy : PolicyParts) → Grown policy → GoodPattern form → IfOk (listed_read n listing form policy) Grown
unfolding listed_read
listed_keeps n listing form policy grown good =
    unless (has_version policy) Order _ Grown (λ order.
    unless (is_long_pattern form || leb listed_limit (listed_count policy)) Limit _ Grown (λ limit.
    after (found_or Unknown (pattern_of n form policy)) _ Grown (λ pattern is.
    let l = or_parts (is_long_pattern form) (leb listed_limit (listed_count policy)) limit in
    let found : pattern_of n form policy ≡ Some pattern = found_is Unknown (pattern_of n form policy) pattern is in
    let may = if_some (pattern_of n form policy) pattern (MayPattern policy.kinds policy.attributes) (known_pattern n form policy good) found in
    with_listed_keeps listing pattern policy grown (few listed_limit _ l.1) may)))

-- other versions over the same declarations
with_versions : (policy : PolicyParts) (versions : List Version) → Grown policy → Grows (MayVersion policy.kinds policy.attributes) [] versions → Grown (record policy { versions = versions })
with_versions policy versions grown g =
    record {
      kinds = grown.kinds;
      contexts = grown.contexts;
      attributes = grown.attributes;
      apart = grown.apart;
      nevers = grown.nevers;
      silent = grown.silent;
      loud = grown.loud;
      listed = grown.listed;
      versions = g;
    }

-- one version more
version_keeps : (n : ℕ) (policy : PolicyParts) → Grown policy → IfOk (version_read n policy) Grown
unfolding version_read
version_keeps n policy grown =
    unless (leb version_limit (length policy.versions)) Limit _ Grown (λ limit.
    with_versions policy (policy.versions ++ record { line = n; rules = [] } ∷ []) grown
    (grows_snoc (MayVersion policy.kinds policy.attributes) [] policy.versions (record { line = n; rules = [] }) grown.versions (record { few = few version_limit _ limit; rules = tt })))

-- the newest of two versions or more stands behind the first
newest_behind : (version next : Version) (versions : List Version) → newest_rules (version ∷ next ∷ versions) ≡ newest_rules (next ∷ versions)
unfolding newest_rules
newest_behind version next versions =
    let place : length (version ∷ next ∷ versions) - 1 ≡ suc (length (next ∷ versions) - 1) = omega arith in
    rw place refl

-- one rule line more in the newest version
with_rule_keeps : (kinds : List KindLine) (attributes : List AttributeLine) (rule : RuleLine) → IsRule kinds attributes rule → (seen versions : List Version) → length (newest_rules versions) < rule_limit → Grows (MayVersion kinds attributes) seen versions → Grows (MayVersion kinds attributes) seen (with_rule rule versions)
unfolding with_rule newest_rules
with_rule_keeps kinds attributes rule good seen [] room g = tt
with_rule_keeps kinds attributes rule good seen (version ∷ []) room g =
    (record { few = g.0.few; rules = grows_snoc (MayRule kinds attributes) [] version.rules rule g.0.rules (record { few = last_room version room; good = good }) }, tt)
  where
    last_room : (one : Version) → length (newest_rules (one ∷ [])) < rule_limit → length one.rules < rule_limit
    last_room one h = h
with_rule_keeps kinds attributes rule good seen (version ∷ next ∷ versions) room g =
    (g.0, with_rule_keeps kinds attributes rule good (seen ++ version ∷ []) (next ∷ versions) (rw (← newest_behind version next versions) room) g.1)

-- a rule line
rule_keeps : (rule : RuleLine) (policy : PolicyParts) → Grown policy → length (newest_rules policy.versions) < rule_limit → IsRule policy.kinds policy.attributes rule → Grown (record policy { versions = with_rule rule policy.versions })
rule_keeps rule policy grown room good =
    with_versions policy (with_rule rule policy.versions) grown (with_rule_keeps policy.kinds policy.attributes rule good [] policy.versions room grown.versions)

-- an `allow` or `withhold` line
decided_keeps : (n : ℕ) (decision : Decision) (form : PatternForm) (policy : PolicyParts) → Grown policy → GoodPattern form → IfOk (decided_read n decision form policy) Grown
unfolding decided_read
decided_keeps n decision form policy grown good =
    unless (not (has_version policy)) Order _ Grown (λ order.
    unless (is_long_pattern form || leb rule_limit (length (newest_rules policy.versions))) Limit _ Grown (λ limit.
    after (found_or Unknown (pattern_of n form policy)) _ Grown (λ pattern is.
    let l = or_parts (is_long_pattern form) (leb rule_limit (length (newest_rules policy.versions))) limit in
    let found : pattern_of n form policy ≡ Some pattern = found_is Unknown (pattern_of n form policy) pattern is in
    let may = if_some (pattern_of n form policy) pattern (MayPattern policy.kinds policy.attributes) (known_pattern n form policy good) found in
    rule_keeps (deciding_rule decision pattern) policy grown (few rule_limit _ l.1) (good_deciding policy.kinds policy.attributes decision pattern may))))

-- a `transition` or `member` line
labelled_keeps : (n : ℕ) (labelling : Labelling) (form : LabelForm) (policy : PolicyParts) → Grown policy → GoodLabel form → IfOk (labelled_read n labelling form policy) Grown
unfolding labelled_read
labelled_keeps n labelling form policy grown good =
    unless (not (has_version policy)) Order _ Grown (λ order.
    unless (is_long_label form || leb rule_limit (length (newest_rules policy.versions))) Limit _ Grown (λ limit.
    after (found_or Unknown (labelling_rule n labelling form policy)) _ Grown (λ rule is.
    let l = or_parts (is_long_label form) (leb rule_limit (length (newest_rules policy.versions))) limit in
    let found : labelling_rule n labelling form policy ≡ Some rule = found_is Unknown (labelling_rule n labelling form policy) rule is in
    let may = if_some (labelling_rule n labelling form policy) rule (IsRule policy.kinds policy.attributes) (known_label n labelling form policy good) found in
    rule_keeps rule policy grown (few rule_limit _ l.1) may)))

-- a line below `policy 1`
below_keeps : (n : ℕ) (said : Form) (policy : PolicyParts) → Grown policy → Good said → IfOk (below_header n said policy) Grown
unfolding below_header
below_keeps n form.Header policy grown good = tt
below_keeps n (form.Context context) policy grown good = context_read_keeps n context policy grown good
below_keeps n (form.Kind name) policy grown good = kind_keeps n name policy grown good
below_keeps n (form.Attribute name members) policy grown good = attribute_keeps n name members policy grown good.0 good.1
below_keeps n (form.Listed listing pattern) policy grown good = listed_keeps n listing pattern policy grown good
below_keeps n form.Version policy grown good = version_keeps n policy grown
below_keeps n (form.Decided decision pattern) policy grown good = decided_keeps n decision pattern policy grown good
below_keeps n (form.Labelled labelling label) policy grown good = labelled_keeps n labelling label policy grown good

-- the policy that says nothing
no_parts_grown : Grown no_parts
no_parts_grown = record { kinds = tt; contexts = tt; attributes = tt; apart = tt; nevers = tt; silent = tt; loud = tt; listed = omega arith; versions = tt }

-- what holds of a value that was gained
pub if_ok : {X : Type 0} (r : Result X FaultKind) (x : X) (P : X → Type 0) → IfOk r P → r ≡ Ok x → P x
if_ok {X = X} r x P h is =
    let gained : Result X FaultKind = Ok x in
    let holds : IfOk gained P = subst (λ (v : Result X FaultKind). IfOk v P) is h in
    holds

-- a line of a form
form_keeps : (n : ℕ) (said : Form) (above : Option PolicyParts) → GrownAbove above → Good said → IfOk (form_read n said above) GrownAbove
unfolding form_read
form_keeps n said (Some policy) grown good =
    after (below_header n said policy) _ GrownAbove (λ next is. if_ok (below_header n said policy) next Grown (below_keeps n said policy grown good) is)
form_keeps n form.Header None grown good = no_parts_grown
form_keeps n (form.Context context) None grown good = tt
form_keeps n (form.Kind name) None grown good = tt
form_keeps n (form.Attribute name members) None grown good = tt
form_keeps n (form.Listed listing pattern) None grown good = tt
form_keeps n form.Version None grown good = tt
form_keeps n (form.Decided decision pattern) None grown good = tt
form_keeps n (form.Labelled labelling label) None grown good = tt

-- the words of a line
words_keep : (n : ℕ) (words : List (List ℕ)) (above : Option PolicyParts) → GrownAbove above → IfOk (words_read n words above) GrownAbove
unfolding words_read
words_keep n [] above grown = grown
words_keep n (first ∷ words) above grown =
    after (found_or Syntax (line_form first words)) _ GrownAbove (λ said is.
    form_keeps n said above grown (if_some (line_form first words) said Good (good_line first words) (found_is Syntax (line_form first words) said is)))

-- any line
pub line_keeps : (n : ℕ) (line : List ℕ) (above : Option PolicyParts) → GrownAbove above → IfOk (line_read n line above) GrownAbove
unfolding line_read
line_keeps n line above grown = after (line_words n line) _ GrownAbove (λ words is. words_keep n words above grown)

-- a policy that is whole
pub whole_kept : (policy : PolicyParts) → Grown policy → is_whole policy ≡ true → IsWholePolicy policy
unfolding is_whole
whole_kept policy grown whole =
    let both = and_parts (not (eqb (length policy.contexts) 0)) (not (eqb (length policy.versions) 0)) whole in
    record { grown = grown; context = some policy.contexts both.0; version = some policy.versions both.1 }
  where
    some : {X : Type 0} (xs : List X) → not (eqb (length xs) 0) ≡ true → 0 < length xs
    some [] h = cc
    some (x ∷ xs) h = omega arith

-- What each printed line adds to a policy that is the same as the lines above it.
use Rattle.std.proofs.Common.{◌≡◌, ◌∙◌, ◌<◌, ℕ, true, false, not, leb, List, [], ◌∷◌, ◌++◌, map, length, Some, Ok, refl, ap, arith}
use Rattle.std.specs.Prelude.{◌||◌}
use Rattle.std.specs.List.{list_all, list_any}
use Rattle.std.proofs.lemmas.Bool.{or_from, lt-leb}
use Rattle.flask_sid.specs.Names.{is_name, is_long}
use Rattle.flask_sid.specs.Contexts.{is_long_context}
use Rattle.flask_sid.specs.declared.context.ContextOf.{ContextOf}
use Rattle.access_vectors.specs.declared.class.Class.{Class}
use Rattle.policy_model.specs.declared.policy.WhoOf.{WhoOf}
use Rattle.policy_model.specs.declared.policy.ContextLine.{ContextLine}
use Rattle.policy_model.specs.declared.policy.KindLine.{KindLine}
use Rattle.policy_model.specs.declared.policy.AttributeLine.{AttributeLine}
use Rattle.policy_model.specs.declared.policy.Pattern.{Pattern}
use Rattle.policy_model.specs.declared.policy.RuleLine.{RuleLine}
use Rattle.policy_model.specs.declared.policy.Version.{Version}
use Rattle.policy_model.specs.declared.policy.PolicyParts.{PolicyParts}
use Rattle.policy_text.specs.declared.form.Form.{Form}
use Rattle.policy_text.specs.declared.form.Form.TheVariants as form
use Rattle.policy_text.specs.declared.form.Listing.{Listing}
use Rattle.policy_text.specs.declared.form.Listing.TheVariants.{Never, Silent, Loud}
use Rattle.policy_text.specs.declared.form.Decision.{Decision}
use Rattle.policy_model.specs.declared.policy.Labelling.{Labelling}
use Rattle.policy_model.specs.Declarations.{context_limit, kind_limit, attribute_limit, listed_limit, version_limit, rule_limit, is_kind, is_attribute, has_context, is_known_who, listed_count}
use Rattle.policy_text.specs.Above.{is_long_pattern, is_long_label, has_version, newest_rules, is_full_for}
use Rattle.policy_text.specs.Known.{pattern_of, deciding_rule, decided, labelling_rule, labelled}
use Rattle.policy_text.specs.Grammar.{with_kind, with_context, with_attribute, with_listed, with_version, with_rule, context_read, kind_read, attribute_read, listed_read, version_read, decided_read, labelled_read, below_header}
use Rattle.policy_model.specs.Kept.{is_kind_name, MayKind, MayContext, MayAttribute, IsApart, IsPerms}
use Rattle.policy_print.specs.Same.{bare_context, bare_kind, bare_attribute, bare_pattern, bare_rule, bare_version, IsSamePolicy}
use Rattle.policy_print.proofs.SameLaws.{same_length, same_snoc, kind_same, attribute_same, context_same, known_same, members_same, begun_same, listed_same}
use Rattle.policy_print.proofs.VersionLaws.{same_with_rule, newest_length, last_begun}
use Rattle.policy_print.proofs.FieldLaws.{kind_short, name_short, who_short, members_short}
use Rattle.policy_print.proofs.PermLaws.{class_again, class_reads, perms_read}
use Rattle.policy_print.proofs.FormLaws.{WhosAre, form_on, form_giving}

-- a line of this form leads from any policy that is the same as one to a policy that is the same as another
pub record Steps (said : Form) (one other : PolicyParts) : Type 0 where
  pub step : (n : ℕ) (state : PolicyParts) → IsSamePolicy state one → (next : PolicyParts) × (below_header n said state ≡ Ok next) × IsSamePolicy next other

-- a count below its limit
below_limit : (limit n m : ℕ) → n ≡ m → m < limit → leb limit n ≡ false
below_limit limit n m same few = lt-leb limit n (omega (arith, same, few))

-- a `type` line
pub kind_steps : (one : PolicyParts) (kind : KindLine) → has_version one ≡ false → is_attribute one.attributes kind.name ≡ false → MayKind one.kinds kind → Steps (form.Kind kind.name) one (record one { kinds = one.kinds ++ kind ∷ [] })
unfolding below_header kind_read
kind_steps one kind none apart may =
    record {
      step = λ n state same.
          let order : has_version state ≡ false = begun_same state one same ∙ none in
          let count : leb kind_limit (length state.kinds) ≡ false = below_limit kind_limit (length state.kinds) (length one.kinds) (same_length bare_kind state.kinds one.kinds same.kinds) may.few in
          let limit : (is_long kind.name || leb kind_limit (length state.kinds)) ≡ false = or_from (is_long kind.name) (leb kind_limit (length state.kinds)) (kind_short kind.name may.named) count in
          let twice : (is_kind state.kinds kind.name || is_attribute state.attributes kind.name) ≡ false = or_from (is_kind state.kinds kind.name) (is_attribute state.attributes kind.name) (kind_same state one same kind.name ∙ may.new) (attribute_same state one same kind.name ∙ apart) in (
            with_kind n kind.name state,
            rw (order, limit, twice) refl,
            record {
              contexts = same.contexts;
              kinds = same_snoc bare_kind state.kinds one.kinds (record { line = n; name = kind.name }) kind same.kinds refl;
              attributes = same.attributes;
              nevers = same.nevers;
              silent = same.silent;
              loud = same.loud;
              versions = same.versions;
            },
          );
    }

-- the names of a context are not too long
context_short : (context : ContextOf (List ℕ)) → is_name context.user ≡ true → is_name context.role ≡ true → is_kind_name context.kind ≡ true → is_long_context context ≡ false
unfolding is_long_context
context_short context user role kind =
    or_from (is_long context.user || is_long context.role) (is_long context.kind)
    (or_from (is_long context.user) (is_long context.role) (name_short context.user user) (name_short context.role role))
    (kind_short context.kind kind)

-- there is room for a context of a declared type
context_fits : (state : PolicyParts) (context : ContextOf (List ℕ)) → leb context_limit (length state.contexts) ≡ false → is_kind state.kinds context.kind ≡ true → is_full_for state context ≡ false
unfolding is_full_for
context_fits state context few known = rw (few, known) refl

-- a context of a declared type is added, and no type
context_added : (n : ℕ) (context : ContextOf (List ℕ)) (state : PolicyParts) → is_kind state.kinds context.kind ≡ true → with_context n context state ≡ record state { contexts = state.contexts ++ record { line = n; context = context } ∷ [] }
unfolding with_context
context_added n context state known = rw known refl

-- a `context` line
pub context_steps : (one : PolicyParts) (line : ContextLine) → has_version one ≡ false → is_attribute one.attributes line.context.kind ≡ false → is_kind_name line.context.kind ≡ true → MayContext one.kinds one.contexts line → Steps (form.Context line.context) one (record one { contexts = one.contexts ++ line ∷ [] })
unfolding below_header context_read
context_steps one line none apart named may =
    record {
      step = λ n state same.
          let order : has_version state ≡ false = begun_same state one same ∙ none in
          let count : leb context_limit (length state.contexts) ≡ false = below_limit context_limit (length state.contexts) (length one.contexts) (same_length bare_context state.contexts one.contexts same.contexts) may.few in
          let known : is_kind state.kinds line.context.kind ≡ true = kind_same state one same line.context.kind ∙ may.kind in
          let limit : (is_long_context line.context || is_full_for state line.context) ≡ false = or_from (is_long_context line.context) (is_full_for state line.context) (context_short line.context may.user may.role named) (context_fits state line.context count known) in
          let twice : (has_context state.contexts line.context || is_attribute state.attributes line.context.kind) ≡ false = or_from (has_context state.contexts line.context) (is_attribute state.attributes line.context.kind) (context_same state one same line.context ∙ may.new) (attribute_same state one same line.context.kind ∙ apart) in (
            record state { contexts = state.contexts ++ record { line = n; context = line.context } ∷ [] },
            rw (order, limit, twice) (ap Ok (context_added n line.context state known)),
            record {
              contexts = same_snoc bare_context state.contexts one.contexts (record { line = n; context = line.context }) line same.contexts refl;
              kinds = same.kinds;
              attributes = same.attributes;
              nevers = same.nevers;
              silent = same.silent;
              loud = same.loud;
              versions = same.versions;
            },
          );
    }

-- an `attribute` line
pub attribute_steps : (one : PolicyParts) (line : AttributeLine) → has_version one ≡ false → list_all is_kind_name line.members ≡ true → IsApart one.kinds line → MayAttribute one.kinds one.attributes line → Steps (form.Attribute line.name line.members) one (record one { attributes = one.attributes ++ line ∷ [] })
unfolding below_header attribute_read
attribute_steps one line none named apart may =
    record {
      step = λ n state same.
          let order : has_version state ≡ false = begun_same state one same ∙ none in
          let count : leb attribute_limit (length state.attributes) ≡ false = below_limit attribute_limit (length state.attributes) (length one.attributes) (same_length bare_attribute state.attributes one.attributes same.attributes) may.few in
          let short : (is_long line.name || list_any is_long line.members) ≡ false = or_from (is_long line.name) (list_any is_long line.members) (kind_short line.name may.named) (members_short line.members named) in
          let limit : (is_long line.name || list_any is_long line.members || leb attribute_limit (length state.attributes)) ≡ false = or_from (is_long line.name || list_any is_long line.members) (leb attribute_limit (length state.attributes)) short count in
          let known : not (list_all (is_kind state.kinds) line.members) ≡ false = ap not (members_same state one same line.members ∙ may.members) in
          let twice : (is_kind state.kinds line.name || is_attribute state.attributes line.name) ≡ false = or_from (is_kind state.kinds line.name) (is_attribute state.attributes line.name) (kind_same state one same line.name ∙ apart.apart) (attribute_same state one same line.name ∙ may.new) in (
            with_attribute n line.name line.members state,
            rw (order, limit, known, twice) refl,
            record {
              contexts = same.contexts;
              kinds = same.kinds;
              attributes = same_snoc bare_attribute state.attributes one.attributes (record { line = n; name = line.name; members = line.members }) line same.attributes refl;
              nevers = same.nevers;
              silent = same.silent;
              loud = same.loud;
              versions = same.versions;
            },
          );
    }

-- whom a line speaks of is known
pub record WhosKnown (policy : PolicyParts) (source target : WhoOf (List ℕ)) : Type 0 where
  pub source_known : is_known_who policy.kinds policy.attributes source ≡ true
  pub target_known : is_known_who policy.kinds policy.attributes target ≡ true

-- and so it is in a policy that is the same
whos_same : (state one : PolicyParts) (source target : WhoOf (List ℕ)) → IsSamePolicy state one → WhosKnown one source target → WhosKnown state source target
whos_same state one source target same known =
    record { source_known = known_same state one same source ∙ known.source_known; target_known = known_same state one same target ∙ known.target_known }

-- a line on permissions that was printed names what it named
pattern_known : (n : ℕ) (state : PolicyParts) (source target : WhoOf (List ℕ)) (class : Class) (perms : ℕ) → WhosKnown state source target → IsPerms class perms → pattern_of n (form_on source target class perms) state ≡ Some (record { line = n; source = source; target = target; class = class; perms = perms })
unfolding pattern_of
pattern_known n state source target class perms known are =
    rw (known.source_known, known.target_known, class_again class, (perms_read class perms are).again) refl

-- none of its names is too long
pattern_short : (source target : WhoOf (List ℕ)) (class : Class) (perms : ℕ) → WhosAre source target → IsPerms class perms → is_long_pattern (form_on source target class perms) ≡ false
unfolding is_long_pattern
pattern_short source target class perms whos are =
    rw (who_short source whos.source_well, who_short target whos.target_well, (class_reads class).short) (perms_read class perms are).short

-- a line on permissions outside the versions
pub listed_steps : (listing : Listing) (one : PolicyParts) (pattern : Pattern) → has_version one ≡ false → listed_count one < listed_limit → WhosAre pattern.source pattern.target → WhosKnown one pattern.source pattern.target → IsPerms pattern.class pattern.perms → Steps (form.Listed listing (form_on pattern.source pattern.target pattern.class pattern.perms)) one (with_listed listing pattern one)
unfolding below_header listed_read
listed_steps listing one pattern none few whos known are =
    record {
      step = λ n state same.
          let said = form_on pattern.source pattern.target pattern.class pattern.perms in
          let order : has_version state ≡ false = begun_same state one same ∙ none in
          let count : leb listed_limit (listed_count state) ≡ false = below_limit listed_limit (listed_count state) (listed_count one) (listed_same state one same) few in
          let limit : (is_long_pattern said || leb listed_limit (listed_count state)) ≡ false = or_from (is_long_pattern said) (leb listed_limit (listed_count state)) (pattern_short pattern.source pattern.target pattern.class pattern.perms whos are) count in
          let found : pattern_of n said state ≡ Some (record pattern { line = n }) = pattern_known n state pattern.source pattern.target pattern.class pattern.perms (whos_same state one pattern.source pattern.target same known) are in
          (with_listed listing (record pattern { line = n }) state, rw (order, limit, found) refl, same_listed listing n state same);
    }
  where
    same_listed : (to : Listing) (n : ℕ) (state : PolicyParts) → IsSamePolicy state one → IsSamePolicy (with_listed to (record pattern { line = n }) state) (with_listed to pattern one)
    same_listed Never n state same = record {
      contexts = same.contexts;
      kinds = same.kinds;
      attributes = same.attributes;
      nevers = same_snoc bare_pattern state.nevers one.nevers (record pattern { line = n }) pattern same.nevers refl;
      silent = same.silent;
      loud = same.loud;
      versions = same.versions;
    }
    same_listed Silent n state same = record {
      contexts = same.contexts;
      kinds = same.kinds;
      attributes = same.attributes;
      nevers = same.nevers;
      silent = same_snoc bare_pattern state.silent one.silent (record pattern { line = n }) pattern same.silent refl;
      loud = same.loud;
      versions = same.versions;
    }
    same_listed Loud n state same = record {
      contexts = same.contexts;
      kinds = same.kinds;
      attributes = same.attributes;
      nevers = same.nevers;
      silent = same.silent;
      loud = same_snoc bare_pattern state.loud one.loud (record pattern { line = n }) pattern same.loud refl;
      versions = same.versions;
    }

-- the same policy with other versions, which are the same
same_versions : (state one : PolicyParts) (versions others : List Version) → IsSamePolicy state one → map bare_version versions ≡ map bare_version others → IsSamePolicy (record state { versions = versions }) (record one { versions = others })
same_versions state one versions others same versions_same =
    record {
      contexts = same.contexts;
      kinds = same.kinds;
      attributes = same.attributes;
      nevers = same.nevers;
      silent = same.silent;
      loud = same.loud;
      versions = versions_same;
    }

-- a `version` line
pub version_steps : (one : PolicyParts) (line : ℕ) → length one.versions < version_limit → Steps form.Version one (record one { versions = one.versions ++ record { line = line; rules = [] } ∷ [] })
unfolding below_header version_read
version_steps one line few =
    record {
      step = λ n state same.
          let count : leb version_limit (length state.versions) ≡ false = below_limit version_limit (length state.versions) (length one.versions) (same_length bare_version state.versions one.versions same.versions) few in
          (with_version n state, rw count refl, same_versions state one (state.versions ++ record { line = n; rules = [] } ∷ []) _ same (same_snoc bare_version state.versions one.versions (record { line = n; rules = [] }) (record { line = line; rules = [] }) same.versions refl));
    }

-- a policy whose newest version is this one
abbrev pub with_newest : PolicyParts → List Version → Version → PolicyParts
with_newest policy done version = record policy { versions = done ++ version ∷ [] }

-- a version with one rule line more
abbrev pub with_more : Version → RuleLine → Version
with_more version rule = record version { rules = version.rules ++ rule ∷ [] }

-- other versions change nothing of what is known
whos_newest : (one : PolicyParts) (done : List Version) (version : Version) (source target : WhoOf (List ℕ)) → WhosKnown one source target → WhosKnown (with_newest one done version) source target
whos_newest one done version source target known = record { source_known = known.source_known; target_known = known.target_known }

-- there is room for a rule line
rule_fits : (state one : PolicyParts) (done : List Version) (version : Version) → IsSamePolicy state (with_newest one done version) → length version.rules < rule_limit → leb rule_limit (length (newest_rules state.versions)) ≡ false
rule_fits state one done version same few =
    below_limit rule_limit (length (newest_rules state.versions)) (length version.rules) (newest_length state.versions done version same.versions) few

-- an `allow` or `withhold` line
pub decided_steps : (decision : Decision) (one : PolicyParts) (done : List Version) (version : Version) (rule : RuleLine) (perms : ℕ) → rule.verdict ≡ decided decision perms → length version.rules < rule_limit → WhosAre rule.source rule.target → WhosKnown one rule.source rule.target → IsPerms rule.class perms → Steps (form.Decided decision (form_on rule.source rule.target rule.class perms)) (with_newest one done version) (with_newest one done (with_more version rule))
unfolding below_header decided_read
decided_steps decision one done version rule perms verdict few whos known are =
    record {
      step = λ n state same.
          let said = form_on rule.source rule.target rule.class perms in
          let pattern : Pattern = record { line = n; source = rule.source; target = rule.target; class = rule.class; perms = perms } in
          let order : not (has_version state) ≡ false = ap not (last_begun state.versions done version same.versions) in
          let limit : (is_long_pattern said || leb rule_limit (length (newest_rules state.versions))) ≡ false = or_from (is_long_pattern said) (leb rule_limit (length (newest_rules state.versions))) (pattern_short rule.source rule.target rule.class perms whos are) (rule_fits state one done version same few) in
          let found : pattern_of n said state ≡ Some pattern = pattern_known n state rule.source rule.target rule.class perms (whos_same state (with_newest one done version) rule.source rule.target same (whos_newest one done version rule.source rule.target known)) are in
          let bare : bare_rule (deciding_rule decision pattern) ≡ bare_rule rule = rw verdict refl in (
            record state { versions = with_rule (deciding_rule decision pattern) state.versions },
            rw (order, limit, found) refl,
            same_versions state (with_newest one done version) (with_rule (deciding_rule decision pattern) state.versions) (done ++ with_more version rule ∷ []) same (same_with_rule (deciding_rule decision pattern) rule state.versions done version bare same.versions),
          );
    }

-- a line that gives a type, and was printed, names what it named
label_known : (n : ℕ) (labelling : Labelling) (state : PolicyParts) (source target : WhoOf (List ℕ)) (class : Class) (kind : List ℕ) → WhosKnown state source target → is_kind state.kinds kind ≡ true → labelling_rule n labelling (form_giving source target class kind) state ≡ Some (record { line = n; source = source; target = target; class = class; verdict = labelled labelling kind })
unfolding labelling_rule
label_known n labelling state source target class kind known there =
    rw (known.source_known, known.target_known, there, class_again class) refl

-- none of its names is too long
label_short : (source target : WhoOf (List ℕ)) (class : Class) (kind : List ℕ) → WhosAre source target → is_kind_name kind ≡ true → is_long_label (form_giving source target class kind) ≡ false
unfolding is_long_label
label_short source target class kind whos named =
    rw (who_short source whos.source_well, who_short target whos.target_well, (class_reads class).short) (kind_short kind named)

-- a `transition` or `member` line
pub labelled_steps : (labelling : Labelling) (one : PolicyParts) (done : List Version) (version : Version) (rule : RuleLine) (kind : List ℕ) → rule.verdict ≡ labelled labelling kind → length version.rules < rule_limit → WhosAre rule.source rule.target → WhosKnown one rule.source rule.target → is_kind_name kind ≡ true → is_kind one.kinds kind ≡ true → Steps (form.Labelled labelling (form_giving rule.source rule.target rule.class kind)) (with_newest one done version) (with_newest one done (with_more version rule))
unfolding below_header labelled_read
labelled_steps labelling one done version rule kind verdict few whos known named there =
    record {
      step = λ n state same.
          let said = form_giving rule.source rule.target rule.class kind in
          let more : RuleLine = record { line = n; source = rule.source; target = rule.target; class = rule.class; verdict = labelled labelling kind } in
          let order : not (has_version state) ≡ false = ap not (last_begun state.versions done version same.versions) in
          let limit : (is_long_label said || leb rule_limit (length (newest_rules state.versions))) ≡ false = or_from (is_long_label said) (leb rule_limit (length (newest_rules state.versions))) (label_short rule.source rule.target rule.class kind whos named) (rule_fits state one done version same few) in
          let found : labelling_rule n labelling said state ≡ Some more = label_known n labelling state rule.source rule.target rule.class kind (whos_same state (with_newest one done version) rule.source rule.target same (whos_newest one done version rule.source rule.target known)) (kind_same state (with_newest one done version) same kind ∙ there) in
          let bare : bare_rule more ≡ bare_rule rule = rw verdict refl in (
            record state { versions = with_rule more state.versions },
            rw (order, limit, found) refl,
            same_versions state (with_newest one done version) (with_rule more state.versions) (done ++ with_more version rule ∷ []) same (same_with_rule more rule state.versions done version bare same.versions),
          );
    }

-- Blocks of rows in a table.
use Rattle.std.proofs.Common.{◌≡◌, ◌∙◌, ℕ, ◌+◌, ◌<◌, ◌≤◌, List, [], ◌∷◌, ◌++◌, length, get_or, take, Some, None, refl, sym, ap, subst, arith, length-append, ⊎_elim, cond, eqb, false, set, get_or-set_same, get_or-set_other}
use Rattle.std.specs.Prelude.{slice_get}
use Rattle.std.proofs.lemmas.Bool.{cases_lt, cases_eq}
use Rattle.std.proofs.lemmas.List.{get_or_append_left, get_or-append-add, get_or_push}
use Rattle.std.proofs.lemmas.Option.{slice_get-get_or, slice_get_past, slice_get_read}
use Rattle.access_vectors.specs.declared.class.Class.{Class}
use Rattle.access_vectors.specs.declared.class.Class.TheVariants.{File, Dir, Process, Port, Security}
use Rattle.policy_model.specs.declared.policy.PolicyParts.{PolicyParts}
use Rattle.policy_model.specs.declared.policy.RuleLine.{RuleLine}
use Rattle.policy_model.specs.declared.policy.Version.{Version}
use Rattle.policy_model.specs.Declarations.{rules_of}
use Rattle.policy_model.specs.Kept.{Grows, IsWholePolicy, MayVersion, MayRule}
use Rattle.policy_model.specs.declared.policy.Labelling.TheVariants.{Transition, Member}
use Rattle.policy_model.specs.Deciding.{rules_at, given_kind}
use Rattle.policy_versions.specs.declared.change.Content.{Content}
use Rattle.policy_versions.specs.declared.change.Content.TheVariants.{Given}
use Rattle.policy_versions.specs.declared.given.GivenRows.{GivenRows}
use Rattle.policy_versions.specs.declared.row.Row.{Row}
use Rattle.policy_versions.specs.declared.table.Table.{Table}
use Rattle.policy_versions.specs.Changes.{no_row, AreBlank, Tells, AllTell, AreRules}
use Rattle.policy_versions.specs.Given.{AreGivenOf}
use Rattle.policy_model.specs.Matching.{is_same_class}
use Rattle.access_vectors.specs.Table.{code_of}
use Rattle.policy_versions.specs.declared.block.Block.{Block}
use Rattle.std.proofs.lemmas.Bool.Decides.{nat_tests}
use Rattle.std.proofs.lemmas.List.{get_or_default}
use Rattle.policy_versions.specs.Cells.{class_place, StandsAt, KeepsRows, TellFrom, AllTellFrom, TableTells}
use Rattle.policy_versions.proofs.GrowsLemmas.{grows_at, grows_few}
use Rattle.policy_versions.proofs.TellLemmas.{told_none, told_other, given_from}

-- rows that nothing is done to
pub keeps_all : (rows : List Row) → KeepsRows rows rows
keeps_all rows = record { grows = omega arith; same = λ place h. refl }

-- rows that stay, and stay again
pub keeps_on : (a b c : List Row) → KeepsRows a b → KeepsRows b c → KeepsRows a c
keeps_on a b c ab bc =
    let more : length a ≤ length b = ab.grows in
    let more' : length b ≤ length c = bc.grows in
    record { grows = omega arith; same = λ place h. bc.same place (omega arith) ∙ ab.same place h }

-- rows behind which others are put
pub keeps_front : (rows block : List Row) → KeepsRows rows (rows ++ block)
keeps_front rows block =
    let size : length (rows ++ block) ≡ length rows + length block = length-append rows block in
    record { grows = omega arith; same = λ place h. get_or_append_left rows block no_row place h }

-- blank rows that stay
pub blank_on : (before after : List Row) → KeepsRows before after → AreBlank before → AreBlank after
blank_on before after keeps blank =
    let within : 128 ≤ length before = blank.within in
    let grows : length before ≤ length after = keeps.grows in
    record { within = omega arith; same = λ s h. keeps.same s (omega arith) ∙ blank.same s h }

-- a blank block stands where the rows are blank
pub blank_stands : (rows block : List Row) → AreBlank rows → AreBlank block → StandsAt rows block 0
blank_stands rows block here there =
    record { within = here.within; same = λ s h. (let at : 0 + s ≡ s = omega arith in rw at (here.same s h ∙ sym (there.same s h))) }

-- rows that are put behind others
pub stands_behind : (rows block : List Row) → length block ≡ 128 → StandsAt (rows ++ block) block (length rows)
stands_behind rows block whole =
    let size : length (rows ++ block) ≡ length rows + length block = length-append rows block in
    record { within = omega arith; same = λ s h. get_or-append-add rows block s no_row }

-- what a block tells is told where its rows stand
pub told_where : (content : Content) (policy : PolicyParts) (rules : List RuleLine) (class : Class) (rows block : List Row) (first : ℕ) → length policy.kinds ≤ 128 → AllTell content policy rules class block → StandsAt rows block first → TellFrom content policy rules class rows first
told_where content policy rules class rows block first few told stands =
    record {
      within = stands.within;
      tell = λ s t hs ht. subst (Tells content policy rules class s t) (sym (ap (λ (r : Row). get_or r.cells t 0) (stands.same s (omega arith)))) (told s t hs ht);
    }

-- rows that stay tell the same
pub told_on : (content : Content) (policy : PolicyParts) (rules : List RuleLine) (class : Class) (before after : List Row) (first : ℕ) → length policy.kinds ≤ 128 → KeepsRows before after → TellFrom content policy rules class before first → TellFrom content policy rules class after first
told_on content policy rules class before after first few keeps told =
    let within : first + 128 ≤ length before = told.within in
    let grows : length before ≤ length after = keeps.grows in
    record {
      within = omega arith;
      tell = λ s t hs ht. subst (Tells content policy rules class s t) (sym (ap (λ (r : Row). get_or r.cells t 0) (keeps.same (first + s) (omega arith)))) (told.tell s t hs ht);
    }

-- what holds for each class
pub each_class : (P : Class → Type 0) → P File → P Dir → P Process → P Port → P Security → (class : Class) → P class
each_class P file dir process port security File = file
each_class P file dir process port security Dir = dir
each_class P file dir process port security Process = process
each_class P file dir process port security Port = port
each_class P file dir process port security Security = security

-- the place of a class is below five, and tells the class
pub place_small : (class : Class) → class_place class < 5
place_small File = omega arith
place_small Dir = omega arith
place_small Process = omega arith
place_small Port = omega arith
place_small Security = omega arith

class_at : ℕ → Class
class_at at = cond (eqb at 0) File (cond (eqb at 1) Dir (cond (eqb at 2) Process (cond (eqb at 3) Port Security)))

at_place : (class : Class) → class_at (class_place class) ≡ class
unfolding class_at
at_place File = refl
at_place Dir = refl
at_place Process = refl
at_place Port = refl
at_place Security = refl

code_at : (class : Class) → code_of class ≡ class_place class + 1
code_at File = refl
code_at Dir = refl
code_at Process = refl
code_at Port = refl
code_at Security = refl

-- blocks of which the one of a rule line's class tells of that line too
pub drawn_more : (content : Content) (policy : PolicyParts) (above : List RuleLine) (rule : RuleLine) (blocks : List Block) (block : Block) → length blocks ≡ 5 → ((class : Class) (none : Block) → AllTell content policy above class (get_or blocks (class_place class) none).rows.items) → AllTell content policy (above ++ rule ∷ []) rule.class block.rows.items → (class : Class) (none : Block) → AllTell content policy (above ++ rule ∷ []) class (get_or (set blocks (class_place rule.class) block) (class_place class) none).rows.items
drawn_more content policy above rule blocks block whole told here class none =
    ⊎_elim
    (λ same.
    let is : rule.class ≡ class = sym (at_place rule.class) ∙ ap class_at (sym same) ∙ at_place class in
    let small : class_place rule.class < 5 = place_small rule.class in
    rw (same, get_or-set_same blocks (class_place rule.class) block none (omega arith)) (subst (λ one. AllTell content policy (above ++ rule ∷ []) one block.rows.items) is here))
    (λ apart.
    let other : is_same_class rule.class class ≡ false = grind (arith, nat_tests, code_at rule.class, code_at class) in
    rw (get_or-set_other blocks (class_place rule.class) (class_place class) block none apart) (λ s t hs ht. told_other content policy above rule class s t _ other (told class none s t hs ht)))
    (cases_eq (class_place class) (class_place rule.class))

-- one of the blocks
pub some_block : (blocks : List Block) → length blocks ≡ 5 → Block
some_block [] whole = absurd (omega (arith, whole))
some_block (block ∷ blocks) whole = block

-- rows that stand, stand on
pub stands_on : (before after block : List Row) (first : ℕ) → KeepsRows before after → StandsAt before block first → StandsAt after block first
stands_on before after block first keeps stands =
    let within : first + 128 ≤ length before = stands.within in
    let grows : length before ≤ length after = keeps.grows in
    record { within = omega arith; same = λ s h. keeps.same (first + s) (omega arith) ∙ stands.same s h }

-- where one block's rows stand, and those of the blocks before it
pub stand_more : (before after : List Row) (blocks : List Block) (block : Block) (firsts : List ℕ) (at first : ℕ) → length blocks ≡ 5 → length firsts ≡ 5 → at < 5 → block ≡ get_or blocks at block → KeepsRows before after → StandsAt after block.rows.items first → ((k : ℕ) (none : Block) → k < at → StandsAt before (get_or blocks k none).rows.items (get_or firsts k 0)) → (k : ℕ) (none : Block) → k < at + 1 → StandsAt after (get_or blocks k none).rows.items (get_or (set firsts at first) k 0)
stand_more before after blocks block firsts at first whole size small is keeps here stand k none below =
    ⊎_elim
    (λ same. rw (same, get_or-set_same firsts at first 0 (omega arith), get_or_default blocks at none block (omega arith), sym is) here)
    (λ apart. rw (get_or-set_other firsts at k first 0 apart) (stands_on before after _ _ keeps (stand k none (omega arith))))
    (cases_eq k at)

-- the rule lines of a kept policy name what is declared
pub version_rules : (policy : PolicyParts) → IsWholePolicy policy → (i : ℕ) (version : Version) → i < length policy.versions → version ≡ get_or policy.versions i version → AreRules policy version.rules
version_rules policy kept i version within read k d h =
    let may : MayVersion policy.kinds policy.attributes (take i policy.versions) (get_or policy.versions i version) = grows_at (MayVersion policy.kinds policy.attributes) [] policy.versions kept.grown.versions i version within in
    let rules : Grows (MayRule policy.kinds policy.attributes) [] version.rules = subst (λ (v : Version). Grows (MayRule policy.kinds policy.attributes) [] v.rules) (sym read) may.rules in
    (grows_at (MayRule policy.kinds policy.attributes) [] version.rules rules k d h).good

-- a kept policy has at most 64 versions
pub versions_few : (policy : PolicyParts) → IsWholePolicy policy → length policy.versions ≤ 64
versions_few policy kept = omega (arith, grows_few (MayVersion policy.kinds policy.attributes) 64 (λ seen version may. may.few) [] policy.versions (omega arith) kept.grown.versions)

-- the rule lines of a version
pub rules_at-read : (policy : PolicyParts) (i : ℕ) (version : Version) → i < length policy.versions → version ≡ get_or policy.versions i version → rules_at policy i ≡ version.rules
unfolding rules_at
rules_at-read policy i version within read = ap rules_of (slice_get_read policy.versions (length policy.versions) i version refl within read)

-- the first versions are told of
abbrev pub TellBelow : Content → PolicyParts → List Row → List (List ℕ) → ℕ → Type 0
TellBelow content policy rows firsts limit =
    (version : ℕ) → version < limit → AllTellFrom content policy (rules_at policy version) rows (get_or firsts version [])

-- one version more
pub told_below : (content : Content) (policy : PolicyParts) (before after : List Row) (firsts : List (List ℕ)) (i : ℕ) (next : List ℕ) → length policy.kinds ≤ 128 → length firsts ≡ i → KeepsRows before after → AllTellFrom content policy (rules_at policy i) after next → TellBelow content policy before firsts i → TellBelow content policy after (firsts ++ next ∷ []) (i + 1)
told_below content policy before after firsts i next few size keeps told below version h =
    ⊎_elim
    (λ same. rw same (rw (get_or_push firsts next [] i size) told))
    (λ apart.
    let low : version < i = omega arith in
    let within : version < length firsts = omega arith in
    rw (get_or_append_left firsts (next ∷ []) [] version within) (λ class. told_on content policy (rules_at policy version) class before after _ few keeps (below version low class)))
    (cases_eq version i)

-- a version that is not there has no rule lines
no_rules : (policy : PolicyParts) (version : ℕ) → length policy.versions ≤ version → rules_at policy version ≡ []
unfolding rules_at
no_rules policy version past = ap rules_of (slice_get_past policy.versions version past)

-- all versions
pub table_told : (content : Content) (policy : PolicyParts) (table : Table) (i : ℕ) → length table.firsts.items ≡ length policy.versions → length policy.versions ≤ i → TellBelow content policy table.rows.items table.firsts.items i → TableTells content policy table
table_told content policy table i size all told version s t class hs ht =
    ⊎_elim
    (λ within.
    let at : slice_get table.firsts.items version ≡ Some (get_or table.firsts.items version []) = slice_get-get_or table.firsts.items version [] (omega arith) in
    rw at ((told version (omega arith) class).tell s t hs ht))
    (λ past.
    let none : slice_get table.firsts.items version ≡ None = slice_get_past table.firsts.items version (omega arith) in
    rw (none, no_rules policy version past) (told_none content policy class s t))
    (cases_lt version (length policy.versions))

-- what two tables give
pub all_given : (policy : PolicyParts) (rows : GivenRows) → TableTells (Given Transition) policy rows.transitions → TableTells (Given Member) policy rows.members → AreGivenOf policy rows
unfolding given_kind
all_given policy rows transitions members Transition version s t class hs ht = given_from policy _ _ (transitions version s t class hs ht)
all_given policy rows transitions members Member version s t class hs ht = given_from policy _ _ (members version s t class hs ht)

-- Rows that are changed one after another.
use Rattle.std.proofs.Common.{◌≡◌, ◌≢◌, ◌∙◌, ℕ, ◌+◌, ◌<◌, ◌≤◌, Bool, true, false, ltb, List, length, get_or, set, refl, sym, ap, arith, ⊎_elim, get_or-set_same, get_or-set_other}
use Rattle.std.specs.Prelude.{◌&&◌, ◌==◌}
use Rattle.std.proofs.lemmas.Bool.{cases_eq, cases_lt, lt-ltb, le-ltb}
use Rattle.std.proofs.lemmas.Bool.Decides.{nat_tests}
use Rattle.policy_model.specs.declared.policy.AttributeLine.{AttributeLine}
use Rattle.policy_model.specs.declared.policy.PolicyParts.{PolicyParts}
use Rattle.policy_model.specs.declared.policy.WhoOf.{WhoOf}
use Rattle.policy_model.specs.declared.policy.WhoOf.TheVariants.{Named, Any, Itself}
use Rattle.policy_model.specs.Matching.{matches_source, matches_target}
use Rattle.policy_versions.specs.declared.change.Change.{Change}
use Rattle.policy_versions.specs.declared.row.Row.{Row}
use Rattle.policy_versions.specs.Changes.{changed_if, cell_of, no_row, AreBlank, AreChanged, AreMatchedChanged}
use Rattle.policy_versions.specs.Sets.{has_place}
use Rattle.policy_versions.specs.Places.{kind_at}
use Rattle.policy_versions.specs.Kinds.{IsSourceSet, AreApart}
use Rattle.policy_versions.proofs.KindLemmas.{same_place}
use Rattle.policy_versions.proofs.RowLemmas.{zeros}

-- a cell of the row that is written, and of any other
cell_of-set_same : (rows : List Row) (s t : ℕ) (row : Row) → s < length rows → cell_of (set rows s row) s t ≡ get_or row.cells t 0
cell_of-set_same rows s t row within = ap (λ (r : Row). get_or r.cells t 0) (get_or-set_same rows s row no_row within)

cell_of-set_other : (rows : List Row) (i s t : ℕ) (row : Row) → s ≢ i → cell_of (set rows i row) s t ≡ cell_of rows s t
cell_of-set_other rows i s t row apart = ap (λ (r : Row). get_or r.cells t 0) (get_or-set_other rows i s row no_row apart)

-- the cells of blank rows
pub blank_cells : (rows : List Row) → AreBlank rows → (s t : ℕ) → s < 128 → cell_of rows s t ≡ 0
blank_cells rows blank s t within = ap (λ (r : Row). get_or r.cells t 0) (blank.same s within) ∙ zeros 128 t

-- the sources below one pass
abbrev pub below : ℕ → (ℕ → ℕ → Bool) → ℕ → ℕ → Bool
below limit matches s t = ltb s limit && matches s t

below_next : (i s : ℕ) → s ≢ i → ltb s i ≡ ltb s (i + 1)
below_next i s apart = grind (arith, nat_tests)

-- nothing is changed yet
pub rows_begun : (matches : ℕ → ℕ → Bool) (change : Change) (rows : List Row) → AreChanged (below 0 matches) change rows rows
rows_begun matches change rows s t hs ht = rw (le-ltb s 0 (omega arith)) refl

-- the row of one source more
pub rows_more : (matches : ℕ → ℕ → Bool) (change : Change) (i : ℕ) (before now : List Row) (row : Row) → i < length now → ((t : ℕ) → t < 128 → get_or row.cells t 0 ≡ changed_if (matches i t) change (cell_of now i t)) → AreChanged (below i matches) change before now → AreChanged (below (i + 1) matches) change before (set now i row)
rows_more matches change i before now row within here done s t hs ht =
    ⊎_elim
    (λ same.
    let last : ltb i (i + 1) ≡ true = lt-ltb i (i + 1) (omega arith) in
    let none : ltb i i ≡ false = le-ltb i i (omega arith) in
    let as_before : cell_of now i t ≡ cell_of before i t = done i t (omega arith) ht ∙ rw none refl in
    rw same (cell_of-set_same now i t row within ∙ here t ht ∙ ap (changed_if (matches i t) change) as_before ∙ rw last refl))
    (λ apart. cell_of-set_other now i s t row apart ∙ done s t hs ht ∙ ap (λ b. changed_if (b && matches s t) change (cell_of before s t)) (below_next i s apart))
    (cases_eq s i)

-- one source more that does not match
pub rows_skip : (matches : ℕ → ℕ → Bool) (change : Change) (i : ℕ) (before now : List Row) → ((t : ℕ) → matches i t ≡ false) → AreChanged (below i matches) change before now → AreChanged (below (i + 1) matches) change before now
rows_skip matches change i before now none done s t hs ht =
    ⊎_elim
    (λ same.
    let low : ltb i i ≡ false = le-ltb i i (omega arith) in
    let as_before : cell_of now i t ≡ cell_of before i t = done i t (omega arith) ht ∙ rw low refl in
    rw same (as_before ∙ rw (none t) (sym (both_false (ltb i (i + 1)) change (cell_of before i t)))))
    (λ apart. done s t hs ht ∙ ap (λ b. changed_if (b && matches s t) change (cell_of before s t)) (below_next i s apart))
    (cases_eq s i)
  where
    both_false : (b : Bool) (change : Change) (cell : ℕ) → changed_if (b && false) change cell ≡ cell
    both_false true change cell = refl
    both_false false change cell = refl

-- sources that do not match, up to a later one
pub rows_skip_to : (matches : ℕ → ℕ → Bool) (change : Change) (i n : ℕ) (before now : List Row) → i ≤ n → ((s t : ℕ) → i ≤ s → s < n → matches s t ≡ false) → AreChanged (below i matches) change before now → AreChanged (below n matches) change before now
rows_skip_to matches change i n before now later none done s t hs ht =
    ⊎_elim
    (λ low.
    let here : ltb s i ≡ true = lt-ltb s i low in
    let there : ltb s n ≡ true = lt-ltb s n (omega arith) in
    done s t hs ht ∙ rw (here, there) refl)
    (λ high.
    let here : ltb s i ≡ false = le-ltb s i high in
    ⊎_elim
    (λ within. done s t hs ht ∙ rw (here, none s t high within) (sym (and_false (ltb s n) change (cell_of before s t))))
    (λ past. done s t hs ht ∙ rw (here, le-ltb s n past) refl)
    (cases_lt s n))
    (cases_lt s i)
  where
    and_false : (b : Bool) (change : Change) (cell : ℕ) → changed_if (b && false) change cell ≡ cell
    and_false true change cell = refl
    and_false false change cell = refl

-- all sources
pub rows_all : (matches : ℕ → ℕ → Bool) (change : Change) (i : ℕ) (before now : List Row) → 128 ≤ i → AreChanged (below i matches) change before now → AreChanged matches change before now
rows_all matches change i before now past done s t hs ht = done s t hs ht ∙ rw (lt-ltb s i (omega arith)) refl

-- a target that is not `self` matches as a source does
pub target_as_source : (attributes : List AttributeLine) (who : WhoOf (List ℕ)) (s t : List ℕ) → (who ≡ Itself → ⊥) → matches_target attributes who s t ≡ matches_source attributes who t
unfolding matches_source matches_target
target_as_source attributes (Named name) s t h = refl
target_as_source attributes Any s t h = refl
target_as_source attributes Itself s t h = absurd (h refl)

-- a line whose target is not `self`
pub matched_rows : (policy : PolicyParts) (source target : WhoOf (List ℕ)) (sources targets : List ℕ) (change : Change) (before after : List Row) → length policy.kinds ≤ 128 → IsSourceSet policy source sources → IsSourceSet policy target targets → (target ≡ Itself → ⊥) → AreChanged (λ s t. has_place sources s && has_place targets t) change before after → AreMatchedChanged policy source target change before after
matched_rows policy source target sources targets change before after few ss ts other done s t hs ht =
    done s t (omega arith) (omega arith)
    ∙ ap (λ b. changed_if (b && has_place targets t) change (cell_of before s t)) (ss s hs)
    ∙ ap (λ b. changed_if (matches_source policy.attributes source (kind_at policy s) && b) change (cell_of before s t)) (ts t ht ∙ sym (target_as_source policy.attributes target (kind_at policy s) (kind_at policy t) other))

-- a line whose target is `self`
pub matched_own : (policy : PolicyParts) (source target : WhoOf (List ℕ)) (sources : List ℕ) (change : Change) (before after : List Row) → length policy.kinds ≤ 128 → AreApart policy.kinds → IsSourceSet policy source sources → target ≡ Itself → AreChanged (λ s t. has_place sources s && (s == t)) change before after → AreMatchedChanged policy source target change before after
unfolding matches_target
matched_own policy source target sources change before after few apart ss is done s t hs ht =
    done s t (omega arith) (omega arith)
    ∙ ap (λ b. changed_if (b && (s == t)) change (cell_of before s t)) (ss s hs)
    ∙ ap (λ b. changed_if (matches_source policy.attributes source (kind_at policy s) && b) change (cell_of before s t)) (same_place policy.kinds s t apart hs ht)
    ∙ ap (λ who. changed_if (matches_source policy.attributes source (kind_at policy s) && matches_target policy.attributes who (kind_at policy s) (kind_at policy t)) change (cell_of before s t)) (sym is)

-- What one rule line more decides.
use Rattle.std.proofs.Common.{◌≡◌, ◌∙◌, ℕ, ◌<◌, Bool, true, false, not, cond, ltb, List, [], length, get_or, take, ◌+◌, ◌∷◌, ◌++◌, Option, Some, None, bit_and, bit_or, refl, sym, ap}
use Rattle.std.specs.Prelude.{◌&&◌, ◌||◌, unwrap_or, bit_xor}
use Rattle.std.proofs.lemmas.Bool.{ltb-false}
use Rattle.std.proofs.lemmas.List.{take_more}
use Rattle.access_vectors.specs.declared.class.Class.{Class}
use Rattle.access_vectors.specs.Vectors.{has}
use Rattle.access_vectors.proofs.Members.{has-above, same_from_has}
use Rattle.policy_model.specs.declared.policy.AttributeLine.{AttributeLine}
use Rattle.policy_model.specs.declared.policy.RuleLine.{RuleLine}
use Rattle.policy_model.specs.declared.policy.Verdict.TheVariants.{Allow, Withhold}
use Rattle.policy_model.specs.Matching.{matches}
use Rattle.policy_model.specs.Deciding.{or_else, last_said, verdict_on, says_of, is_allowed, decided_vector, vector_where}
use Rattle.policy_model.proofs.VectorLemmas.{has-where, has-or, has-out}

-- three answers, in whatever order two of them are joined
or_else_assoc : {X : Type 0} (a b c : Option X) → or_else (or_else a b) c ≡ or_else a (or_else b c)
or_else_assoc (Some x) b c = refl
or_else_assoc None b c = refl

-- nothing said behind an answer
or_else-None : {X : Type 0} (a : Option X) → or_else a None ≡ a
or_else-None (Some x) = refl
or_else-None None = refl

-- the last line comes first
pub last_said-snoc : {X : Type 0} (says : RuleLine → Option X) (rules : List RuleLine) (rule : RuleLine) → last_said says (rules ++ rule ∷ []) ≡ or_else (says rule) (last_said says rules)
last_said-snoc says [] rule = sym (or_else-None (says rule))
last_said-snoc says (one ∷ rules) rule =
    ap (λ o. or_else o (says one)) (last_said-snoc says rules rule) ∙ or_else_assoc (says rule) (last_said says rules) (says one)

-- which permissions rule lines and one more allow
allowed_more : (attributes : List AttributeLine) (above : List RuleLine) (rule : RuleLine) (s t : List ℕ) (class : Class) (index : ℕ) → has (decided_vector attributes (above ++ rule ∷ []) s t class) index ≡ (ltb index 16 && unwrap_or (or_else (says_of attributes s t class index rule) (last_said (says_of attributes s t class index) above)) false)
unfolding decided_vector is_allowed
allowed_more attributes above rule s t class index =
    has-where 16 (is_allowed attributes (above ++ rule ∷ []) s t class) index
    ∙ ap (λ said. ltb index 16 && unwrap_or said false) (last_said-snoc (says_of attributes s t class index) above rule)

-- which permissions rule lines allow
allowed : (attributes : List AttributeLine) (above : List RuleLine) (s t : List ℕ) (class : Class) (index : ℕ) → has (decided_vector attributes above s t class) index ≡ (ltb index 16 && unwrap_or (last_said (says_of attributes s t class index) above) false)
unfolding decided_vector is_allowed
allowed attributes above s t class index = has-where 16 (is_allowed attributes above s t class) index

-- a line that says nothing
pub silent_more : (attributes : List AttributeLine) (above : List RuleLine) (rule : RuleLine) (s t : List ℕ) (class : Class) → ((index : ℕ) → says_of attributes s t class index rule ≡ None) → decided_vector attributes (above ++ rule ∷ []) s t class ≡ decided_vector attributes above s t class
silent_more attributes above rule s t class none =
    same_from_has _ _ (λ index. allowed_more attributes above rule s t class index
    ∙ ap (λ said. ltb index 16 && unwrap_or (or_else said (last_said (says_of attributes s t class index) above)) false) (none index)
    ∙ sym (allowed attributes above s t class index))

-- a line that does not match
pub unmatched_more : (attributes : List AttributeLine) (above : List RuleLine) (rule : RuleLine) (s t : List ℕ) (class : Class) → matches attributes rule s t class ≡ false → decided_vector attributes (above ++ rule ∷ []) s t class ≡ decided_vector attributes above s t class
unfolding says_of
unmatched_more attributes above rule s t class unmatched =
    silent_more attributes above rule s t class (λ index. rw unmatched refl)

-- a verdict that speaks of no permission
pub labelling_more : (attributes : List AttributeLine) (above : List RuleLine) (rule : RuleLine) (s t : List ℕ) (class : Class) → matches attributes rule s t class ≡ true → ((index : ℕ) → verdict_on rule.verdict index ≡ None) → decided_vector attributes (above ++ rule ∷ []) s t class ≡ decided_vector attributes above s t class
unfolding says_of
labelling_more attributes above rule s t class matched none =
    silent_more attributes above rule s t class (λ index. rw matched (none index))

-- a permission that is allowed now or was
allow_step : (below given : Bool) (before : Option Bool) → (below ≡ false → given ≡ false) → (below && unwrap_or (or_else (cond given (Some true) None) before) false) ≡ ((below && unwrap_or before false) || given)
allow_step true true None h = refl
allow_step true true (Some true) h = refl
allow_step true true (Some false) h = refl
allow_step true false None h = refl
allow_step true false (Some true) h = refl
allow_step true false (Some false) h = refl
allow_step false true before h = sym (h refl)
allow_step false false before h = refl

-- a permission that was allowed and is not withheld now
withhold_step : (below taken : Bool) (before : Option Bool) → (below && unwrap_or (or_else (cond taken (Some false) None) before) false) ≡ ((below && unwrap_or before false) && not taken)
withhold_step true true None = refl
withhold_step true true (Some true) = refl
withhold_step true true (Some false) = refl
withhold_step true false None = refl
withhold_step true false (Some true) = refl
withhold_step true false (Some false) = refl
withhold_step false taken before = refl

-- an `allow` line that matches
pub allow_more : (attributes : List AttributeLine) (above : List RuleLine) (rule : RuleLine) (s t : List ℕ) (class : Class) (perms : ℕ) → matches attributes rule s t class ≡ true → rule.verdict ≡ Allow perms → perms < 65536 → decided_vector attributes (above ++ rule ∷ []) s t class ≡ bit_or (decided_vector attributes above s t class) perms
unfolding says_of verdict_on
allow_more attributes above rule s t class perms matched verdict small =
    same_from_has _ _ (λ index.
    let before = last_said (says_of attributes s t class index) above in
    let speaks : says_of attributes s t class index rule ≡ cond (has perms index) (Some true) None = rw (matched, verdict) refl in
    let over : ltb index 16 ≡ false → has perms index ≡ false = λ high. has-above perms index small (ltb-false index 16 high) in
    allowed_more attributes above rule s t class index
    ∙ ap (λ said. ltb index 16 && unwrap_or (or_else said before) false) speaks
    ∙ allow_step (ltb index 16) (has perms index) before over
    ∙ ap (λ had. had || has perms index) (sym (allowed attributes above s t class index))
    ∙ sym (has-or (decided_vector attributes above s t class) perms index))

-- a `withhold` line that matches
pub withhold_more : (attributes : List AttributeLine) (above : List RuleLine) (rule : RuleLine) (s t : List ℕ) (class : Class) (perms : ℕ) → matches attributes rule s t class ≡ true → rule.verdict ≡ Withhold perms → decided_vector attributes (above ++ rule ∷ []) s t class ≡ bit_xor (decided_vector attributes above s t class) (bit_and (decided_vector attributes above s t class) perms)
unfolding says_of verdict_on
withhold_more attributes above rule s t class perms matched verdict =
    same_from_has _ _ (λ index.
    let before = last_said (says_of attributes s t class index) above in
    let speaks : says_of attributes s t class index rule ≡ cond (has perms index) (Some false) None = rw (matched, verdict) refl in
    allowed_more attributes above rule s t class index
    ∙ ap (λ said. ltb index 16 && unwrap_or (or_else said before) false) speaks
    ∙ withhold_step (ltb index 16) (has perms index) before
    ∙ ap (λ had. had && not (has perms index)) (sym (allowed attributes above s t class index))
    ∙ sym (has-out (decided_vector attributes above s t class) perms index))

-- no rule line allows anything
pub none_allowed : (attributes : List AttributeLine) (s t : List ℕ) (class : Class) → decided_vector attributes [] s t class ≡ 0
unfolding decided_vector is_allowed vector_where
none_allowed attributes s t class = refl

-- what the rule lines up to the next one say
pub said_more : {X : Type 0} (says : RuleLine → Option X) (rules : List RuleLine) (i : ℕ) (rule : RuleLine) → i < length rules → rule ≡ get_or rules i rule → last_said says (take (i + 1) rules) ≡ or_else (says rule) (last_said says (take i rules))
said_more says rules i rule within read =
    let here : last_said says (take i rules ++ get_or rules i rule ∷ []) ≡ or_else (says (get_or rules i rule)) (last_said says (take i rules)) = last_said-snoc says (take i rules) (get_or rules i rule) in
    rw (take_more rules i rule) (here ∙ ap (λ r. or_else (says r) (last_said says (take i rules))) (sym read))

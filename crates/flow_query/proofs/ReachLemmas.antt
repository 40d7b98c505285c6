-- Rows of words, and what they tell of routes.
use Rattle.std.proofs.Common.{◌≡◌, ◌∙◌, ◌⊎◌, inl, inr, ℕ, suc, ◌+◌, ◌<◌, ◌≤◌, Bool, true, false, cond, ltb, List, [], ◌∷◌, length, get_or, set, Some, None, bit_and, bit_or, take, replicate, refl, sym, ap, subst, arith, ⊎_elim, get_or-set_same, get_or-set_other}
use Rattle.std.specs.Prelude.{◌==◌, not}
use Rattle.std.specs.Option.{option_map}
use Rattle.std.specs.List.{All, find}
use Rattle.std.proofs.lemmas.List.{get_or-replicate, get_or_past, length-replicate}
use Rattle.std.proofs.lemmas.List.Elements.{All-more, All-weaker}
use Rattle.std.proofs.lemmas.Bool.{cases_lt, cases_eq, and_cases, not-false, false≢true, eqb-true, lt-ltb, le-ltb}
use Rattle.std.proofs.lemmas.Nat.{and_le_l, and_le_r, le_or_l, le_or_r}
use Rattle.std.proofs.lemmas.Bool.Decides.{nat_tests}
use Rattle.access_vectors.specs.declared.class.Class.{Class}
use Rattle.access_vectors.specs.declared.class.Class.TheVariants.{File, Dir, Process, Port, Security}
use Rattle.access_vectors.specs.Vectors.{has, with_index}
use Rattle.access_vectors.proofs.Members.{has-both, has-empty, has-with_same, has-with_other}
use Rattle.policy_model.specs.declared.policy.PolicyParts.{PolicyParts}
use Rattle.policy_versions.specs.declared.vectors.VectorRows.{VectorRows}
use Rattle.policy_versions.specs.Sets.{has_place}
use Rattle.policy_versions.specs.Vectors.{vector_at, AreVectorsOf}
use Rattle.flow_query.specs.declared.route.Way.{Way}
use Rattle.flow_query.specs.declared.route.Way.TheVariants.{Writing, Reading}
use Rattle.flow_query.specs.declared.words.Words.{Words}
use Rattle.flow_query.specs.declared.words.Reach.{Reach}
use Rattle.flow_query.specs.Routes.{Route, routes}
use Rattle.flow_query.specs.Hops.{hop_along, is_allowed, is_open, hop_between}
use Rattle.flow_query.specs.Paths.{Query}
use Rattle.flow_query.specs.Reaches.{no_words, is_met, HasRoute, IsShut, Tells}

next_below : (i k : ℕ) → (k ≡ i → ⊥) → ltb k i ≡ ltb k (i + 1)
next_below i k apart = grind (arith, nat_tests)

-- words that are all 0
pub zeros : (n t : ℕ) → has_place (replicate n 0) t ≡ false
zeros n t =
    let zero : get_or {A = ℕ} (replicate n 0) t 0 ≡ 0 =
    ⊎_elim
    (λ low. get_or-replicate {A = ℕ} n t 0 0 low)
    (λ high. get_or_past {X = ℕ} (replicate n 0) t 0 (omega (arith, length-replicate {A = ℕ} n 0)))
    (cases_lt t n) in
    ap (λ word. not (word == 0)) zero

-- nothing in either of two vectors
or_zero : (a b : ℕ) → bit_or a b ≡ 0 → (a ≡ 0) × (b ≡ 0)
or_zero a b h = (omega (arith, le_or_l a b), omega (arith, le_or_r a b))

-- the words below a place are joined with what vectors have of some permissions, and the others are as before
abbrev pub JoinedBelow : ℕ → List ℕ → ℕ → List ℕ → List ℕ → Type 0
JoinedBelow limit vectors perms before now =
    (k : ℕ) → k < 128 → get_or now k 0 ≡ cond (ltb k limit) (bit_or (get_or before k 0) (bit_and (get_or vectors k 0) perms)) (get_or before k 0)

-- none yet
pub joined_begun : (vectors : List ℕ) (perms : ℕ) (words : List ℕ) → JoinedBelow 0 vectors perms words words
joined_begun vectors perms words k h = rw (le-ltb k 0 (omega arith)) refl

-- one word more
pub joined_more : (vectors : List ℕ) (perms i word : ℕ) (before now : List ℕ) → i < 128 → i < length now → word ≡ bit_or (get_or now i 0) (bit_and (get_or vectors i 0) perms)
    → JoinedBelow i vectors perms before now → JoinedBelow (i + 1) vectors perms before (set now i word)
joined_more vectors perms i word before now small within is done k h =
    ⊎_elim
    (λ same.
    let last : ltb i (i + 1) ≡ true = lt-ltb i (i + 1) (omega arith) in
    let low : ltb i i ≡ false = le-ltb i i (omega arith) in
    let as_before : get_or now i 0 ≡ get_or before i 0 = done i small ∙ rw low refl in
    rw same (get_or-set_same now i word 0 within ∙ is ∙ ap (λ x. bit_or x (bit_and (get_or vectors i 0) perms)) as_before ∙ rw last refl))
    (λ apart. get_or-set_other now i k word 0 apart ∙ done k h ∙ ap (λ b. cond b (bit_or (get_or before k 0) (bit_and (get_or vectors k 0) perms)) (get_or before k 0)) (next_below i k apart))
    (cases_eq k i)

-- all words
pub joined_all : (vectors : List ℕ) (perms i : ℕ) (before now : List ℕ) → 128 ≤ i → JoinedBelow i vectors perms before now → (k : ℕ) → k < 128
    → get_or now k 0 ≡ bit_or (get_or before k 0) (bit_and (get_or vectors k 0) perms)
joined_all vectors perms i before now past done k h = done k h ∙ rw (lt-ltb k i (omega arith)) refl

-- a word is 0 exactly where its place is not in the set
pub none_at : (words : List ℕ) (t : ℕ) → has_place words t ≡ false → get_or words t 0 ≡ 0
none_at words t none = eqb-true (get_or words t 0) 0 (not-false (get_or words t 0 == 0) none)

pub none_from : (words : List ℕ) (t : ℕ) → get_or words t 0 ≡ 0 → has_place words t ≡ false
none_from words t zero = ap (λ word. not (word == 0)) zero

-- where a word is 0 it was so before, and of the sources below a place none has one of these permissions
abbrev pub RowsBelow : ℕ → (ℕ → ℕ → ℕ) → ℕ → List Words → List Words → Type 0
RowsBelow limit vector perms before now =
    (s t : ℕ) → s < 128 → t < 128 → has_place (get_or now s no_words).words t ≡ false
    → (has_place (get_or before s no_words).words t ≡ false) × (s < limit → bit_and (vector s t) perms ≡ 0)

-- none yet
pub rows_begun : (vector : ℕ → ℕ → ℕ) (perms : ℕ) (rows : List Words) → RowsBelow 0 vector perms rows rows
rows_begun vector perms rows s t hs ht none = (none, λ low. absurd (omega (arith, low)))

-- the row of one source more
pub rows_joined : (vector : ℕ → ℕ → ℕ) (perms i : ℕ) (before now : List Words) (row : Words) → i < 128 → i < length now
    → ((t : ℕ) → t < 128 → get_or row.words t 0 ≡ bit_or (get_or (get_or now i no_words).words t 0) (bit_and (vector i t) perms))
    → RowsBelow i vector perms before now → RowsBelow (i + 1) vector perms before (set now i row)
rows_joined vector perms i before now row small within joined done s t hs ht none = by_source (cases_eq s i)
  where
    by_source : (s ≡ i) ⊎ (s ≡ i → ⊥) → (has_place (get_or before s no_words).words t ≡ false) × (s < i + 1 → bit_and (vector s t) perms ≡ 0)
    by_source (inl same) =
        let here : get_or (set now i row) s no_words ≡ row = ap (λ n. get_or (set now i row) n no_words) same ∙ get_or-set_same now i row no_words within in
        let zero : get_or row.words t 0 ≡ 0 = none_at row.words t (ap (λ (w : Words). has_place w.words t) (sym here) ∙ none) in
        let parts = or_zero (get_or (get_or now i no_words).words t 0) (bit_and (vector i t) perms) (sym (joined t ht) ∙ zero) in
        let was = done i t small ht (none_from (get_or now i no_words).words t parts.0) in
        (ap (λ n. has_place (get_or before n no_words).words t) same ∙ was.0, λ low. ap (λ n. bit_and (vector n t) perms) same ∙ parts.1)
    by_source (inr apart) =
        let was = done s t hs ht (ap (λ (w : Words). has_place w.words t) (sym (get_or-set_other now i s row no_words apart)) ∙ none) in
        (was.0, λ low. was.1 (grind (arith, low, apart)))

-- one source more that has no permission
pub rows_passed : (vector : ℕ → ℕ → ℕ) (perms i : ℕ) (before now : List Words) → ((t : ℕ) → vector i t ≡ 0)
    → RowsBelow i vector perms before now → RowsBelow (i + 1) vector perms before now
rows_passed vector perms i before now empty done s t hs ht none =
    let was = done s t hs ht none in
    (was.0, λ low. by_source (cases_eq s i) low)
  where
    by_source : (s ≡ i) ⊎ (s ≡ i → ⊥) → s < i + 1 → bit_and (vector s t) perms ≡ 0
    by_source (inl same) low =
        let zero : vector s t ≡ 0 = ap (λ n. vector n t) same ∙ empty t in
        let least : bit_and (vector s t) perms ≤ vector s t = and_le_l (vector s t) perms in
        omega (arith, zero, least)
    by_source (inr apart) low = (done s t hs ht none).1 (grind (arith, low, apart))

-- all sources
pub rows_all : (vector : ℕ → ℕ → ℕ) (perms i : ℕ) (before now : List Words) → 128 ≤ i → RowsBelow i vector perms before now
    → (s t : ℕ) → s < 128 → t < 128 → has_place (get_or now s no_words).words t ≡ false
    → (has_place (get_or before s no_words).words t ≡ false) × (bit_and (vector s t) perms ≡ 0)
rows_all vector perms i before now past done s t hs ht none =
    let was = done s t hs ht none in
    (was.0, was.1 (omega (arith, past, hs)))

-- no permissions are joined
pub none_joined : (vector perms : ℕ) → perms ≡ 0 → bit_and vector perms ≡ 0
none_joined vector perms none = let most : bit_and vector perms ≤ perms = and_le_r vector perms in omega (arith, most, none)

-- a permission that is asked of a vector that has none of those asked
unmet : (vector perms index : ℕ) → bit_and vector perms ≡ 0 → has perms index ≡ true → has vector index ≡ false
unmet vector perms index none asked =
    ⊎_elim (λ (lacks : has vector index ≡ false). lacks) (λ (lacks : has perms index ≡ false). absurd (false≢true (sym lacks ∙ asked)))
    (and_cases (has vector index) (has perms index) (sym (has-both vector perms index) ∙ ap (λ v. has v index) none ∙ has-empty index))

-- a permission that was there is there with another one
has_with : (perms index other : ℕ) → has perms other ≡ true → has (with_index perms index) other ≡ true
has_with perms index other is =
    ⊎_elim
    (λ same. ap (has (with_index perms index)) same ∙ has-with_same perms index)
    (λ apart. has-with_other perms index other apart ∙ is)
    (cases_eq other index)

-- one route more, whose permission was put in
pub perms_more : (class : Class) (way : Way) (perms next i : ℕ) (routes : List Route) (route : Route) → i < length routes → route ≡ get_or routes i route → next ≡ with_index perms route.0.index
    → All (HasRoute class way perms) (take i routes) → All (HasRoute class way next) (take (i + 1) routes)
perms_more class way perms next i routes route within is next_is all =
    subst (λ n. All (HasRoute class way n) (take (i + 1) routes)) (sym next_is)
    (All-more (HasRoute class way (with_index perms route.0.index)) routes i route within
    (All-weaker (HasRoute class way perms) (HasRoute class way (with_index perms route.0.index))
    (λ one kept same goes. has_with perms route.0.index one.0.index (kept same goes)) (take i routes) all)
    (subst (HasRoute class way (with_index perms route.0.index)) is (λ same goes. has-with_same perms route.0.index)))

-- one route more, of another class or way
pub perms_passed : (class : Class) (way : Way) (perms i : ℕ) (routes : List Route) (route : Route) → i < length routes → route ≡ get_or routes i route
    → (route.0.class ≡ class → route.1 ≡ way → ⊥) → All (HasRoute class way perms) (take i routes) → All (HasRoute class way perms) (take (i + 1) routes)
perms_passed class way perms i routes route within is other all =
    All-more (HasRoute class way perms) routes i route within all (subst (HasRoute class way perms) is (λ same goes. absurd (other same goes)))

-- the routes of one class are shut, where the vector has none of their permissions
abbrev pub AreShutOf : Class → VectorRows → ℕ → Way → ℕ → ℕ → List Route → Type 0
AreShutOf class rows version way s t routes = All (λ route. route.0.class ≡ class → IsShut rows version way s t route) routes

pub shut_of : (class : Class) (rows : VectorRows) (version : ℕ) (way : Way) (s t perms : ℕ) (routes : List Route) → All (HasRoute class way perms) routes
    → bit_and (vector_at rows version s t class) perms ≡ 0 → AreShutOf class rows version way s t routes
shut_of class rows version way s t perms routes have none k d within is goes =
    let route = get_or routes k d in
    subst (λ (c : Class). has (vector_at rows version s t c) route.0.index ≡ false) (sym is) (unmet (vector_at rows version s t class) perms route.0.index none (have k d within is goes))

-- what is shut of each class
pub each_class : (rows : VectorRows) (version : ℕ) (way : Way) (s t : ℕ) (routes : List Route) → AreShutOf File rows version way s t routes → AreShutOf Dir rows version way s t routes
    → AreShutOf Process rows version way s t routes → AreShutOf Port rows version way s t routes → AreShutOf Security rows version way s t routes
    → (class : Class) → AreShutOf class rows version way s t routes
each_class rows version way s t routes file dir process port security File = file
each_class rows version way s t routes file dir process port security Dir = dir
each_class rows version way s t routes file dir process port security Process = process
each_class rows version way s t routes file dir process port security Port = port
each_class rows version way s t routes file dir process port security Security = security

-- with each class all routes are shut
pub all_shut : (rows : VectorRows) (version : ℕ) (way : Way) (s t : ℕ) (routes : List Route) → ((class : Class) → AreShutOf class rows version way s t routes)
    → All (IsShut rows version way s t) routes
all_shut rows version way s t routes each k d within = each (get_or routes k d).0.class k d within refl

-- a route is not open where it is shut whichever way it goes
closed : (policy : PolicyParts) (rows : VectorRows) (version from to : ℕ) (route : Route) → AreVectorsOf policy rows → from < length policy.kinds → to < length policy.kinds
    → IsShut rows version Writing from to route → IsShut rows version Reading to from route → is_open policy version from to route ≡ false
unfolding hop_along is_allowed
closed policy rows version from to route vectors hf ht writes reads = by_way route.1 writes reads
  where
    by_way : (way : Way) → (way ≡ Writing → has (vector_at rows version from to route.0.class) route.0.index ≡ false)
        → (way ≡ Reading → has (vector_at rows version to from route.0.class) route.0.index ≡ false) → is_open policy version from to (route.0, way) ≡ false
    by_way Writing writes reads = ap (λ v. has v route.0.index) (sym (vectors version from to route.0.class hf ht)) ∙ writes refl
    by_way Reading writes reads = ap (λ v. has v route.0.index) (sym (vectors version to from route.0.class ht hf)) ∙ reads refl

-- none is found where none passes
none_found : (p : Route → Bool) (routes : List Route) → All (λ route. p route ≡ false) routes → find p routes ≡ None
none_found p [] none = refl
none_found p (route ∷ routes) none =
    ap (λ b. cond b (Some route) (find p routes)) (none 0 route (omega arith)) ∙ none_found p routes (λ k d within. none (suc k) d (omega (arith, within)))

-- no hop, where both words are 0
pub no_hop : (query : Query) (rows : VectorRows) (writing reading : Reach) (all : List Route) (from to : ℕ) → AreVectorsOf query.policy rows → all ≡ routes query.kind
    → Tells writing rows query.version all Writing → Tells reading rows query.version all Reading → from < length query.policy.kinds → to < length query.policy.kinds
    → from < 128 → to < 128 → is_met writing from to ≡ false → is_met reading to from ≡ false → hop_between query.policy query.version query.kind from to ≡ None
unfolding hop_between
no_hop query rows writing reading all from to vectors all_is writes reads hf ht sf st unwritten unread =
    ap (option_map (hop_along from to)) (subst (λ rs. find (is_open query.policy query.version from to) rs ≡ None) all_is
    (none_found (is_open query.policy query.version from to) all
    (λ k d within. closed query.policy rows query.version from to (get_or all k d) vectors hf ht (writes from to sf st unwritten k d within) (reads to from st sf unread k d within))))

-- The declared contexts by numbers.
use Rattle.std.proofs.Common.{◌≡◌, ◌<◌, ◌≤◌, ◌+◌, ◌∙◌, ℕ, true, eqb, List, [], ◌∷◌, ◌++◌, length, get_or, take, map, refl, sym, ap, subst, arith}
use Rattle.std.specs.List.{All, IsDistinct}
use Rattle.std.proofs.lemmas.Bool.{and_parts, and_from, both_ways, false_from_ne_true, eqb-true}
use Rattle.std.proofs.lemmas.List.{map_push, map_more, get_or-map, get_or-take, length-map, length-take, take_all, same_lists, get_or_append_left}
use Rattle.std.proofs.lemmas.List.Folds.{list_any_at}
use Rattle.std.proofs.lemmas.List.Elements.{All-push}
use Rattle.std.proofs.lemmas.Map.Keys.{IsDistinct-from_apart}
use Rattle.std.proofs.lemmas.Slice.Eq.{bytes_eq-Decides}
use Rattle.flask_sid.specs.declared.context.ContextOf.{ContextOf}
use Rattle.policy_model.specs.declared.policy.ContextLine.{ContextLine}
use Rattle.policy_model.specs.declared.policy.PolicyParts.{PolicyParts}
use Rattle.policy_model.specs.Declarations.{is_kind, same_context, has_context}
use Rattle.policy_model.specs.Kept.{MayContext, IsWholePolicy}
use Rattle.policy_versions.specs.Places.{kind_at}
use Rattle.policy_versions.specs.Closure.{declared_contexts}
use Rattle.policy_versions.specs.Numbers.{row_at, context_at}
use Rattle.policy_versions.specs.Users.{HasFront, IsRowOf}
use Rattle.policy_versions.specs.Founds.{IsInside, is_same_place}
use Rattle.policy_versions.specs.Closing.{contexts_of}
use Rattle.policy_versions.specs.declared.user_role.UserRole.{UserRole}
use Rattle.policy_versions.specs.declared.place.Place.{Place}
use Rattle.policy_versions.proofs.GrowsLemmas.{grows_at}
use Rattle.policy_versions.proofs.UserLemmas.{none_such}
use Rattle.policy_versions.proofs.FoundLemmas.{front_shorter}

-- the type of a declared context is declared
pub line_kind : (policy : PolicyParts) → IsWholePolicy policy → (lines : List ContextLine) → lines ≡ policy.contexts → (i : ℕ) (line : ContextLine) → i < length lines → line ≡ get_or lines i line → is_kind policy.kinds line.context.kind ≡ true
line_kind policy kept lines all i line within is =
    let of_all : i < length policy.contexts = subst (λ xs. i < length xs) all within in
    let may : MayContext policy.kinds (take i policy.contexts) (get_or policy.contexts i line) = grows_at (MayContext policy.kinds) [] policy.contexts kept.grown.contexts i line of_all in
    let same : line ≡ get_or policy.contexts i line = is ∙ ap (λ xs. get_or xs i line) all in
    rw same may.kind

-- a context stays what it is as rows come behind
context_stays : (policy : PolicyParts) (users' users : List UserRole) (row kind : ℕ) → HasFront users' users → row < length users → context_at policy users' row kind ≡ context_at policy users row kind
unfolding context_at
context_stays policy users' users row kind begins within =
    let same : row_at users' row ≡ row_at users row = ap (λ xs. row_at xs row) begins.all ∙ get_or_append_left users begins.more none_such row within in
    rw same refl

contexts_stay : (policy : PolicyParts) (users' users : List UserRole) (places : List Place) → HasFront users' users → All (IsInside (length users)) places → contexts_of policy users' places ≡ contexts_of policy users places
contexts_stay policy users' users places begins inside =
    let d : Place = record { row = 0; kind = 0 } in
    same_lists _ _ (length-map places _ ∙ sym (length-map places _)) (λ k e within.
    let of_k : k < length places = rw length-map at within in
    get_or-map (λ (place : Place). context_at policy users' place.row place.kind) places k d e of_k
    ∙ context_stays policy users' users (get_or places k d).row (get_or places k d).kind begins (inside k d of_k).row
    ∙ sym (get_or-map (λ (place : Place). context_at policy users place.row place.kind) places k d e of_k))

-- one declared context more
pub contexts_more : (policy : PolicyParts) (users' users : List UserRole) (places : List Place) (lines : List ContextLine) (i : ℕ) (line : ContextLine) (row kind : ℕ) → HasFront users' users → All (IsInside (length users)) places → contexts_of policy users places ≡ map (λ (one : ContextLine). one.context) (take i lines) → IsRowOf users' row line.context.user line.context.role → kind_at policy kind ≡ line.context.kind → i < length lines → line ≡ get_or lines i line → contexts_of policy users' (places ++ record { row = row; kind = kind } ∷ []) ≡ map (λ (one : ContextLine). one.context) (take (i + 1) lines)
unfolding context_at
contexts_more policy users' users places lines i line row kind begins inside before is name within read =
    let here : context_at policy users' row kind ≡ line.context = rw (is.user_is, is.role_is, name) refl in
    map_push (λ (place : Place). context_at policy users' place.row place.kind) places (record { row = row; kind = kind })
    ∙ ap (λ xs. xs ++ context_at policy users' row kind ∷ []) (contexts_stay policy users' users places begins inside ∙ before)
    ∙ ap (λ c. map (λ (one : ContextLine). one.context) (take i lines) ++ c ∷ []) (here ∙ ap (λ (one : ContextLine). one.context) read)
    ∙ sym (map_more (λ (one : ContextLine). one.context) lines i line within)

pub inside_more : (users' users : List UserRole) (places : List Place) (row kind : ℕ) → HasFront users' users → All (IsInside (length users)) places → row < length users' → kind < 128 → All (IsInside (length users')) (places ++ record { row = row; kind = kind } ∷ [])
inside_more users' users places row kind begins inside within small =
    let longer : length users ≤ length users' = front_shorter users' users begins in
    All-push (IsInside (length users')) places (record { row = row; kind = kind })
    (λ k d below. (let before = inside k d below in record { row = omega (arith, before.row); kind = before.kind }))
    (record { row = within; kind = small })

-- declared contexts are different
declared_apart : (policy : PolicyParts) → IsWholePolicy policy → (i j : ℕ) (d : ContextLine) → i < j → j < length policy.contexts → (get_or policy.contexts i d).context ≡ (get_or policy.contexts j d).context → ⊥
unfolding has_context
declared_apart policy kept i j d before within same =
    let may : MayContext policy.kinds (take j policy.contexts) (get_or policy.contexts j d) = grows_at (MayContext policy.kinds) [] policy.contexts kept.grown.contexts j d within in
    let c : ContextOf (List ℕ) = (get_or policy.contexts j d).context in
    let short : i < length (take j policy.contexts) = simp length-take (omega arith) in
    let itself : same_context c c ≡ true = and_from _ _ (and_from _ _ ((bytes_eq-Decides c.user c.user).1 refl) ((bytes_eq-Decides c.role c.role).1 refl)) ((bytes_eq-Decides c.kind c.kind).1 refl) in
    let here : same_context (get_or (take j policy.contexts) i d).context c ≡ true = rw (get_or-take j policy.contexts i d before) (subst (λ one. same_context one c ≡ true) (sym same) itself) in
    both_ways _ may.new (list_any_at (λ (line : ContextLine). same_context line.context c) (take j policy.contexts) i d short here)

-- and so are their places
pub declared_distinct : (policy : PolicyParts) → IsWholePolicy policy → (users : List UserRole) (places : List Place) → contexts_of policy users places ≡ declared_contexts policy → IsDistinct is_same_place places
declared_distinct policy kept users places all = IsDistinct-from_apart is_same_place places (λ i j d before within. false_from_ne_true _ (λ alike.
    let parts = and_parts (eqb (get_or places j d).row (get_or places i d).row) (eqb (get_or places j d).kind (get_or places i d).kind) alike in
    let row : (get_or places j d).row ≡ (get_or places i d).row = eqb-true _ _ parts.0 in
    let kind : (get_or places j d).kind ≡ (get_or places i d).kind = eqb-true _ _ parts.1 in
    let f : Place → ContextOf (List ℕ) = λ place. context_at policy users place.row place.kind in
    let e : ContextOf (List ℕ) = record { user = []; role = []; kind = [] } in
    let l : ContextLine = record { line = 0; context = e } in
    let many : length places ≡ length policy.contexts = sym (length-map places f) ∙ ap length all ∙ length-map policy.contexts _ in
    let at : (k : ℕ) → k < length places → context_at policy users (get_or places k d).row (get_or places k d).kind ≡ (get_or policy.contexts k l).context = λ k below.
    sym (get_or-map f places k d e below) ∙ ap (λ xs. get_or xs k e) all ∙ get_or-map (λ (line : ContextLine). line.context) policy.contexts k l e (rw (← many) below) in
    let same : context_at policy users (get_or places i d).row (get_or places i d).kind ≡ context_at policy users (get_or places j d).row (get_or places j d).kind = rw (row, kind) refl in
    declared_apart policy kept i j l before (rw (← many) within) (sym (at i (omega arith)) ∙ same ∙ at j within)))

pub declared_few : (policy : PolicyParts) (users : List UserRole) (places : List Place) → contexts_of policy users places ≡ declared_contexts policy → length policy.contexts ≤ 4095 → length places ≤ 4095
declared_few policy users places all few =
    let many : length places ≡ length policy.contexts = sym (length-map places _) ∙ ap length all ∙ length-map policy.contexts _ in
    rw many few

-- all lines are read
pub read_all : (policy : PolicyParts) (users : List UserRole) (places : List Place) (lines : List ContextLine) (i : ℕ) → lines ≡ policy.contexts → contexts_of policy users places ≡ map (λ (one : ContextLine). one.context) (take i lines) → length lines ≤ i → contexts_of policy users places ≡ declared_contexts policy
read_all policy users places lines i all so_far past =
    so_far ∙ ap (map (λ (one : ContextLine). one.context)) (take_all i lines past ∙ all)

-- The nodes of a policy, and how they are found.
use Rattle.std.proofs.Common.{◌≡◌, ◌<◌, ◌≤◌, ◌+◌, ◌⊎◌, inl, inr, ℕ, zero, suc, Bool, true, false, eqb, List, [], ◌∷◌, ◌++◌, length, drop, take, get_or, set, Option, Some, None, refl, sym, ap, subst, ◌∙◌, arith, ⊎_elim, get_or-set_same, get_or-set_other}
use Rattle.std.specs.Prelude.{◌||◌, ◌&&◌, ◌==◌, not, nat_lt, slice_get}
use Rattle.std.specs.List.{list_any, find}
use Rattle.std.specs.Option.{option_map}
use Rattle.std.specs.Str.{bytes_eq}
use Rattle.std.proofs.lemmas.Bool.{cases_Bool, cases_eq, cases_lt, or_cases, or_left, or_right, eqb-true, eq-eqb, lt-ltb, false_from_ne_true}
use Rattle.std.proofs.lemmas.List.{get_or_past, drop_all}
use Rattle.std.proofs.lemmas.Bool.Decides.{nat_tests}
use Rattle.flask_sid.specs.declared.context.ContextOf.{ContextOf}
use Rattle.policy_model.specs.declared.policy.PolicyParts.{PolicyParts}
use Rattle.flask_sid.specs.Names.{is_name_form, is_kind_form}
use Rattle.policy_model.specs.declared.policy.KindLine.{KindLine}
use Rattle.policy_model.specs.Kept.{IsWholePolicy, MayKind, is_kind_name}
use Rattle.policy_versions.specs.Places.{kind_at}
use Rattle.policy_versions.specs.Sets.{has_place}
use Rattle.policy_versions.proofs.GrowsLemmas.{grows_at}
use Rattle.policy_versions.proofs.KindLemmas.{kinds_few, kinds_apart, no_kind, same_name, name_same}
use Rattle.flow_query.specs.declared.route.Way.TheVariants.{Writing, Reading}
use Rattle.flow_query.specs.declared.hop.Hop.{Hop}
use Rattle.flow_query.specs.Routes.{Route, routes}
use Rattle.flow_query.specs.Hops.{has_type, is_node, hop_along, is_open, hop_between}
use Rattle.flow_query.specs.Paths.{Graph, Query, graph_of}
use Rattle.flow_query.proofs.LevelLemmas.{AreLabelled}
use Rattle.flow_query.specs.Reaches.{AreMarks}
use Rattle.flow_query.specs.Levels.{has_number, IsBelowAll, IsAscending, AreAllNodes}

-- a node is a declared type
pub node_declared : (policy : PolicyParts) (contexts : List (ContextOf (List ℕ))) (place : ℕ) → is_node policy contexts place ≡ true → place < length policy.kinds
unfolding is_node
node_declared policy contexts place is = grind (arith, nat_tests, is)

-- and there are few of them
pub node_small : (policy : PolicyParts) (contexts : List (ContextOf (List ℕ))) (place : ℕ) → IsWholePolicy policy → is_node policy contexts place ≡ true → place < 128
node_small policy contexts place kept is =
    let declared = node_declared policy contexts place is in
    let few = kinds_few policy kept in
    omega (arith, declared, few)

-- what is left of a list from a place on begins with what stands there
pub drop_from : {X : Type 0} (xs : List X) (i : ℕ) (x : X) → slice_get xs i ≡ Some x → drop i xs ≡ x ∷ drop (suc i) xs
drop_from [] i x got = absurd cc
drop_from (y ∷ ys) zero x got = let same : y ≡ x = cc in ap (λ z. z ∷ ys) same
drop_from (y ∷ ys) (suc i) x got = drop_from ys i x got

-- so a test of what is left is one of what stands there, and of the rest
pub any_from : {X : Type 0} (p : X → Bool) (xs : List X) (i : ℕ) (x : X) → slice_get xs i ≡ Some x → list_any p (drop i xs) ≡ (p x || list_any p (drop (i + 1) xs))
any_from p xs i x got =
    let next : suc i ≡ i + 1 = omega arith in
    ap (list_any p) (drop_from xs i x got) ∙ ap (λ n. p x || list_any p (drop n xs)) next

-- nodes below a bound, in the order of declaration
pub record AreNodesBelow (g : Graph) (bound : ℕ) (nodes : List ℕ) : Type 0 where
  pub each : (node : ℕ) → has_number nodes node ≡ true → (g.node node ≡ true) × (node < bound)
  pub every : (node : ℕ) → node < bound → g.node node ≡ true → has_number nodes node ≡ true
  pub ascending : IsAscending nodes

-- none is below 0
pub none_below : (g : Graph) → AreNodesBelow g 0 []
none_below g = record { each = λ node has. absurd cc; every = λ node less is. absurd (omega (arith, less)); ascending = tt }

-- a place that is no node changes nothing
pub below_skips : (g : Graph) (bound : ℕ) (nodes : List ℕ) → AreNodesBelow g bound nodes → g.node bound ≡ false → AreNodesBelow g (bound + 1) nodes
below_skips g bound nodes are fails =
    record {
      each = λ node has. let was = are.each node has in let less : node < bound = was.1 in (was.0, omega (arith, less));
      every = λ node less is. by_place node less is (cases_Bool (eqb node bound));
      ascending = are.ascending;
    }
  where
    by_place : (node : ℕ) → node < bound + 1 → g.node node ≡ true → (eqb node bound ≡ true) ⊎ (eqb node bound ≡ false) → has_number nodes node ≡ true
    by_place node less is (inl same) = let clash : false ≡ true = sym fails ∙ ap g.node (sym (eqb-true node bound same)) ∙ is in absurd cc
    by_place node less is (inr other) = are.every node (grind (arith, nat_tests, less, other)) is

-- a list with one number more
has_pushed : (numbers : List ℕ) (last number : ℕ) → has_number (numbers ++ last ∷ []) number ≡ true → (has_number numbers number ≡ true) ⊎ (last ≡ number)
has_pushed [] last number has = here (or_cases (eqb last number) false has)
  where
    here : (eqb last number ≡ true) ⊎ (false ≡ true) → (has_number [] number ≡ true) ⊎ (last ≡ number)
    here (inl same) = inr (eqb-true last number same)
    here (inr never) = absurd cc
has_pushed (first ∷ numbers) last number has = by_case (λ rest. has_pushed numbers last number rest) (or_cases (eqb first number) (has_number (numbers ++ last ∷ []) number) has)
  where
    later : (has_number numbers number ≡ true) ⊎ (last ≡ number) → (has_number (first ∷ numbers) number ≡ true) ⊎ (last ≡ number)
    later (inl rest) = inl (or_right (eqb first number) (has_number numbers number) rest)
    later (inr same) = inr same

    by_case : (has_number (numbers ++ last ∷ []) number ≡ true → (has_number numbers number ≡ true) ⊎ (last ≡ number)) → (eqb first number ≡ true) ⊎ (has_number (numbers ++ last ∷ []) number ≡ true)
        → (has_number (first ∷ numbers) number ≡ true) ⊎ (last ≡ number)
    by_case rest (inl same) = inl (or_left (eqb first number) (has_number numbers number) same)
    by_case rest (inr has) = later (rest has)

pushed_has : (numbers : List ℕ) (last number : ℕ) → (has_number numbers number ≡ true) ⊎ (last ≡ number) → has_number (numbers ++ last ∷ []) number ≡ true
pushed_has [] last number (inl has) = absurd cc
pushed_has [] last number (inr same) = or_left (eqb last number) false (eq-eqb last number same)
pushed_has (first ∷ numbers) last number (inl has) = by_case (λ rest. pushed_has numbers last number (inl rest)) (or_cases (eqb first number) (has_number numbers number) has)
  where
    by_case : (has_number numbers number ≡ true → has_number (numbers ++ last ∷ []) number ≡ true) → (eqb first number ≡ true) ⊎ (has_number numbers number ≡ true) → has_number (first ∷ numbers ++ last ∷ []) number ≡ true
    by_case rest (inl same) = or_left (eqb first number) (has_number (numbers ++ last ∷ []) number) same
    by_case rest (inr has) = or_right (eqb first number) (has_number (numbers ++ last ∷ []) number) (rest has)
pushed_has (first ∷ numbers) last number (inr same) = or_right (eqb first number) (has_number (numbers ++ last ∷ []) number) (pushed_has numbers last number (inr same))

below_pushed : (number : ℕ) (numbers : List ℕ) (last : ℕ) → IsBelowAll number numbers → number < last → IsBelowAll number (numbers ++ last ∷ [])
below_pushed number [] last below less = (less, tt)
below_pushed number (first ∷ numbers) last below less = (below.0, below_pushed number numbers last below.1 less)

ascending_pushed : (numbers : List ℕ) (last : ℕ) → IsAscending numbers → ((number : ℕ) → has_number numbers number ≡ true → number < last) → IsAscending (numbers ++ last ∷ [])
ascending_pushed [] last rising less = (tt, tt)
ascending_pushed (first ∷ numbers) last rising less = (
  below_pushed first numbers last rising.0 (less first (or_left (eqb first first) (has_number numbers first) (eq-eqb first first refl))),
  ascending_pushed numbers last rising.1 (λ number has. less number (or_right (eqb first number) (has_number numbers number) has)),
)

-- a node is the last of those below the next bound
pub below_pushes : (g : Graph) (bound : ℕ) (nodes all : List ℕ) → AreNodesBelow g bound nodes → g.node bound ≡ true → all ≡ nodes ++ bound ∷ [] → AreNodesBelow g (bound + 1) all
below_pushes g bound nodes all are is all_is =
    subst (AreNodesBelow g (bound + 1)) (sym all_is) (record {
      each = λ node has. by_has node (has_pushed nodes bound node has);
      every = λ node less of_graph. pushed_has nodes bound node (by_place node less of_graph (cases_Bool (eqb node bound)));
      ascending = ascending_pushed nodes bound are.ascending (λ node has. (are.each node has).1);
    })
  where
    by_has : (node : ℕ) → (has_number nodes node ≡ true) ⊎ (bound ≡ node) → (g.node node ≡ true) × (node < bound + 1)
    by_has node (inl has) = let was = are.each node has in let less : node < bound = was.1 in (was.0, omega (arith, less))
    by_has node (inr same) = (ap g.node (sym same) ∙ is, omega (arith, same))

    by_place : (node : ℕ) → node < bound + 1 → g.node node ≡ true → (eqb node bound ≡ true) ⊎ (eqb node bound ≡ false) → (has_number nodes node ≡ true) ⊎ (bound ≡ node)
    by_place node less of_graph (inl same) = inr (sym (eqb-true node bound same))
    by_place node less of_graph (inr other) = inl (are.every node (grind (arith, nat_tests, less, other)) of_graph)

-- those below the number of declared types are all
pub all_below : (query : Query) (nodes : List ℕ) → AreNodesBelow (graph_of query) (length query.policy.kinds) nodes → AreAllNodes (graph_of query) nodes
all_below query nodes are =
    record {
      are = record { each = λ node has. (are.each node has).0; ascending = are.ascending };
      every = λ node is. are.every node (node_declared query.policy query.contexts node is) is;
    }

-- the hop between two types leads to the second
hop_labelled : (from to : ℕ) (route : Route) → (hop_along from to route).to ≡ to
unfolding hop_along
hop_labelled from to route = elim route.1 as (λ way. (hop_along from to (route.0, way)).to ≡ to) [ Writing ↦ refl | Reading ↦ refl ]

found_labelled : (from to : ℕ) (found : Option Route) (hop : Hop) → option_map (hop_along from to) found ≡ Some hop → hop.to ≡ to
found_labelled from to (Some route) hop is = let same : hop_along from to route ≡ hop = cc in sym (ap (λ (h : Hop). h.to) same) ∙ hop_labelled from to route
found_labelled from to None hop is = absurd cc

-- so each hop of the graph leads to the node that it is for
pub labelled : (query : Query) → AreLabelled (graph_of query)
unfolding hop_between
labelled query from to hop is = found_labelled from to (find (is_open query.policy query.version from to) (routes query.kind)) hop is

-- a name that is declared is not empty
unnamed : (policy : PolicyParts) (place : ℕ) → IsWholePolicy policy → place < length policy.kinds → kind_at policy place ≡ [] → ⊥
unfolding is_kind_name is_kind_form is_name_form
unnamed policy place kept within empty =
    let may : MayKind (take place policy.kinds) (get_or policy.kinds place no_kind) = grows_at MayKind [] policy.kinds kept.grown.kinds place no_kind within in
    let named : is_kind_name (kind_at policy place) ≡ true = may.named in
    let clash : false ≡ true = sym (ap is_kind_name empty) ∙ named in
    absurd cc

-- a declared type has the name of no other place
one_place : (policy : PolicyParts) (kind place : ℕ) → IsWholePolicy policy → place < length policy.kinds → kind_at policy kind ≡ kind_at policy place → place ≡ kind
one_place policy kind place kept within same =
    ⊎_elim
    (λ low. kinds_apart policy kept place kind within low (sym same))
    (λ past.
    let none : get_or policy.kinds kind no_kind ≡ no_kind = get_or_past policy.kinds kind no_kind past in
    absurd (unnamed policy place kept within (sym same ∙ ap (λ (k : KindLine). k.name) none)))
    (cases_lt kind (length policy.kinds))

-- marks of the types of the contexts below a place: with those of the contexts from there on they are those of all
abbrev pub MarksBelow : PolicyParts → List (ContextOf (List ℕ)) → ℕ → List ℕ → Type 0
MarksBelow policy contexts i marks =
    (place : ℕ) → place < length policy.kinds → (has_place marks place || has_type (drop i contexts) (kind_at policy place)) ≡ has_type contexts (kind_at policy place)

-- none yet
pub marks_begun : (policy : PolicyParts) (contexts : List (ContextOf (List ℕ))) (marks : List ℕ) → ((place : ℕ) → has_place marks place ≡ false) → MarksBelow policy contexts 0 marks
marks_begun policy contexts marks none place within = ap (λ b. b || has_type contexts (kind_at policy place)) (none place)

-- what is left of a list from a place on begins with what stands there
drop_at : {X : Type 0} (xs : List X) (i : ℕ) (d : X) → i < length xs → drop i xs ≡ get_or xs i d ∷ drop (suc i) xs
drop_at [] i d within = absurd (omega (arith, within))
drop_at (y ∷ ys) zero d within = refl
drop_at (y ∷ ys) (suc i) d within = drop_at ys i d (omega (arith, within))

-- two tests are one
either_or : (a b c : Bool) → ((a || b) || c) ≡ (a || (b || c))
either_or true b c = refl
either_or false b c = refl

or_false : (a : Bool) → (a || false) ≡ a
or_false true = refl
or_false false = refl

-- the mark of a type is put: it is that of each declared type of this name
put_mark : (policy : PolicyParts) (marks name : List ℕ) (kind place : ℕ) → IsWholePolicy policy → place < length policy.kinds → kind < length marks → kind_at policy kind ≡ name
    → has_place (set marks kind 65535) place ≡ (has_place marks place || bytes_eq name (kind_at policy place))
put_mark policy marks name kind place kept declared marked named =
    ⊎_elim
    (λ same.
    let put : get_or (set marks kind 65535) place 0 ≡ 65535 = ap (λ n. get_or (set marks kind 65535) n 0) same ∙ get_or-set_same marks kind 65535 0 marked in
    let is : bytes_eq name (kind_at policy place) ≡ true = name_same name (kind_at policy place) (sym named ∙ ap (kind_at policy) (sym same)) in
    ap (λ word. not (word == 0)) put ∙ sym (or_right (has_place marks place) (bytes_eq name (kind_at policy place)) is))
    (λ apart.
    let is : bytes_eq name (kind_at policy place) ≡ false =
    false_from_ne_true (bytes_eq name (kind_at policy place)) (λ equal. apart (one_place policy kind place kept declared (named ∙ same_name name (kind_at policy place) equal))) in
    ap (λ word. not (word == 0)) (get_or-set_other marks kind place 65535 0 apart) ∙ sym (ap (λ b. has_place marks place || b) is ∙ or_false (has_place marks place)))
    (cases_eq place kind)

-- the type of one context more
pub marks_more : (policy : PolicyParts) (contexts : List (ContextOf (List ℕ))) (marks : List ℕ) (i kind : ℕ) (d : ContextOf (List ℕ)) → IsWholePolicy policy → i < length contexts
    → kind_at policy kind ≡ (get_or contexts i d).kind → kind < length marks → MarksBelow policy contexts i marks → MarksBelow policy contexts (i + 1) (set marks kind 65535)
marks_more policy contexts marks i kind d kept within named marked below place declared =
    let name = kind_at policy place in
    let here = bytes_eq (get_or contexts i d).kind name in
    let rest = has_type (drop (i + 1) contexts) name in
    let next : suc i ≡ i + 1 = omega arith in
    let step : has_type (drop i contexts) name ≡ (here || rest) =
    ap (list_any (λ (context : ContextOf (List ℕ)). bytes_eq context.kind name)) (drop_at contexts i d within) ∙ ap (λ n. here || has_type (drop n contexts) name) next in
    ap (λ b. b || rest) (put_mark policy marks (get_or contexts i d).kind kind place kept declared marked named)
    ∙ either_or (has_place marks place) here rest
    ∙ ap (λ b. has_place marks place || b) (sym step)
    ∙ below place declared

-- the types of all contexts
pub all_marked : (policy : PolicyParts) (contexts : List (ContextOf (List ℕ))) (marks : List ℕ) (i : ℕ) → length contexts ≤ i → MarksBelow policy contexts i marks → AreMarks policy contexts marks
unfolding is_node
all_marked policy contexts marks i past below place declared =
    let none : drop i contexts ≡ [] = drop_all i contexts past in
    let low : nat_lt place (length policy.kinds) ≡ true = lt-ltb place (length policy.kinds) declared in
    sym (or_false (has_place marks place)) ∙ ap (λ cs. has_place marks place || has_type cs (kind_at policy place)) (sym none) ∙ below place declared
    ∙ ap (λ b. b && has_type contexts (kind_at policy place)) (sym low)

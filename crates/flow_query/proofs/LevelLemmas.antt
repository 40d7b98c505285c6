-- The nodes at each distance: how those of one more hop are found from those of one hop less.
use Rattle.std.proofs.Common.{◌≡◌, ◌<◌, ◌≤◌, ◌+◌, ◌⊎◌, inl, inr, ℕ, zero, suc, Bool, true, false, cond, eqb, List, [], ◌∷◌, ◌++◌, length, Option, Some, None, refl, sym, ap, subst, ◌∙◌, arith}
use Rattle.std.specs.Prelude.{is_some, not, slice_get, min}
use Rattle.std.specs.List.{filter}
use Rattle.std.proofs.lemmas.Bool.{cases_Bool, or_cases, or_left, not-true, not_from_false, eqb-true, eq-eqb}
use Rattle.std.proofs.lemmas.Bool.Decides.{nat_tests}
use Rattle.flow_query.specs.declared.hop.Hop.{Hop}
use Rattle.flow_query.specs.Paths.{Graph, IsPath, HasNoPath}
use Rattle.flow_query.specs.Levels.{HasPath, IsAt, has_number, AreNodes, AreAllNodes, IsLevel, AreLevels, AreLevelsBelow, first_hop}
use Rattle.flow_query.proofs.Numbers.{ascending_filtered, kept, keeps, first_into, some_first}

-- each hop of a graph leads to the node that it is for
abbrev pub AreLabelled : Graph → Type 0
AreLabelled g = (from to : ℕ) (hop : Hop) → g.hop from to ≡ Some hop → hop.to ≡ to

-- a node leads into a level
abbrev pub leads_into : Graph → List ℕ → ℕ → Bool
leads_into g level node = is_some (first_hop (g.hop node) level)

-- nodes whose distance is above this one, and for all other nodes a distance up to it
pub record IsRest (g : Graph) (to distance : ℕ) (rest : List ℕ) : Type 0 where
  pub are : AreNodes g rest
  pub far : (node : ℕ) → has_number rest node ≡ true → (hops : ℕ) → hops ≤ distance → HasPath g node to hops → ⊥
  pub near : (node : ℕ) → g.node node ≡ true → has_number rest node ≡ false → (hops : ℕ) × (hops ≤ distance) × IsAt g to hops node

-- the search so far: the levels up to a distance, and the nodes that are farther
pub record IsSearched (g : Graph) (from to : ℕ) (levels : List (List ℕ)) (level rest : List ℕ) : Type 0 where
  pub levels_are : AreLevels g to levels
  pub level_is : IsLevel g to (length levels) level
  pub rest_is : IsRest g to (length levels) rest
  pub beyond : (hops : ℕ) → hops < length levels → IsAt g to hops from → ⊥

-- a hop more
pub one_more : (g : Graph) (from to hops : ℕ) (hop : Hop) → g.hop from hop.to ≡ Some hop → g.node hop.to ≡ true → HasPath g hop.to to hops → HasPath g from to (suc hops)
one_more g from to hops hop is node path = record { path = hop ∷ path.path; leads = (is, node, path.leads); long = ap suc path.long }

-- the first hop of a path
pub record Begins (g : Graph) (from to hops : ℕ) : Type 0 where
  pub hop : Hop
  pub is : g.hop from hop.to ≡ Some hop
  pub node : g.node hop.to ≡ true
  pub rest : HasPath g hop.to to hops

pub begins : (g : Graph) (from to hops : ℕ) → HasPath g from to (suc hops) → Begins g from to hops
begins g from to hops has = of has.path has.leads has.long
  where
    of : (path : List Hop) → IsPath g from to path → length path ≡ suc hops → Begins g from to hops
    of [] leads long = absurd (omega (arith, long))
    of (hop ∷ rest) leads long = record { hop = hop; is = leads.0; node = leads.1; rest = record { path = rest; leads = leads.2; long = omega (arith, long) } }

-- what follows the first hop is one hop nearer
pub nearer : (g : Graph) (from to distance : ℕ) → IsAt g to (suc distance) from → (begun : Begins g from to distance) → IsAt g to distance begun.hop.to
nearer g from to distance at begun =
    record {
      path = begun.rest;
      least = λ fewer less path. at.least (suc fewer) (omega (arith, less)) (one_more g from to fewer begun.hop begun.is begun.node path);
    }

-- the levels with one more
pub length_push : (levels : List (List ℕ)) (level : List ℕ) → length (levels ++ level ∷ []) ≡ suc (length levels)
length_push [] level = refl
length_push (first ∷ levels) level = ap suc (length_push levels level)

-- what stands at a place of them is one of the old ones, or the new one
place_pushed : (levels : List (List ℕ)) (level : List ℕ) (distance : ℕ) (one : List ℕ) → slice_get (levels ++ level ∷ []) distance ≡ Some one → (slice_get levels distance ≡ Some one) ⊎ ((distance ≡ length levels) × (level ≡ one))
place_pushed [] level zero one got = inr (refl, let same : level ≡ one = cc in same)
place_pushed [] level (suc distance) one got = absurd cc
place_pushed (first ∷ levels) level zero one got = inl got
place_pushed (first ∷ levels) level (suc distance) one got = later (place_pushed levels level distance one got)
  where
    later : (slice_get levels distance ≡ Some one) ⊎ ((distance ≡ length levels) × (level ≡ one)) → (slice_get levels distance ≡ Some one) ⊎ ((suc distance ≡ suc (length levels)) × (level ≡ one))
    later (inl got) = inl got
    later (inr (at, same)) = inr (ap suc at, same)

levels_push : (g : Graph) (to : ℕ) (levels : List (List ℕ)) (level : List ℕ) → AreLevels g to levels → IsLevel g to (length levels) level → AreLevels g to (levels ++ level ∷ [])
levels_push g to levels level are is distance one found = by_place (place_pushed levels level distance one found)
  where
    by_place : (slice_get levels distance ≡ Some one) ⊎ ((distance ≡ length levels) × (level ≡ one)) → IsLevel g to distance one
    by_place (inl got) = are distance one got
    by_place (inr (at, same)) = subst (λ n. IsLevel g to n one) (sym at) (subst (IsLevel g to (length levels)) same is)

module _ (g : Graph) (labelled : AreLabelled g) (from to : ℕ) (levels : List (List ℕ)) (level rest : List ℕ) (is : IsSearched g from to levels level rest) where
  -- a node of the rest that leads into the level is one hop farther
  farther_by_one : (node : ℕ) → has_number rest node ≡ true → leads_into g level node ≡ true → IsAt g to (suc (length levels)) node
  farther_by_one node has leads = by_answer (first_hop (g.hop node) level) refl leads
    where
      by_answer : (answer : Option Hop) → first_hop (g.hop node) level ≡ answer → is_some answer ≡ true → IsAt g to (suc (length levels)) node
      by_answer None found some = absurd cc
      by_answer (Some hop) found some =
          let into = first_into (g.hop node) level hop is.level_is.are.ascending found in
          let same : hop.to ≡ into.into = labelled node into.into hop into.is in
          record {
            path = one_more g node to (length levels) hop (ap (g.hop node) same ∙ into.is) (ap g.node same ∙ is.level_is.are.each into.into into.has)
                (subst (λ n. HasPath g n to (length levels)) (sym same) (is.level_is.at into.into into.has).path);
            least = λ fewer less path. is.rest_is.far node has fewer (omega (arith, less)) path;
          }

  -- and each node that is one hop farther is of them
  one_farther : (node : ℕ) → g.node node ≡ true → IsAt g to (suc (length levels)) node → (has_number rest node ≡ true) × (leads_into g level node ≡ true)
  one_farther node of_graph at = (
    by_rest (cases_Bool (has_number rest node)),
    (let begun = begins g node to (length levels) at.path in
        some_first (g.hop node) level begun.hop.to begun.hop
        (is.level_is.every begun.hop.to begun.node (nearer g node to (length levels) at begun)) begun.is),
  )
    where
      by_rest : (has_number rest node ≡ true) ⊎ (has_number rest node ≡ false) → has_number rest node ≡ true
      by_rest (inl has) = has
      by_rest (inr lacks) =
          let near = is.rest_is.near node of_graph lacks in
          absurd (at.least near.0 (let few : near.0 ≤ length levels = near.1 in omega (arith, few)) near.2.path)

  -- the level of one hop more
  pub next_level : IsLevel g to (suc (length levels)) (filter (leads_into g level) rest)
  next_level =
      record {
        are = record {
          each = λ node has. is.rest_is.are.each node (kept (leads_into g level) rest node has).has;
          ascending = ascending_filtered (leads_into g level) rest is.rest_is.are.ascending;
        };
        at = λ node has. let was = kept (leads_into g level) rest node has in farther_by_one node was.has was.passes;
        every = λ node of_graph at. let was = one_farther node of_graph at in keeps (leads_into g level) rest node was.0 was.1;
      }

  -- a node that is left is not one hop farther
  not_one_farther : (node : ℕ) → has_number rest node ≡ true → leads_into g level node ≡ false → HasPath g node to (suc (length levels)) → ⊥
  not_one_farther node has leads path =
      let at : IsAt g to (suc (length levels)) node = record { path = path; least = λ fewer less shorter. is.rest_is.far node has fewer (omega (arith, less)) shorter } in
      let into : leads_into g level node ≡ true = (one_farther node (is.rest_is.are.each node has) at).1 in
      absurd cc

  -- what is left of the rest
  pub next_rest : IsRest g to (suc (length levels)) (filter (λ node. not (leads_into g level node)) rest)
  next_rest =
      record {
        are = record {
          each = λ node has. is.rest_is.are.each node (kept _ rest node has).has;
          ascending = ascending_filtered _ rest is.rest_is.are.ascending;
        };
        far = λ node has hops few path.
            let was = kept (λ one. not (leads_into g level one)) rest node has in
            by_hops node was.has (not-true (leads_into g level node) was.passes) hops (cases_Bool (eqb hops (suc (length levels)))) few path;
        near = λ node of_graph lacks. by_rest node of_graph lacks (cases_Bool (has_number rest node)) (cases_Bool (leads_into g level node));
      }
    where
      by_hops : (node : ℕ) → has_number rest node ≡ true → leads_into g level node ≡ false → (hops : ℕ) → (eqb hops (suc (length levels)) ≡ true) ⊎ (eqb hops (suc (length levels)) ≡ false)
          → hops ≤ suc (length levels) → HasPath g node to hops → ⊥
      by_hops node has fails hops (inl same) few path = not_one_farther node has fails (subst (HasPath g node to) (eqb-true hops (suc (length levels)) same) path)
      by_hops node has fails hops (inr other) few path = is.rest_is.far node has hops (grind (arith, nat_tests, few, other)) path

      by_rest : (node : ℕ) → g.node node ≡ true → has_number (filter (λ one. not (leads_into g level one)) rest) node ≡ false
          → (has_number rest node ≡ true) ⊎ (has_number rest node ≡ false) → (leads_into g level node ≡ true) ⊎ (leads_into g level node ≡ false)
          → (hops : ℕ) × (hops ≤ suc (length levels)) × IsAt g to hops node
      by_rest node of_graph lacks (inr none) leads = let near = is.rest_is.near node of_graph none in let few : near.0 ≤ length levels = near.1 in (near.0, omega (arith, few), near.2)
      by_rest node of_graph lacks (inl has) (inl leads) = (suc (length levels), omega arith, farther_by_one node has leads)
      by_rest node of_graph lacks (inl has) (inr fails) =
          let left : has_number (filter (λ one. not (leads_into g level one)) rest) node ≡ true = keeps (λ one. not (leads_into g level one)) rest node has (not_from_false (leads_into g level node) fails) in
          absurd cc

  -- one level more is searched, where the beginning is not of it
  pub searched_more : has_number level from ≡ false → g.node from ≡ true → (all : List (List ℕ)) → all ≡ levels ++ level ∷ [] → (next : List ℕ) → next ≡ filter (leads_into g level) rest
      → (left : List ℕ) → left ≡ filter (λ node. not (leads_into g level node)) rest → IsSearched g from to all next left
  searched_more lacks of_graph all all_is next next_is left left_is =
      let long : length all ≡ suc (length levels) = ap length all_is ∙ length_push levels level in
      record {
        levels_are = subst (AreLevels g to) (sym all_is) (levels_push g to levels level is.levels_are is.level_is);
        level_is = rw (long, next_is) next_level;
        rest_is = rw (long, left_is) next_rest;
        beyond = λ hops less at. by_hops hops (subst (λ n. hops < n) long less) at (cases_Bool (eqb hops (length levels)));
      }
    where
      by_hops : (hops : ℕ) → hops < suc (length levels) → IsAt g to hops from → (eqb hops (length levels) ≡ true) ⊎ (eqb hops (length levels) ≡ false) → ⊥
      by_hops hops less at (inl same) =
          let has : has_number level from ≡ true = is.level_is.every from of_graph (subst (λ n. IsAt g to n from) (eqb-true hops (length levels) same) at) in
          absurd cc
      by_hops hops less at (inr other) = is.beyond hops (grind (arith, nat_tests, less, other)) at

  -- a node whose distance is at most the last is below it, where no node is at the last
  below : level ≡ [] → (node : ℕ) → g.node node ≡ true → (near : (distance : ℕ) × (distance ≤ length levels) × IsAt g to distance node) → (distance : ℕ) × (distance < length levels) × IsAt g to distance node
  below none node of_graph near = by_last (cases_Bool (eqb near.0 (length levels)))
    where
      by_last : (eqb near.0 (length levels) ≡ true) ⊎ (eqb near.0 (length levels) ≡ false) → (distance : ℕ) × (distance < length levels) × IsAt g to distance node
      by_last (inl same) =
          let has : has_number level node ≡ true = is.level_is.every node of_graph (subst (λ n. IsAt g to n node) (eqb-true near.0 (length levels) same) near.2) in
          let lacks : has_number level node ≡ false = ap (λ l. has_number l node) none in
          absurd cc
      by_last (inr other) = let few : near.0 ≤ length levels = near.1 in (near.0, grind (arith, nat_tests, few, other), near.2)

  -- so whatever leads to the end is at a distance below
  below_last : level ≡ [] → (hops node : ℕ) → g.node node ≡ true → HasPath g node to hops → (distance : ℕ) × (distance < length levels) × IsAt g to distance node
  below_last none zero node of_graph path = by_rest (cases_Bool (has_number rest node))
    where
      by_rest : (has_number rest node ≡ true) ⊎ (has_number rest node ≡ false) → (distance : ℕ) × (distance < length levels) × IsAt g to distance node
      by_rest (inl has) = absurd (is.rest_is.far node has zero (omega arith) path)
      by_rest (inr lacks) = below none node of_graph (is.rest_is.near node of_graph lacks)
  below_last none (suc hops) node of_graph path =
      let begun = begins g node to hops path in
      by_rest begun (below_last none hops begun.hop.to begun.node begun.rest) (cases_Bool (has_number rest node))
    where
      by_rest : (begun : Begins g node to hops) → (distance : ℕ) × (distance < length levels) × IsAt g to distance begun.hop.to → (has_number rest node ≡ true) ⊎ (has_number rest node ≡ false)
          → (distance : ℕ) × (distance < length levels) × IsAt g to distance node
      by_rest begun next (inl has) =
          let less : next.0 < length levels = next.1 in
          absurd (is.rest_is.far node has (suc next.0) (omega (arith, less)) (one_more g node to next.0 begun.hop begun.is begun.node next.2.path))
      by_rest begun next (inr lacks) = below none node of_graph (is.rest_is.near node of_graph lacks)

  -- so no path leads from the beginning, which is at none of these distances
  pub no_path : level ≡ [] → g.node from ≡ true → HasNoPath g from to
  no_path none of_graph path leads =
      let last = below_last none (length path) from of_graph (record { path = path; leads = leads; long = refl }) in
      is.beyond last.0 last.1 last.2

  -- where the beginning is of the level, the levels below it are found
  pub found : has_number level from ≡ true → AreLevelsBelow g from to levels
  found has = record { are = is.levels_are; at = is.level_is.at from has }

-- the search begins with the end alone
pub begun_search : (g : Graph) (from to : ℕ) (nodes : List ℕ) → AreAllNodes g nodes → g.node to ≡ true → (level : List ℕ) → level ≡ to ∷ [] → (rest : List ℕ) → rest ≡ filter (λ node. not (eqb node to)) nodes
    → IsSearched g from to [] level rest
begun_search g from to nodes all of_graph level level_is rest rest_is =
    record {
      levels_are = λ distance level found. absurd cc;
      level_is = rw level_is (record {
        are = record { each = λ node has. subst (λ n. g.node n ≡ true) (same node has) of_graph; ascending = (tt, tt) };
        at = λ node has. subst (IsAt g to 0) (same node has) at_end;
        every = λ node is_node at. or_left (eqb to node) false (eq-eqb to node (sym (at_none node at)));
      });
      rest_is = rw rest_is (record {
        are = record { each = λ node has. all.are.each node (kept _ nodes node has).has; ascending = ascending_filtered _ nodes all.are.ascending };
        far = λ node has hops few path.
            let was = kept (λ one. not (eqb one to)) nodes node has in
            apart node (not-true (eqb node to) was.passes) (end_of node (subst (HasPath g node to) (let none : hops ≡ 0 = omega (arith, few) in none) path));
        near = λ node is_node lacks. (0, omega arith, subst (IsAt g to 0) (sym (end_left node is_node lacks (cases_Bool (eqb node to)))) at_end);
      });
      beyond = λ hops less at. absurd (omega (arith, less));
    }
  where
    at_end : IsAt g to 0 to
    at_end = record { path = record { path = []; leads = refl; long = refl }; least = λ fewer less path. absurd (omega (arith, less)) }

    end_of : (node : ℕ) → HasPath g node to 0 → node ≡ to
    end_of node has = of has.path has.leads has.long
      where
        of : (path : List Hop) → IsPath g node to path → length path ≡ 0 → node ≡ to
        of [] leads long = leads
        of (hop ∷ rest) leads long = absurd (omega (arith, long))

    at_none : (node : ℕ) → IsAt g to 0 node → node ≡ to
    at_none node at = end_of node at.path

    same : (node : ℕ) → has_number (to ∷ []) node ≡ true → to ≡ node
    same node has = by_case (or_cases (eqb to node) false has)
      where
        by_case : (eqb to node ≡ true) ⊎ (false ≡ true) → to ≡ node
        by_case (inl is) = eqb-true to node is
        by_case (inr is) = absurd cc

    apart : (node : ℕ) → eqb node to ≡ false → node ≡ to → ⊥
    apart node differs is = let equal : eqb node to ≡ true = eq-eqb node to is in absurd cc

    end_left : (node : ℕ) → g.node node ≡ true → has_number (filter (λ one. not (eqb one to)) nodes) node ≡ false → (eqb node to ≡ true) ⊎ (eqb node to ≡ false) → node ≡ to
    end_left node is_node lacks (inl is) = eqb-true node to is
    end_left node is_node lacks (inr differs) =
        let has : has_number (filter (λ one. not (eqb one to)) nodes) node ≡ true = keeps (λ one. not (eqb one to)) nodes node (all.every node is_node) (not_from_false (eqb node to) differs) in
        absurd cc

-- what is kept and what is left make the whole
both_parts : (p : ℕ → Bool) (nodes : List ℕ) → length (filter (λ node. not (p node)) nodes) + length (filter p nodes) ≡ length nodes
both_parts p [] = refl
both_parts p (node ∷ nodes) = by_test (p node) (both_parts p nodes)
  where
    by_test : (b : Bool) → length (filter (λ one. not (p one)) nodes) + length (filter p nodes) ≡ length nodes
        → length (cond (not b) (node ∷ filter (λ one. not (p one)) nodes) (filter (λ one. not (p one)) nodes)) + length (cond b (node ∷ filter p nodes) (filter p nodes)) ≡ suc (length nodes)
    by_test true same = omega (arith, same)
    by_test false same = omega (arith, same)

-- fewer nodes are left, or the search ends
pub fewer_left : (p : ℕ → Bool) (level rest : List ℕ) → 0 < length level
    → length (filter (λ node. not (p node)) rest) + min 1 (length (filter p rest)) < length rest + min 1 (length level)
fewer_left p level rest some = let parts = both_parts p rest in omega (arith, parts, some)

-- a list without length is empty
pub none_of : (numbers : List ℕ) → length numbers ≡ 0 → numbers ≡ []
none_of [] none = refl
none_of (number ∷ numbers) none = absurd (omega (arith, none))

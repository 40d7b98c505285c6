-- The way through the levels: at each node the first hop into the level that is nearer.
use Rattle.std.proofs.Common.{◌≡◌, ◌<◌, ◌≤◌, ◌⊎◌, inl, inr, ℕ, zero, suc, List, [], ◌∷◌, ◌++◌, length, Some, refl, sym, ap, subst, ◌∙◌, arith}
use Rattle.std.proofs.Common.{append_assoc, append-nil, ltb}
use Rattle.std.specs.Prelude.{true, false, is_some, slice_get}
use Rattle.std.proofs.lemmas.Bool.{cases_Bool}
use Rattle.std.proofs.lemmas.Bool.Decides.{nat_tests}
use Rattle.flow_query.specs.declared.hop.Hop.{Hop}
use Rattle.flow_query.specs.Paths.{Graph, IsPath, IsNotAfter, IsAnswer}
use Rattle.flow_query.specs.Levels.{IsAt, IsLevel, AreLevels, has_number, first_hop}
use Rattle.flow_query.proofs.Numbers.{first_into, some_first}
use Rattle.flow_query.proofs.LevelLemmas.{AreLabelled, begins, nearer, length_push}

-- the hops so far: whatever answers from here on is the answer's end
abbrev pub IsOnTheWay : Graph → ℕ → ℕ → List Hop → ℕ → Type 0
IsOnTheWay g from to hops here = (rest : List Hop) → IsAnswer g here to rest → IsAnswer g from to (hops ++ rest)

-- a walk before a level, which is the last of those that are left
pub record IsBefore (g : Graph) (to here : ℕ) (rest : List (List ℕ)) (level : List ℕ) : Type 0 where
  pub levels : AreLevels g to rest
  pub is : IsLevel g to (length rest) level
  pub at : IsAt g to (suc (length rest)) here

-- the last of some levels
get_pushed : (rest : List (List ℕ)) (level : List ℕ) → slice_get (rest ++ level ∷ []) (length rest) ≡ Some level
get_pushed [] level = refl
get_pushed (first ∷ rest) level = get_pushed rest level

-- and each that stands before it
get_before : (rest : List (List ℕ)) (level : List ℕ) (distance : ℕ) (one : List ℕ) → slice_get rest distance ≡ Some one → slice_get (rest ++ level ∷ []) distance ≡ Some one
get_before [] level distance one got = absurd cc
get_before (first ∷ rest) level zero one got = got
get_before (first ∷ rest) level (suc distance) one got = get_before rest level distance one got

pub before : (g : Graph) (to here : ℕ) (all rest : List (List ℕ)) (level : List ℕ) → AreLevels g to all → IsAt g to (length all) here → all ≡ rest ++ level ∷ [] → IsBefore g to here rest level
before g to here all rest level are at all_is =
    let whole : AreLevels g to (rest ++ level ∷ []) = subst (AreLevels g to) all_is are in
    record {
      levels = λ distance one got. whole distance one (get_before rest level distance one got);
      is = whole (length rest) level (get_pushed rest level);
      at = subst (λ n. IsAt g to n here) (ap length all_is ∙ length_push rest level) at;
    }

-- a node at a distance has a hop into the level that is nearer
pub has_first : (g : Graph) (to distance here : ℕ) (level : List ℕ) → IsAt g to (suc distance) here → IsLevel g to distance level → is_some (first_hop (g.hop here) level) ≡ true
has_first g to distance here level at is =
    let begun = begins g here to distance at.path in
    some_first (g.hop here) level begun.hop.to begun.hop (is.every begun.hop.to begun.node (nearer g here to distance at begun)) begun.is

module _ (g : Graph) (labelled : AreLabelled g) (from to distance here : ℕ) (level : List ℕ) (hop : Hop) (at : IsAt g to (suc distance) here) (is : IsLevel g to distance level)
    (found : first_hop (g.hop here) level ≡ Some hop) where
  -- the first hop, by the node to which it leads
  leads_here : g.hop here hop.to ≡ Some hop
  leads_here =
      let into = first_into (g.hop here) level hop is.are.ascending found in
      ap (g.hop here) (labelled here into.into hop into.is) ∙ into.is

  has_here : has_number level hop.to ≡ true
  has_here =
      let into = first_into (g.hop here) level hop is.are.ascending found in
      ap (has_number level) (labelled here into.into hop into.is) ∙ into.has

  -- it leads to a node of the level
  pub node_next : g.node hop.to ≡ true
  node_next = is.are.each hop.to has_here

  pub at_next : IsAt g to distance hop.to
  at_next = is.at hop.to has_here

  -- and to none that is declared later than where another path of as many hops goes first
  not_later : (other : Hop) → g.hop here other.to ≡ Some other → has_number level other.to ≡ true → (hop.to < other.to) ⊎ (hop.to ≡ other.to)
  not_later other leads has =
      let into = first_into (g.hop here) level hop is.are.ascending found in
      let same : hop.to ≡ into.into = labelled here into.into hop into.is in
      subst (λ n. (n < other.to) ⊎ (n ≡ other.to)) (sym same) (into.first other.to other has leads)

  -- an answer from there on has as many hops as the distance
  long_as : (rest : List Hop) → IsAnswer g hop.to to rest → length rest ≡ distance
  long_as rest answer =
      let short : length rest ≤ length at_next.path.path = answer.shortest at_next.path.path at_next.path.leads in
      let long : length at_next.path.path ≡ distance = at_next.path.long in
      by_less (cases_Bool (ltb (length rest) distance)) (subst (λ n. length rest ≤ n) long short)
    where
      by_less : (ltb (length rest) distance ≡ true) ⊎ (ltb (length rest) distance ≡ false) → length rest ≤ distance → length rest ≡ distance
      by_less (inl less) few =
          absurd (at_next.least (length rest) (grind (arith, nat_tests, less)) (record { path = rest; leads = answer.leads; long = refl }))
      by_less (inr not_less) few = grind (arith, nat_tests, not_less, few)

  -- with the hop before it, it is the answer from here
  hop_first : (rest : List Hop) → IsAnswer g hop.to to rest → IsAnswer g here to (hop ∷ rest)
  hop_first rest answer =
      record {
        leads = (leads_here, node_next, answer.leads);
        shortest = λ other leads. not_shorter other leads (cases_Bool (ltb (length other) (suc (length rest))));
        first = λ other leads same. before other leads same;
      }
    where
      not_shorter : (other : List Hop) → IsPath g here to other → (ltb (length other) (suc (length rest)) ≡ true) ⊎ (ltb (length other) (suc (length rest)) ≡ false) → suc (length rest) ≤ length other
      not_shorter other leads (inl less) =
          let long : length rest ≡ distance = long_as rest answer in
          absurd (at.least (length other) (grind (arith, nat_tests, less, long)) (record { path = other; leads = leads; long = refl }))
      not_shorter other leads (inr not_less) = grind (arith, nat_tests, not_less)

      before : (other : List Hop) → IsPath g here to other → length other ≡ suc (length rest) → IsNotAfter (hop ∷ rest) other
      before [] leads same = absurd (omega (arith, same))
      before (next ∷ others) leads same =
          by_next (not_later next leads.0 (is.every next.to leads.1 (nearer g here to distance at (record { hop = next; is = leads.0; node = leads.1; rest = record { path = others; leads = leads.2; long = as_long } }))))
        where
          as_long : length others ≡ distance
          as_long = let long : length rest ≡ distance = long_as rest answer in omega (arith, same, long)

          by_next : (hop.to < next.to) ⊎ (hop.to ≡ next.to) → IsNotAfter (hop ∷ rest) (next ∷ others)
          by_next (inl less) = inl less
          by_next (inr is_same) = inr (is_same, answer.first others (subst (λ n. IsPath g n to others) (sym is_same) leads.2) (omega (arith, same)))

  -- one hop further on the way
  pub further : (hops : List Hop) → IsOnTheWay g from to hops here → (all : List Hop) → all ≡ hops ++ hop ∷ [] → IsOnTheWay g from to all hop.to
  further hops way all all_is rest answer =
      subst (IsAnswer g from to) (sym (ap (λ l. l ++ rest) all_is ∙ append_assoc hops (hop ∷ []) rest)) (way (hop ∷ rest) (hop_first rest answer))

-- at the end nothing is left to go
pub arrived : (g : Graph) (from to here : ℕ) (hops : List Hop) → IsOnTheWay g from to hops here → IsAt g to 0 here → IsAnswer g from to hops
arrived g from to here hops way at =
    subst (IsAnswer g from to) (append-nil hops) (way [] (record { leads = ends at.path.path at.path.leads at.path.long; shortest = λ other leads. omega arith; first = λ other leads same. tt }))
  where
    ends : (path : List Hop) → IsPath g here to path → length path ≡ 0 → here ≡ to
    ends [] leads long = leads
    ends (hop ∷ rest) leads long = absurd (omega (arith, long))

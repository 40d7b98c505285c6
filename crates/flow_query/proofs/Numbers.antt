-- Lists of numbers that rise, and what is kept of them.
use Rattle.std.proofs.Common.{◌≡◌, ◌<◌, ◌⊎◌, inl, inr, ℕ, Bool, true, false, cond, eqb, List, [], ◌∷◌, Option, Some, None, refl, sym, ap, subst, ◌∙◌}
use Rattle.std.specs.Prelude.{is_some}
use Rattle.std.proofs.lemmas.Bool.{or_cases, or_left, or_right, eqb-true, eq-eqb}
use Rattle.std.specs.List.{filter}
use Rattle.flow_query.specs.declared.hop.Hop.{Hop}
use Rattle.flow_query.specs.Levels.{has_number, IsBelowAll, IsAscending, first_hop, first_hop_after}

-- what is below all is below those that are kept
below_filtered : (p : ℕ → Bool) (x : ℕ) (xs : List ℕ) → IsBelowAll x xs → IsBelowAll x (filter p xs)
below_filtered p x [] below = tt
below_filtered p x (y ∷ ys) below =
    elim (p y) as (λ b. IsBelowAll x (cond b (y ∷ filter p ys) (filter p ys))) [
      | true ↦ (below.0, below_filtered p x ys below.1)
      | false ↦ below_filtered p x ys below.1
    ]

-- numbers that rise do so still where some are left out
pub ascending_filtered : (p : ℕ → Bool) (xs : List ℕ) → IsAscending xs → IsAscending (filter p xs)
ascending_filtered p [] rising = tt
ascending_filtered p (y ∷ ys) rising =
    elim (p y) as (λ b. IsAscending (cond b (y ∷ filter p ys) (filter p ys))) [
      | true ↦ (below_filtered p y ys rising.0, ascending_filtered p ys rising.1)
      | false ↦ ascending_filtered p ys rising.1
    ]

-- a number that is kept was there, and passes
pub record WasKept (p : ℕ → Bool) (xs : List ℕ) (x : ℕ) : Type 0 where
  pub has : has_number xs x ≡ true
  pub passes : p x ≡ true

pub kept : (p : ℕ → Bool) (xs : List ℕ) (x : ℕ) → has_number (filter p xs) x ≡ true → WasKept p xs x
kept p [] x has = absurd cc
kept p (y ∷ ys) x has = by_test (λ rest. kept p ys x rest) (p y) refl has
  where
    later : WasKept p ys x → WasKept p (y ∷ ys) x
    later was = record { has = or_right (eqb y x) (has_number ys x) was.has; passes = was.passes }

    here : (has_number (filter p ys) x ≡ true → WasKept p ys x) → p y ≡ true → (eqb y x ≡ true) ⊎ (has_number (filter p ys) x ≡ true) → WasKept p (y ∷ ys) x
    here rest passes (inl same) = record { has = or_left (eqb y x) (has_number ys x) same; passes = subst (λ n. p n ≡ true) (eqb-true y x same) passes }
    here rest passes (inr left) = later (rest left)

    by_test : (has_number (filter p ys) x ≡ true → WasKept p ys x) → (b : Bool) → p y ≡ b → has_number (cond b (y ∷ filter p ys) (filter p ys)) x ≡ true → WasKept p (y ∷ ys) x
    by_test rest true passes is = here rest passes (or_cases (eqb y x) (has_number (filter p ys) x) is)
    by_test rest false fails is = later (rest is)

-- a number that was there and passes is kept
pub keeps : (p : ℕ → Bool) (xs : List ℕ) (x : ℕ) → has_number xs x ≡ true → p x ≡ true → has_number (filter p xs) x ≡ true
keeps p [] x has passes = absurd cc
keeps p (y ∷ ys) x has passes = by_case (λ rest. keeps p ys x rest passes) (or_cases (eqb y x) (has_number ys x) has)
  where
    more : (b : Bool) → has_number (filter p ys) x ≡ true → has_number (cond b (y ∷ filter p ys) (filter p ys)) x ≡ true
    more true rest = or_right (eqb y x) (has_number (filter p ys) x) rest
    more false rest = rest

    by_case : (has_number ys x ≡ true → has_number (filter p ys) x ≡ true) → (eqb y x ≡ true) ⊎ (has_number ys x ≡ true) → has_number (filter p (y ∷ ys)) x ≡ true
    by_case later (inl same) =
        subst (λ b. has_number (cond b (y ∷ filter p ys) (filter p ys)) x ≡ true) (sym (ap p (eqb-true y x same) ∙ passes))
        (or_left (eqb y x) (has_number (filter p ys) x) same)
    by_case later (inr rest) = more (p y) (later rest)

-- what is below all numbers of a list is below each that it has
pub below_each : (x : ℕ) (xs : List ℕ) (y : ℕ) → IsBelowAll x xs → has_number xs y ≡ true → x < y
below_each x [] y below has = absurd cc
below_each x (z ∷ zs) y below has = by_case (λ rest. below_each x zs y below.1 rest) (or_cases (eqb z y) (has_number zs y) has)
  where
    by_case : (has_number zs y ≡ true → x < y) → (eqb z y ≡ true) ⊎ (has_number zs y ≡ true) → x < y
    by_case later (inl same) = subst (λ n. x < n) (eqb-true z y same) below.0
    by_case later (inr rest) = later rest

-- a hop into a list of nodes: into one of them, and into none that stands before it
pub record IsFirstInto (hop_to : ℕ → Option Hop) (nodes : List ℕ) (hop : Hop) : Type 0 where
  pub into : ℕ
  pub has : has_number nodes into ≡ true
  pub is : hop_to into ≡ Some hop
  pub first : (other : ℕ) (by : Hop) → has_number nodes other ≡ true → hop_to other ≡ Some by → (into < other) ⊎ (into ≡ other)

-- the first hop is so, where the nodes rise
pub first_into : (hop_to : ℕ → Option Hop) (nodes : List ℕ) (hop : Hop) → IsAscending nodes → first_hop hop_to nodes ≡ Some hop → IsFirstInto hop_to nodes hop
first_into hop_to [] hop rising found = absurd cc
first_into hop_to (n ∷ ns) hop rising found = by_answer (λ rest. first_into hop_to ns hop rising.1 rest) (hop_to n) refl found
  where
    before : hop_to n ≡ None → IsFirstInto hop_to ns hop → IsFirstInto hop_to (n ∷ ns) hop
    before none is =
        record {
          into = is.into;
          has = or_right (eqb n is.into) (has_number ns is.into) is.has;
          is = is.is;
          first = λ other by has leads. later other by leads (or_cases (eqb n other) (has_number ns other) has);
        }
      where
        later : (other : ℕ) (by : Hop) → hop_to other ≡ Some by → (eqb n other ≡ true) ⊎ (has_number ns other ≡ true) → (is.into < other) ⊎ (is.into ≡ other)
        later other by leads (inl same) = let clash : None ≡ Some by = sym none ∙ ap hop_to (eqb-true n other same) ∙ leads in absurd cc
        later other by leads (inr rest) = is.first other by rest leads

    here : hop_to n ≡ Some hop → IsFirstInto hop_to (n ∷ ns) hop
    here is =
        record {
          into = n;
          has = or_left (eqb n n) (has_number ns n) (eq-eqb n n refl);
          is = is;
          first = λ other by has leads. either other (or_cases (eqb n other) (has_number ns other) has);
        }
      where
        either : (other : ℕ) → (eqb n other ≡ true) ⊎ (has_number ns other ≡ true) → (n < other) ⊎ (n ≡ other)
        either other (inl same) = inr (eqb-true n other same)
        either other (inr rest) = inl (below_each n ns other rising.0 rest)

    by_answer : (first_hop hop_to ns ≡ Some hop → IsFirstInto hop_to ns hop) → (answer : Option Hop) → hop_to n ≡ answer → first_hop_after answer (first_hop hop_to ns) ≡ Some hop
        → IsFirstInto hop_to (n ∷ ns) hop
    by_answer rest (Some by) is same = here (is ∙ same)
    by_answer rest None is same = before is (rest same)

-- where some node of the list is led to, there is a first hop
pub some_first : (hop_to : ℕ → Option Hop) (nodes : List ℕ) (node : ℕ) (hop : Hop) → has_number nodes node ≡ true → hop_to node ≡ Some hop → is_some (first_hop hop_to nodes) ≡ true
some_first hop_to [] node hop has leads = absurd cc
some_first hop_to (n ∷ ns) node hop has leads = by_case (λ rest. some_first hop_to ns node hop rest leads) (or_cases (eqb n node) (has_number ns node) has)
  where
    more : (answer : Option Hop) → is_some (first_hop hop_to ns) ≡ true → is_some (first_hop_after answer (first_hop hop_to ns)) ≡ true
    more (Some by) rest = refl
    more None rest = rest

    by_case : (has_number ns node ≡ true → is_some (first_hop hop_to ns) ≡ true) → (eqb n node ≡ true) ⊎ (has_number ns node ≡ true) → is_some (first_hop hop_to (n ∷ ns)) ≡ true
    by_case later (inl same) = subst (λ answer. is_some (first_hop_after answer (first_hop hop_to ns)) ≡ true) (sym (ap hop_to (eqb-true n node same) ∙ leads)) refl
    by_case later (inr rest) = more (hop_to n) (later rest)

-- What the plain tree has below a path.
use Rattle.std.proofs.Common.{◌≡◌, ℕ, suc, cond, Bool, true, false, ◌||◌, ◌&&◌, T, List, [], ◌∷◌, ◌++◌, map, length, take, drop, get_or, ◌-◌, ◌≤◌, arith, eqb, Option, None, Some, is_some, refl, sym, ap, subst, ◌∙◌, inl, inr}
use denote.Ref.{Bor}
use Rattle.std.specs.Prelude.{MatchOption, MatchBool, IfSome, if◌then◌else◌, option_map}
use Rattle.std.specs.Option.{option_copied}
use Rattle.std.specs.List.{list_any, filter_map, cons_option}
use Rattle.std.specs.declared.cmp.Ordering.{Ordering}
use Rattle.std.specs.Ordering.{nat_cmp, eq_by_cmp, is_eq, is_lt}
use Rattle.std.specs.Cmp.{IsTotalOrder, Equal-is, tied_itself}
use Rattle.std.specs.Cmp.Lexicographic.{slice_cmp, nat_list_cmp_total}
use Rattle.std.specs.FinMap as maps
use Rattle.std.specs.FinMap.{FinMap, IsAntisymmetric, nat_cmp-IsAntisymmetric, slice_cmp-IsAntisymmetric}
use Rattle.std.specs.FinMap.Entries.{find, is_sorted, below_all, same_entries}
use Rattle.std.proofs.lemmas.Bool.{eqb-true, eq-eqb, false≢true}
use Rattle.file_tree.specs.declared.step.Step.{Step}
use Rattle.file_tree.specs.declared.node.Node.{Node}
use Rattle.file_tree.specs.Shelves.{Numbers}
use Rattle.file_tree.specs.Nodes.{Nodes, IsAt, IsFree, IsShelf, HasEntry, HasNoEntry, ArePathsOnce, AreInParents, path_of, path_in, step_from}
use Rattle.file_tree.specs.PlainTree.{step_cmp, same_step, Item, PlainTree, item_of, item_in, steps_of, plain, step_below, name_under, shelf_below, names_below, has_entry_below}
use Rattle.file_tree.proofs.RowLemmas.{true_or_false}
use Rattle.file_tree.proofs.Paths.{same_some, none_some, none_unless, not_empty, same_front, same_name, the_name}
use Rattle.file_tree.proofs.PlainLemmas.{paths_total, paths_apart, standing, stands}

pub step_is : (a b : Step) → same_step a b ≡ true → a ≡ b
step_is a b e = let same = same_name a.key b.key a.name b.name e in λ i. record { key = same.0 i; name = same.1 i }

pub step_itself : (a : Step) → same_step a a ≡ true
step_itself a = the_name a.key a.name

-- a path with one more step stands below it by that step
below-pushed : (path : List Step) (step : Step) → step_below path (path ++ step ∷ []) ≡ Some step
below-pushed [] step = refl
below-pushed (first ∷ path) step = ap (λ b. if b then step_below path (path ++ step ∷ []) else None) (step_itself first) ∙ below-pushed path step

-- and no other path does
below-is : (path at : List Step) (step : Step) → step_below path at ≡ Some step → at ≡ path ++ step ∷ []
below-is [] [] step e = absurd (none_some step e)
below-is [] (other ∷ []) step e = ap (λ s. s ∷ []) (same_some other step e)
below-is [] (other ∷ next ∷ at) step e = absurd (none_some step e)
below-is (first ∷ path) [] step e = absurd (none_some step e)
below-is (first ∷ path) (other ∷ at) step e = elim (true_or_false (same_step first other)) [
  | inl is ↦ let rest = below-is path at step (sym (ap (λ b. if b then step_below path at else None) is) ∙ e) in
      λ i. sym (step_is first other is) i ∷ rest i
  | inr is_not ↦ absurd (none_some step (sym (ap (λ b. if b then step_below path at else None) is_not) ∙ e))
]

under-is : (key : ℕ) (step : Option Step) (name : List ℕ) → name_under key step ≡ Some name → step ≡ Some (record { key = key; name = name })
under-is key None name e = absurd (none_some name e)
under-is key (Some step) name e = elim (true_or_false (eqb step.key key)) [
  | inl is ↦ let same : step.name ≡ name = same_some step.name name (sym (ap (λ b. if b then Some step.name else None) is) ∙ e) in
      λ i. Some (record { key = eqb-true step.key key is i; name = same i })
  | inr is_not ↦ absurd (none_some name (sym (ap (λ b. if b then Some step.name else None) is_not) ∙ e))
]

-- the name of a row below a path under a key is that of its step
named-is : (path at : List Step) (key : ℕ) (name : List ℕ) → name_under key (step_below path at) ≡ Some name → at ≡ step_from path key name
named-is path at key name e = below-is path at (record { key = key; name = name }) (under-is key (step_below path at) name e)

named-pushed : (path : List Step) (key : ℕ) (name : List ℕ) → name_under key (step_below path (step_from path key name)) ≡ Some name
named-pushed path key name =
    ap (name_under key) (below-pushed path (record { key = key; name = name })) ∙ ap (λ b. if b then Some name else None) (eq-eqb key key refl)

abbrev pub on_shelf : List Step → ℕ → (List Step × Item) → Option (List ℕ × Item)
on_shelf path key row = option_map (λ name. (name, row.1)) (name_under key (step_below path row.0))

abbrev shelf_rows : List Step → ℕ → List (List Step × Item) → List (List ℕ × Item)
shelf_rows path key rows = filter_map (on_shelf path key) rows

-- a name is found on the shelf where its path is found in the tree
find-below : (path : List Step) (key : ℕ) (name : List ℕ) (rows : List (List Step × Item))
    → find (slice_cmp nat_cmp) name (filter_map (on_shelf path key) rows) ≡ find (slice_cmp step_cmp) (step_from path key name) rows
find-below path key name [] = refl
find-below path key name (row ∷ rows) = elim (true_or_false (eq_by_cmp (slice_cmp step_cmp) (step_from path key name) row.0)) [
  | inl is ↦
      let at : step_from path key name ≡ row.0 = paths_apart (step_from path key name) row.0 ((Equal-is _).0 is) in
      ap (λ (o : Option (List ℕ)). find (slice_cmp nat_cmp) name (cons_option (option_map (λ n. (n, row.1)) o) (shelf_rows path key rows))) (ap (λ p. name_under key (step_below path p)) (sym at) ∙ named-pushed path key name)
      ∙ ap (λ t. cond t (Some row.1) (find (slice_cmp nat_cmp) name (shelf_rows path key rows))) (ap is_eq (tied_itself nat_list_cmp_total name))
      ∙ sym (ap (λ t. cond t (Some row.1) (find (slice_cmp step_cmp) (step_from path key name) rows)) is)
  | inr is_not ↦ passed is_not (name_under key (step_below path row.0)) refl ∙ find-below path key name rows
      ∙ sym (ap (λ t. cond t (Some row.1) (find (slice_cmp step_cmp) (step_from path key name) rows)) is_not)
]
  where
    passed : eq_by_cmp (slice_cmp step_cmp) (step_from path key name) row.0 ≡ false → (o : Option (List ℕ)) → name_under key (step_below path row.0) ≡ o
        → find (slice_cmp nat_cmp) name (cons_option (option_map (λ n. (n, row.1)) o) (shelf_rows path key rows)) ≡ find (slice_cmp nat_cmp) name (shelf_rows path key rows)
    passed is_not None e = refl
    passed is_not (Some other) e = elim (true_or_false (eq_by_cmp (slice_cmp nat_cmp) name other)) [
      | inl is ↦
          let same : name ≡ other = slice_cmp-IsAntisymmetric nat_cmp-IsAntisymmetric name other ((Equal-is _).0 is) in
          let at : row.0 ≡ step_from path key name = named-is path row.0 key other e ∙ ap (step_from path key) (sym same) in
          absurd (false≢true (sym is_not ∙ ap (λ p. is_eq (slice_cmp step_cmp (step_from path key name) p)) at ∙ ap is_eq (tied_itself paths_total (step_from path key name))))
      | inr apart ↦ ap (λ t. cond t (Some row.1) (find (slice_cmp nat_cmp) name (shelf_rows path key rows))) apart
    ]

-- what stands on the shelf is what stands in the tree
pub get-shelf_below : (tree : PlainTree) (path : List Step) (key : ℕ) (name : List ℕ) → maps.get (shelf_below tree path key) name ≡ maps.get tree (step_from path key name)
unfolding shelf_below
get-shelf_below tree path key name =
    maps.get-from_entries nat_list_cmp_total (filter_map (on_shelf path key) (maps.entries tree)) name
    ∙ find-below path key name (maps.entries tree) ∙ sym (maps.get-entries tree (step_from path key name))

both : (a b : Bool) → T a → T b → T (a && b)
both true b p q = q
both false b p q = p

first_of : (a b : Bool) → T (a && b) → T a
first_of true b t = tt
first_of false b t = absurd t

second_of : (a b : Bool) → T (a && b) → T b
second_of true b t = t
second_of false b t = absurd t

-- rows without what they hold
module _ {K : Type 0} (R : K → K → Ordering) (o : IsTotalOrder R) (same : IsAntisymmetric R) where
  abbrev pub bare : {X : Type 0} → List (K × X) → List (K × Bool)
  bare rows = map (λ row. (row.0, true)) rows

  below-bare : {X : Type 0} (k : K) (rows : List (K × X)) → T (below_all R k rows) → T (below_all R k (bare rows))
  below-bare k [] below = tt
  below-bare k (row ∷ rows) below = both _ _ (first_of (is_lt (R k row.0)) (below_all R k rows) below) (below-bare k rows (second_of (is_lt (R k row.0)) (below_all R k rows) below))

  sorted-bare : {X : Type 0} (rows : List (K × X)) → T (is_sorted R rows) → T (is_sorted R (bare rows))
  sorted-bare [] sorted = tt
  sorted-bare (row ∷ rows) sorted = both _ _ (below-bare row.0 rows (first_of (below_all R row.0 rows) (is_sorted R rows) sorted)) (sorted-bare rows (second_of (below_all R row.0 rows) (is_sorted R rows) sorted))

  abbrev found : Bool → Option Bool
  found b = cond b (Some true) None

  find-bare : {X : Type 0} (rows : List (K × X)) (q : K) → find R q (bare rows) ≡ found (is_some (find R q rows))
  find-bare [] q = refl
  find-bare (row ∷ rows) q = elim (true_or_false (eq_by_cmp R q row.0)) [
    | inl is ↦ ap (λ t. cond t (Some true) (find R q (bare rows))) is ∙ sym (ap (λ t. found (is_some (cond t (Some row.1) (find R q rows)))) is)
    | inr is_not ↦ ap (λ t. cond t (Some true) (find R q (bare rows))) is_not ∙ find-bare rows q ∙ sym (ap (λ t. found (is_some (cond t (Some row.1) (find R q rows)))) is_not)
  ]

  keys-bare : {X : Type 0} (rows : List (K × X)) → map (λ row. row.0) (bare rows) ≡ map (λ row. row.0) rows
  keys-bare [] = refl
  keys-bare (row ∷ rows) = ap (λ keys. row.0 ∷ keys) (keys-bare rows)

  -- two maps with something at the same keys have the same keys
  pub same_keys : {X Y : Type 0} (m : FinMap R X) (n : FinMap R Y) → ((q : K) → is_some (maps.get m q) ≡ is_some (maps.get n q)) → maps.keys m ≡ maps.keys n
  same_keys m n alike =
      sym (keys-bare (maps.entries m))
      ∙ ap (map (λ row. row.0)) (same_entries R o same (bare (maps.entries m)) (bare (maps.entries n)) (sorted-bare (maps.entries m) (maps.entries_sorted m)) (sorted-bare (maps.entries n) (maps.entries_sorted n))
      (λ q. find-bare (maps.entries m) q ∙ ap found (ap is_some (sym (maps.get-entries m q)) ∙ alike q ∙ ap is_some (maps.get-entries n q)) ∙ sym (find-bare (maps.entries n) q)))
      ∙ keys-bare (maps.entries n)

-- there is something at a path exactly where some node stands there
pub item-is : (nodes : Nodes) → ArePathsOnce nodes → (path : List Step) (found : Option ℕ) → MatchOption found (IsFree nodes path) (IsAt nodes path) → maps.get (plain nodes) path ≡ item_in nodes found
item-is nodes once path None free = none_unless _ (λ item is. let node = standing nodes path item is in free node.0 (record { node = node.1; held = node.2; at = node.3 }))
item-is nodes once path (Some number) at =
    ap (maps.get (plain nodes)) (sym at.at) ∙ stands nodes once number at.node at.held ∙ sym (ap (option_map item_of) at.held)

-- the names of a shelf are those below its path
pub names-shelf : (nodes : Nodes) → ArePathsOnce nodes → (path : List Step) (key : ℕ) (shelf : Numbers) → IsShelf nodes path key shelf → maps.keys shelf ≡ names_below (plain nodes) path key
names-shelf nodes once path key shelf each =
    same_keys (slice_cmp nat_cmp) nat_list_cmp_total (slice_cmp-IsAntisymmetric nat_cmp-IsAntisymmetric) shelf (shelf_below (plain nodes) path key)
    (λ name. there name (maps.get shelf name) (each name) ∙ ap is_some (sym (get-shelf_below (plain nodes) path key name)))
  where
    there : (name : List ℕ) (found : Option ℕ) → MatchOption found (IsFree nodes (step_from path key name)) (IsAt nodes (step_from path key name))
        → is_some found ≡ is_some (maps.get (plain nodes) (step_from path key name))
    there name None free = sym (ap is_some (item-is nodes once (step_from path key name) None free))
    there name (Some number) at =
        sym (ap is_some (ap (maps.get (plain nodes)) (sym at.at) ∙ stands nodes once number at.node at.held))

length-keys : {K X : Type 0} (rows : List (K × X)) → length (map (λ row. row.0) rows) ≡ length rows
length-keys [] = refl
length-keys (row ∷ rows) = ap (λ n. suc n) (length-keys rows)

pub len-shelf : (nodes : Nodes) → ArePathsOnce nodes → (path : List Step) (key : ℕ) (shelf : Numbers) → IsShelf nodes path key shelf → maps.len shelf ≡ length (names_below (plain nodes) path key)
len-shelf nodes once path key shelf each = maps.len-entries shelf ∙ sym (length-keys (maps.entries shelf)) ∙ ap length (names-shelf nodes once path key shelf each)

module _ {A : Type 0} (p : A → Bool) where
  -- what passes one test passes another
  any_passes : (q : A → Bool) → ((x : A) → q x ≡ true → p x ≡ true) → (xs : List A) → list_any q xs ≡ true → list_any p xs ≡ true
  any_passes q turn [] any = any
  any_passes q turn (x ∷ xs) any = elim (true_or_false (q x)) [
    | inl is ↦ ap (λ b. b || list_any p xs) (turn x is)
    | inr is_not ↦ later (p x) (any_passes q turn xs (sym (ap (λ b. b || list_any q xs) is_not) ∙ any))
  ]
    where
      later : (b : Bool) → list_any p xs ≡ true → (b || list_any p xs) ≡ true
      later true rest = refl
      later false rest = rest

  -- a member that passes
  any_member : (R : A → A → Ordering) → IsTotalOrder R → (xs : List A) → list_any p xs ≡ true → (x : A) × (p x ≡ true) × (list_any (eq_by_cmp R x) xs ≡ true)
  any_member R o [] any = absurd (false≢true any)
  any_member R o (x ∷ xs) any = elim (true_or_false (p x)) [
    | inl is ↦ (x, is, ap (λ b. b || list_any (eq_by_cmp R x) xs) (ap is_eq (tied_itself o x)))
    | inr is_not ↦ let rest = any_member R o xs (sym (ap (λ b. b || list_any p xs) is_not) ∙ any) in
        (rest.0, rest.1, later rest.0 (eq_by_cmp R rest.0 x) rest.2)
  ]
    where
      later : (y : A) (b : Bool) → list_any (eq_by_cmp R y) xs ≡ true → (b || list_any (eq_by_cmp R y) xs) ≡ true
      later y true rest = refl
      later y false rest = rest

some_value : {A : Type 0} (o : Option A) → is_some o ≡ true → (x : A) × (o ≡ Some x)
some_value None e = absurd (false≢true e)
some_value (Some x) e = (x, refl)

-- whether something stands below a path
pub has_entry-plain : (nodes : Nodes) → ArePathsOnce nodes → (path : List Step) (any : Bool) → MatchBool any (HasEntry nodes path) (HasNoEntry nodes path) → any ≡ has_entry_below (plain nodes) path
unfolding has_entry_below
has_entry-plain nodes once path true some =
    let at = some.there in
    let there : list_any (eq_by_cmp (slice_cmp step_cmp) (path ++ some.step ∷ [])) (maps.keys (plain nodes)) ≡ true =
    sym (maps.contains_key-keys (plain nodes) (path ++ some.step ∷ [])) ∙ ap is_some (ap (maps.get (plain nodes)) (sym at.at) ∙ stands nodes once some.number at.node at.held) in
    sym (any_passes (λ q. is_some (step_below path q)) (eq_by_cmp (slice_cmp step_cmp) (path ++ some.step ∷ []))
    (λ q is. ap is_some (ap (step_below path) (sym (paths_apart (path ++ some.step ∷ []) q ((Equal-is _).0 is))) ∙ below-pushed path some.step)) (maps.keys (plain nodes)) there)
has_entry-plain nodes once path false none = elim (true_or_false (list_any (λ q. is_some (step_below path q)) (maps.keys (plain nodes)))) [
  | inl is ↦
      let member = any_member (λ q. is_some (step_below path q)) (slice_cmp step_cmp) paths_total (maps.keys (plain nodes)) is in
      let step = some_value (step_below path member.0) member.1 in
      let item = some_value (maps.get (plain nodes) member.0) (maps.contains_key-keys (plain nodes) member.0 ∙ member.2) in
      let node = standing nodes member.0 item.0 item.1 in
      absurd (none step.0 node.0 (record { node = node.1; held = node.2; at = node.3 ∙ below-is path member.0 step.0 step.1 }))
  | inr is_not ↦ sym is_not
]

pub front-moved : {A : Type 0} (xs : List A) (x : A) (ys : List A) → (xs ++ x ∷ []) ++ ys ≡ xs ++ x ∷ ys
front-moved [] x ys = refl
front-moved (z ∷ xs) x ys = ap (λ rest. z ∷ rest) (front-moved xs x ys)

pub ending : {A : Type 0} (xs : List A) → xs ++ [] ≡ xs
ending [] = refl
ending (x ∷ xs) = ap (λ rest. x ∷ rest) (ending xs)

-- what is found by a number stands in the plain tree
pub node-plain : (nodes : Nodes) → ArePathsOnce nodes → (number : ℕ) (found : Option (Bor Node)) → option_copied found ≡ maps.get nodes number
    → IfSome found (λ node. maps.get (plain nodes) node.now.path ≡ Some (item_of node.now))
node-plain nodes once number None is = tt
node-plain nodes once number (Some node) is = stands nodes once number node.now (sym is)

-- no directory stands at a path
abbrev pub HasNoDirectory : Nodes → List Step → Type 0
HasNoDirectory nodes path = (number : ℕ) (node : Node) → maps.get nodes number ≡ Some node → node.path ≡ path → node.bytes ≡ None → ⊥

-- nothing stands right below a path at which no directory stands
no_entry : (nodes : Nodes) → path_in nodes 0 ≡ [] → AreInParents nodes → (path : List Step) → HasNoDirectory nodes path → (step : Step) → IsFree nodes (path ++ step ∷ [])
no_entry nodes root parents path none step number at =
    let was = parents number at.node at.held (λ is_root. not_empty path step (sym root ∙ ap path_of (ap (maps.get nodes) (sym is_root) ∙ at.held) ∙ at.at)) in
    none at.node.parent was.above was.over (same_front was.above.path path was.step step (sym was.path ∙ at.at)) was.kind

no_below : (nodes : Nodes) → path_in nodes 0 ≡ [] → AreInParents nodes → (path : List Step) → HasNoDirectory nodes path → (step : Step) (rest : List Step) → IsFree nodes (path ++ step ∷ rest)
no_below nodes root parents path none step [] = no_entry nodes root parents path none step
no_below nodes root parents path none step (next ∷ rest) =
    subst (IsFree nodes) (front-moved path step (next ∷ rest))
    (no_below nodes root parents (path ++ step ∷ []) (λ number node held at kind. no_entry nodes root parents path none step number (record { node = node; held = held; at = at })) next rest)

-- nothing stands below a path at which nothing stands
pub free_below : (nodes : Nodes) → path_in nodes 0 ≡ [] → AreInParents nodes → (path : List Step) → IsFree nodes path → (rest : List Step) → IsFree nodes (path ++ rest)
free_below nodes root parents path free [] = subst (IsFree nodes) (sym (ending path)) free
free_below nodes root parents path free (step ∷ rest) = no_below nodes root parents path (λ number node held at kind. free number (record { node = node; held = held; at = at })) step rest

some_none : (bytes : Option (List ℕ)) → is_some bytes ≡ true → bytes ≡ None → ⊥
some_none bytes some none = false≢true (ap is_some (sym none) ∙ some)

-- nothing stands below a file
pub below_file : (nodes : Nodes) → path_in nodes 0 ≡ [] → AreInParents nodes → ArePathsOnce nodes → (here : ℕ) (file : Node) → maps.get nodes here ≡ Some file → is_some file.bytes ≡ true
    → (step : Step) (rest : List Step) → IsFree nodes (file.path ++ step ∷ rest)
below_file nodes root parents once here file held some step rest =
    no_below nodes root parents file.path (λ number node at same kind.
    let number_is = once number here file.path (record { node = node; held = at; at = same }) (record { node = file; held = held; at = refl }) in
    let node_is : node ≡ file = same_some node file (sym at ∙ ap (maps.get nodes) number_is ∙ held) in
    some_none file.bytes some (ap (λ x. x.bytes) (sym node_is) ∙ kind)) step rest

-- a node stands at its own path
pub at_itself : (nodes : Nodes) (here : ℕ) → is_some (maps.get nodes here) ≡ true → IsAt nodes (path_in nodes here ++ []) here
at_itself nodes here some =
    let node = some_value (maps.get nodes here) some in
    record { node = node.0; held = node.1; at = sym (ap path_of node.1) ∙ sym (ending (path_in nodes here)) }

all_taken : {A : Type 0} (xs : List A) → take (length xs) xs ≡ xs
all_taken [] = refl
all_taken (x ∷ xs) = ap (λ rest. x ∷ rest) (all_taken xs)

one_less : (n : ℕ) → suc n - 1 ≡ n
one_less n = omega arith

-- the steps of names are those of the first and of the rest
pub first_step : (names : List (List ℕ)) (name : List ℕ) → 1 ≤ length names → name ≡ get_or names 0 name
    → record { key = 0; name = name } ∷ steps_of (take (length names - 1) (drop 1 names)) ≡ steps_of names
first_step [] name some is = absurd (omega arith)
first_step (first ∷ names) name some is =
    (λ i. record { key = 0; name = is i } ∷ steps_of (take (one_less (length names) i) names)) ∙ ap (λ rest. record { key = 0; name = first } ∷ steps_of rest) (all_taken names)

-- to walk by the first name, and then by the rest
pub walked_on : (path : List Step) (names : List (List ℕ)) (name part : List ℕ) → 1 ≤ length names → name ≡ get_or names 0 name → part ≡ name
    → step_from path 0 part ++ steps_of (take (length names - 1) (drop 1 names)) ≡ path ++ steps_of names
walked_on path names name part some is same =
    ap (λ n. step_from path 0 n ++ steps_of (take (length names - 1) (drop 1 names))) same
    ∙ front-moved path (record { key = 0; name = name }) (steps_of (take (length names - 1) (drop 1 names)))
    ∙ ap (λ steps. path ++ steps) (first_step names name some is)

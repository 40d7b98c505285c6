-- The plain tree of numbered nodes.
use Rattle.std.proofs.Common.{◌≡◌, ℕ, cond, Bool, true, false, ◌&&◌, T, List, [], ◌∷◌, map, length, arith, Option, None, Some, is_some, refl, sym, ap, subst, ◌∙◌, inl, inr, ◌+◌, suc}
use Rattle.std.specs.declared.cmp.Ordering.{Ordering}
use Rattle.std.specs.declared.cmp.Ordering.TheVariants.{Less, Equal, Greater}
use Rattle.std.specs.Ordering.{nat_cmp, ordering_then, eq_by_cmp, is_eq, is_lt}
use Rattle.std.specs.Cmp.{IsTotalOrder, Equal-is, tied_itself, nat_cmp_total, then_total, on_total}
use Rattle.std.specs.Cmp.Lexicographic.{slice_cmp, lists_total, nat_list_cmp_total}
use Rattle.std.specs.FinMap as maps
use Rattle.std.specs.FinMap.{IsAntisymmetric, nat_cmp-IsAntisymmetric, slice_cmp-IsAntisymmetric}
use Rattle.std.specs.FinMap.Entries.{find, is_sorted, below_all}
use Rattle.std.proofs.lemmas.Bool.{cases_eq, eq-eqb, ne_eqb, false≢true}
use Rattle.slot_tables.proofs.SlotLemmas.{get-put, get-taken}
use Rattle.file_tree.specs.declared.step.Step.{Step}
use Rattle.file_tree.specs.declared.node.Node.{Node}
use Rattle.file_tree.specs.Shelves.{Places}
use Rattle.file_tree.specs.Nodes.{Nodes, IsFree, IsTree, ArePathsOnce, is_directory, is_directory_node, path_of}
use Rattle.file_tree.specs.PlainTree.{step_cmp, Item, IsMirrored, IsWellMade, item_of, plain}
use Rattle.file_tree.proofs.RowLemmas.{true_or_false}
use Rattle.file_tree.proofs.Paths.{same_some, none_some, none_unless}

steps_total : IsTotalOrder step_cmp
steps_total = then_total (on_total (λ step. step.key) nat_cmp_total) (on_total (λ step. step.name) nat_list_cmp_total)

pub paths_total : IsTotalOrder (slice_cmp step_cmp)
paths_total = lists_total steps_total

first_equal : (a b : Ordering) → ordering_then a b ≡ Equal → (a ≡ Equal) × (b ≡ Equal)
first_equal Less b e = absurd (false≢true (ap is_eq e))
first_equal Equal b e = (refl, e)
first_equal Greater b e = absurd (false≢true (ap is_eq e))

steps_apart : IsAntisymmetric step_cmp
steps_apart x y e =
    let parts = first_equal (nat_cmp x.key y.key) (slice_cmp nat_cmp x.name y.name) e in
    λ i. record { key = nat_cmp-IsAntisymmetric x.key y.key parts.0 i; name = slice_cmp-IsAntisymmetric nat_cmp-IsAntisymmetric x.name y.name parts.1 i }

pub paths_apart : IsAntisymmetric (slice_cmp step_cmp)
paths_apart = slice_cmp-IsAntisymmetric steps_apart

abbrev rows_of : List (ℕ × Node) → List (List Step × Item)
rows_of rows = map (λ row. (row.1.path, item_of row.1)) rows

abbrev at_path : List Step → List (ℕ × Node) → Option Item
at_path path rows = find (slice_cmp step_cmp) path (rows_of rows)

get-plain-rows : (nodes : Nodes) (path : List Step) → maps.get (plain nodes) path ≡ at_path path (maps.entries nodes)
unfolding plain
get-plain-rows nodes path = maps.get-from_entries paths_total (rows_of (maps.entries nodes)) path

first_of : (a b : Bool) → T (a && b) → T a
first_of true b t = tt
first_of false b t = absurd t

second_of : (a b : Bool) → T (a && b) → T b
second_of true b t = t
second_of false b t = absurd t

below_found : (low q : ℕ) (node : Node) (rows : List (ℕ × Node)) → T (below_all nat_cmp low rows) → find nat_cmp q rows ≡ Some node → T (is_lt (nat_cmp low q))
below_found low q node [] below found = absurd (none_some node found)
below_found low q node (row ∷ rows) below found = elim (true_or_false (is_eq (nat_cmp q row.0))) [
  | inl is ↦ subst (λ n. T (is_lt (nat_cmp low n))) (sym (nat_cmp-IsAntisymmetric q row.0 ((Equal-is _).0 is))) (first_of (is_lt (nat_cmp low row.0)) (below_all nat_cmp low rows) below)
  | inr is_not ↦ below_found low q node rows (second_of (is_lt (nat_cmp low row.0)) (below_all nat_cmp low rows) below) (sym (ap (λ t. cond t (Some row.1) (find nat_cmp q rows)) is_not) ∙ found)
]

apart : (low q : ℕ) → T (is_lt (nat_cmp low q)) → is_eq (nat_cmp q low) ≡ false
apart low q less = elim (true_or_false (is_eq (nat_cmp q low))) [
  | inl is ↦ absurd (subst (λ r. T (is_lt r)) (ap (nat_cmp low) (nat_cmp-IsAntisymmetric q low ((Equal-is _).0 is)) ∙ tied_itself nat_cmp_total low) less)
  | inr is_not ↦ is_not
]

-- what a path has is some node's
found_path : (path : List Step) (item : Item) (rows : List (ℕ × Node)) → T (is_sorted nat_cmp rows) → at_path path rows ≡ Some item
    → (q : ℕ) × (node : Node) × (find nat_cmp q rows ≡ Some node) × (node.path ≡ path) × (item_of node ≡ item)
found_path path item [] sorted found = absurd (none_some item found)
found_path path item (row ∷ rows) sorted found = elim (true_or_false (is_eq (slice_cmp step_cmp path row.1.path))) [
  | inl is ↦ (
    row.0,
    row.1,
    ap (λ t. cond t (Some row.1) (find nat_cmp row.0 rows)) (ap is_eq (tied_itself nat_cmp_total row.0)),
    sym (paths_apart path row.1.path ((Equal-is _).0 is)),
    same_some _ _ (sym (ap (λ t. cond t (Some (item_of row.1)) (at_path path rows)) is) ∙ found),
  )
  | inr is_not ↦
      let rest = found_path path item rows (second_of (below_all nat_cmp row.0 rows) (is_sorted nat_cmp rows) sorted) (sym (ap (λ t. cond t (Some (item_of row.1)) (at_path path rows)) is_not) ∙ found) in
      let less = below_found row.0 rest.0 rest.1 rows (first_of (below_all nat_cmp row.0 rows) (is_sorted nat_cmp rows) sorted) rest.2 in
      (rest.0, rest.1, ap (λ t. cond t (Some row.1) (find nat_cmp rest.0 rows)) (apart row.0 rest.0 less) ∙ rest.2, rest.3, rest.4)
]

-- a node's path has something
path_found : (q : ℕ) (node : Node) (rows : List (ℕ × Node)) → find nat_cmp q rows ≡ Some node → is_some (at_path node.path rows) ≡ true
path_found q node [] found = absurd (none_some node found)
path_found q node (row ∷ rows) found = elim (true_or_false (is_eq (nat_cmp q row.0))) [
  | inl is ↦ let same : row.1 ≡ node = same_some row.1 node (sym (ap (λ t. cond t (Some row.1) (find nat_cmp q rows)) is) ∙ found) in
      ap (λ t. is_some (cond t (Some (item_of row.1)) (at_path node.path rows))) (ap (λ p. is_eq (slice_cmp step_cmp node.path p)) (ap (λ x. x.path) same) ∙ ap is_eq (tied_itself paths_total node.path))
  | inr is_not ↦ either (is_eq (slice_cmp step_cmp node.path row.1.path)) (path_found q node rows (sym (ap (λ t. cond t (Some row.1) (find nat_cmp q rows)) is_not) ∙ found))
]
  where
    either : (b : Bool) → is_some (at_path node.path rows) ≡ true → is_some (cond b (Some (item_of row.1)) (at_path node.path rows)) ≡ true
    either true some = refl
    either false some = some

some_value : {A : Type 0} (o : Option A) → is_some o ≡ true → (x : A) × (o ≡ Some x)
some_value None e = absurd (false≢true e)
some_value (Some x) e = (x, refl)

same_options : {A : Type 0} (a b : Option A) → ((x : A) → a ≡ Some x → b ≡ Some x) → ((x : A) → b ≡ Some x → a ≡ Some x) → a ≡ b
same_options None None f g = refl
same_options None (Some y) f g = g y refl
same_options (Some x) b f g = sym (f x refl)

-- what stands at a path is a node's
pub standing : (nodes : Nodes) (path : List Step) (item : Item) → maps.get (plain nodes) path ≡ Some item
    → (q : ℕ) × (node : Node) × (maps.get nodes q ≡ Some node) × (node.path ≡ path) × (item_of node ≡ item)
standing nodes path item is =
    let found = found_path path item (maps.entries nodes) (maps.entries_sorted nodes) (sym (get-plain-rows nodes path) ∙ is) in
    (found.0, found.1, maps.get-entries nodes found.0 ∙ found.2, found.3, found.4)

-- a node stands at its path
pub stands : (nodes : Nodes) → ArePathsOnce nodes → (q : ℕ) (node : Node) → maps.get nodes q ≡ Some node → maps.get (plain nodes) node.path ≡ Some (item_of node)
stands nodes once q node held =
    let some = some_value (at_path node.path (maps.entries nodes)) (path_found q node (maps.entries nodes) (sym (maps.get-entries nodes q) ∙ held)) in
    let there = get-plain-rows nodes node.path ∙ some.1 in
    let found = standing nodes node.path some.0 there in
    let number : found.0 ≡ q = once found.0 q node.path (record { node = found.1; held = found.2; at = found.3 }) (record { node = node; held = held; at = refl }) in
    there ∙ ap Some (sym found.4 ∙ ap item_of (same_some found.1 node (sym found.2 ∙ ap (maps.get nodes) number ∙ held)))

pub once_of : (nodes : Nodes) (places : Places) → IsTree nodes places → ArePathsOnce nodes
once_of nodes places tree a b path one other = tree.unique a b one.node other.node one.held other.held (one.at ∙ sym other.at)

-- a change of what stands at one path
module _ (nodes now : Nodes) (once : ArePathsOnce nodes) (once_now : ArePathsOnce now) (path : List Step) (value : Option Item)
    (from_new : (q : ℕ) (y : Node) → maps.get now q ≡ Some y → (y.path ≡ path → value ≡ Some (item_of y)) × ((y.path ≡ path → ⊥) → maps.get nodes q ≡ Some y))
    (from_old : (q : ℕ) (x : Node) → maps.get nodes q ≡ Some x → (x.path ≡ path → ⊥) → maps.get now q ≡ Some x)
    (from_value : (w : Item) → value ≡ Some w → (q : ℕ) × (y : Node) × (maps.get now q ≡ Some y) × (y.path ≡ path) × (item_of y ≡ w)) where
  plain_changed : (q : List Step) → maps.get (plain now) q ≡ cond (eq_by_cmp (slice_cmp step_cmp) q path) value (maps.get (plain nodes) q)
  plain_changed q = elim (true_or_false (eq_by_cmp (slice_cmp step_cmp) q path)) [
    | inl is ↦
        let same : q ≡ path = paths_apart q path ((Equal-is _).0 is) in
        same_options (maps.get (plain now) q) value
        (λ item e. let found = standing now q item e in (from_new found.0 found.1 found.2).0 (found.3 ∙ same) ∙ ap Some found.4)
        (λ item e. let found = from_value item e in ap (maps.get (plain now)) (same ∙ sym found.3) ∙ stands now once_now found.0 found.1 found.2 ∙ ap Some found.4)
        ∙ sym (ap (λ t. cond t value (maps.get (plain nodes) q)) is)
    | inr is_not ↦
        let apart : q ≡ path → ⊥ = λ same. false≢true (sym is_not ∙ ap (λ p. is_eq (slice_cmp step_cmp p path)) same ∙ ap is_eq (tied_itself paths_total path)) in
        same_options (maps.get (plain now) q) (maps.get (plain nodes) q)
        (λ item e. let found = standing now q item e in
        ap (maps.get (plain nodes)) (sym found.3) ∙ stands nodes once found.0 found.1 ((from_new found.0 found.1 found.2).1 (λ same. apart (sym found.3 ∙ same))) ∙ ap Some found.4)
        (λ item e. let found = standing nodes q item e in
        ap (maps.get (plain now)) (sym found.3) ∙ stands now once_now found.0 found.1 (from_old found.0 found.1 found.2 (λ same. apart (sym found.3 ∙ same))) ∙ ap Some found.4)
        ∙ sym (ap (λ t. cond t value (maps.get (plain nodes) q)) is_not)
  ]

-- a node more
pub plain_added : (nodes : Nodes) (number : ℕ) (child : Node) → ArePathsOnce nodes → ArePathsOnce (maps.insert nodes number child) → maps.get nodes number ≡ None → IsFree nodes child.path
    → plain (maps.insert nodes number child) ≡ maps.insert (plain nodes) child.path (item_of child)
plain_added nodes number child once once_now unused free =
    maps.same_map paths_total paths_apart _ _ (λ q. plain_changed nodes (maps.insert nodes number child) once once_now child.path (Some (item_of child)) from_new from_old
    (λ w e. (number, child, put_here, refl, same_some (item_of child) w e)) q ∙ sym (maps.get-insert paths_total (plain nodes) child.path (item_of child) q))
  where
    put_here : maps.get (maps.insert nodes number child) number ≡ Some child
    put_here = get-put nodes number child number ∙ ap (λ t. cond t (Some child) (maps.get nodes number)) (eq-eqb number number refl)

    from_new : (q : ℕ) (y : Node) → maps.get (maps.insert nodes number child) q ≡ Some y → (y.path ≡ child.path → Some (item_of child) ≡ Some (item_of y)) × ((y.path ≡ child.path → ⊥) → maps.get nodes q ≡ Some y)
    from_new q y held = elim (cases_eq q number) [
      | inl same ↦ let is : y ≡ child = same_some y child (sym held ∙ ap (maps.get (maps.insert nodes number child)) same ∙ put_here) in
          (λ _. ap (λ z. Some (item_of z)) (sym is), λ apart. absurd (apart (ap (λ z. z.path) is)))
      | inr other ↦ let old : maps.get nodes q ≡ Some y = sym (get-put nodes number child q ∙ ap (λ t. cond t (Some child) (maps.get nodes q)) (ne_eqb q number other)) ∙ held in
          (λ same. absurd (free q (record { node = y; held = old; at = same })), λ _. old)
    ]

    from_old : (q : ℕ) (x : Node) → maps.get nodes q ≡ Some x → (x.path ≡ child.path → ⊥) → maps.get (maps.insert nodes number child) q ≡ Some x
    from_old q x held apart = get-put nodes number child q ∙ elim (cases_eq q number) [
      | inl same ↦ absurd (none_some x (sym unused ∙ ap (maps.get nodes) (sym same) ∙ held))
      | inr other ↦ ap (λ t. cond t (Some child) (maps.get nodes q)) (ne_eqb q number other) ∙ held
    ]

-- a node less
pub plain_removed : (nodes : Nodes) (number : ℕ) (node : Node) → ArePathsOnce nodes → maps.get nodes number ≡ Some node → plain (maps.remove nodes number) ≡ maps.remove (plain nodes) node.path
plain_removed nodes number node once held =
    maps.same_map paths_total paths_apart _ _ (λ q. plain_changed nodes (maps.remove nodes number) once once_now node.path None from_new from_old (λ w e. absurd (none_some w e)) q
    ∙ sym (maps.get-remove paths_total (plain nodes) node.path q))
  where
    left : (q : ℕ) (y : Node) → maps.get (maps.remove nodes number) q ≡ Some y → (maps.get nodes q ≡ Some y) × (q ≡ number → ⊥)
    left q y is = elim (cases_eq q number) [
      | inl same ↦ absurd (none_some y (sym (get-taken nodes number q ∙ ap (λ t. cond t None (maps.get nodes q)) (eq-eqb q number same)) ∙ is))
      | inr other ↦ (sym (get-taken nodes number q ∙ ap (λ t. cond t None (maps.get nodes q)) (ne_eqb q number other)) ∙ is, other)
    ]

    once_now : ArePathsOnce (maps.remove nodes number)
    once_now a b path one other = once a b path (record { node = one.node; held = (left a one.node one.held).0; at = one.at }) (record { node = other.node; held = (left b other.node other.held).0; at = other.at })

    from_new : (q : ℕ) (y : Node) → maps.get (maps.remove nodes number) q ≡ Some y → (y.path ≡ node.path → None ≡ Some (item_of y)) × ((y.path ≡ node.path → ⊥) → maps.get nodes q ≡ Some y)
    from_new q y is = (λ same. absurd ((left q y is).1 (once q number node.path (record { node = y; held = (left q y is).0; at = same }) (record { node = node; held = held; at = refl }))), λ _. (left q y is).0)

    from_old : (q : ℕ) (x : Node) → maps.get nodes q ≡ Some x → (x.path ≡ node.path → ⊥) → maps.get (maps.remove nodes number) q ≡ Some x
    from_old q x is apart = get-taken nodes number q ∙ ap (λ t. cond t None (maps.get nodes q)) (ne_eqb q number (λ same. apart (ap (λ z. z.path) (same_some x node (sym is ∙ ap (maps.get nodes) same ∙ held))))) ∙ is

-- another node at the same path
pub plain_kept : (nodes : Nodes) (number : ℕ) (node other : Node) → ArePathsOnce nodes → ArePathsOnce (maps.insert nodes number other) → maps.get nodes number ≡ Some node → other.path ≡ node.path
    → plain (maps.insert nodes number other) ≡ maps.insert (plain nodes) node.path (item_of other)
plain_kept nodes number node other once once_now held path =
    maps.same_map paths_total paths_apart _ _ (λ q. plain_changed nodes (maps.insert nodes number other) once once_now node.path (Some (item_of other)) from_new from_old
    (λ w e. (number, other, put_here, path, same_some (item_of other) w e)) q ∙ sym (maps.get-insert paths_total (plain nodes) node.path (item_of other) q))
  where
    put_here : maps.get (maps.insert nodes number other) number ≡ Some other
    put_here = get-put nodes number other number ∙ ap (λ t. cond t (Some other) (maps.get nodes number)) (eq-eqb number number refl)

    from_new : (q : ℕ) (y : Node) → maps.get (maps.insert nodes number other) q ≡ Some y → (y.path ≡ node.path → Some (item_of other) ≡ Some (item_of y)) × ((y.path ≡ node.path → ⊥) → maps.get nodes q ≡ Some y)
    from_new q y is = elim (cases_eq q number) [
      | inl same ↦ let the : y ≡ other = same_some y other (sym is ∙ ap (maps.get (maps.insert nodes number other)) same ∙ put_here) in
          (λ _. ap (λ z. Some (item_of z)) (sym the), λ apart. absurd (apart (ap (λ z. z.path) the ∙ path)))
      | inr differs ↦ let old : maps.get nodes q ≡ Some y = sym (get-put nodes number other q ∙ ap (λ t. cond t (Some other) (maps.get nodes q)) (ne_eqb q number differs)) ∙ is in
          (λ same. absurd (differs (once q number node.path (record { node = y; held = old; at = same }) (record { node = node; held = held; at = refl }))), λ _. old)
    ]

    from_old : (q : ℕ) (x : Node) → maps.get nodes q ≡ Some x → (x.path ≡ node.path → ⊥) → maps.get (maps.insert nodes number other) q ≡ Some x
    from_old q x is apart = get-put nodes number other q
        ∙ ap (λ t. cond t (Some other) (maps.get nodes q)) (ne_eqb q number (λ same. apart (ap (λ z. z.path) (same_some x node (sym is ∙ ap (maps.get nodes) same ∙ held))))) ∙ is

no_rows : {A : Type 0} (rows : List A) → length rows ≡ 0 → rows ≡ []
no_rows [] none = refl
no_rows (row ∷ rows) none = absurd (omega arith)

plain-empty : plain maps.empty ≡ maps.empty
unfolding plain
plain-empty = ap (λ rows. maps.from_entries {R = slice_cmp step_cmp} (rows_of rows)) (no_rows (maps.entries (maps.empty {R = nat_cmp})) (sym (maps.len-entries maps.empty) ∙ maps.len-empty nat_cmp Node))

-- a root alone
pub plain_root : (root : Node) → ArePathsOnce (maps.insert maps.empty 0 root) → plain (maps.insert maps.empty 0 root) ≡ maps.insert maps.empty root.path (item_of root)
plain_root root once =
    plain_added maps.empty 0 root (λ a b path one other. absurd (none_some one.node (sym (maps.get-empty nat_cmp a) ∙ one.held))) once (maps.get-empty nat_cmp 0)
    (λ q at. none_some at.node (sym (maps.get-empty nat_cmp q) ∙ at.held))
    ∙ ap (λ tree. maps.insert tree root.path (item_of root)) plain-empty

pub mirrored : (nodes : Nodes) → ArePathsOnce nodes → IsMirrored nodes
mirrored nodes once = record {
  stands = stands nodes once;
  standing = λ path item is. let found = standing nodes path item is in record { number = found.0; node = found.1; held = found.2; at = found.3; is = found.4 };
}

-- a tree is well made
pub well_made : (nodes : Nodes) (places : Places) → IsTree nodes places → IsWellMade nodes
well_made nodes places tree = record {
  root = ap is_directory tree.root.held ∙ ap is_directory_node tree.root.kind;
  root_path = ap path_of tree.root.held ∙ tree.root.path;
  once = once_of nodes places tree;
  parents = λ number node held apart.
      let was = tree.placed number node held apart in
      record { step = was.step; above = was.above; over = was.over; kind = was.kind; path = was.path };
  mirrored = mirrored nodes (once_of nodes places tree);
}

-- as many paths as rows
len-rows : (rows : List (ℕ × Node)) → T (is_sorted nat_cmp rows)
    → ((a b : ℕ) (x y : Node) → find nat_cmp a rows ≡ Some x → find nat_cmp b rows ≡ Some y → x.path ≡ y.path → a ≡ b)
    → maps.len (maps.from_entries {R = slice_cmp step_cmp} (rows_of rows)) ≡ length rows
len-rows [] sorted once = maps.len-empty (slice_cmp step_cmp) Item
len-rows (row ∷ rows) sorted once =
    let behind = second_of (below_all nat_cmp row.0 rows) (is_sorted nat_cmp rows) sorted in
    maps.len-insert paths_total (maps.from_entries (rows_of rows)) row.1.path (item_of row.1)
    ∙ ap (λ o. cond (is_some o) (maps.len (maps.from_entries {R = slice_cmp step_cmp} (rows_of rows))) (maps.len (maps.from_entries {R = slice_cmp step_cmp} (rows_of rows)) + 1)) new
    ∙ ap (λ n. n + 1) (len-rows rows behind (λ a b x y has having same. once a b x y (lifted a x has) (lifted b y having) same)) ∙ one_more (length rows)
  where
    one_more : (n : ℕ) → n + 1 ≡ suc n
    one_more n = omega arith

    lifted : (q : ℕ) (x : Node) → find nat_cmp q rows ≡ Some x → find nat_cmp q (row ∷ rows) ≡ Some x
    lifted q x is = ap (λ t. cond t (Some row.1) (find nat_cmp q rows)) (apart row.0 q (below_found row.0 q x rows (first_of (below_all nat_cmp row.0 rows) (is_sorted nat_cmp rows) sorted) is)) ∙ is

    here : find nat_cmp row.0 (row ∷ rows) ≡ Some row.1
    here = ap (λ t. cond t (Some row.1) (find nat_cmp row.0 rows)) (ap is_eq (tied_itself nat_cmp_total row.0))

    new : maps.get (maps.from_entries {R = slice_cmp step_cmp} (rows_of rows)) row.1.path ≡ None
    new = none_unless _ (λ item is.
        let found = found_path row.1.path item rows (second_of (below_all nat_cmp row.0 rows) (is_sorted nat_cmp rows) sorted) (sym (maps.get-from_entries paths_total (rows_of rows) row.1.path) ∙ is) in
        let same = once found.0 row.0 found.1 row.1 (lifted found.0 found.1 found.2) here found.3 in
        let less = below_found row.0 found.0 found.1 rows (first_of (below_all nat_cmp row.0 rows) (is_sorted nat_cmp rows) sorted) found.2 in
        subst (λ r. T (is_lt r)) (ap (nat_cmp row.0) same ∙ tied_itself nat_cmp_total row.0) less)

-- as many paths as nodes
pub len-plain : (nodes : Nodes) → ArePathsOnce nodes → maps.len (plain nodes) ≡ maps.len nodes
unfolding plain
len-plain nodes once =
    len-rows (maps.entries nodes) (maps.entries_sorted nodes)
    (λ a b x y has having same. once a b y.path (record { node = x; held = maps.get-entries nodes a ∙ has; at = same }) (record { node = y; held = maps.get-entries nodes b ∙ having; at = refl }))
    ∙ sym (maps.len-entries nodes)

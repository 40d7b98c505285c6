-- How the nodes of an opening come to stand in the tree.
use Rattle.std.proofs.Common.{◌≡◌, ◌⊎◌, ◌&&◌, ◌||◌, ℕ, zero, suc, ◌+◌, ◌<◌, arith, IsTrue, Bool, true, false, cond, eqb, List, [], ◌∷◌, ◌++◌, map, length, take, drop, get_or, Option, Some, None, refl, sym, ap, subst, ◌∙◌, inl, inr}
use Rattle.std.specs.Prelude.{option_map, All}
use Rattle.std.specs.List.{list_any}
use Rattle.std.specs.Str.{bytes_eq}
use Rattle.std.specs.Ordering.{eq_by_cmp, is_eq}
use Rattle.std.specs.Cmp.{Equal-is, tied_itself}
use Rattle.std.specs.Cmp.Lexicographic.{slice_cmp, bytes_decides}
use Rattle.std.specs.FinMap as maps
use Rattle.std.proofs.lemmas.Bool.{eqb-true, false≢true}
use Rattle.access_vectors.specs.Decisions.{Decisions}
use Rattle.file_tree.specs.Nodes.{Nodes, IsFree, is_directory_node, step_from}
use Rattle.file_tree.specs.PlainTree.{PlainTree, Item, IsMirrored, step_cmp, item_of, plain, steps_of}
use Rattle.file_tree.specs.declared.step.Step.{Step}
use Rattle.file_tree.proofs.PlainLemmas.{paths_total, paths_apart}
use Rattle.file_calls.specs.Openings.{IsEntry, AreEntries, has_directory, has_node, is_parent_there, parent_of}
use Rattle.file_calls.specs.Paths.{same_path}
use Rattle.file_calls.specs.States.{laid, root_tree}
use Rattle.file_calls.specs.declared.opening.Node.{Node}
use Rattle.file_store.specs.Laying.{IsDirectoryAt, MayLay, HasLaid}
use Rattle.retained_rights.proofs.MapLemmas.{some_same, none_some}

true_or_false : (b : Bool) → (b ≡ true) ⊎ (b ≡ false)
true_or_false true = inl refl
true_or_false false = inr refl

-- what a node of an opening is
abbrev pub item_for : Node → Item
item_for node = record { label = node.sid; bytes = node.bytes }

paths_itself : (path : List (List ℕ)) → same_path path path ≡ true
paths_itself [] = refl
paths_itself (part ∷ path) = ap (λ b. b && same_path path path) ((bytes_decides part part).1 refl) ∙ paths_itself path

paths_same : (path other : List (List ℕ)) → same_path path other ≡ true → path ≡ other
paths_same [] [] same = refl
paths_same [] (part ∷ other) same = absurd (false≢true same)
paths_same (part ∷ path) [] same = absurd (false≢true same)
paths_same (part ∷ path) (first ∷ other) same = elim (true_or_false (bytes_eq part first)) [
  | inl is ↦ let rest = paths_same path other (sym (ap (λ b. b && same_path path other) is) ∙ same) in λ i. (bytes_decides part first).0 is i ∷ rest i
  | inr is_not ↦ absurd (false≢true (sym (ap (λ b. b && same_path path other) is_not) ∙ same))
]

abbrev names_in : List Step → List (List ℕ)
names_in steps = map (λ step. step.name) steps

names-steps : (path : List (List ℕ)) → names_in (steps_of path) ≡ path
names-steps [] = refl
names-steps (part ∷ path) = ap (λ rest. part ∷ rest) (names-steps path)

-- paths of names are one in the tree exactly where they are the same
tied_as : (path other : List (List ℕ)) → eq_by_cmp (slice_cmp step_cmp) (steps_of path) (steps_of other) ≡ same_path other path
tied_as path other = elim (true_or_false (same_path other path)) [
  | inl is ↦ ap (λ p. is_eq (slice_cmp step_cmp (steps_of path) (steps_of p))) (paths_same other path is) ∙ ap is_eq (tied_itself paths_total (steps_of path)) ∙ sym is
  | inr is_not ↦ elim (true_or_false (eq_by_cmp (slice_cmp step_cmp) (steps_of path) (steps_of other))) [
    | inl tied ↦
        let same : path ≡ other = sym (names-steps path) ∙ ap names_in (paths_apart (steps_of path) (steps_of other) ((Equal-is _).0 tied)) ∙ names-steps other in
        absurd (false≢true (sym is_not ∙ ap (same_path other) same ∙ paths_itself other))
    | inr apart ↦ apart ∙ sym is_not
  ]
]

-- what stands at a path of names after one more item was laid
get-more : (tree : PlainTree) (path other : List (List ℕ)) (item : Item) → maps.get (maps.insert tree (steps_of other) item) (steps_of path) ≡ cond (same_path other path) (Some item) (maps.get tree (steps_of path))
get-more tree path other item = maps.get-insert paths_total tree (steps_of other) item (steps_of path) ∙ ap (λ t. cond t (Some item) (maps.get tree (steps_of path))) (tied_as path other)

any_pushed : {A : Type 0} (p : A → Bool) (xs : List A) (x : A) → list_any p (xs ++ x ∷ []) ≡ (list_any p xs || p x)
any_pushed p [] x = alone (p x)
  where
    alone : (b : Bool) → (b || false) ≡ b
    alone true = refl
    alone false = refl
any_pushed p (y ∷ xs) x = ap (λ b. p y || b) (any_pushed p xs x) ∙ joined (p y) (list_any p xs) (p x)
  where
    joined : (a b c : Bool) → (a || (b || c)) ≡ ((a || b) || c)
    joined true b c = refl
    joined false b c = refl

node_pushed : (before : List Node) (node : Node) (path : List (List ℕ)) → has_node (before ++ node ∷ []) path ≡ (has_node before path || same_path node.path path)
unfolding has_node
node_pushed before node path = any_pushed (λ one. same_path one.path path) before node

directory_pushed : (before : List Node) (node : Node) (path : List (List ℕ)) → has_directory (before ++ node ∷ []) path ≡ (has_directory before path || (is_directory_node node.bytes && same_path node.path path))
unfolding has_directory
directory_pushed before node path = any_pushed (λ one. is_directory_node one.bytes && same_path one.path path) before node

-- a directory among the nodes is one of them
directory_is_node : (before : List Node) (path : List (List ℕ)) → has_directory before path ≡ true → has_node before path ≡ true
unfolding has_directory has_node
directory_is_node [] path is = is
directory_is_node (node ∷ before) path is = elim (true_or_false (same_path node.path path)) [
  | inl same ↦ ap (λ b. b || list_any (λ one. same_path one.path path) before) same
  | inr apart ↦ ap (λ b. b || list_any (λ one. same_path one.path path) before) apart
      ∙ directory_is_node before path (sym (ap (λ b. (b || list_any (λ one. is_directory_node one.bytes && same_path one.path path) before)) (ap (λ b. is_directory_node node.bytes && b) apart ∙ never (is_directory_node node.bytes))) ∙ is)
]
  where
    never : (b : Bool) → (b && false) ≡ false
    never true = refl
    never false = refl

no_bytes : (bytes : Option (List ℕ)) → is_directory_node bytes ≡ true → bytes ≡ None
no_bytes None is = refl
no_bytes (Some bytes) is = absurd (false≢true is)

left_of : (a b : Bool) → (a && b) ≡ true → a ≡ true
left_of true b e = refl
left_of false b e = absurd (false≢true e)

right_of : (a b : Bool) → (a && b) ≡ true → b ≡ true
right_of true b e = e
right_of false b e = absurd (false≢true e)

either_of : (a b : Bool) → (a || b) ≡ true → (a ≡ true) ⊎ (b ≡ true)
either_of true b e = inl refl
either_of false b e = inr e

neither_left : (a b : Bool) → (a || b) ≡ false → a ≡ false
neither_left true b e = e
neither_left false b e = refl

neither_right : (a b : Bool) → (a || b) ≡ false → b ≡ false
neither_right true b e = absurd (false≢true (sym e))
neither_right false b e = e

-- the root alone
pub laid_root : (label : ℕ) → HasLaid (root_tree label) []
unfolding has_directory
laid_root label = record {
  root = ap (option_map (λ (item : Item). item.bytes)) (get-more maps.empty [] [] (record { label = label; bytes = None }));
  directories = λ path is. absurd (no_directory path is);
  free = free;
}
  where
    no_directory : (path : List (List ℕ)) → has_directory [] path ≡ true → ⊥
    no_directory path is = false≢true is

    free : (path : List (List ℕ)) → 0 < length path → has_node [] path ≡ false → maps.get (root_tree label) (steps_of path) ≡ None
    free [] below none = absurd (omega arith)
    free (part ∷ path) below none = get-more maps.empty (part ∷ path) [] (record { label = label; bytes = None }) ∙ maps.get-empty (slice_cmp step_cmp) (steps_of (part ∷ path))

-- one node more
pub laid_more : (tree : PlainTree) (before : List Node) (node : Node) → HasLaid tree before → IsEntry before node → HasLaid (maps.insert tree (steps_of node.path) (item_for node)) (before ++ node ∷ [])
laid_more tree before node laid entry = record { root = root; directories = directories; free = free }
  where
    apart : (path : List (List ℕ)) → IsDirectoryAt tree path → same_path node.path path ≡ false → IsDirectoryAt (maps.insert tree (steps_of node.path) (item_for node)) path
    apart path is other = ap (option_map (λ (item : Item). item.bytes)) (get-more tree path node.path (item_for node) ∙ ap (λ t. cond t (Some (item_for node)) (maps.get tree (steps_of path))) other) ∙ is

    not_root : (path : List (List ℕ)) → 0 < length path → same_path path [] ≡ false
    not_root [] below = absurd (omega arith)
    not_root (part ∷ path) below = refl

    root : IsDirectoryAt (maps.insert tree (steps_of node.path) (item_for node)) []
    root = apart [] laid.root (not_root node.path entry.below)

    directories : (path : List (List ℕ)) → has_directory (before ++ node ∷ []) path ≡ true → IsDirectoryAt (maps.insert tree (steps_of node.path) (item_for node)) path
    directories path is = elim (either_of (has_directory before path) (is_directory_node node.bytes && same_path node.path path) (sym (directory_pushed before node path) ∙ is)) [
      | inl old ↦ apart path (laid.directories path old) (elim (true_or_false (same_path node.path path)) [
        | inl same ↦ absurd (false≢true (sym entry.free ∙ ap (has_node before) (paths_same node.path path same) ∙ directory_is_node before path old))
        | inr other ↦ other
      ])
      | inr new ↦ ap (option_map (λ (item : Item). item.bytes))
          (get-more tree path node.path (item_for node) ∙ ap (λ t. cond t (Some (item_for node)) (maps.get tree (steps_of path))) (right_of (is_directory_node node.bytes) (same_path node.path path) new))
          ∙ ap Some (no_bytes node.bytes (left_of (is_directory_node node.bytes) (same_path node.path path) new))
    ]

    free : (path : List (List ℕ)) → 0 < length path → has_node (before ++ node ∷ []) path ≡ false → maps.get (maps.insert tree (steps_of node.path) (item_for node)) (steps_of path) ≡ None
    free path below none =
        let neither = sym (node_pushed before node path) ∙ none in
        get-more tree path node.path (item_for node) ∙ ap (λ t. cond t (Some (item_for node)) (maps.get tree (steps_of path))) (neither_right (has_node before path) (same_path node.path path) neither)
        ∙ laid.free path below (neither_left (has_node before path) (same_path node.path path) neither)

no_parts : (path : List (List ℕ)) → eqb (length path) 0 ≡ true → path ≡ []
no_parts [] is = refl
no_parts (part ∷ path) is = absurd (omega (arith, eqb-true (suc (length path)) 0 is))

-- a node that may stand behind those that are laid may be laid
pub may_lay : (tree : PlainTree) (before : List Node) (node : Node) → HasLaid tree before → IsEntry before node → MayLay tree node.path
unfolding is_parent_there
may_lay tree before node laid entry = record {
  below = entry.below;
  parent = elim (either_of (eqb (length (parent_of node.path)) 0) (has_directory before (parent_of node.path)) entry.parent) [
    | inl root ↦ subst (IsDirectoryAt tree) (sym (no_parts (parent_of node.path) root)) laid.root
    | inr directory ↦ laid.directories (parent_of node.path) directory
  ];
  free = laid.free node.path entry.below entry.free;
}

-- one node more is laid last
pub laid-pushed : (tree : PlainTree) (before : List Node) (node : Node) → laid tree (before ++ node ∷ []) ≡ maps.insert (laid tree before) (steps_of node.path) (item_for node)
laid-pushed tree [] node = refl
laid-pushed tree (first ∷ before) node = laid-pushed (maps.insert tree (steps_of first.path) (item_for first)) before node

-- each label that stands in a tree is the decider's
abbrev pub AreLabels : Decisions → PlainTree → Type 0
AreLabels d tree = (path : List Step) (item : Item) → maps.get tree path ≡ Some item → IsTrue (d.known item.label)

labels_more : (d : Decisions) (tree : PlainTree) (at : List Step) (item : Item) → AreLabels d tree → IsTrue (d.known item.label) → AreLabels d (maps.insert tree at item)
labels_more d tree at item labels known path found is = elim (true_or_false (eq_by_cmp (slice_cmp step_cmp) path at)) [
  | inl tied ↦ subst (λ (one : Item). IsTrue (d.known one.label)) (some_same item found (sym (ap (λ t. cond t (Some item) (maps.get tree path)) tied) ∙ got)) known
  | inr apart ↦ labels path found (sym (ap (λ t. cond t (Some item) (maps.get tree path)) apart) ∙ got)
]
  where
    got : cond (eq_by_cmp (slice_cmp step_cmp) path at) (Some item) (maps.get tree path) ≡ Some found
    got = sym (maps.get-insert paths_total tree at item path) ∙ is

pub labels_root : (d : Decisions) (label : ℕ) → IsTrue (d.known label) → AreLabels d (root_tree label)
labels_root d label known = labels_more d maps.empty [] (record { label = label; bytes = None }) (λ path item is. absurd (none_some item (sym (maps.get-empty (slice_cmp step_cmp) path) ∙ is))) known

-- a path of names with one more name
pub steps_pushed : (above : List (List ℕ)) (name : List ℕ) → step_from (steps_of above) 0 name ≡ steps_of (above ++ name ∷ [])
steps_pushed [] name = refl
steps_pushed (part ∷ above) name = ap (λ rest. record { key = 0; name = part } ∷ rest) (steps_pushed above name)

-- nothing stands where the plain tree has nothing
pub nothing_at : (nodes : Nodes) → IsMirrored nodes → (path : List Step) → maps.get (plain nodes) path ≡ None → IsFree nodes path
nothing_at nodes mirrored path none number at =
    none_some (item_of at.node) (sym none ∙ ap (maps.get (plain nodes)) (sym at.at) ∙ mirrored.stands number at.node at.held)

-- the labels of the nodes are those of the plain tree
pub known_nodes : (d : Decisions) (nodes : Nodes) → IsMirrored nodes → AreLabels d (plain nodes) → (number : ℕ) (node : Rattle.file_tree.specs.declared.node.Node.Node) → maps.get nodes number ≡ Some node → IsTrue (d.known node.label)
known_nodes d nodes mirrored labels number node is = labels node.path (item_of node) (mirrored.stands number node is)

pub labels_laid : (d : Decisions) (tree : PlainTree) (nodes : List Node) → AreLabels d tree → All (λ node. IsTrue (d.known node.sid)) nodes → AreLabels d (laid tree nodes)
labels_laid d tree [] labels all = labels
labels_laid d tree (node ∷ nodes) labels all =
    labels_laid d (maps.insert tree (steps_of node.path) (item_for node)) nodes
    (labels_more d tree (steps_of node.path) (item_for node) labels (all 0 node (omega arith)))
    (λ k default less. all (suc k) default (omega arith))

-- the nodes that are still to be laid may be laid behind those that are
abbrev pub IsLaying : PlainTree → ℕ → List Node → ℕ → Type 0
IsLaying tree label nodes done = (tree ≡ laid (root_tree label) (take done nodes)) × HasLaid tree (take done nodes) × AreEntries (take done nodes) (drop done nodes)

split_at : (nodes : List Node) (done : ℕ) (default : Node) → done < length nodes
    → (drop done nodes ≡ get_or nodes done default ∷ drop (suc done) nodes) × (take (suc done) nodes ≡ take done nodes ++ get_or nodes done default ∷ [])
split_at [] done default less = absurd (omega arith)
split_at (node ∷ nodes) zero default less = (refl, refl)
split_at (node ∷ nodes) (suc done) default less =
    let rest = split_at nodes done default (omega arith) in
    (rest.0, ap (λ front. node ∷ front) rest.1)

pub laying_first : (label : ℕ) (nodes : List Node) (tree : PlainTree) → tree ≡ root_tree label → AreEntries [] nodes → IsLaying tree label nodes 0
laying_first label nodes tree is entries = (is, subst (λ t. HasLaid t []) (sym is) (laid_root label), entries)

more_by_one : (n : ℕ) → suc n ≡ n + 1
more_by_one n = omega arith

pub laying_next : (tree now : PlainTree) (label : ℕ) (nodes : List Node) (done : ℕ) (node : Node) → done < length nodes → node ≡ get_or nodes done node → IsLaying tree label nodes done
    → now ≡ maps.insert tree (steps_of node.path) (item_for node) → IsLaying now label nodes (done + 1)
laying_next tree now label nodes done node less is laying made = subst (IsLaying now label nodes) (more_by_one done) (
  made ∙ ap (λ t. maps.insert t (steps_of node.path) (item_for node)) laying.0 ∙ sym (laid-pushed (root_tree label) (take done nodes) node) ∙ ap (laid (root_tree label)) (sym front),
  subst (HasLaid now) (sym front) (subst (λ t. HasLaid t (take done nodes ++ node ∷ [])) (sym made) (laid_more tree (take done nodes) node laying.1 entries.0)),
  subst (λ f. AreEntries f (drop (suc done) nodes)) (sym front) entries.1,
)
  where
    front : take (suc done) nodes ≡ take done nodes ++ node ∷ []
    front = (split_at nodes done node less).1 ∙ ap (λ n. take done nodes ++ n ∷ []) (sym is)

    back : drop done nodes ≡ node ∷ drop (suc done) nodes
    back = (split_at nodes done node less).0 ∙ ap (λ n. n ∷ drop (suc done) nodes) (sym is)

    entries : AreEntries (take done nodes) (node ∷ drop (suc done) nodes)
    entries = subst (AreEntries (take done nodes)) back laying.2

pub laying_may : (tree : PlainTree) (label : ℕ) (nodes : List Node) (done : ℕ) (node : Node) → done < length nodes → node ≡ get_or nodes done node → IsLaying tree label nodes done → MayLay tree node.path
laying_may tree label nodes done node less is laying =
    let split = split_at nodes done node less in
    let back : drop done nodes ≡ node ∷ drop (suc done) nodes = split.0 ∙ ap (λ n. n ∷ drop (suc done) nodes) (sym is) in
    let entries : AreEntries (take done nodes) (node ∷ drop (suc done) nodes) = subst (AreEntries (take done nodes)) back laying.2 in
    may_lay tree (take done nodes) node laying.1 entries.0

all_taken : {A : Type 0} (xs : List A) → take (length xs) xs ≡ xs
all_taken [] = refl
all_taken (x ∷ xs) = ap (λ rest. x ∷ rest) (all_taken xs)

pub laying_done : (tree : PlainTree) (label : ℕ) (nodes : List Node) (done : ℕ) → done ≡ length nodes → IsLaying tree label nodes done → tree ≡ laid (root_tree label) nodes
laying_done tree label nodes done is laying = laying.0 ∙ ap (λ n. laid (root_tree label) (take n nodes)) is ∙ ap (laid (root_tree label)) (all_taken nodes)

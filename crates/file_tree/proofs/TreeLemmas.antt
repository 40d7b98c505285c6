-- The nodes and the index of entries stay a tree.
use Rattle.std.proofs.Common.{◌≡◌, ◌⊎◌, ℕ, ◌+◌, ◌*◌, ◌<◌, zero, suc, ◌||◌, ◌≤◌, length, map, not, cond, Bool, true, false, ◌&&◌, eqb, List, [], ◌∷◌, ◌++◌, Option, None, Some, refl, sym, ap, subst, ◌∙◌, inl, inr, arith, ◌-◌, is_some}
use Rattle.std.specs.Prelude.{MatchOption, MatchBool}
use Rattle.std.specs.List.{list_any}
use Rattle.std.specs.Str.{bytes_eq}
use Rattle.std.specs.Ordering.{nat_cmp}
use Rattle.std.specs.Cmp.{nat_cmp_total}
use Rattle.std.specs.Cmp.Lexicographic.{slice_cmp}
use Rattle.std.specs.FinMap as maps
use Rattle.std.proofs.lemmas.Bool.{cases_eq, eq-eqb, ne_eqb, false≢true}
use Rattle.slot_tables.proofs.SlotLemmas.{get-put, get-taken, get-map_of, same_maps, used_within}
use Rattle.slot_tables.specs.Slots.{map_of, slots_from, slot_at}
use Rattle.file_tree.specs.Shelves.{Numbers, Places, place_of, number_on, number_at, changed_at, names_on, count_on}
use Rattle.file_tree.specs.declared.step.Step.{Step}
use Rattle.file_tree.specs.declared.node.Node.{Node}
use Rattle.file_tree.specs.Nodes.{Nodes, IsAt, IsFree, HasNoEntry, IsTree, IsPlaced, IsListed, IsRoot, IsShelf, HasEntry, is_in, added, is_directory, is_directory_node, path_of, path_in, step_from}
use Rattle.file_tree.proofs.RowLemmas.{true_or_false}
use Rattle.file_tree.proofs.EntryLemmas.{number_at-is}
use Rattle.file_tree.proofs.Paths.{same_front, same_last, not_empty, same_some, none_some, none_unless, same_name, the_name}

no_bytes : (bytes : Option (List ℕ)) → is_directory_node bytes ≡ true → bytes ≡ None
no_bytes None e = refl
no_bytes (Some bytes) e = absurd (false≢true e)

pub directory_is : (node : Option Node) → is_directory node ≡ true → (x : Node) × (node ≡ Some x) × (x.bytes ≡ None)
directory_is None e = absurd (false≢true e)
directory_is (Some x) e = (x, refl, no_bytes x.bytes e)

module _ (nodes : Nodes) (places : Places) (tree : IsTree nodes places) where
  -- what stands below a path is not the root
  below_root : (path : List Step) (step : Step) (number : ℕ) (node : Node) → maps.get nodes number ≡ Some node → node.path ≡ path ++ step ∷ [] → number ≡ 0 → ⊥
  below_root path step number node held at is_root =
      let root : IsRoot nodes = tree.root in
      not_empty path step (sym root.path ∙ ap (λ x. x.path) (same_some root.node node (sym root.held ∙ ap (maps.get nodes) (sym is_root) ∙ held)) ∙ at)

  -- an entry of the index is where it says
  pub listed_at : (directory key : ℕ) (name : List ℕ) (number : ℕ) → key < 65536 → number_at places (place_of directory key) name ≡ Some number
      → IsAt nodes (step_from (path_in nodes directory) key name) number
  listed_at directory key name number small there =
      let found : IsListed nodes (place_of directory key) name number = tree.listed _ _ _ there in
      let within : found.key < 65536 = found.small in
      let here : 65536 * directory + key ≡ 65536 * found.node.parent + found.key = found.here in
      let parent : directory ≡ found.node.parent = omega arith in
      let same_key : key ≡ found.key = omega arith in
      let path : path_in nodes directory ≡ found.above.path = ap path_of (ap (maps.get nodes) parent ∙ found.over) in
      record { node = found.node; held = found.held; at = found.path ∙ (λ i. step_from (sym path i) (sym same_key i) name) }

  -- what stands below a directory is in the index
  pub at_listed : (directory : ℕ) (x : Node) → maps.get nodes directory ≡ Some x → (key : ℕ) (name : List ℕ) (number : ℕ)
      → IsAt nodes (step_from x.path key name) number → number_at places (place_of directory key) name ≡ Some number
  at_listed directory x held key name number standing =
      let step : Step = record { key = key; name = name } in
      let placed : IsPlaced nodes places number standing.node = tree.placed number standing.node standing.held (below_root x.path step number standing.node standing.held standing.at) in
      let path = sym placed.path ∙ standing.at in
      let parent : standing.node.parent ≡ directory = tree.unique _ _ _ _ placed.over held (same_front placed.above.path x.path placed.step step path) in
      let same_step : placed.step ≡ step = same_last placed.above.path x.path placed.step step path in
      (λ i. number_at places (place_of (sym parent i) (sym same_step i).key) (sym same_step i).name) ∙ placed.there

  pub entry-is : (directory key : ℕ) (name : List ℕ) → is_directory (maps.get nodes directory) ≡ true → key < 65536
      → (found : Option ℕ) → found ≡ number_at places (place_of directory key) name
      → MatchOption found (IsFree nodes (step_from (path_in nodes directory) key name)) (IsAt nodes (step_from (path_in nodes directory) key name))
  entry-is directory key name kind small None is = λ number standing.
      let known = directory_is _ kind in
      none_some number (is ∙ at_listed directory known.0 known.1 key name number (record { node = standing.node; held = standing.held; at = standing.at ∙ ap (λ p. step_from p key name) (ap path_of known.1) }))
  entry-is directory key name kind small (Some number) is = listed_at directory key name number small (sym is)

  module _ (now : Places) (directory key : ℕ) (name : List ℕ) (label : ℕ) (bytes : Option (List ℕ)) (number : ℕ)
      (kind : is_directory (maps.get nodes directory) ≡ true) (small : key < 65536) (free : IsFree nodes (step_from (path_in nodes directory) key name)) (unused : maps.get nodes number ≡ None)
      (changed : (p : ℕ) (q : List ℕ) → number_at now p q ≡ changed_at places (place_of directory key) name (Some number) p q) where
    abbrev pub child : Node
    child = added nodes directory key name label bytes

    lifted : (q : ℕ) (x : Node) → maps.get nodes q ≡ Some x → maps.get (maps.insert nodes number child) q ≡ Some x
    lifted q x held = get-put nodes number child q ∙ elim (cases_eq q number) [
      | inl same ↦ absurd (none_some x (sym unused ∙ ap (maps.get nodes) (sym same) ∙ held))
      | inr apart ↦ ap (λ t. cond t (Some child) (maps.get nodes q)) (ne_eqb q number apart) ∙ held
    ]

    the_child : maps.get (maps.insert nodes number child) number ≡ Some child
    the_child = get-put nodes number child number ∙ ap (λ t. cond t (Some child) (maps.get nodes number)) (eq-eqb number number refl)

    -- a node is the new one or an old one
    new_or_old : (q : ℕ) (x : Node) → maps.get (maps.insert nodes number child) q ≡ Some x → ((q ≡ number) × (x ≡ child)) ⊎ (maps.get nodes q ≡ Some x)
    new_or_old q x held = elim (cases_eq q number) [
      | inl same ↦ inl (same, same_some x child (sym held ∙ ap (maps.get (maps.insert nodes number child)) same ∙ the_child))
      | inr apart ↦ inr (sym (get-put nodes number child q ∙ ap (λ t. cond t (Some child) (maps.get nodes q)) (ne_eqb q number apart)) ∙ held)
    ]

    nothing_there : number_at places (place_of directory key) name ≡ None
    nothing_there = none_unless _ (λ other there. free other (listed_at directory key name other small there))

    kept_there : (p : ℕ) (q : List ℕ) (other : ℕ) → number_at places p q ≡ Some other → number_at now p q ≡ Some other
    kept_there p q other there = changed p q ∙ elim (true_or_false (eqb p (place_of directory key) && bytes_eq q name)) [
      | inl is ↦ let same = same_name p (place_of directory key) q name is in
          absurd (none_some other (sym nothing_there ∙ (λ i. number_at places (sym same.0 i) (sym same.1 i)) ∙ there))
      | inr apart ↦ ap (λ t. cond t (Some number) (number_at places p q)) apart ∙ there
    ]

    child_there : number_at now (place_of directory key) name ≡ Some number
    child_there = changed _ _ ∙ ap (λ t. cond t (Some number) (number_at places (place_of directory key) name)) (the_name (place_of directory key) name)

    over_child : (x : Node) × (maps.get nodes directory ≡ Some x) × (x.bytes ≡ None)
    over_child = directory_is _ kind

    child_path : child.path ≡ step_from over_child.0.path key name
    child_path = ap (λ p. step_from p key name) (ap path_of over_child.1)

    placed : (q : ℕ) (x : Node) → maps.get (maps.insert nodes number child) q ≡ Some x → (q ≡ 0 → ⊥) → IsPlaced (maps.insert nodes number child) now q x
    placed q x held apart = elim (new_or_old q x held) [
      | inl new ↦ subst (λ r. IsPlaced (maps.insert nodes number child) now r x) (sym new.0) (subst (IsPlaced (maps.insert nodes number child) now number) (sym new.1) (record {
        step = record { key = key; name = name };
        above = over_child.0;
        over = lifted directory over_child.0 over_child.1;
        kind = over_child.2;
        path = child_path;
        small = small;
        there = child_there;
      }))
      | inr old ↦ let was : IsPlaced nodes places q x = tree.placed q x old apart in record {
        step = was.step;
        above = was.above;
        over = lifted x.parent was.above was.over;
        kind = was.kind;
        path = was.path;
        small = was.small;
        there = kept_there (place_of x.parent was.step.key) was.step.name q was.there;
      }
    ]

    listed : (p : ℕ) (q : List ℕ) (other : ℕ) → number_at now p q ≡ Some other → IsListed (maps.insert nodes number child) p q other
    listed p q other there = elim (true_or_false (eqb p (place_of directory key) && bytes_eq q name)) [
      | inl is ↦ let same = same_name p (place_of directory key) q name is in
          let new : number ≡ other = same_some number other (sym (ap (λ t. cond t (Some number) (number_at places p q)) is) ∙ sym (changed p q) ∙ there) in
          record {
            node = child;
            held = ap (maps.get (maps.insert nodes number child)) (sym new) ∙ the_child;
            above = over_child.0;
            over = lifted directory over_child.0 over_child.1;
            key = key;
            small = small;
            here = same.0;
            path = child_path ∙ ap (step_from over_child.0.path key) (sym same.1);
          }
      | inr apart ↦ let was : IsListed nodes p q other = tree.listed p q other (sym (ap (λ t. cond t (Some number) (number_at places p q)) apart) ∙ sym (changed p q) ∙ there) in record {
        node = was.node;
        held = lifted other was.node was.held;
        above = was.above;
        over = lifted was.node.parent was.above was.over;
        key = was.key;
        small = was.small;
        here = was.here;
        path = was.path;
      }
    ]

    -- an old node does not stand at the new one's path
    elsewhere : (q : ℕ) (x : Node) → maps.get nodes q ≡ Some x → x.path ≡ child.path → ⊥
    elsewhere q x held same = free q (record { node = x; held = held; at = same })

    unique : (a b : ℕ) (x y : Node) → maps.get (maps.insert nodes number child) a ≡ Some x → maps.get (maps.insert nodes number child) b ≡ Some y → x.path ≡ y.path → a ≡ b
    unique a b x y has having same = elim (new_or_old a x has) [
      | inl new ↦ elim (new_or_old b y having) [
        | inl other ↦ new.0 ∙ sym other.0
        | inr old ↦ absurd (elsewhere b y old (sym same ∙ ap (λ z. z.path) new.1))
      ]
      | inr old ↦ elim (new_or_old b y having) [
        | inl other ↦ absurd (elsewhere a x old (same ∙ ap (λ z. z.path) other.1))
        | inr older ↦ tree.unique a b x y old older same
      ]
    ]

    pub added_tree : IsTree (maps.insert nodes number child) now
    added_tree = record {
      root = record { node = tree.root.node; held = lifted 0 tree.root.node tree.root.held; path = tree.root.path; kind = tree.root.kind };
      placed = placed;
      listed = listed;
      unique = unique;
    }

  module _ (now : Places) (number : ℕ) (node : Node) (held : maps.get nodes number ≡ Some node) (apart : number ≡ 0 → ⊥) (empty : HasNoEntry nodes node.path) (key : ℕ) (name : List ℕ)
      (path : List Step) (at : node.path ≡ step_from path key name)
      (changed : (p : ℕ) (q : List ℕ) → number_at now p q ≡ changed_at places (place_of node.parent key) name None p q) where
    left : (q : ℕ) (x : Node) → maps.get nodes q ≡ Some x → (q ≡ number → ⊥) → maps.get (maps.remove nodes number) q ≡ Some x
    left q x is other = get-taken nodes number q ∙ ap (λ t. cond t None (maps.get nodes q)) (ne_eqb q number other) ∙ is

    -- what is left was there, and is another node
    was_left : (q : ℕ) (x : Node) → maps.get (maps.remove nodes number) q ≡ Some x → (maps.get nodes q ≡ Some x) × (q ≡ number → ⊥)
    was_left q x is = elim (cases_eq q number) [
      | inl same ↦ absurd (none_some x (sym (get-taken nodes number q ∙ ap (λ t. cond t None (maps.get nodes q)) (eq-eqb q number same)) ∙ is))
      | inr other ↦ (sym (get-taken nodes number q ∙ ap (λ t. cond t None (maps.get nodes q)) (ne_eqb q number other)) ∙ is, other)
    ]

    -- the node is above no other
    above_none : (q : ℕ) (x above : Node) (step : Step) → maps.get nodes q ≡ Some x → maps.get nodes x.parent ≡ Some above → x.path ≡ above.path ++ step ∷ [] → x.parent ≡ number → ⊥
    above_none q x above step is over below same =
        empty step q (record { node = x; held = is; at = below ∙ ap (λ p. p ++ step ∷ []) (ap (λ z. z.path) (same_some above node (sym over ∙ ap (maps.get nodes) same ∙ held))) })

    its_step : (was : IsPlaced nodes places number node) → was.step ≡ record { key = key; name = name }
    its_step was = same_last was.above.path path was.step (record { key = key; name = name }) (sym was.path ∙ at)

    -- the entry that goes is the node's
    there_before : number_at places (place_of node.parent key) name ≡ Some number
    there_before =
        let was : IsPlaced nodes places number node = tree.placed number node held apart in
        (λ i. number_at places (place_of node.parent (sym (its_step was) i).key) (sym (its_step was) i).name) ∙ was.there

    still_there : (p : ℕ) (q : List ℕ) (other : ℕ) → number_at places p q ≡ Some other → (other ≡ number → ⊥) → number_at now p q ≡ Some other
    still_there p q other there differs = changed p q ∙ elim (true_or_false (eqb p (place_of node.parent key) && bytes_eq q name)) [
      | inl is ↦ let same = same_name p (place_of node.parent key) q name is in
          absurd (differs (same_some other number (sym there ∙ (λ i. number_at places (same.0 i) (same.1 i)) ∙ there_before)))
      | inr other_name ↦ ap (λ t. cond t None (number_at places p q)) other_name ∙ there
    ]

    placed_left : (q : ℕ) (x : Node) → maps.get (maps.remove nodes number) q ≡ Some x → (q ≡ 0 → ⊥) → IsPlaced (maps.remove nodes number) now q x
    placed_left q x is below =
        let before = was_left q x is in
        let was : IsPlaced nodes places q x = tree.placed q x before.0 below in
        record {
          step = was.step;
          above = was.above;
          over = left x.parent was.above was.over (above_none q x was.above was.step before.0 was.over was.path);
          kind = was.kind;
          path = was.path;
          small = was.small;
          there = still_there (place_of x.parent was.step.key) was.step.name q was.there before.1;
        }

    listed_left : (p : ℕ) (q : List ℕ) (other : ℕ) → number_at now p q ≡ Some other → IsListed (maps.remove nodes number) p q other
    listed_left p q other there = elim (true_or_false (eqb p (place_of node.parent key) && bytes_eq q name)) [
      | inl is ↦ absurd (none_some other (sym (ap (λ t. cond t None (number_at places p q)) is) ∙ sym (changed p q) ∙ there))
      | inr other_name ↦
          let before : number_at places p q ≡ Some other = sym (ap (λ t. cond t None (number_at places p q)) other_name) ∙ sym (changed p q) ∙ there in
          let was : IsListed nodes p q other = tree.listed p q other before in
          record {
            node = was.node;
            held = left other was.node was.held (λ same. false≢true (sym other_name ∙ its_name p q other was same));
            above = was.above;
            over = left was.node.parent was.above was.over (above_none other was.node was.above (record { key = was.key; name = q }) was.held was.over was.path);
            key = was.key;
            small = was.small;
            here = was.here;
            path = was.path;
          }
    ]
      where
        its_name : (p : ℕ) (q : List ℕ) (other : ℕ) (was : IsListed nodes p q other) → other ≡ number → (eqb p (place_of node.parent key) && bytes_eq q name) ≡ true
        its_name p q other was same =
            let node_is : was.node ≡ node = same_some was.node node (sym was.held ∙ ap (maps.get nodes) same ∙ held) in
            let step : ◌≡◌ {A = Step} (record { key = was.key; name = q }) (record { key = key; name = name }) =
            same_last was.above.path path (record { key = was.key; name = q }) (record { key = key; name = name }) (sym was.path ∙ ap (λ z. z.path) node_is ∙ at) in
            (λ i. eqb (was.here i) (place_of node.parent key) && bytes_eq (step i).name name)
            ∙ (λ i. eqb (place_of (node_is i).parent (step i).key) (place_of node.parent key) && bytes_eq name name)
            ∙ the_name (place_of node.parent key) name

    pub removed_tree : IsTree (maps.remove nodes number) now
    removed_tree = record {
      root = record { node = tree.root.node; held = left 0 tree.root.node tree.root.held (λ same. apart (sym same)); path = tree.root.path; kind = tree.root.kind };
      placed = placed_left;
      listed = listed_left;
      unique = λ a b x y has having same. tree.unique a b x y (was_left a x has).0 (was_left b y having).0 same;
    }

  module _ (number : ℕ) (node other : Node) (held : maps.get nodes number ≡ Some node) (parent : other.parent ≡ node.parent) (path : other.path ≡ node.path) (kind : node.bytes ≡ None → other.bytes ≡ None) where
    -- a node and the one that stands in its place
    record Like (x y : Node) : Type 0 where
      same_parent : y.parent ≡ x.parent
      same_path : y.path ≡ x.path
      same_kind : x.bytes ≡ None → y.bytes ≡ None

    moved : (q : ℕ) (x : Node) → maps.get nodes q ≡ Some x → (y : Node) × (maps.get (maps.insert nodes number other) q ≡ Some y) × Like x y
    moved q x is = elim (cases_eq q number) [
      | inl same ↦ let node_is : x ≡ node = same_some x node (sym is ∙ ap (maps.get nodes) same ∙ held) in (
        other,
        get-put nodes number other q ∙ ap (λ t. cond t (Some other) (maps.get nodes q)) (eq-eqb q number same),
        record { same_parent = parent ∙ ap (λ z. z.parent) (sym node_is); same_path = path ∙ ap (λ z. z.path) (sym node_is); same_kind = λ none. kind (ap (λ z. z.bytes) (sym node_is) ∙ none) },
      )
      | inr apart ↦ (x, get-put nodes number other q ∙ ap (λ t. cond t (Some other) (maps.get nodes q)) (ne_eqb q number apart) ∙ is, record { same_parent = refl; same_path = refl; same_kind = λ none. none })
    ]

    came : (q : ℕ) (y : Node) → maps.get (maps.insert nodes number other) q ≡ Some y → (x : Node) × (maps.get nodes q ≡ Some x) × Like x y
    came q y is = elim (cases_eq q number) [
      | inl same ↦ let other_is : y ≡ other = same_some y other (sym is ∙ get-put nodes number other q ∙ ap (λ t. cond t (Some other) (maps.get nodes q)) (eq-eqb q number same)) in (
        node,
        ap (maps.get nodes) same ∙ held,
        record { same_parent = ap (λ z. z.parent) other_is ∙ parent; same_path = ap (λ z. z.path) other_is ∙ path; same_kind = λ none. ap (λ z. z.bytes) other_is ∙ kind none },
      )
      | inr apart ↦ (y, sym (get-put nodes number other q ∙ ap (λ t. cond t (Some other) (maps.get nodes q)) (ne_eqb q number apart)) ∙ is, record { same_parent = refl; same_path = refl; same_kind = λ none. none })
    ]

    placed_kept : (q : ℕ) (y : Node) → maps.get (maps.insert nodes number other) q ≡ Some y → (q ≡ 0 → ⊥) → IsPlaced (maps.insert nodes number other) places q y
    placed_kept q y is apart =
        let before = came q y is in
        let was : IsPlaced nodes places q before.0 = tree.placed q before.0 before.1 apart in
        let over = moved before.0.parent was.above was.over in
        record {
          step = was.step;
          above = over.0;
          over = ap (maps.get (maps.insert nodes number other)) before.2.same_parent ∙ over.1;
          kind = over.2.same_kind was.kind;
          path = before.2.same_path ∙ was.path ∙ ap (λ p. p ++ was.step ∷ []) (sym over.2.same_path);
          small = was.small;
          there = ap (λ d. number_at places (place_of d was.step.key) was.step.name) before.2.same_parent ∙ was.there;
        }

    listed_kept : (p : ℕ) (q : List ℕ) (at : ℕ) → number_at places p q ≡ Some at → IsListed (maps.insert nodes number other) p q at
    listed_kept p q at there =
        let was : IsListed nodes p q at = tree.listed p q at there in
        let now = moved at was.node was.held in
        let over = moved was.node.parent was.above was.over in
        record {
          node = now.0;
          held = now.1;
          above = over.0;
          over = ap (maps.get (maps.insert nodes number other)) now.2.same_parent ∙ over.1;
          key = was.key;
          small = was.small;
          here = was.here ∙ ap (λ d. place_of d was.key) (sym now.2.same_parent);
          path = now.2.same_path ∙ was.path ∙ ap (λ p. step_from p was.key q) (sym over.2.same_path);
        }

    -- a node whose label or bytes are others
    pub kept_tree : IsTree (maps.insert nodes number other) places
    kept_tree = record {
      root = let root = moved 0 tree.root.node tree.root.held in
          record { node = root.0; held = root.1; path = root.2.same_path ∙ tree.root.path; kind = root.2.same_kind tree.root.kind };
      placed = placed_kept;
      listed = listed_kept;
      unique = λ a b x y has having same.
          let before = came a x has in let after = came b y having in
          tree.unique a b before.0 after.0 before.1 after.1 (sym before.2.same_path ∙ same ∙ after.2.same_path);
    }

module _ (nodes : Nodes) (number : ℕ) where
  -- a node that was taken out and put back as another
  pub put_back : (other : Node) → maps.insert (maps.remove nodes number) number other ≡ maps.insert nodes number other
  put_back other = same_maps _ _ (λ q. get-put (maps.remove nodes number) number other q ∙ elim (cases_eq q number) [
    | inl same ↦ ap (λ t. cond t (Some other) (maps.get (maps.remove nodes number) q)) (eq-eqb q number same) ∙ sym (ap (λ t. cond t (Some other) (maps.get nodes q)) (eq-eqb q number same))
    | inr apart ↦ ap (λ t. cond t (Some other) (maps.get (maps.remove nodes number) q)) (ne_eqb q number apart) ∙ get-taken nodes number q ∙ ap (λ t. cond t None (maps.get nodes q)) (ne_eqb q number apart)
        ∙ sym (ap (λ t. cond t (Some other) (maps.get nodes q)) (ne_eqb q number apart))
  ] ∙ sym (get-put nodes number other q))

  -- nothing to take out
  pub nothing_out : maps.get nodes number ≡ None → maps.remove nodes number ≡ nodes
  nothing_out none = same_maps _ _ (λ q. get-taken nodes number q ∙ elim (cases_eq q number) [
    | inl same ↦ ap (λ t. cond t None (maps.get nodes q)) (eq-eqb q number same) ∙ sym (ap (maps.get nodes) same ∙ none)
    | inr apart ↦ ap (λ t. cond t None (maps.get nodes q)) (ne_eqb q number apart)
  ])

-- the tree of a root alone
module _ (root : Node) (path : root.path ≡ []) (kind : root.bytes ≡ None) where
  alone : (q : ℕ) (x : Node) → maps.get (maps.insert (maps.empty {R = nat_cmp}) 0 root) q ≡ Some x → q ≡ 0
  alone q x is = elim (cases_eq q 0) [
    | inl same ↦ same
    | inr apart ↦ absurd (none_some x (sym (get-put (maps.empty {R = nat_cmp}) 0 root q ∙ ap (λ t. cond t (Some root) (maps.get (maps.empty {R = nat_cmp}) q)) (ne_eqb q 0 apart) ∙ maps.get-empty nat_cmp q) ∙ is))
  ]

  pub root_tree : IsTree (maps.insert (maps.empty {R = nat_cmp}) 0 root) maps.empty
  root_tree = record {
    root = record { node = root; held = get-put (maps.empty {R = nat_cmp}) 0 root 0; path = path; kind = kind };
    placed = λ q x is apart. absurd (apart (alone q x is));
    listed = λ p name q is. absurd (none_some q (sym (number_at-is maps.empty p name ∙ ap (λ s. number_on s name) (maps.get-empty nat_cmp p)) ∙ is));
    unique = λ a b x y has having same. alone a x has ∙ sym (alone b y having);
  }

-- the slots of a root alone
pub root_slots : (root : Node) → map_of (Some root ∷ []) ≡ maps.insert maps.empty 0 root
unfolding map_of slots_from
root_slots root = refl

-- a slot that holds no node
pub no_node : (slots : List (Option Node)) (number : ℕ) → length slots ≤ number → maps.get (map_of slots) number ≡ None
no_node slots number past = none_unless _ (λ node is. absurd (omega (arith, used_within slots number node is)))

-- a file is no directory
pub no_directory : (bytes : Option (List ℕ)) → not (is_directory_node bytes) ≡ true → bytes ≡ None → ⊥
no_directory bytes file none = false≢true (ap (λ b. not (is_directory_node b)) (sym none) ∙ file)

-- the shelf at a place, empty where there is none
abbrev pub shelf_or : Option Numbers → Numbers
shelf_or None = maps.empty
shelf_or (Some shelf) = shelf

number-or : (shelf : Option Numbers) (name : List ℕ) → maps.get (shelf_or shelf) name ≡ number_on shelf name
number-or None name = maps.get-empty (slice_cmp nat_cmp) name
number-or (Some shelf) name = refl

no_members : {A : Type 0} (xs : List A) → length xs ≡ 0 → xs ≡ []
no_members [] none = refl
no_members (x ∷ xs) none = absurd (omega arith)

pub names-or : (shelf : Option Numbers) → names_on shelf ≡ maps.keys (shelf_or shelf)
names-or None = sym (ap (map (λ e. e.0)) (no_members (maps.entries (maps.empty {R = slice_cmp nat_cmp})) (sym (maps.len-entries maps.empty) ∙ maps.len-empty (slice_cmp nat_cmp) ℕ)))
names-or (Some shelf) = refl

pub count-or : (shelf : Option Numbers) → count_on shelf ≡ maps.len (shelf_or shelf)
count-or None = sym (maps.len-empty (slice_cmp nat_cmp) ℕ)
count-or (Some shelf) = refl

-- a shelf of the index is what stands below its directory
pub shelf-is : (nodes : Nodes) (places : Places) → IsTree nodes places → (directory key : ℕ) → is_directory (maps.get nodes directory) ≡ true → key < 65536
    → IsShelf nodes (path_in nodes directory) key (shelf_or (maps.get places (place_of directory key)))
shelf-is nodes places tree directory key kind small name =
    entry-is nodes places tree directory key name kind small _ (number-or (maps.get places (place_of directory key)) name ∙ sym (number_at-is places (place_of directory key) name))

-- what a test of the slots tells
module _ {A : Type 0} (found : Option A → Bool) where
  passing : (xs : List (Option A)) → found None ≡ false → list_any found xs ≡ true → (q : ℕ) × (x : A) × (slot_at xs q ≡ Some x) × (found (Some x) ≡ true)
  passing [] none any = absurd (false≢true any)
  passing (None ∷ xs) none any = let rest = passing xs none (sym (ap (λ b. b || list_any found xs) none) ∙ any) in (suc rest.0, rest.1, rest.2, rest.3)
  passing (Some x ∷ xs) none any = elim (true_or_false (found (Some x))) [
    | inl is ↦ (zero, x, refl, is)
    | inr is_not ↦ let rest = passing xs none (sym (ap (λ b. b || list_any found xs) is_not) ∙ any) in (suc rest.0, rest.1, rest.2, rest.3)
  ]

  neither : (a b : Bool) → (a || b) ≡ false → a ≡ false
  neither true b e = e
  neither false b e = refl

  nor : (a b : Bool) → (a || b) ≡ false → b ≡ false
  nor true b e = absurd (false≢true (sym e))
  nor false b e = e

  none_passes : (xs : List (Option A)) → list_any found xs ≡ false → (q : ℕ) (x : A) → slot_at xs q ≡ Some x → found (Some x) ≡ false
  none_passes [] any zero x is = absurd (none_some x is)
  none_passes [] any (suc q) x is = absurd (none_some x is)
  none_passes (y ∷ xs) any zero x is = ap found (sym is) ∙ neither (found y) (list_any found xs) any
  none_passes (y ∷ xs) any (suc q) x is = none_passes xs (nor (found y) (list_any found xs) any) q x is

some_length : (path : List Step) (step : Step) → not (eqb (length (path ++ step ∷ [])) 0) ≡ true
some_length [] step = refl
some_length (s ∷ path) step = ap not (ne_eqb (suc (length (path ++ step ∷ []))) 0 (λ same. omega arith))

module _ (slots : List (Option Node)) (places : Places) (tree : IsTree (map_of slots) places) (directory : ℕ) (kind : is_directory (maps.get (map_of slots) directory) ≡ true) where
  stands_in : (node : Node) → is_in directory (Some node) ≡ true → (node.parent ≡ directory) × (node.path ≡ [] → ⊥)
  stands_in node e = elim (cases_eq node.parent directory) [
    | inl same ↦ (same, λ none. false≢true (sym (ap (λ p. not (eqb (length p) 0)) none) ∙ sym (ap (λ t. t && not (eqb (length node.path) 0)) (eq-eqb node.parent directory same)) ∙ e))
    | inr apart ↦ absurd (false≢true (sym (ap (λ t. t && not (eqb (length node.path) 0)) (ne_eqb node.parent directory apart)) ∙ e))
  ]

  is_in-from : (node : Node) (path : List Step) (step : Step) → node.parent ≡ directory → node.path ≡ path ++ step ∷ [] → is_in directory (Some node) ≡ true
  is_in-from node path step same at = ap (λ t. t && not (eqb (length node.path) 0)) (eq-eqb node.parent directory same) ∙ ap (λ p. not (eqb (length p) 0)) at ∙ some_length path step

  -- whether some slot holds a node of the directory tells whether it has an entry
  pub has_entry : (any : Bool) → any ≡ list_any (is_in directory) slots → MatchBool any (HasEntry (map_of slots) (path_in (map_of slots) directory)) (HasNoEntry (map_of slots) (path_in (map_of slots) directory))
  has_entry true e =
      let some = passing (is_in directory) slots refl (sym e) in
      let held : maps.get (map_of slots) some.0 ≡ Some some.1 = get-map_of slots some.0 ∙ some.2 in
      let facts = stands_in some.1 some.3 in
      let root : IsRoot (map_of slots) = tree.root in
      let was : IsPlaced (map_of slots) places some.0 some.1 = tree.placed some.0 some.1 held
      (λ is_root. facts.1 (ap (λ x. x.path) (same_some some.1 root.node (sym held ∙ ap (maps.get (map_of slots)) is_root ∙ root.held)) ∙ root.path)) in
      record {
        step = was.step;
        number = some.0;
        there = record { node = some.1; held = held; at = was.path ∙ ap (λ p. p ++ was.step ∷ []) (sym (ap path_of (ap (maps.get (map_of slots)) (sym facts.0) ∙ was.over))) };
      }
  has_entry false e = λ step number standing.
      let known = directory_is _ kind in
      let at : standing.node.path ≡ known.0.path ++ step ∷ [] = standing.at ∙ ap (λ p. p ++ step ∷ []) (ap path_of known.1) in
      let was : IsPlaced (map_of slots) places number standing.node = tree.placed number standing.node standing.held
      (below_root (map_of slots) places tree known.0.path step number standing.node standing.held at) in
      let same : standing.node.parent ≡ directory = tree.unique _ _ _ _ was.over known.1 (same_front was.above.path known.0.path was.step step (sym was.path ∙ at)) in
      false≢true (sym (none_passes (is_in directory) slots (sym e) number standing.node (sym (get-map_of slots number) ∙ standing.held)) ∙ is_in-from standing.node known.0.path step same at)

-- how many nodes there are after a change
pub len_more : (nodes : Nodes) (number : ℕ) (node : Node) → maps.get nodes number ≡ None → maps.len (maps.insert nodes number node) ≡ maps.len nodes + 1
len_more nodes number node none = maps.len-insert nat_cmp_total nodes number node ∙ ap (λ o. cond (is_some o) (maps.len nodes) (maps.len nodes + 1)) none

pub len_same : (nodes : Nodes) (number : ℕ) (node other : Node) → maps.get nodes number ≡ Some node → maps.len (maps.insert nodes number other) ≡ maps.len nodes
len_same nodes number node other held = maps.len-insert nat_cmp_total nodes number other ∙ ap (λ o. cond (is_some o) (maps.len nodes) (maps.len nodes + 1)) held

pub len_less : (nodes : Nodes) (number : ℕ) (node : Node) → maps.get nodes number ≡ Some node → maps.len (maps.remove nodes number) ≡ maps.len nodes - 1
len_less nodes number node held = maps.len-remove nat_cmp_total nodes number ∙ ap (λ o. cond (is_some o) (maps.len nodes - 1) (maps.len nodes)) held

pub some_len : (nodes : Nodes) (number : ℕ) (node : Node) → maps.get nodes number ≡ Some node → 0 < maps.len nodes
some_len nodes number node held = elim (cases_eq (maps.len nodes) 0) [
  | inl is ↦ absurd (none_some node (sym (ap (λ m. maps.get m number) (maps.empty_of_len nodes is) ∙ maps.get-empty nat_cmp number) ∙ held))
  | inr is_not ↦ omega arith
]

at_most : (b : Bool) (n : ℕ) → cond b n (n + 1) ≤ n + 1
at_most true n = omega arith
at_most false n = omega arith

len-slots_from : (base : ℕ) (slots : List (Option Node)) → maps.len (slots_from base slots) ≤ length slots
unfolding slots_from
len-slots_from base [] = let none : maps.len (maps.empty {X = Node} {R = nat_cmp}) ≡ 0 = maps.len-empty nat_cmp Node in omega arith
len-slots_from base (None ∷ slots) = let rest : maps.len (slots_from (base + 1) slots) ≤ length slots = len-slots_from (base + 1) slots in omega arith
len-slots_from base (Some node ∷ slots) =
    let nodes = slots_from (base + 1) slots in
    let rest : maps.len (slots_from (base + 1) slots) ≤ length slots = len-slots_from (base + 1) slots in
    let is : maps.len (maps.insert (slots_from (base + 1) slots) base node) ≡ cond (is_some (maps.get (slots_from (base + 1) slots) base)) (maps.len (slots_from (base + 1) slots)) (maps.len (slots_from (base + 1) slots) + 1) = maps.len-insert nat_cmp_total nodes base node in
    let bound = at_most (is_some (maps.get (slots_from (base + 1) slots) base)) (maps.len (slots_from (base + 1) slots)) in
    omega (arith, bound)

pub len_within : (slots : List (Option Node)) → maps.len (map_of slots) ≤ length slots
unfolding map_of
len_within slots = len-slots_from 0 slots

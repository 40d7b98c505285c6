-- The bytes of a file in its slot.
use Rattle.std.proofs.Common.{◌≡◌, ◌∙◌, ℕ, ◌<◌, length, true, false, List, Option, None, Some, refl, sym, ap, subst}
use Rattle.std.specs.Prelude.{slice_index_or, slice_set, Result, Ok, Err, OnOk, OnErr}
use Rattle.std.specs.FinMap as maps
use Rattle.std.proofs.lemmas.Bool.{false≢true, not-true}
use Rattle.std.proofs.lemmas.List.{get_or_read}
use Rattle.slot_tables.specs.Slots.{map_of}
use Rattle.slot_tables.proofs.SlotLemmas.{get-map_of, map_of-set, used_within}
use Rattle.file_tree.specs.declared.node.Node.{Node}
use Rattle.file_tree.specs.Nodes.{Nodes, IsTree, bytes_of, in_place, is_directory_node, is_file, with_bytes}
use Rattle.file_tree.specs.PlainTree.{plain, plain_with_bytes}
use Rattle.file_tree.specs.Shelves.{Places}
use Rattle.file_tree.proofs.TreeLemmas.{kept_tree, len_same, no_directory}
use Rattle.file_tree.proofs.PlainLemmas.{once_of, plain_kept}

some_file : (node : Option Node) → is_file node ≡ true → (x : Node) × (node ≡ Some x)
some_file None e = absurd (false≢true e)
some_file (Some x) e = (x, refl)

-- a file's slot is there
pub file_within : (slots : List (Option Node)) (number : ℕ) → is_file (maps.get (map_of slots) number) ≡ true → number < length slots
file_within slots number file = let held = some_file _ file in used_within slots number held.0 held.1

-- what stands in a file's slot is the file
pub file_held : (slots : List (Option Node)) (number : ℕ) (now : Option Node) → is_file (maps.get (map_of slots) number) ≡ true → now ≡ slice_index_or slots number now
    → now ≡ maps.get (map_of slots) number
file_held slots number now file is = get_or_read slots number now (file_within slots number file) is None ∙ sym (get-map_of slots number)

-- a file's slot holds a node
pub file_there : (slots : List (Option Node)) (number : ℕ) (now : Option Node) → is_file (maps.get (map_of slots) number) ≡ true → now ≡ slice_index_or slots number now → now ≡ None → ⊥
file_there slots number now file is none = false≢true (ap is_file (sym none ∙ file_held slots number now file is) ∙ file)

-- a file's node is no directory
pub file_bytes : (slots : List (Option Node)) (number : ℕ) (now : Option Node) (node : Node) → is_file (maps.get (map_of slots) number) ≡ true → now ≡ slice_index_or slots number now → now ≡ Some node
    → is_directory_node node.bytes ≡ false
file_bytes slots number now node file is here = not-true _ (ap is_file (sym here ∙ file_held slots number now file is) ∙ file)

-- a slot that holds the file with other bytes makes the nodes with these
pub file_changed : (slots : List (Option Node)) (number : ℕ) (now : Option Node) (node : Node) → is_file (maps.get (map_of slots) number) ≡ true → now ≡ slice_index_or slots number now → now ≡ Some node
    → (change : List ℕ → List ℕ) (bytes : Option (List ℕ)) → bytes ≡ Some (change (bytes_of (Some node)))
    → map_of (slice_set slots number (Some (record { parent = node.parent; path = node.path; label = node.label; bytes = bytes })))
    ≡ with_bytes (map_of slots) number (change (bytes_of (maps.get (map_of slots) number)))
file_changed slots number now node file is here change bytes written =
    let held : maps.get (map_of slots) number ≡ Some node = sym (file_held slots number now file is) ∙ here in
    map_of-set slots number _ (file_within slots number file)
    ∙ ap (λ b. maps.insert (map_of slots) number (record { parent = node.parent; path = node.path; label = node.label; bytes = b })) written
    ∙ sym (ap (λ (found : Option Node). in_place (map_of slots) number (λ x. record { parent = x.parent; path = x.path; label = x.label; bytes = Some (change (bytes_of found)) }) found) held)

-- the nodes with other bytes of a file
module _ (nodes : Nodes) (places : Places) (tree : IsTree nodes places) (number : ℕ) (bytes : List ℕ) (file : is_file (maps.get nodes number) ≡ true) where
  abbrev held : (x : Node) × (maps.get nodes number ≡ Some x)
  held = some_file _ file

  abbrev other : Node
  other = record { parent = held.0.parent; path = held.0.path; label = held.0.label; bytes = Some bytes }

  changed : with_bytes nodes number bytes ≡ maps.insert nodes number other
  changed = ap (in_place nodes number (λ node. record { parent = node.parent; path = node.path; label = node.label; bytes = Some bytes })) held.1

  kept : IsTree (maps.insert nodes number other) places
  kept = kept_tree nodes places tree number held.0 other held.1 refl refl (λ none. absurd (no_directory held.0.bytes (sym (ap is_file held.1) ∙ file) none))

  pub tree_with_bytes : IsTree (with_bytes nodes number bytes) places
  tree_with_bytes = subst (λ m. IsTree m places) (sym changed) kept

  pub len_with_bytes : maps.len (with_bytes nodes number bytes) ≡ maps.len nodes
  len_with_bytes = ap maps.len changed ∙ len_same nodes number held.0 other held.1

  pub plain_of_bytes : plain (with_bytes nodes number bytes) ≡ plain_with_bytes (plain nodes) bytes (maps.get nodes number)
  plain_of_bytes = ap plain changed ∙ plain_kept nodes number held.0 other (once_of nodes places tree) (once_of _ places kept) held.1 refl
      ∙ sym (ap (plain_with_bytes (plain nodes) bytes) held.1)

  -- the nodes after a change that may have failed
  pub tree_after : {X E : Type 0} (result : Result X E) (now : Nodes) → OnOk result (now ≡ with_bytes nodes number bytes) → OnErr result (now ≡ nodes) → IsTree now places
  tree_after (Ok x) now ok err = subst (λ m. IsTree m places) (sym ok) tree_with_bytes
  tree_after (Err e) now ok err = subst (λ m. IsTree m places) (sym err) tree

  pub len_after : {X E : Type 0} (result : Result X E) (now : Nodes) → OnOk result (now ≡ with_bytes nodes number bytes) → OnErr result (now ≡ nodes) → maps.len now ≡ maps.len nodes
  len_after (Ok x) now ok err = ap maps.len ok ∙ len_with_bytes
  len_after (Err e) now ok err = ap maps.len err

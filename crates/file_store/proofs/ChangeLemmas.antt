-- What a change of one node leaves of the others.
use Rattle.std.proofs.Common.{◌≡◌, ◌⊎◌, ◌&&◌, ℕ, IsTrue, Bool, true, false, cond, eqb, List, [], ◌∷◌, Option, Some, None, is_some, refl, sym, ap, subst, ◌∙◌, inl, inr}
use Rattle.std.specs.FinMap as maps
use Rattle.std.proofs.lemmas.Bool.{cases_eq, eq-eqb, ne_eqb, false≢true}
use Rattle.access_vectors.specs.Decisions.{Decisions}
use Rattle.slot_tables.proofs.SlotLemmas.{get-put, get-taken}
use Rattle.retained_rights.proofs.MapLemmas.{some_same, none_some, some_of}
use Rattle.file_tree.specs.Nodes.{Nodes, ArePathsOnce, AreInParents, HasNoEntry, is_directory, is_directory_node, is_file, path_in, path_of}
use Rattle.file_tree.specs.PlainTree.{same_step}
use Rattle.file_tree.specs.declared.node.Node.{Node}
use Rattle.file_tree.specs.declared.step.Step.{Step}
use Rattle.file_tree.proofs.BelowLemmas.{step_is, step_itself, below_file}
use Rattle.file_calls.specs.Paths.{same_steps}
use Rattle.file_store.specs.Stores.{IsFileOf}
use Rattle.file_store.proofs.Linking.{AreKnown}

true_or_false : (b : Bool) → (b ≡ true) ⊎ (b ≡ false)
true_or_false true = inl refl
true_or_false false = inr refl

steps_itself : (path : List Step) → same_steps path path ≡ true
steps_itself [] = refl
steps_itself (step ∷ path) = ap (λ b. b && same_steps path path) (step_itself step) ∙ steps_itself path

steps_same : (path other : List Step) → same_steps path other ≡ true → path ≡ other
steps_same [] [] same = refl
steps_same [] (step ∷ other) same = absurd (false≢true same)
steps_same (step ∷ path) [] same = absurd (false≢true same)
steps_same (step ∷ path) (first ∷ other) same = elim (true_or_false (same_step step first)) [
  | inl is ↦ let rest = steps_same path other (sym (ap (λ b. b && same_steps path other) is) ∙ same) in λ i. step_is step first is i ∷ rest i
  | inr is_not ↦ absurd (false≢true (sym (ap (λ b. b && same_steps path other) is_not) ∙ same))
]

-- of two nodes that are there, one path says that they are one
pub holds_is : (nodes : Nodes) → ArePathsOnce nodes → (one object : ℕ) → is_some (maps.get nodes one) ≡ true → is_some (maps.get nodes object) ≡ true
    → same_steps (path_in nodes one) (path_in nodes object) ≡ eqb one object
holds_is nodes once one object some there =
    let node = some_of (maps.get nodes one) some in
    let other = some_of (maps.get nodes object) there in
    elim (true_or_false (same_steps (path_in nodes one) (path_in nodes object))) [
      | inl is ↦ is ∙ sym (eq-eqb one object (once one object (path_in nodes object)
          (record { node = node.0; held = node.1; at = sym (ap path_of node.1) ∙ steps_same (path_in nodes one) (path_in nodes object) is })
          (record { node = other.0; held = other.1; at = sym (ap path_of other.1) })))
      | inr is_not ↦ is_not ∙ sym (ne_eqb one object (λ same. false≢true (sym is_not ∙ ap (λ number. same_steps (path_in nodes number) (path_in nodes object)) same ∙ steps_itself (path_in nodes object))))
    ]

-- another node in the place of one
module _ (nodes : Nodes) (number : ℕ) (node other : Node) (held : maps.get nodes number ≡ Some node) (path : other.path ≡ node.path) where
  at_number : maps.get (maps.insert nodes number other) number ≡ Some other
  at_number = get-put nodes number other number ∙ ap (λ t. cond t (Some other) (maps.get nodes number)) (eq-eqb number number refl)

  elsewhere : (q : ℕ) → (q ≡ number → ⊥) → maps.get (maps.insert nodes number other) q ≡ maps.get nodes q
  elsewhere q apart = get-put nodes number other q ∙ ap (λ t. cond t (Some other) (maps.get nodes q)) (ne_eqb q number apart)

  pub path_stays : (q : ℕ) → path_in (maps.insert nodes number other) q ≡ path_in nodes q
  path_stays q = elim (cases_eq q number) [
    | inl same ↦ ap (λ n. path_in (maps.insert nodes number other) n) same ∙ ap path_of at_number ∙ path ∙ sym (ap path_of held) ∙ ap (path_in nodes) (sym same)
    | inr apart ↦ ap path_of (elsewhere q apart)
  ]

  pub file_stays : (is_file (Some node) ≡ true → is_file (Some other) ≡ true) → (object was label : ℕ) → (object ≡ number → other.label ≡ label) → ((object ≡ number → ⊥) → was ≡ label)
      → IsFileOf nodes object was → IsFileOf (maps.insert nodes number other) object label
  file_stays file object was label labelled same_label is = elim (cases_eq object number) [
    | inl same ↦ record {
      node = other;
      held = ap (maps.get (maps.insert nodes number other)) same ∙ at_number;
      file = ap (λ n. is_file (maps.get (maps.insert nodes number other) n)) same ∙ ap is_file at_number
          ∙ file (sym (ap is_file (ap (maps.get nodes) same ∙ held)) ∙ is.file);
      label_is = labelled same;
    }
    | inr apart ↦ record { node = is.node; held = elsewhere object apart ∙ is.held; file = ap is_file (elsewhere object apart) ∙ is.file; label_is = is.label_is ∙ same_label apart }
  ]

  -- where the label stays too
  pub file_alike : (is_file (Some node) ≡ true → is_file (Some other) ≡ true) → other.label ≡ node.label → (object label : ℕ) → IsFileOf nodes object label → IsFileOf (maps.insert nodes number other) object label
  file_alike file label object now is =
      file_stays file object now now
      (λ same. label ∙ ap (λ x. x.label) (some_same node is.node (sym held ∙ ap (maps.get nodes) (sym same) ∙ is.held)) ∙ is.label_is) (λ apart. refl) is

  pub labels_stay : (d : Decisions) → IsTrue (d.known other.label) → AreKnown d nodes → AreKnown d (maps.insert nodes number other)
  labels_stay d known labels q x is = elim (cases_eq q number) [
    | inl same ↦ subst (λ (y : Node). IsTrue (d.known y.label)) (some_same other x (sym at_number ∙ ap (maps.get (maps.insert nodes number other)) (sym same) ∙ is)) known
    | inr apart ↦ labels q x (sym (elsewhere q apart) ∙ is)
  ]

-- a node more
module _ (nodes : Nodes) (number : ℕ) (child : Node) (unused : maps.get nodes number ≡ None) where
  beside : (q : ℕ) (x : Node) → maps.get nodes q ≡ Some x → maps.get (maps.insert nodes number child) q ≡ Some x
  beside q x is = get-put nodes number child q ∙ elim (cases_eq q number) [
    | inl same ↦ absurd (none_some x (sym unused ∙ ap (maps.get nodes) (sym same) ∙ is))
    | inr apart ↦ ap (λ t. cond t (Some child) (maps.get nodes q)) (ne_eqb q number apart) ∙ is
  ]

  pub path_beside : (q : ℕ) (x : Node) → maps.get nodes q ≡ Some x → path_in (maps.insert nodes number child) q ≡ path_in nodes q
  path_beside q x is = ap path_of (beside q x is) ∙ sym (ap path_of is)

  pub file_beside : (object label : ℕ) → IsFileOf nodes object label → IsFileOf (maps.insert nodes number child) object label
  file_beside object label is =
      record { node = is.node; held = beside object is.node is.held; file = ap is_file (beside object is.node is.held ∙ sym is.held) ∙ is.file; label_is = is.label_is }

  pub labels_beside : (d : Decisions) → IsTrue (d.known child.label) → AreKnown d nodes → AreKnown d (maps.insert nodes number child)
  labels_beside d known labels q x is = elim (cases_eq q number) [
    | inl same ↦ subst (λ (y : Node). IsTrue (d.known y.label))
        (some_same child x (sym (ap (λ t. cond t (Some child) (maps.get nodes q)) (eq-eqb q number same)) ∙ sym (get-put nodes number child q) ∙ is)) known
    | inr apart ↦ labels q x (sym (ap (λ t. cond t (Some child) (maps.get nodes q)) (ne_eqb q number apart)) ∙ sym (get-put nodes number child q) ∙ is)
  ]

-- a node less
module _ (nodes : Nodes) (object : ℕ) where
  still : (q : ℕ) → (q ≡ object → ⊥) → maps.get (maps.remove nodes object) q ≡ maps.get nodes q
  still q apart = get-taken nodes object q ∙ ap (λ t. cond t None (maps.get nodes q)) (ne_eqb q object apart)

  pub path_left : (q : ℕ) → (q ≡ object → ⊥) → path_in (maps.remove nodes object) q ≡ path_in nodes q
  path_left q apart = ap path_of (still q apart)

  pub file_left : (q label : ℕ) → (q ≡ object → ⊥) → IsFileOf nodes q label → IsFileOf (maps.remove nodes object) q label
  file_left q label apart is =
      record { node = is.node; held = still q apart ∙ is.held; file = ap is_file (still q apart) ∙ is.file; label_is = is.label_is }

  pub labels_left : (d : Decisions) → AreKnown d nodes → AreKnown d (maps.remove nodes object)
  labels_left d labels q x is = elim (cases_eq q object) [
    | inl same ↦ absurd (none_some x (sym (ap (λ t. cond t None (maps.get nodes q)) (eq-eqb q object same)) ∙ sym (get-taken nodes object q) ∙ is))
    | inr apart ↦ labels q x (sym (still q apart) ∙ is)
  ]

-- nothing stands below a file, and below a directory nothing where it is empty
pub no_entry_in : (nodes : Nodes) → path_in nodes 0 ≡ [] → AreInParents nodes → ArePathsOnce nodes → (object : ℕ) → is_some (maps.get nodes object) ≡ true
    → (is_directory (maps.get nodes object) ≡ true → HasNoEntry nodes (path_in nodes object)) → HasNoEntry nodes (path_in nodes object)
no_entry_in nodes root parents once object there empty =
    let node = some_of (maps.get nodes object) there in
    by_bytes node.0 node.1 node.0.bytes refl
  where
    by_bytes : (node : Node) → maps.get nodes object ≡ Some node → (bytes : Option (List ℕ)) → node.bytes ≡ bytes → HasNoEntry nodes (path_in nodes object)
    by_bytes node is None none = empty (ap is_directory is ∙ ap is_directory_node none)
    by_bytes node is (Some bytes) some = subst (HasNoEntry nodes) (sym (ap path_of is)) (λ step. below_file nodes root parents once object node is (ap is_some some) step [])

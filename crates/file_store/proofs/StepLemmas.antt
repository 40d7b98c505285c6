-- Each change of the tree as a whole: files and rights stay in step, with the promise under a decider.
use Rattle.std.proofs.Common.{◌≡◌, ℕ, IsTrue, Bool, true, false, not, List, Option, Some, None, is_some, refl, sym, ap, subst, ◌∙◌}
use Rattle.std.specs.Prelude.{option_map, ◌==◌, if◌then◌else◌}
use Rattle.std.specs.FinMap as maps
use Rattle.std.proofs.lemmas.Bool.{eq-eqb, false≢true}
use Rattle.access_vectors.specs.Decisions.{Decisions}
use Rattle.access_vectors.specs.Mapped.{mapped}
use Rattle.access_vectors.proofs.MappedLemmas.{get-mapped}
use Rattle.retained_rights.specs.Claims.{Claim, claims_of, is_for, not_for, all_relabelled, following_for}
use Rattle.retained_rights.specs.Rights.{Rights, Fit, follows_of}
use Rattle.retained_rights.proofs.MapLemmas.{some_of, kept_some, mapped_alike, mapped-mapped, mapped-retain_keys}
use Rattle.retained_rights.proofs.StepLemmas as steps
use Rattle.file_tree.specs.Nodes.{Nodes, is_file, in_place, path_in, path_of, relabelled, with_bytes}
use Rattle.file_tree.specs.PlainTree.{PlainTree, plain, plain_without, IsWellMade}
use Rattle.file_tree.specs.declared.node.Node.{Node}
use Rattle.file_calls.specs.PathCalls.{is_held_at, slots_without, taken_out}
use Rattle.file_calls.specs.PlainManager.{follows_moved, follows_without}
use Rattle.file_calls.specs.States.{with_tree}
use Rattle.file_store.specs.Stores.{StoreView, IsFileOf, IsLinked, IsInStep, Safe, held_by, state_of, slots_of, follows}
use Rattle.file_store.specs.Laws.{safe_is}
use Rattle.file_store.proofs.Linking.{AreKnown, with_both, safe_moved}
use Rattle.file_store.proofs.ChangeLemmas.{holds_is, path_stays, file_stays, file_alike, labels_stay, path_beside, file_beside, labels_beside, path_left, file_left, labels_left}

-- other nodes under the same rights, where every file stays, with its label, and stands where it did
module _ (shown : StoreView) (now : Nodes) (step : IsInStep shown) where
  abbrev pub with_nodes : StoreView
  with_nodes = record { opening = shown.opening; nodes = now; rights = shown.rights }

  step_nodes : IsWellMade now → ((object label : ℕ) → IsFileOf shown.nodes object label → IsFileOf now object label) → IsInStep with_nodes
  step_nodes made files = record {
    tree = made;
    slots = steps.step_as step.slots (IsLinked shown.opening.clients now) (λ place claim link. record { target = files claim.object claim.t link.target; source = link.source });
  }

  safe_nodes : (d : Decisions) → Safe d shown → IsInStep with_nodes → (AreKnown d shown.nodes → AreKnown d now) → Safe d with_nodes
  safe_nodes d safe stays labels = safe_moved d shown now shown.rights safe stays (labels (safe_is d shown safe).labels) (safe_is d shown safe).rights

  state_nodes : (tree : PlainTree) → ((object label : ℕ) → IsFileOf shown.nodes object label → path_in now object ≡ path_in shown.nodes object) → plain now ≡ tree → state_of with_nodes ≡ with_tree (state_of shown) tree
  state_nodes tree paths is = λ i. record {
    opening = shown.opening;
    tree = is i;
    slots = mapped_alike (λ place claim. held_by now claim) (λ place claim. held_by shown.nodes claim) (claims_of shown.rights)
        (λ place claim at j. record { path = paths claim.object claim.t (step.slots.claims place claim at).target j; mode = claim.mode }) i;
  }

-- a node is added
module _ (shown : StoreView) (number : ℕ) (child : Node) (unused : maps.get shown.nodes number ≡ None) (now : Nodes) (is : now ≡ maps.insert shown.nodes number child) (step : IsInStep shown) where
  pub step_added : IsWellMade now → IsInStep (with_nodes shown now step)
  step_added made =
      step_nodes shown now step made
      (subst (λ n. (object label : ℕ) → IsFileOf shown.nodes object label → IsFileOf n object label) (sym is) (file_beside shown.nodes number child unused))

  pub safe_added : IsWellMade now → (d : Decisions) → IsTrue (d.known child.label) → Safe d shown → Safe d (with_nodes shown now step)
  safe_added made d known safe =
      safe_nodes shown now step d safe (step_added made) (λ labels. subst (AreKnown d) (sym is) (labels_beside shown.nodes number child unused d known labels))

  pub state_added : (tree : PlainTree) → plain now ≡ tree → state_of (with_nodes shown now step) ≡ with_tree (state_of shown) tree
  state_added tree made = state_nodes shown now step tree
      (λ object label file. ap (λ n. path_in n object) is ∙ path_beside shown.nodes number child unused object file.node file.held) made

there_if_file : (node : Option Node) → is_file node ≡ true → is_some node ≡ true
there_if_file None file = absurd (false≢true file)
there_if_file (Some node) file = refl

-- the bytes of a file change
module _ (shown : StoreView) (object : ℕ) (file : is_file (maps.get shown.nodes object) ≡ true) (bytes : List ℕ) (now : Nodes) (is : now ≡ with_bytes shown.nodes object bytes) (step : IsInStep shown) where
  node_there : (node : Node) × (maps.get shown.nodes object ≡ Some node)
  node_there = some_of (maps.get shown.nodes object) (there_if_file (maps.get shown.nodes object) file)

  abbrev holder : Node → Node
  holder node = record { parent = node.parent; path = node.path; label = node.label; bytes = Some bytes }

  holding : now ≡ maps.insert shown.nodes object (holder node_there.0)
  holding = is ∙ ap (in_place shown.nodes object holder) node_there.1

  pub step_written : IsWellMade now → IsInStep (with_nodes shown now step)
  step_written made =
      step_nodes shown now step made
      (subst (λ n. (object label : ℕ) → IsFileOf shown.nodes object label → IsFileOf n object label) (sym holding)
      (file_alike shown.nodes object node_there.0 (holder node_there.0) node_there.1 refl (λ was. refl) refl))

  pub safe_written : IsWellMade now → (d : Decisions) → Safe d shown → Safe d (with_nodes shown now step)
  safe_written made d safe =
      safe_nodes shown now step d safe (step_written made)
      (λ labels. subst (AreKnown d) (sym holding) (labels_stay shown.nodes object node_there.0 (holder node_there.0) node_there.1 refl d (labels object node_there.0 node_there.1) labels))

  pub state_written : (tree : PlainTree) → plain now ≡ tree → state_of (with_nodes shown now step) ≡ with_tree (state_of shown) tree
  state_written tree made = state_nodes shown now step tree
      (λ one label is_file. ap (λ n. path_in n one) holding ∙ path_stays shown.nodes object node_there.0 (holder node_there.0) node_there.1 refl one) made

-- a slot is for a node exactly where it holds what stands at the node's path
held_as : (shown : StoreView) → IsInStep shown → (object : ℕ) → is_some (maps.get shown.nodes object) ≡ true → (place : ℕ)
    → is_for object (maps.get (claims_of shown.rights) place) ≡ is_held_at (path_in shown.nodes object) (maps.get (state_of shown).slots place)
held_as shown step object there place =
    at (maps.get (claims_of shown.rights) place) refl ∙ ap (is_held_at (path_in shown.nodes object)) (sym (get-mapped (λ q claim. held_by shown.nodes claim) (claims_of shown.rights) place))
  where
    at : (o : Option Claim) → maps.get (claims_of shown.rights) place ≡ o → is_for object o ≡ is_held_at (path_in shown.nodes object) (option_map (held_by shown.nodes) o)
    at None is = refl
    at (Some claim) is = sym (holds_is shown.nodes step.tree.once claim.object object (ap is_some (step.slots.claims place claim is).target.held) there)

-- a node is taken out, with the grants on it
module _ (shown : StoreView) (object : ℕ) (there : is_some (maps.get shown.nodes object) ≡ true) (nodes : Nodes) (now : Rights) (is : nodes ≡ maps.remove shown.nodes object)
    (rule : now.rule ≡ shown.rights.rule) (class : now.class ≡ shown.rights.class) (claims : claims_of now ≡ not_for object (claims_of shown.rights) (claims_of shown.rights)) (step : IsInStep shown) where
  pub step_taken : IsWellMade nodes → IsInStep (with_both shown nodes now)
  step_taken made = record {
    tree = made;
    slots = steps.step_without step.slots now rule class (IsLinked shown.opening.clients nodes) object claims (λ place claim apart link. record {
      target = subst (λ n. IsFileOf n claim.object claim.t) (sym is) (file_left shown.nodes object claim.object claim.t apart link.target);
      source = link.source;
    });
  }

  pub safe_taken : IsWellMade nodes → (d : Decisions) → Safe d shown → (Fit d shown.rights → Fit d now) → Safe d (with_both shown nodes now)
  safe_taken made d safe fit =
      let was = safe_is d shown safe in
      safe_moved d shown nodes now safe (step_taken made) (subst (AreKnown d) (sym is) (labels_left shown.nodes object d was.labels)) (fit was.rights)

  -- the slots that stay hold the paths that they held
  slots_left : slots_of nodes (claims_of now) ≡ slots_without (path_in shown.nodes object) (state_of shown).slots
  slots_left =
      (λ i. slots_of (is i) (claims i))
      ∙ mapped_alike _ _ (not_for object (claims_of shown.rights) (claims_of shown.rights)) (λ place claim at.
      let was = kept_some (claims_of shown.rights) (λ q. not (is_for object (maps.get (claims_of shown.rights) q))) place claim at in
      λ i. record { path = path_left shown.nodes object claim.object (off place claim was.1 was.0) i; mode = claim.mode })
      ∙ mapped-retain_keys (λ place claim. held_by shown.nodes claim) (claims_of shown.rights) _
      ∙ (λ i. maps.retain_keys (state_of shown).slots (λ place. not (held_as shown step object there place i)))
    where
      off : (place : ℕ) (claim : Claim) → maps.get (claims_of shown.rights) place ≡ Some claim → not (is_for object (maps.get (claims_of shown.rights) place)) ≡ true → claim.object ≡ object → ⊥
      off place claim at stay same = false≢true (sym (ap (λ o. not (is_for object o)) at ∙ ap not (eq-eqb claim.object object same)) ∙ stay)

  pub state_taken : plain nodes ≡ plain_without (plain shown.nodes) (maps.get shown.nodes object) → state_of (with_both shown nodes now) ≡ (taken_out (state_of shown) (path_in shown.nodes object)).state
  state_taken made =
      let node = some_of (maps.get shown.nodes object) there in
      let tree : plain nodes ≡ maps.remove (plain shown.nodes) (path_in shown.nodes object)
      = made ∙ ap (plain_without (plain shown.nodes)) node.1 ∙ ap (λ n. maps.remove (plain shown.nodes) (path_of n)) (sym node.1) in
      λ i. record { opening = shown.opening; tree = tree i; slots = slots_left i }

  pub follows_taken : follows_of now ≡ not_for object (claims_of shown.rights) (follows shown) → follows_of now ≡ follows_without (state_of shown) (path_in shown.nodes object) (follows shown)
  follows_taken following = following ∙ (λ i. maps.retain_keys (follows shown) (λ place. not (held_as shown step object there place i)))

-- a node gets another label, with the grants on it
module _ (shown : StoreView) (object : ℕ) (there : is_some (maps.get shown.nodes object) ≡ true) (label : ℕ) (nodes : Nodes) (now : Rights) (is : nodes ≡ relabelled shown.nodes object label)
    (rule : now.rule ≡ shown.rights.rule) (class : now.class ≡ shown.rights.class) (claims : claims_of now ≡ all_relabelled object label (claims_of shown.rights)) (step : IsInStep shown) where
  one : (node : Node) × (maps.get shown.nodes object ≡ Some node)
  one = some_of (maps.get shown.nodes object) there

  abbrev other : Node → Node
  other node = record { parent = node.parent; path = node.path; label = label; bytes = node.bytes }

  nodes_are : nodes ≡ maps.insert shown.nodes object (other one.0)
  nodes_are = is ∙ ap (in_place shown.nodes object other) one.1

  file_now : (q was becomes : ℕ) → (q ≡ object → label ≡ becomes) → ((q ≡ object → ⊥) → was ≡ becomes) → IsFileOf shown.nodes q was → IsFileOf nodes q becomes
  file_now q was becomes here away target =
      subst (λ n. IsFileOf n q becomes) (sym nodes_are) (file_stays shown.nodes object one.0 (other one.0) one.1 refl (λ file. file) q was becomes here away target)

  pub step_relabelled : IsWellMade nodes → IsInStep (with_both shown nodes now)
  step_relabelled made = record {
    tree = made;
    slots = steps.step_relabelled step.slots now rule class (IsLinked shown.opening.clients nodes) object label claims
        (λ place claim same link. record { target = file_now claim.object claim.t label (λ at. refl) (λ apart. absurd (apart same)) link.target; source = link.source })
        (λ place claim apart link. record { target = file_now claim.object claim.t claim.t (λ at. absurd (apart at)) (λ away. refl) link.target; source = link.source });
  }

  pub safe_relabelled : IsWellMade nodes → (d : Decisions) → IsTrue (d.known label) → Safe d shown → Fit d now → Safe d (with_both shown nodes now)
  safe_relabelled made d known safe fit =
      safe_moved d shown nodes now safe (step_relabelled made)
      (subst (AreKnown d) (sym nodes_are) (labels_stay shown.nodes object one.0 (other one.0) one.1 refl d known (safe_is d shown safe).labels)) fit

  -- the slots hold the paths that they held
  slots_relabelled : slots_of nodes (claims_of now) ≡ slots_of shown.nodes (claims_of shown.rights)
  slots_relabelled =
      (λ i. slots_of (nodes_are i) (claims i)) ∙ mapped-mapped _ _ (claims_of shown.rights)
      ∙ (λ i. mapped (λ place claim. same claim (claim.object == object) i) (claims_of shown.rights))
    where
      same : (claim : Claim) (b : Bool) → held_by (maps.insert shown.nodes object (other one.0)) (if b then record { object = claim.object; mode = claim.mode; s = claim.s; t = label } else claim) ≡ held_by shown.nodes claim
      same claim true = λ i. record { path = path_stays shown.nodes object one.0 (other one.0) one.1 refl claim.object i; mode = claim.mode }
      same claim false = λ i. record { path = path_stays shown.nodes object one.0 (other one.0) one.1 refl claim.object i; mode = claim.mode }

  pub state_relabelled : (tree : PlainTree) → plain nodes ≡ tree → state_of (with_both shown nodes now) ≡ with_tree (state_of shown) tree
  state_relabelled tree made = λ i. record { opening = shown.opening; tree = made i; slots = slots_relabelled i }

  pub follows_relabelled : (number : ℕ) → follows_of now ≡ following_for object number (claims_of shown.rights) (follows shown)
      → follows_of now ≡ follows_moved (state_of shown) (path_in shown.nodes object) number (follows shown)
  follows_relabelled number following =
      following ∙ (λ i. mapped (λ place before. if held_as shown step object there place i then number else before) (follows shown))

-- How files and rights show the plain manager's state: a slot holds a grant on a numbered file of the tree.
use Rattle.std.specs.Prelude.{◌≡◌, ℕ, ◌/◌, true, IsTrue, All, List, slice_index, Some, refl}
use Rattle.std.specs.Ordering.{nat_cmp}
use Rattle.std.specs.FinMap as maps
use Rattle.std.specs.FinMap.{FinMap}
use Rattle.std.specs.Coded.{Coded, code_by, coded×, coded_ℕ}
use Rattle.access_vectors.specs.Decisions.{Decisions}
use Rattle.access_vectors.specs.Mapped.{mapped}
use Rattle.access_vectors.specs.Stale.{Follows}
use Rattle.access_vectors.specs.declared.class.Class.TheVariants.{File}
use Rattle.retained_rights.specs.Claims.{Claim, Claims, claims_of, AreInStep}
use Rattle.retained_rights.specs.Rights.{Rights, Fit, follows_of, rights_code}
use Rattle.retained_rights.specs.declared.rule.Rule.TheVariants.{Each}
use Rattle.file_tree.specs.Nodes.{Nodes, is_file, path_in}
use Rattle.file_tree.specs.PlainTree.{IsWellMade, plain}
use Rattle.file_tree.specs.contracts.node.Node as node_type
use Rattle.file_tree.specs.declared.node.Node.{Node}
use Rattle.file_calls.specs.States.{Held, FileState}
use Rattle.file_calls.specs.contracts.opening.FileOpening as opening_type
use Rattle.file_calls.specs.declared.opening.FileOpening.{FileOpening}

-- what contracts see of files and rights: what they were opened with, the nodes by their numbers, and the rights
pub record StoreView : Type 0 where
  pub opening : FileOpening
  pub nodes : Nodes
  pub rights : Rights

-- how contracts tell such values apart
abbrev pub view_code : Coded StoreView
view_code =
    code_by (FileOpening × (Nodes × Rights)) (coded× opening_type.the_row.coded (coded× (maps.code coded_ℕ node_type.the_row.coded) rights_code))
    (λ v. (v.opening, (v.nodes, v.rights))) (λ p. record { opening = p.0; nodes = p.1.0; rights = p.1.1 }) (λ _. refl)

-- what the plain slot holds
abbrev pub held_by : Nodes → Claim → Held
held_by nodes claim = record { path = path_in nodes claim.object; mode = claim.mode }

-- the plain slots: one that is for a numbered file holds that file's path
abbrev pub slots_of : Nodes → Claims → FinMap nat_cmp Held
slots_of nodes claims = mapped (λ place claim. held_by nodes claim) claims

-- the state that the plain manager sees
abbrev pub state_of : StoreView → FileState
state_of shown = record { opening = shown.opening; tree = plain shown.nodes; slots = slots_of shown.nodes (claims_of shown.rights) }

-- the policy number that each used slot follows
abbrev pub follows : StoreView → Follows
follows shown = follows_of shown.rights

-- a numbered node is a file, and has this label
pub record IsFileOf (nodes : Nodes) (object : ℕ) (label : ℕ) : Type 0 where
  pub node : Node
  pub held : maps.get nodes object ≡ Some node
  pub file : is_file (maps.get nodes object) ≡ true
  pub label_is : node.label ≡ label

-- a slot is for a file, and for the pair of its client and of the file's present label
pub record IsLinked (clients : List ℕ) (nodes : Nodes) (place : ℕ) (claim : Claim) : Type 0 where
  pub target : IsFileOf nodes claim.object claim.t
  pub source : slice_index clients (place / 256) ≡ claim.s

-- files and rights are in step
pub record IsInStep (shown : StoreView) : Type 0 where
  pub tree : IsWellMade shown.nodes
  pub slots : AreInStep Each File (IsLinked shown.opening.clients shown.nodes) shown.rights

-- the promise of files and rights under a decider: they are in step, their identifiers are the decider's, and the rights
-- are those that the decider gives
pub record IsSafe (d : Decisions) (shown : StoreView) : Type 0 where
  pub step : IsInStep shown
  pub clients : All (λ sid. IsTrue (d.known sid)) shown.opening.clients
  pub labels : (number : ℕ) (node : Node) → maps.get shown.nodes number ≡ Some node → IsTrue (d.known node.label)
  pub rights : Fit d shown.rights

-- that promise, as a word that rows pass on unread
unfoldable pub Safe : Decisions → StoreView → Type 0
Safe d shown = IsSafe d shown

-- What a used slot lets its client do.
use Rattle.std.specs.Prelude.{◌≡◌, ℕ, List, Some, None, IsTrue, bit_and}
use Rattle.std.specs.FinMap as maps
use Rattle.access_vectors.specs.Decisions.{Decisions}
use Rattle.access_vectors.specs.Phases.{version_at, MayName}
use Rattle.access_vectors.specs.Stale.{slot_place}
use Rattle.access_vectors.specs.declared.class.Class.TheVariants.{File}
use Rattle.retained_rights.specs.declared.grant.Usable.{Usable}
use Rattle.file_tree.specs.Nodes.{path_in}
use Rattle.file_tree.specs.PlainTree.{plain, item_of}
use Rattle.file_tree.specs.declared.node.Node.{Node}
use Rattle.file_calls.specs.States.{sid_of}
use Rattle.file_store.specs.Stores.{StoreView, IsFileOf, state_of, follows}

-- under a decider, a use of a client's slot is of the slot's file and mode, for the pair of the client and of the file's
-- present label, and its bits are those of its mode that the policy number which it follows allows
pub record IsUse (d : Decisions) (shown : StoreView) (client slot : ℕ) (usable : Usable) : Type 0 where
  pub held : maps.get (state_of shown).slots (slot_place client slot)
      ≡ Some (record { path = path_in shown.nodes usable.object; mode = usable.mode })
  pub following : maps.get (follows shown) (slot_place client slot) ≡ Some usable.number
  pub target : IsFileOf shown.nodes usable.object usable.t
  pub source : sid_of (state_of shown) client ≡ usable.s
  pub known_source : IsTrue (d.known usable.s)
  pub known_target : IsTrue (d.known usable.t)
  pub bits : (number : ℕ) → MayName shown.rights.phase number → usable.number ≡ number
      → usable.bits ≡ bit_and usable.mode (d.vector (version_at shown.rights.phase number) usable.s usable.t File)

-- a numbered node is a file of these bytes
pub record HasBytes (shown : StoreView) (object : ℕ) (bytes : List ℕ) : Type 0 where
  pub node : Node
  pub at : maps.get shown.nodes object ≡ Some node
  pub bytes_are : node.bytes ≡ Some bytes
  pub file : maps.get (plain shown.nodes) node.path ≡ Some (item_of node)

-- a client's slot is free
pub record IsFree (shown : StoreView) (client slot : ℕ) : Type 0 where
  pub held : maps.get (state_of shown).slots (slot_place client slot) ≡ None
  pub following : maps.get (follows shown) (slot_place client slot) ≡ None

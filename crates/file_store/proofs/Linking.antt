-- How files and rights stay in step, and their promise under a decider.
use Rattle.std.proofs.Common.{◌≡◌, ℕ, ◌<◌, IsTrue, Some, ap, subst, ◌∙◌}
use Rattle.std.specs.Prelude.{slice_index}
use Rattle.std.specs.Ordering.{nat_cmp}
use Rattle.std.specs.FinMap as maps
use Rattle.std.specs.FinMap.{FinMap}
use Rattle.access_vectors.specs.Decisions.{Decisions}
use Rattle.access_vectors.specs.Stale.{slot_place}
use Rattle.retained_rights.specs.Claims.{Claim, claims_of}
use Rattle.retained_rights.specs.Rights.{Rights, Fit}
use Rattle.retained_rights.proofs.Following.{client_of_place}
use Rattle.retained_rights.proofs.StepLemmas as steps
use Rattle.file_tree.specs.Nodes.{Nodes}
use Rattle.file_tree.specs.declared.node.Node.{Node}
use Rattle.file_calls.specs.States.{Held, with_slots}
use Rattle.file_store.specs.Stores.{StoreView, IsFileOf, IsLinked, IsInStep, Safe, slots_of, state_of}
use Rattle.file_store.specs.Laws.{safe_is}

-- each label is the decider's
abbrev pub AreKnown : Decisions → Nodes → Type 0
AreKnown d nodes = (number : ℕ) (node : Node) → maps.get nodes number ≡ Some node → IsTrue (d.known node.label)

-- other nodes or rights
abbrev pub with_rights : StoreView → Rights → StoreView
with_rights shown now = record { opening = shown.opening; nodes = shown.nodes; rights = now }

abbrev pub with_both : StoreView → Nodes → Rights → StoreView
with_both shown nodes rights = record { opening = shown.opening; nodes = nodes; rights = rights }

-- the promise under a decider with other nodes and rights
pub safe_moved : (d : Decisions) (shown : StoreView) (nodes : Nodes) (now : Rights) → Safe d shown → IsInStep (with_both shown nodes now) → AreKnown d nodes → Fit d now → Safe d (with_both shown nodes now)
unfolding Safe
safe_moved d shown nodes now safe step known fit = record { step = step; clients = safe.clients; labels = known; rights = fit }

pub safe_changed : (d : Decisions) (shown : StoreView) (now : Rights) → Safe d shown → IsInStep (with_rights shown now) → Fit d now → Safe d (with_rights shown now)
safe_changed d shown now safe step fit = safe_moved d shown shown.nodes now safe step (safe_is d shown safe).labels fit

-- where a change of policy leaves what the slots are for
pub step_kept : (shown : StoreView) (now : Rights) → IsInStep shown → now.rule ≡ shown.rights.rule → now.class ≡ shown.rights.class → claims_of now ≡ claims_of shown.rights
    → IsInStep (with_rights shown now)
step_kept shown now step rule class claims = record { tree = step.tree; slots = steps.step_kept step.slots now rule class claims }

pub safe_kept : (d : Decisions) (shown : StoreView) (now : Rights) → Safe d shown → now.rule ≡ shown.rights.rule → now.class ≡ shown.rights.class
    → claims_of now ≡ claims_of shown.rights → Fit d now → Safe d (with_rights shown now)
safe_kept d shown now safe rule class claims fit = safe_changed d shown now safe (step_kept shown now (safe_is d shown safe).step rule class claims) fit

-- the state with other slots
pub state_slots : (shown : StoreView) (now : Rights) (slots : FinMap nat_cmp Held) → slots_of shown.nodes (claims_of now) ≡ slots → state_of (with_rights shown now) ≡ with_slots (state_of shown) slots
state_slots shown now slots is = ap (with_slots (state_of shown)) is

-- a slot is filled
pub step_filled : (shown : StoreView) (now : Rights) (client slot : ℕ) (filling : Claim) → slot < 256 → IsInStep shown → now.rule ≡ shown.rights.rule → now.class ≡ shown.rights.class
    → IsFileOf shown.nodes filling.object filling.t → slice_index shown.opening.clients client ≡ filling.s → claims_of now ≡ maps.insert (claims_of shown.rights) (slot_place client slot) filling
    → IsInStep (with_rights shown now)
step_filled shown now client slot filling small step rule class target source claims = record {
  tree = step.tree;
  slots = steps.step_filled step.slots now rule class (IsLinked shown.opening.clients shown.nodes) (slot_place client slot) filling claims (λ place claim link. link)
      (record { target = target; source = ap (slice_index shown.opening.clients) (client_of_place client slot small) ∙ source });
}

-- a slot is freed
pub step_freed : (shown : StoreView) (now : Rights) (at : ℕ) → IsInStep shown → now.rule ≡ shown.rights.rule → now.class ≡ shown.rights.class → claims_of now ≡ maps.remove (claims_of shown.rights) at
    → IsInStep (with_rights shown now)
step_freed shown now at step rule class claims = record { tree = step.tree; slots = steps.step_freed step.slots now rule class at claims }

-- the label of a file is the decider's
pub file_known : (d : Decisions) (shown : StoreView) (object label : ℕ) → Safe d shown → IsFileOf shown.nodes object label → IsTrue (d.known label)
file_known d shown object label safe is =
    subst (λ sid. IsTrue (d.known sid)) is.label_is ((safe_is d shown safe).labels object is.node is.held)

-- How processes and rights stay in step, and their promise under a decider.
use Rattle.std.proofs.Common.{◌≡◌, ℕ, ◌<◌, IsTrue, List, Option, Some, None, refl, sym, ap, subst, ◌∙◌}
use Rattle.std.specs.Prelude.{slice_index}
use Rattle.std.specs.Ordering.{nat_cmp}
use Rattle.std.specs.FinMap as maps
use Rattle.std.specs.FinMap.{FinMap}
use Rattle.access_vectors.specs.Decisions.{Decisions}
use Rattle.access_vectors.specs.Stale.{slot_place}
use Rattle.access_vectors.specs.declared.class.Class.TheVariants as class
use Rattle.retained_rights.specs.Claims.{Claim, claims_of}
use Rattle.retained_rights.specs.Rights.{Rights, Fit, no_rights}
use Rattle.retained_rights.specs.declared.rule.Rule.TheVariants.{All}
use Rattle.retained_rights.proofs.Following.{client_of_place}
use Rattle.retained_rights.proofs.MapLemmas.{none_some, mapped-empty}
use Rattle.retained_rights.proofs.Opening.{fit_none}
use Rattle.retained_rights.proofs.StepLemmas.{step_new, step_kept}
use Rattle.process_calls.specs.States.{IsOpening, attach_mode, opened_with, with_slots}
use Rattle.process_calls.specs.declared.opening.ProcessOpening.{ProcessOpening}
use Rattle.process_calls.specs.declared.process.Process.{Process}
use Rattle.process_store.specs.Stores.{Numbered, StoreView, IsProcessOf, IsLinked, IsInStep, IsCounted, Safe, state_of, slots_of, follows}
use Rattle.process_store.specs.Laws.{safe_is}

-- each label is the decider's
abbrev pub AreKnown : Decisions → Numbered → Type 0
AreKnown d processes = (pid : ℕ) (process : Process) → maps.get processes pid ≡ Some process → IsTrue (d.known process.label)

-- other processes or rights
abbrev pub with_rights : StoreView → Rights → StoreView
with_rights shown now = record { opening = shown.opening; processes = shown.processes; rights = now }

abbrev pub with_both : StoreView → Numbered → Rights → StoreView
with_both shown processes rights = record { opening = shown.opening; processes = processes; rights = rights }

-- the promise under a decider with other processes and rights
pub safe_moved : (d : Decisions) (shown : StoreView) (processes : Numbered) (now : Rights) → Safe d shown → IsInStep (with_both shown processes now) → AreKnown d processes → Fit d now → Safe d (with_both shown processes now)
unfolding Safe
safe_moved d shown processes now safe step known fit = record { step = step; clients = safe.clients; labels = known; rights = fit }

pub safe_changed : (d : Decisions) (shown : StoreView) (now : Rights) → Safe d shown → IsInStep (with_rights shown now) → Fit d now → Safe d (with_rights shown now)
safe_changed d shown now safe step fit = safe_moved d shown shown.processes now safe step (safe_is d shown safe).labels fit

-- where a change of policy leaves what the slots are for
pub safe_kept : (d : Decisions) (shown : StoreView) (now : Rights) → Safe d shown → now.rule ≡ shown.rights.rule → now.class ≡ shown.rights.class
    → claims_of now ≡ claims_of shown.rights → Fit d now → Safe d (with_rights shown now)
safe_kept d shown now safe rule class claims fit = safe_changed d shown now safe (step_kept (safe_is d shown safe).step now rule class claims) fit

pub counted_kept : (count : ℕ) (shown : StoreView) (now : Rights) → IsCounted count shown → now.rule ≡ shown.rights.rule → now.class ≡ shown.rights.class
    → claims_of now ≡ claims_of shown.rights → IsCounted count (with_rights shown now)
counted_kept count shown now counted rule class claims = record { step = step_kept counted.step now rule class claims; count_is = counted.count_is }

-- the state with other slots
pub state_changed : (shown : StoreView) (now : Rights) (slots : FinMap nat_cmp ℕ) → slots_of (claims_of now) ≡ slots → state_of (with_rights shown now) ≡ with_slots (state_of shown) slots
state_changed shown now slots is = ap (with_slots (state_of shown)) is

-- no process is there
none_there : (pid : ℕ) (process : Process) → maps.get (maps.empty {R = nat_cmp}) pid ≡ Some process → ⊥
none_there pid process is = none_some process (sym (maps.get-empty nat_cmp pid) ∙ is)

-- processes as they are opened: none, and no rights
abbrev pub none_opened : ProcessOpening → StoreView
none_opened opening = record { opening = opening; processes = maps.empty; rights = no_rights All class.Process }

pub step_opened : (opening : ProcessOpening) → IsInStep (none_opened opening)
step_opened opening = step_new All class.Process (IsLinked opening.clients maps.empty)

pub safe_opened : (opening : ProcessOpening) (d : Decisions) → 0 < d.versions → IsOpening d opening → Safe d (none_opened opening)
unfolding Safe
safe_opened opening d some is = record {
  step = step_opened opening;
  clients = is;
  labels = λ pid process there. absurd (none_there pid process there);
  rights = fit_none d All class.Process some;
}

pub state_opened : (opening : ProcessOpening) → state_of (none_opened opening) ≡ opened_with opening
state_opened opening = state_changed (none_opened opening) (no_rights All class.Process) maps.empty (ap slots_of (mapped-empty _) ∙ mapped-empty _)

pub follows_opened : (opening : ProcessOpening) → follows (none_opened opening) ≡ maps.empty
follows_opened opening = mapped-empty _

-- what a slot is attached with is linked
pub link_filled : (shown : StoreView) (client slot : ℕ) (filling : Claim) → slot < 256 → IsProcessOf shown.processes filling.object filling.t → slice_index shown.opening.clients client ≡ filling.s
    → filling.mode ≡ attach_mode → IsLinked shown.opening.clients shown.processes (slot_place client slot) filling
link_filled shown client slot filling small target source mode =
    record { target = target; source = ap (slice_index shown.opening.clients) (client_of_place client slot small) ∙ source; mode = mode }

-- the label of a process is the decider's
pub process_known : (d : Decisions) (shown : StoreView) (object label : ℕ) → Safe d shown → IsProcessOf shown.processes object label → IsTrue (d.known label)
process_known d shown object label safe is =
    subst (λ sid. IsTrue (d.known sid)) is.label_is ((safe_is d shown safe).labels object is.process is.held)

-- How processes and rights show the plain manager's state: a slot holds a grant on a numbered process.
use Rattle.std.specs.Prelude.{◌≡◌, ℕ, ◌/◌, IsTrue, List, slice_index, Some, refl}
use Rattle.std.specs.Ordering.{nat_cmp}
use Rattle.std.specs.FinMap as maps
use Rattle.std.specs.FinMap.{FinMap}
use Rattle.std.specs.Coded.{Coded, code_by, coded×, coded_ℕ}
use Rattle.access_vectors.specs.Decisions.{Decisions}
use Rattle.access_vectors.specs.Mapped.{mapped}
use Rattle.access_vectors.specs.Stale.{Follows}
use Rattle.access_vectors.specs.declared.class.Class.TheVariants as class
use Rattle.retained_rights.specs.Claims.{Claim, Claims, claims_of, AreInStep}
use Rattle.retained_rights.specs.Rights.{Rights, Fit, follows_of, rights_code}
use Rattle.retained_rights.specs.declared.rule.Rule.TheVariants.{All}
use Rattle.process_calls.specs.States.{ProcessState, IsOpening, attach_mode}
use Rattle.process_calls.specs.contracts.opening.ProcessOpening as opening_type
use Rattle.process_calls.specs.contracts.process.Process as process_type
use Rattle.process_calls.specs.declared.opening.ProcessOpening.{ProcessOpening}
use Rattle.process_calls.specs.declared.process.Process.{Process}

-- the processes by their numbers
abbrev pub Numbered : Type 0
Numbered = FinMap nat_cmp Process

-- what contracts see of processes and rights: what they were opened with, the processes by their numbers, and the rights
pub record StoreView : Type 0 where
  pub opening : ProcessOpening
  pub processes : Numbered
  pub rights : Rights

-- how contracts tell such values apart
abbrev pub view_code : Coded StoreView
view_code =
    code_by (ProcessOpening × (Numbered × Rights)) (coded× opening_type.the_row.coded (coded× (maps.code coded_ℕ process_type.the_row.coded) rights_code))
    (λ v. (v.opening, (v.processes, v.rights))) (λ p. record { opening = p.0; processes = p.1.0; rights = p.1.1 }) (λ _. refl)

-- the plain slots: one that is for a numbered process is attached to it
abbrev pub slots_of : Claims → FinMap nat_cmp ℕ
slots_of claims = mapped (λ place claim. claim.object) claims

-- the state that the plain manager sees
abbrev pub state_of : StoreView → ProcessState
state_of shown = record { opening = shown.opening; processes = shown.processes; slots = slots_of (claims_of shown.rights) }

-- the policy number that each used slot follows
abbrev pub follows : StoreView → Follows
follows shown = follows_of shown.rights

-- there is a process of that number, and it has this label
pub record IsProcessOf (processes : Numbered) (pid : ℕ) (label : ℕ) : Type 0 where
  pub process : Process
  pub held : maps.get processes pid ≡ Some process
  pub label_is : process.label ≡ label

-- a slot is for a process, and for the pair of its client and of the process's present label, in the mode of every attached
-- slot
pub record IsLinked (clients : List ℕ) (processes : Numbered) (place : ℕ) (claim : Claim) : Type 0 where
  pub target : IsProcessOf processes claim.object claim.t
  pub source : slice_index clients (place / 256) ≡ claim.s
  pub mode : claim.mode ≡ attach_mode

-- processes and rights are in step
abbrev pub IsInStep : StoreView → Type 0
IsInStep shown = AreInStep All class.Process (IsLinked shown.opening.clients shown.processes) shown.rights

-- they are in step, and the processes are as many as are counted
pub record IsCounted (count : ℕ) (shown : StoreView) : Type 0 where
  pub step : IsInStep shown
  pub count_is : count ≡ maps.len shown.processes

-- the promise of processes and rights under a decider: they are in step, their identifiers are the decider's, and the rights
-- are those that the decider gives
pub record IsSafe (d : Decisions) (shown : StoreView) : Type 0 where
  pub step : IsInStep shown
  pub clients : IsOpening d shown.opening
  pub labels : (pid : ℕ) (process : Process) → maps.get shown.processes pid ≡ Some process → IsTrue (d.known process.label)
  pub rights : Fit d shown.rights

-- that promise, as a word that rows pass on unread
unfoldable pub Safe : Decisions → StoreView → Type 0
Safe d shown = IsSafe d shown

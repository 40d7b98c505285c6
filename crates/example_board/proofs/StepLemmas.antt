-- How board and rights stay in step, their promise under a decider, and the plain state that they show.
use Rattle.std.proofs.Common.{◌≡◌, ℕ, ◌<◌, sym, ap, subst, ◌∙◌}
use Rattle.std.specs.Prelude.{slice_index}
use Rattle.std.specs.FinMap as maps
use Rattle.access_vectors.specs.Decisions.{Decisions}
use Rattle.access_vectors.specs.Stale.{slot_place}
use Rattle.access_vectors.specs.declared.class.Class.TheVariants.{File}
use Rattle.retained_rights.specs.Claims.{Claim, claims_of}
use Rattle.retained_rights.specs.Rights.{Rights, Fit, no_rights}
use Rattle.retained_rights.specs.declared.rule.Rule.TheVariants.{Each}
use Rattle.retained_rights.proofs.Following.{client_of_place}
use Rattle.retained_rights.proofs.MapLemmas.{mapped-empty, mapped-insert, mapped-remove}
use Rattle.retained_rights.proofs.Opening.{fit_none}
use Rattle.retained_rights.proofs.StepLemmas as steps
use Rattle.example_board.specs.PlainManager.{IsOpening, opened_with, with_slots}
use Rattle.example_board.specs.declared.opening.BoardOpening.{BoardOpening}
use Rattle.example_board.specs.Boards.{BoardView, IsLinked, IsInStep, Safe, slots_of, state_of, follows}
use Rattle.example_board.specs.Laws.{safe_is}

-- other rights, and another number on the board
abbrev pub with_rights : BoardView → Rights → BoardView
with_rights shown now = record { opening = shown.opening; posted = shown.posted; rights = now }

abbrev pub posting : BoardView → ℕ → BoardView
posting shown posted = record { opening = shown.opening; posted = posted; rights = shown.rights }

-- the promise under a decider with other rights, and with another number on the board
pub safe_moved : (d : Decisions) (shown : BoardView) (now : Rights) → Safe d shown → IsInStep (with_rights shown now) → Fit d now → Safe d (with_rights shown now)
unfolding Safe
safe_moved d shown now safe step fit = record { step = step; known = safe.known; rights = fit }

pub safe_posted : (d : Decisions) (shown : BoardView) (posted : ℕ) → Safe d shown → Safe d (posting shown posted)
unfolding Safe
safe_posted d shown posted safe = record { step = safe.step; known = safe.known; rights = safe.rights }

-- where a change of policy leaves what the slots are for
pub safe_kept : (d : Decisions) (shown : BoardView) (now : Rights) → Safe d shown → now.rule ≡ shown.rights.rule → now.class ≡ shown.rights.class
    → claims_of now ≡ claims_of shown.rights → Fit d now → Safe d (with_rights shown now)
safe_kept d shown now safe rule class claims fit = safe_moved d shown now safe (steps.step_kept (safe_is d shown safe).step now rule class claims) fit

-- a board as it is opened
abbrev pub opened : BoardOpening → Rights → BoardView
opened opening rights = record { opening = opening; posted = 0; rights = rights }

module _ (opening : BoardOpening) (rights : Rights) (none : rights ≡ no_rights Each File) where
  pub step_opened : IsInStep (opened opening rights)
  step_opened = subst (λ now. IsInStep (opened opening now)) (sym none) (steps.step_new Each File (IsLinked opening))

  safe_none : (d : Decisions) → 0 < d.versions → IsOpening d opening → Safe d (opened opening (no_rights Each File))
  unfolding Safe
  safe_none d some is = record { step = steps.step_new Each File (IsLinked opening); known = is; rights = fit_none d Each File some }

  pub safe_opened : (d : Decisions) → 0 < d.versions → IsOpening d opening → Safe d (opened opening rights)
  safe_opened d some is = subst (λ now. Safe d (opened opening now)) (sym none) (safe_none d some is)

  pub state_opened : state_of (opened opening rights) ≡ opened_with opening
  state_opened = ap (λ now. state_of (opened opening now)) none ∙ ap (with_slots (opened_with opening)) (ap slots_of (mapped-empty _) ∙ mapped-empty _)

  pub follows_opened : follows (opened opening rights) ≡ maps.empty
  follows_opened = ap (λ now. follows (opened opening now)) none ∙ mapped-empty _

module _ (shown : BoardView) (now : Rights) where
  -- a slot of a client is filled
  pub step_filled : (client slot : ℕ) (filling : Claim) → slot < 256 → IsInStep shown → now.rule ≡ shown.rights.rule → now.class ≡ shown.rights.class
      → shown.opening.label ≡ filling.t → slice_index shown.opening.clients client ≡ filling.s → claims_of now ≡ maps.insert (claims_of shown.rights) (slot_place client slot) filling
      → IsInStep (with_rights shown now)
  step_filled client slot filling small step rule class target source claims =
      steps.step_filled step now rule class (IsLinked shown.opening) (slot_place client slot) filling claims (λ place claim link. link)
      (record { target = target; source = ap (slice_index shown.opening.clients) (client_of_place client slot small) ∙ source })

  pub state_filled : (at : ℕ) (filling : Claim) → claims_of now ≡ maps.insert (claims_of shown.rights) at filling
      → state_of (with_rights shown now) ≡ with_slots (state_of shown) (maps.insert (state_of shown).slots at filling.mode)
  state_filled at filling claims = ap (with_slots (state_of shown)) (ap slots_of claims ∙ mapped-insert _ (claims_of shown.rights) at filling)

  -- a slot is freed
  pub state_freed : (at : ℕ) → claims_of now ≡ maps.remove (claims_of shown.rights) at → state_of (with_rights shown now) ≡ with_slots (state_of shown) (maps.remove (state_of shown).slots at)
  state_freed at claims = ap (with_slots (state_of shown)) (ap slots_of claims ∙ mapped-remove _ (claims_of shown.rights) at)

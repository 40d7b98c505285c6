-- How the board and its rights show the plain board's state: a used slot holds a grant.
use Rattle.std.specs.Prelude.{◌≡◌, ℕ, ◌/◌, Some, None, slice_index, IsTrue, bit_and, refl}
use Rattle.std.specs.Ordering.{nat_cmp}
use Rattle.std.specs.FinMap as maps
use Rattle.std.specs.FinMap.{FinMap}
use Rattle.std.specs.Coded.{Coded, code_by, coded×, coded_ℕ}
use Rattle.access_vectors.specs.Decisions.{Decisions}
use Rattle.access_vectors.specs.Mapped.{mapped}
use Rattle.access_vectors.specs.Phases.{version_at, MayName}
use Rattle.access_vectors.specs.Stale.{Follows, slot_place}
use Rattle.access_vectors.specs.declared.class.Class.TheVariants.{File}
use Rattle.retained_rights.specs.Claims.{Claim, Claims, claims_of, AreInStep}
use Rattle.retained_rights.specs.Rights.{Rights, Fit, follows_of, rights_code}
use Rattle.retained_rights.specs.declared.grant.Usable.{Usable}
use Rattle.retained_rights.specs.declared.rule.Rule.TheVariants.{Each}
use Rattle.example_board.specs.PlainManager.{BoardState, IsOpening, sid_of}
use Rattle.example_board.specs.contracts.opening.BoardOpening as opening_type
use Rattle.example_board.specs.declared.opening.BoardOpening.{BoardOpening}

-- what contracts see of the board: what it was opened with, the number on it, and the rights
pub record BoardView : Type 0 where
  pub opening : BoardOpening
  pub posted : ℕ
  pub rights : Rights

-- how contracts tell such values apart
abbrev pub view_code : Coded BoardView
view_code =
    code_by (BoardOpening × (ℕ × Rights)) (coded× opening_type.the_row.coded (coded× coded_ℕ rights_code))
    (λ v. (v.opening, (v.posted, v.rights))) (λ p. record { opening = p.0; posted = p.1.0; rights = p.1.1 }) (λ _. refl)

-- the plain slots: a used slot's mode
abbrev pub slots_of : Claims → FinMap nat_cmp ℕ
slots_of claims = mapped (λ place claim. claim.mode) claims

-- the state that the plain board sees
abbrev pub state_of : BoardView → BoardState
state_of shown = record { opening = shown.opening; posted = shown.posted; slots = slots_of (claims_of shown.rights) }

-- the policy number that each used slot follows
abbrev pub follows : BoardView → Follows
follows shown = follows_of shown.rights

-- a slot is for the pair of its client and the board
pub record IsLinked (opening : BoardOpening) (place : ℕ) (claim : Claim) : Type 0 where
  pub target : opening.label ≡ claim.t
  pub source : slice_index opening.clients (place / 256) ≡ claim.s

-- board and rights are in step
abbrev pub IsInStep : BoardView → Type 0
IsInStep shown = AreInStep Each File (IsLinked shown.opening) shown.rights

-- the promise under a decider: board and rights are in step, the identifiers are the decider's, and the rights are those
-- that the decider gives
pub record IsSafe (d : Decisions) (shown : BoardView) : Type 0 where
  pub step : IsInStep shown
  pub known : IsOpening d shown.opening
  pub rights : Fit d shown.rights

-- the same as a word, which rows pass on unread
unfoldable pub Safe : Decisions → BoardView → Type 0
Safe d shown = IsSafe d shown

-- under a decider, a use of a client's slot is of the slot's mode, for the pair of the client and the board, and its bits
-- are those of its mode that the policy number which it follows allows
pub record IsUse (d : Decisions) (shown : BoardView) (client slot : ℕ) (usable : Usable) : Type 0 where
  pub held : maps.get (state_of shown).slots (slot_place client slot) ≡ Some usable.mode
  pub following : maps.get (follows shown) (slot_place client slot) ≡ Some usable.number
  pub target : shown.opening.label ≡ usable.t
  pub source : sid_of (state_of shown) client ≡ usable.s
  pub known_source : IsTrue (d.known usable.s)
  pub known_target : IsTrue (d.known usable.t)
  pub bits : (number : ℕ) → MayName shown.rights.phase number → usable.number ≡ number
      → usable.bits ≡ bit_and usable.mode (d.vector (version_at shown.rights.phase number) usable.s usable.t File)

-- a client's slot is free
pub record IsFree (shown : BoardView) (client slot : ℕ) : Type 0 where
  pub held : maps.get (state_of shown).slots (slot_place client slot) ≡ None
  pub following : maps.get (follows shown) (slot_place client slot) ≡ None

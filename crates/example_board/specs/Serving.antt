-- What a row of the board's code owes its row of the plain board.
use Rattle.std.specs.Prelude.{◌≡◌, ℕ, ◌<◌, Bool, false, length, is_some, Some, bit_and, IsTrue, Result, Ok, Err}
use Rattle.std.specs.FinMap as maps
use Rattle.flask_sid.specs.declared.memory.Memory.{Memory}
use Rattle.access_vectors.specs.Decisions.{Decisions}
use Rattle.access_vectors.specs.Phases.{version_at, MayName}
use Rattle.access_vectors.specs.Stale.{Follows, slot_place, is_use_following}
use Rattle.access_vectors.specs.declared.asker.Asker.{Ghosts}
use Rattle.access_vectors.specs.declared.class.Class.TheVariants.{File}
use Rattle.mode_questions.specs.Requests.{Request}
use Rattle.mode_questions.specs.Operations.{request, IsSameOperation, HasAsked, HasUsed}
use Rattle.mode_questions.specs.declared.operation.Operation.{Operation}
use Rattle.mode_questions.specs.declared.slot_uses.SlotUse.{SlotUse}
use Rattle.example_board.specs.PlainManager.{BoardAnswer, answered, followed_by, use_of, denial_of, when_done, sid_of}
use Rattle.example_board.specs.Boards.{BoardView, Safe, state_of, follows}
use Rattle.example_board.specs.declared.call.BoardCall.{BoardCall}
use Rattle.example_board.specs.declared.call.BoardReply.{BoardReply}

-- the board may serve a request: it keeps its promise under the decider, the client is one of its, the subject is the client's
-- identifier, and the number may be named, with its version
pub record MayServe (shown : BoardView) (r : Request) : Type 0 where
  pub safe : Safe r.decisions shown
  pub client : r.client < length shown.opening.clients
  pub subject : sid_of (state_of shown) r.client ≡ r.subject
  pub named : MayName shown.rights.phase r.number
  pub version : r.version ≡ version_at shown.rights.phase r.number

-- the board keeps its promise under a decider, what it was opened with, and where the change of policy stands
pub record Keeps (d : Decisions) (old new : BoardView) : Type 0 where
  pub safe : Safe d new
  pub opening : new.opening ≡ old.opening
  pub phase : new.rights.phase ≡ old.rights.phase

-- a slot of a place follows the number of a request
abbrev pub is_following : BoardView → ℕ → Request → Bool
is_following shown place r = is_use_following (Some place) (follows shown) r.number

-- for a request, what a used slot of its client gives; where the slot follows the request's number, its bits are those of its
-- mode that the policy allows
pub record IsHeld (r : Request) (shown : BoardView) (slot : ℕ) (usage : SlotUse) : Type 0 where
  pub held : maps.get (state_of shown).slots (slot_place r.client slot) ≡ Some usage.mode
  pub following : maps.get (follows shown) (slot_place r.client slot) ≡ Some usage.number
  pub target : shown.opening.label ≡ usage.t
  pub known : IsTrue (r.decisions.known usage.t)
  pub bits : usage.number ≡ r.number → usage.bits ≡ bit_and usage.mode (r.decisions.vector r.version r.subject usage.t File)

module _ {A : Type 0} {g : Ghosts A} where
  -- a row that changes nothing replies and asks through the slot of a place as the plain row says, which leaves the state as
  -- it is
  abbrev pub SaysThrough : ℕ → Result BoardReply Memory → BoardView → Operation A g → Operation A g → BoardAnswer → Type 0
  SaysThrough place (Ok said) shown before after answer =
      (said ≡ answer.reply) × (state_of shown ≡ answer.state)
      × HasUsed (is_following shown place (request before)) false before after answer.asked
  SaysThrough place (Err memory) shown before after answer = IsSameOperation before after

  -- a row replies, changes the state and asks through the slot of a place as the plain row says, and what the slots follow
  -- stays; want of memory leaves the board as it was
  abbrev pub ServesThrough : ℕ → Result BoardReply Memory → BoardView → BoardView → Operation A g → Operation A g → BoardAnswer → Type 0
  ServesThrough place (Ok said) old new before after answer =
      (said ≡ answer.reply) × (state_of new ≡ answer.state) × (follows new ≡ follows old)
      × Keeps (request before).decisions old new
      × HasUsed (is_following old place (request before)) false before after answer.asked
  ServesThrough place (Err memory) old new before after answer = (new ≡ old) × IsSameOperation before after

  -- the same of a row that asks by the cache and, where it is done, lets the slots follow this
  abbrev pub ServesSlots : Follows → Result BoardReply Memory → BoardView → BoardView → Operation A g → Operation A g → BoardAnswer → Type 0
  ServesSlots changed (Ok said) old new before after answer =
      (said ≡ answer.reply) × (state_of new ≡ answer.state) × (follows new ≡ when_done said changed (follows old))
      × Keeps (request before).decisions old new × HasAsked before after answer.asked
  ServesSlots changed (Err memory) old new before after answer = (new ≡ old) × IsSameOperation before after

  -- the same of any call
  abbrev pub ServesCall : BoardCall → Result BoardReply Memory → BoardView → BoardView → Operation A g → Operation A g → Type 0
  ServesCall call (Ok said) old new before after =
      let r = request before in
      let answer = answered r (state_of old) call in
      (said ≡ answer.reply) × (state_of new ≡ answer.state) × (follows new ≡ followed_by r call said (follows old))
      × Keeps r.decisions old new
      × HasUsed (is_use_following (use_of r.client call) (follows old) r.number) (is_some (denial_of said)) before after answer.asked
  ServesCall call (Err memory) old new before after = (new ≡ old) × IsSameOperation before after

-- What a row of the manager's code owes its row of the plain manager.
use Rattle.std.specs.Prelude.{◌≡◌, ℕ, ◌<◌, Bool, true, false, length, is_some, Some, Result, Ok, Err}
use Rattle.flask_sid.specs.declared.memory.Memory.{Memory}
use Rattle.access_vectors.specs.Decisions.{Decisions}
use Rattle.access_vectors.specs.Phases.{version_at, MayName}
use Rattle.access_vectors.specs.Stale.{Follows, is_use_following}
use Rattle.access_vectors.specs.declared.asker.Asker.{Ghosts}
use Rattle.mode_questions.specs.Requests.{Request}
use Rattle.mode_questions.specs.Operations.{request, IsSameOperation, HasAsked, HasUsed}
use Rattle.mode_questions.specs.declared.operation.Operation.{Operation}
use Rattle.file_calls.specs.PlainManager.{answered, followed_by, use_of, denial_of, when_done}
use Rattle.file_calls.specs.States.{FileAnswer, sid_of}
use Rattle.file_calls.specs.declared.call.FileCall.{FileCall}
use Rattle.file_calls.specs.declared.call.FileReply.{FileReply}
use Rattle.file_calls.specs.declared.call.FileReply.TheVariants as reply
use Rattle.file_store.specs.Stores.{StoreView, Safe, state_of, follows}

-- files may serve a request: they keep their promise under its decider, its client is one of theirs, its subject is the
-- client's identifier, and its number may be named, with its version
pub record MayServe (shown : StoreView) (r : Request) : Type 0 where
  pub safe : Safe r.decisions shown
  pub client : r.client < length shown.opening.clients
  pub subject : sid_of (state_of shown) r.client ≡ r.subject
  pub named : MayName shown.rights.phase r.number
  pub version : r.version ≡ version_at shown.rights.phase r.number

-- files keep their promise under a decider, what they were opened with, and where the change of policy stands
pub record Keeps (d : Decisions) (old new : StoreView) : Type 0 where
  pub safe : Safe d new
  pub opening : new.opening ≡ old.opening
  pub phase : new.rights.phase ≡ old.rights.phase

-- a slot of a place follows the number of a request
abbrev pub is_following : StoreView → ℕ → Request → Bool
is_following shown place r = is_use_following (Some place) (follows shown) r.number

module _ {A : Type 0} {g : Ghosts A} where
  -- a row that changes nothing replies and asks as the plain row says, which leaves the state as it is
  abbrev pub Says : Result FileReply Memory → StoreView → Operation A g → Operation A g → FileAnswer → Type 0
  Says (Ok said) shown before after answer =
      (said ≡ answer.reply) × (state_of shown ≡ answer.state) × HasAsked before after answer.asked
  Says (Err memory) shown before after answer = IsSameOperation before after

  -- the same through the slot of a place
  abbrev pub SaysThrough : ℕ → Result FileReply Memory → StoreView → Operation A g → Operation A g → FileAnswer → Type 0
  SaysThrough place (Ok said) shown before after answer =
      (said ≡ answer.reply) × (state_of shown ≡ answer.state)
      × HasUsed (is_following shown place (request before)) false before after answer.asked
  SaysThrough place (Err memory) shown before after answer = IsSameOperation before after

  -- a row replies, changes the state and asks as the plain row says, and what the slots follow stays; want of memory leaves
  -- the files as they were
  abbrev pub Serves : Result FileReply Memory → StoreView → StoreView → Operation A g → Operation A g → FileAnswer → Type 0
  Serves (Ok said) old new before after answer =
      (said ≡ answer.reply) × (state_of new ≡ answer.state) × (follows new ≡ follows old)
      × Keeps (request before).decisions old new × HasAsked before after answer.asked
  Serves (Err memory) old new before after answer = (new ≡ old) × IsSameOperation before after

  -- the same through the slot of a place
  abbrev pub ServesThrough : ℕ → Result FileReply Memory → StoreView → StoreView → Operation A g → Operation A g → FileAnswer → Type 0
  ServesThrough place (Ok said) old new before after answer =
      (said ≡ answer.reply) × (state_of new ≡ answer.state) × (follows new ≡ follows old)
      × Keeps (request before).decisions old new
      × HasUsed (is_following old place (request before)) false before after answer.asked
  ServesThrough place (Err memory) old new before after answer = (new ≡ old) × IsSameOperation before after

  -- the same of a row that, where it is done, lets the slots follow this
  abbrev pub ServesSlots : Follows → Result FileReply Memory → StoreView → StoreView → Operation A g → Operation A g → FileAnswer → Type 0
  ServesSlots changed (Ok said) old new before after answer =
      (said ≡ answer.reply) × (state_of new ≡ answer.state) × (follows new ≡ when_done said changed (follows old))
      × Keeps (request before).decisions old new × HasAsked before after answer.asked
  ServesSlots changed (Err memory) old new before after answer = (new ≡ old) × IsSameOperation before after

  -- the same of any call
  abbrev pub ServesCall : FileCall → Result FileReply Memory → StoreView → StoreView → Operation A g → Operation A g → Type 0
  ServesCall call (Ok said) old new before after =
      let r = request before in
      let answer = answered r (state_of old) call in
      (said ≡ answer.reply) × (state_of new ≡ answer.state) × (follows new ≡ followed_by r (state_of old) call said (follows old))
      × Keeps r.decisions old new
      × HasUsed (is_use_following (use_of r.client call) (follows old) r.number) (is_some (denial_of said)) before after answer.asked
  ServesCall call (Err memory) old new before after = (new ≡ old) × IsSameOperation before after

-- a reply that holds neither bytes nor names
abbrev pub is_short : FileReply → Bool
is_short (reply.Bytes bytes) = false
is_short (reply.Names names) = false
is_short other = true

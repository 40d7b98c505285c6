-- What a row of the manager's code owes its row of the plain manager.
use Rattle.std.specs.Prelude.{◌≡◌, ◌==◌, ℕ, ◌<◌, Bool, [], length, is_some, Some, bit_and, Result, Ok, Err, if◌then◌else◌}
use Rattle.std.specs.FinMap as maps
use Rattle.flask_sid.specs.declared.memory.Memory.{Memory}
use Rattle.access_vectors.specs.Decisions.{Decisions}
use Rattle.access_vectors.specs.Phases.{version_at, MayName}
use Rattle.access_vectors.specs.Stale.{Follows, is_use_following}
use Rattle.access_vectors.specs.declared.asker.Asker.{Ghosts}
use Rattle.access_vectors.specs.declared.class.Class.TheVariants as class
use Rattle.mode_questions.specs.Covered.{IsModeOf}
use Rattle.mode_questions.specs.Requests.{Request}
use Rattle.mode_questions.specs.Operations.{request, IsSameOperation, HasAsked, HasUsed}
use Rattle.mode_questions.specs.declared.operation.Operation.{Operation}
use Rattle.retained_rights.specs.declared.grant.Usable.{Usable}
use Rattle.process_calls.specs.PlainManager.{answered, followed_by, use_of, denial_of, when_done, when_told}
use Rattle.process_calls.specs.States.{ProcessAnswer, sid_of, attach_perms}
use Rattle.process_calls.specs.declared.call.ProcessCall.{ProcessCall}
use Rattle.process_calls.specs.declared.call.ProcessReply.{ProcessReply}
use Rattle.process_calls.specs.declared.process.Process.{Process}
use Rattle.process_store.specs.Stores.{StoreView, Safe, state_of, follows}
use Rattle.process_store.specs.Uses.{IsUse}

-- processes may serve a request: they keep their promise under its decider, its client is one of theirs, its subject is the
-- client's identifier, and its number may be named, with its version
pub record MayServe (shown : StoreView) (r : Request) : Type 0 where
  pub safe : Safe r.decisions shown
  pub client : r.client < length shown.opening.clients
  pub subject : sid_of (state_of shown) r.client ≡ r.subject
  pub named : MayName shown.rights.phase r.number
  pub version : r.version ≡ version_at shown.rights.phase r.number

-- processes keep their promise under a decider, what they were opened with, and where the change of policy stands
pub record Keeps (d : Decisions) (old new : StoreView) : Type 0 where
  pub safe : Safe d new
  pub opening : new.opening ≡ old.opening
  pub phase : new.rights.phase ≡ old.rights.phase

-- a slot of a place follows the number of a request
abbrev pub is_following : StoreView → ℕ → Request → Bool
is_following shown place r = is_use_following (Some place) (follows shown) r.number

-- the rest of a row for a request, which asks nothing more, replies and changes the state as the plain rest says, and what
-- the slots follow stays; want of memory leaves the processes as they were
abbrev pub Ends : Request → Result ProcessReply Memory → StoreView → StoreView → ProcessAnswer → Type 0
Ends r (Ok said) old new answer =
    (said ≡ answer.reply) × (state_of new ≡ answer.state) × (answer.asked ≡ []) × (follows new ≡ follows old) × Keeps r.decisions old new
Ends r (Err memory) old new answer = new ≡ old

module _ {A : Type 0} {g : Ghosts A} where
  -- a row that changes nothing replies and asks as the plain row says, which leaves the state as it is
  abbrev pub Says : Result ProcessReply Memory → StoreView → Operation A g → Operation A g → ProcessAnswer → Type 0
  Says (Ok said) shown before after answer =
      (said ≡ answer.reply) × (state_of shown ≡ answer.state) × HasAsked before after answer.asked
  Says (Err memory) shown before after answer = IsSameOperation before after

  -- the same through the slot of a place
  abbrev pub SaysThrough : ℕ → Result ProcessReply Memory → StoreView → Operation A g → Operation A g → ProcessAnswer → Type 0
  SaysThrough place (Ok said) shown before after answer =
      (said ≡ answer.reply) × (state_of shown ≡ answer.state)
      × HasUsed (is_following shown place (request before)) (is_some (denial_of said)) before after answer.asked
  SaysThrough place (Err memory) shown before after answer = IsSameOperation before after

  -- a row replies, changes the state and asks as the plain row says, and what the slots follow stays; want of memory leaves
  -- the processes as they were
  abbrev pub Serves : Result ProcessReply Memory → StoreView → StoreView → Operation A g → Operation A g → ProcessAnswer → Type 0
  Serves (Ok said) old new before after answer =
      (said ≡ answer.reply) × (state_of new ≡ answer.state) × (follows new ≡ follows old)
      × Keeps (request before).decisions old new × HasAsked before after answer.asked
  Serves (Err memory) old new before after answer = (new ≡ old) × IsSameOperation before after

  -- the same through the slot of a place
  abbrev pub ServesThrough : ℕ → Result ProcessReply Memory → StoreView → StoreView → Operation A g → Operation A g → ProcessAnswer → Type 0
  ServesThrough place (Ok said) old new before after answer =
      (said ≡ answer.reply) × (state_of new ≡ answer.state) × (follows new ≡ follows old)
      × Keeps (request before).decisions old new
      × HasUsed (is_following old place (request before)) (is_some (denial_of said)) before after answer.asked
  ServesThrough place (Err memory) old new before after answer = (new ≡ old) × IsSameOperation before after

  -- the same of a row that, where it is done, lets the slots follow this
  abbrev pub ServesSlots : Follows → Result ProcessReply Memory → StoreView → StoreView → Operation A g → Operation A g → ProcessAnswer → Type 0
  ServesSlots changed (Ok said) old new before after answer =
      (said ≡ answer.reply) × (state_of new ≡ answer.state) × (follows new ≡ when_done said changed (follows old))
      × Keeps (request before).decisions old new × HasAsked before after answer.asked
  ServesSlots changed (Err memory) old new before after answer = (new ≡ old) × IsSameOperation before after

  -- the same of a row that does so where it tells a number
  abbrev pub ServesTold : Follows → Result ProcessReply Memory → StoreView → StoreView → Operation A g → Operation A g → ProcessAnswer → Type 0
  ServesTold changed (Ok said) old new before after answer =
      (said ≡ answer.reply) × (state_of new ≡ answer.state) × (follows new ≡ when_told said changed (follows old))
      × Keeps (request before).decisions old new × HasAsked before after answer.asked
  ServesTold changed (Err memory) old new before after answer = (new ≡ old) × IsSameOperation before after

  -- the same of any call
  abbrev pub ServesCall : ProcessCall → Result ProcessReply Memory → StoreView → StoreView → Operation A g → Operation A g → Type 0
  ServesCall call (Ok said) old new before after =
      let r = request before in
      let answer = answered r (state_of old) call in
      (said ≡ answer.reply) × (state_of new ≡ answer.state) × (follows new ≡ followed_by r (state_of old) call said (follows old))
      × Keeps r.decisions old new
      × HasUsed (is_use_following (use_of r.client call) (follows old) r.number) (is_some (denial_of said)) before after answer.asked
  ServesCall call (Err memory) old new before after = (new ≡ old) × IsSameOperation before after

-- for a request, the use of a slot of its client, and the slot's process; where the slot follows the request's number, its
-- bits are the whole mode or none, as the policy allows
pub record IsAttached (r : Request) (shown : StoreView) (slot : ℕ) (usable : Usable) (process : Process) : Type 0 where
  pub usage : IsUse r.decisions shown r.client slot usable
  pub mode : IsModeOf class.Process attach_perms usable.mode
  pub bits : usable.number ≡ r.number → let vector = r.decisions.vector r.version r.subject usable.t class.Process in
      usable.bits ≡ (if bit_and usable.mode vector == usable.mode then usable.mode else 0)
  pub at : maps.get shown.processes usable.object ≡ Some process
  pub label : process.label ≡ usable.t

-- An operation: one call in hand, with who asks for it and what was asked so far.
use Rattle.std.specs.Prelude.{◌≡◌, Bool, true, false, List, [], ◌∷◌, ◌++◌, Option, Result, Ok, Err, is_some, if◌then◌else◌}
use Rattle.flask_sid.specs.declared.memory.Memory.{Memory}
use Rattle.access_vectors.specs.Table.{Permission}
use Rattle.access_vectors.specs.Asking.{with_keys_of}
use Rattle.access_vectors.specs.declared.asked.Asked.{Asked}
use Rattle.access_vectors.specs.declared.asker.Asker.{Ghosts}
use Rattle.mode_questions.specs.Requests.{Request, Asking}
use Rattle.mode_questions.specs.declared.operation.Caller.{Caller}
use Rattle.mode_questions.specs.declared.operation.Operation.{Operation}

-- the request of a caller: to the decider of the asker with which its call began, at that asker's version
abbrev pub request_by : {A : Type 0} → Ghosts A → Caller A → Request
request_by g caller = record {
  decisions = g.decides caller.begun.value;
  version = g.version caller.begun.value;
  client = caller.client;
  subject = caller.subject;
  number = caller.number;
}

-- the request of an operation is its caller's
abbrev pub request : {A : Type 0} {g : Ghosts A} → Operation A g → Request
request {g = g} operation = request_by g operation.caller.now

-- it is the same operation: of the same caller, over the same questions and the same asker, in which nothing but what asking
-- changes differs
pub record IsSameOperation {A : Type 0} {g : Ghosts A} (before after : Operation A g) : Type 0 where
  pub caller : after.caller.now ≡ before.caller.now
  pub asker : g.same before.asker.now after.asker.now
  pub asker_name : after.asker.ghost_name ≡ before.asker.ghost_name
  pub asked_name : after.asked.ghost_name ≡ before.asked.ghost_name

-- it has asked these questions besides, each by the asker's cache
pub record HasAsked {A : Type 0} {g : Ghosts A} (before after : Operation A g) (asked : List Asked) : Type 0 where
  pub asked_are : after.asked.now ≡ before.asked.now ++ asked
  pub keys : g.keys after.asker.now ≡ with_keys_of (g.keys before.asker.now) asked
  pub same : IsSameOperation before after

-- it has asked these questions besides, each by the asker's cache, but where a slot follows the number: then no cache was
-- looked up, and if nothing was denied nobody was asked
pub record HasUsed {A : Type 0} {g : Ghosts A} (following denied : Bool) (before after : Operation A g) (asked : List Asked) : Type 0 where
  pub asked_are : after.asked.now ≡ before.asked.now ++ asked
  pub keys : g.keys after.asker.now ≡ (if following then g.keys before.asker.now else with_keys_of (g.keys before.asker.now) asked)
  pub quiet : denied ≡ false → following ≡ true → g.asks after.asker.now ≡ g.asks before.asker.now
  pub same : IsSameOperation before after

-- a question was asked by the asker's cache, and this is its answer; after want of memory it is the same operation
abbrev pub IsAnswered : {A : Type 0} {g : Ghosts A} → Result Bool Memory → Operation A g → Operation A g → Asked → Type 0
IsAnswered (Ok allowed) before after asked = (allowed ≡ asked.yes) × HasAsked before after (asked ∷ [])
IsAnswered (Err memory) before after asked = IsSameOperation before after

-- the same of a use of a slot, which follows the number or does not
abbrev pub IsUseAnswered : {A : Type 0} {g : Ghosts A} → Bool → Result Bool Memory → Operation A g → Operation A g → Asked → Type 0
IsUseAnswered following (Ok allowed) before after asked = (allowed ≡ asked.yes) × HasUsed following false before after (asked ∷ [])
IsUseAnswered following (Err memory) before after asked = IsSameOperation before after

-- the permissions of a mode were asked by the asker's cache, and this is the first that was denied
abbrev pub IsModeAnswered : {A : Type 0} {g : Ghosts A} → Result (Option Permission) Memory → Operation A g → Operation A g → Asking → Type 0
IsModeAnswered (Ok denied) before after asking = (denied ≡ asking.denied) × HasAsked before after asking.asked
IsModeAnswered (Err memory) before after asking = IsSameOperation before after

-- the same of a use of a slot's whole mode
abbrev pub IsWholeAnswered : {A : Type 0} {g : Ghosts A} → Bool → Result (Option Permission) Memory → Operation A g → Operation A g → Asking → Type 0
IsWholeAnswered following (Ok denied) before after asking =
    (denied ≡ asking.denied) × HasUsed following (is_some denied) before after asking.asked
IsWholeAnswered following (Err memory) before after asking = IsSameOperation before after

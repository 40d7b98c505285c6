-- Rows that begin with a walk: what the rest owes its plain rest, the whole owes the plain row.
use Rattle.std.proofs.Common.{◌≡◌, ℕ, List, ◌++◌, Option, None, Result, Ok, Err, refl, sym, ap, subst, ◌∙◌}
use Rattle.std.specs.Prelude.{option_map}
use Rattle.std.specs.FinMap as maps
use Rattle.access_vectors.specs.Stale.{Follows}
use Rattle.access_vectors.specs.declared.asker.Asker.{Ghosts}
use Rattle.flask_sid.specs.declared.memory.Memory.{Memory}
use Rattle.mode_questions.specs.Requests.{Request, stopped_or}
use Rattle.mode_questions.specs.Operations.{request_by, request, HasAsked}
use Rattle.mode_questions.specs.declared.operation.Caller.{Caller}
use Rattle.mode_questions.specs.declared.operation.Operation.{Operation}
use Rattle.mode_questions.proofs.Asks.{same_more, asked_more}
use Rattle.file_tree.specs.Nodes.{Nodes, path_in, step_from}
use Rattle.file_tree.specs.PlainTree.{Item, plain, item_of}
use Rattle.file_tree.specs.declared.step.Step.{Step}
use Rattle.file_calls.specs.PlainManager.{when_done}
use Rattle.file_calls.specs.States.{FileAnswer}
use Rattle.file_calls.specs.Walks.{Walk, after_walk}
use Rattle.file_calls.specs.declared.call.FileReply.{FileReply}
use Rattle.file_store.specs.Stores as stores
use Rattle.file_store.specs.Stores.{StoreView, state_of}
use Rattle.file_manager.specs.declared.walks.Spot.{Spot}
use Rattle.file_manager.specs.declared.walks.Below.{Below}
use Rattle.file_manager.specs.declared.walks.Below.TheVariants as below
use Rattle.file_manager.specs.declared.walks.Walked.{Walked}
use Rattle.file_manager.specs.declared.walks.Walked.TheVariants as walked
use Rattle.file_manager.specs.Serving.{Keeps, Says, Serves, ServesSlots}
use Rattle.file_manager.specs.Walking.{IsBelow, IsWalked, IsFreeIn, label_of}

-- nothing stopped a walk, and it came to this path, in a directory of this label, where this stands
pub record Leads (nodes : Nodes) (walk : Walk) (at : List Step) (above : ℕ) (item : Option Item) : Type 0 where
  pub through : walk.stop ≡ None
  pub at_is : at ≡ walk.at
  pub above_is : above ≡ walk.above
  pub item_is : item ≡ maps.get (plain nodes) walk.at

pub to_found : (nodes : Nodes) (walk : Walk) (object : ℕ) (told : Walked) → told ≡ walked.Found object → IsWalked nodes walk told
    → Leads nodes walk (path_in nodes object) walk.above (option_map item_of (maps.get nodes object))
to_found nodes walk object told told_is is =
    let found = subst (IsWalked nodes walk) told_is is in
    record { through = found.through; at_is = found.at; above_is = refl; item_is = sym found.item }

pub to_found_in : (nodes : Nodes) (walk : Walk) (directory object : ℕ) (name : List ℕ) (told : Below) → told ≡ below.Found directory object → IsBelow nodes walk name told
    → Leads nodes walk (path_in nodes object) (label_of (maps.get nodes directory)) (option_map item_of (maps.get nodes object))
to_found_in nodes walk directory object name told told_is is =
    let found = subst (IsBelow nodes walk name) told_is is in
    record { through = found.found.through; at_is = found.found.at; above_is = found.above; item_is = sym found.found.item }

pub to_missing : (nodes : Nodes) (walk : Walk) (spot : Spot) (name other : List ℕ) (told : Below) → told ≡ below.Missing spot → other ≡ name → IsBelow nodes walk name told
    → Leads nodes walk (step_from (path_in nodes spot.directory) spot.key other) (label_of (maps.get nodes spot.directory)) None
to_missing nodes walk spot name other told told_is same is =
    let missing = subst (IsBelow nodes walk name) told_is is in
    record {
      through = missing.through;
      at_is = ap (step_from (path_in nodes spot.directory) spot.key) same ∙ missing.at;
      above_is = missing.above;
      item_is = sym missing.item;
    }

-- the entry that is missing may be put there, by the name that it would have
pub missing_free : (nodes : Nodes) (walk : Walk) (spot : Spot) (name other : List ℕ) (told : Below) → told ≡ below.Missing spot → other ≡ name → IsBelow nodes walk name told
    → IsFreeIn nodes spot other
missing_free nodes walk spot name other told told_is same is =
    subst (IsFreeIn nodes spot) (sym same) (subst (IsBelow nodes walk name) told_is is).free

-- a plain row's rest: of a request, by where the walk came
abbrev Rest : Type 0
Rest = Request → List Step → ℕ → Option Item → FileAnswer

-- for the operations of one asker, whose relation of sameness is transitive
module _ {A : Type 0} {g : Ghosts A} (transitive : (a b c : A) → g.same a b → g.same b c → g.same a c) where
  -- the rest of a request behind the walk is the rest of the row
  rest_is : (row : Rest) (before middle : Operation A g) (nodes : Nodes) (walk : Walk) (at : List Step) (above : ℕ) (item : Option Item)
      → Leads nodes walk at above item → middle.caller.now ≡ before.caller.now
      → row (request middle) at above item ≡ row (request before) walk.at walk.above (maps.get (plain nodes) walk.at)
  rest_is row before middle nodes walk at above item leads same =
      ap (λ (caller : Caller A). row (request_by g caller) at above item) same
      ∙ (λ i. row (request before) (leads.at_is i) (leads.above_is i) (leads.item_is i))

  pub says_after : (row : Rest) (before middle after : Operation A g) (shown : StoreView) (walk : Walk) (at : List Step) (above : ℕ) (item : Option Item)
      (result : Result FileReply Memory)
      → Leads shown.nodes walk at above item → HasAsked before middle walk.asked
      → Says result shown middle after (row (request middle) at above item)
      → Says result shown before after (after_walk (state_of shown) walk (row (request before) walk.at walk.above (maps.get (plain shown.nodes) walk.at)))
  says_after row before middle after shown walk at above item (Err memory) leads asked says = same_more transitive before middle after asked.same says
  says_after row before middle after shown walk at above item (Ok said) leads asked says =
      let rest = row (request middle) at above item in
      let is = rest_is row before middle shown.nodes walk at above item leads asked.same.caller in
      let whole : after_walk (state_of shown) walk rest ≡ record { reply = rest.reply; state = rest.state; asked = walk.asked ++ rest.asked } =
      ap (stopped_or (state_of shown) walk.asked rest) leads.through in
      subst (Says (Ok said) shown before after) (sym whole ∙ ap (after_walk (state_of shown) walk) is)
      (says.0, says.1, asked_more transitive before middle after walk.asked rest.asked asked says.2)

  pub serves_after : (row : Rest) (before middle after : Operation A g) (old new : StoreView) (walk : Walk) (at : List Step) (above : ℕ) (item : Option Item)
      (result : Result FileReply Memory)
      → Leads old.nodes walk at above item → HasAsked before middle walk.asked
      → Serves result old new middle after (row (request middle) at above item)
      → Serves result old new before after (after_walk (state_of old) walk (row (request before) walk.at walk.above (maps.get (plain old.nodes) walk.at)))
  serves_after row before middle after old new walk at above item (Err memory) leads asked serves =
      (serves.0, same_more transitive before middle after asked.same serves.1)
  serves_after row before middle after old new walk at above item (Ok said) leads asked serves =
      let rest = row (request middle) at above item in
      let is = rest_is row before middle old.nodes walk at above item leads asked.same.caller in
      let whole : after_walk (state_of old) walk rest ≡ record { reply = rest.reply; state = rest.state; asked = walk.asked ++ rest.asked } =
      ap (stopped_or (state_of old) walk.asked rest) leads.through in
      subst (Serves (Ok said) old new before after) (sym whole ∙ ap (after_walk (state_of old) walk) is) (
        serves.0,
        serves.1,
        serves.2,
        subst (λ (caller : Caller A). Keeps (request_by g caller).decisions old new) asked.same.caller serves.3,
        asked_more transitive before middle after walk.asked rest.asked asked serves.4,
      )

  pub slots_after : (changed : Request → List Step → Follows) (row : Rest) (before middle after : Operation A g) (old new : StoreView) (walk : Walk) (at : List Step) (above : ℕ)
      (item : Option Item) (result : Result FileReply Memory)
      → Leads old.nodes walk at above item → HasAsked before middle walk.asked
      → ServesSlots (changed (request middle) at) result old new middle after (row (request middle) at above item)
      → ServesSlots (changed (request before) walk.at) result old new before after
      (after_walk (state_of old) walk (row (request before) walk.at walk.above (maps.get (plain old.nodes) walk.at)))
  slots_after changed row before middle after old new walk at above item (Err memory) leads asked serves =
      (serves.0, same_more transitive before middle after asked.same serves.1)
  slots_after changed row before middle after old new walk at above item (Ok said) leads asked serves =
      let rest = row (request middle) at above item in
      let is = rest_is row before middle old.nodes walk at above item leads asked.same.caller in
      let whole : after_walk (state_of old) walk rest ≡ record { reply = rest.reply; state = rest.state; asked = walk.asked ++ rest.asked } =
      ap (stopped_or (state_of old) walk.asked rest) leads.through in
      let changed_is : changed (request middle) at ≡ changed (request before) walk.at =
      (λ i. changed (request_by g (asked.same.caller i)) (leads.at_is i)) in
      subst (ServesSlots (changed (request before) walk.at) (Ok said) old new before after) (sym whole ∙ ap (after_walk (state_of old) walk) is) (
        serves.0,
        serves.1,
        serves.2 ∙ ap (λ (follows : Follows). when_done said follows (stores.follows old)) changed_is,
        subst (λ (caller : Caller A). Keeps (request_by g caller).decisions old new) asked.same.caller serves.3,
        asked_more transitive before middle after walk.asked rest.asked asked serves.4,
      )

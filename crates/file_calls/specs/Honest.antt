-- What holds of every answer: its questions have the answers that the decisions give, and are those of its reply; and no call
-- changes what the manager was opened with, so that a call which is well formed stays so.
use Rattle.std.specs.Prelude.{◌≡◌, length, ◌<◌, ℕ, Bool, true, false, nat_lt, List, [], ◌∷◌, Option, Some, None, refl, if◌then◌else◌}
use Rattle.std.proofs.Common.{sym, subst}
use Rattle.std.specs.FinMap as maps
use Rattle.access_vectors.specs.Table.{Permission}
use Rattle.access_vectors.specs.Vectors.{has}
use Rattle.access_vectors.specs.Stale.{slot_place}
use Rattle.access_vectors.specs.Perms.{file_read, file_write, file_append, file_unlink, dir_read, dir_search, dir_add_name, dir_remove_name}
use Rattle.access_vectors.specs.Decisions.{Decisions}
use Rattle.access_vectors.specs.declared.asked.Asked.{Asked}
use Rattle.manager_history.specs.Answers.{IsHonest}
use Rattle.mode_questions.specs.Honesty as honest
use Rattle.mode_questions.specs.Requests.{Request, question_of, with_subject}
use Rattle.file_tree.specs.Nodes.{step_from}
use Rattle.file_tree.specs.PlainTree.{PlainTree, Item, has_entry_below}
use Rattle.file_tree.specs.declared.step.Step.{Step}
use Rattle.file_calls.specs.Openings.{node_limit, byte_limit}
use Rattle.file_calls.specs.States.{Held, FileState, FileAnswer, sid_of, with_tree, mode_perms, saying, asking, asking_whole, after_asking}
use Rattle.file_calls.specs.Walks.{Walk, entry_key, then_walking, looked_into, walked_from, walked, after_walk}
use Rattle.file_calls.specs.PathCalls.{new_label, create_perm, getattr_perm, relabelfrom_perm, relabelto_perm, put_in, made_at, taken_out, unlinked_as, unlinked_at, listed_as, listed_at, told_at, relabelled_at}
use Rattle.file_calls.specs.SlotCalls.{filled, opened_as, opened_at, open_into, with_file, used, sized, closed, given_into, given_from}
use Rattle.file_calls.specs.PlainManager.{answered, answer, request_of, denial_of, IsNamed, IsFormed}
use Rattle.file_calls.specs.declared.opening.FileOpening.{FileOpening}
use Rattle.file_calls.specs.declared.call.FileCall.{FileCall}
use Rattle.file_calls.specs.declared.call.FileCall.TheVariants as call
use Rattle.file_calls.specs.declared.call.FileReply.{FileReply}
use Rattle.file_calls.specs.declared.call.FileReply.TheVariants as reply

-- an answer to a request in a state is honest, and leaves the opening
abbrev Sound : Request → FileState → FileAnswer → Type 0
Sound r state given = IsHonest denial_of r.decisions r.number r.version given × (given.state.opening ≡ state.opening)

-- what the manager was opened with
abbrev opening_of : FileState → FileOpening
opening_of state = state.opening

-- the questions before a call was stopped, or was not, are those of what stopped it
abbrev IsHonestStop : Request → Option FileReply → List Asked → Type 0
IsHonestStop = honest.IsHonestStop reply.Denied denial_of (λ perm number. refl)

-- a reply that asks nothing more
sound_saying : (r : Request) (state after : FileState) (said : FileReply) → denial_of said ≡ None → after.opening ≡ state.opening → Sound r state (saying after said)
sound_saying r state after said none kept = honest.sound_saying reply.Denied denial_of (λ perm number. refl) opening_of r state after said none kept

-- a question first
sound_asking : (r : Request) (state : FileState) (t : ℕ) (perm : Permission) (rest : FileAnswer) → Sound r state rest → Sound r state (asking r state t perm rest)
sound_asking r state t perm rest is = honest.sound_asking reply.Denied denial_of (λ perm number. refl) opening_of r state t perm rest is

-- the permissions of a mode first
sound_after_asking : (r : Request) (state : FileState) (t mode : ℕ) (rest : FileAnswer) → Sound r state rest → Sound r state (after_asking r state (asking_whole r t mode) rest)
sound_after_asking r state t mode rest is = honest.sound_after_asking reply.Denied denial_of (λ perm number. refl) opening_of r state t mode mode_perms rest is

-- nothing was asked, and nothing stopped the call but a reply that is no denial
none_asked : (r : Request) (stop : Option FileReply) → honest.denial_in reply.Denied denial_of (λ perm number. refl) stop ≡ None → IsHonestStop r stop []
none_asked r stop none = honest.none_asked reply.Denied denial_of (λ perm number. refl) r stop none

-- search on a directory before the rest of a walk
walk_then : (r : Request) (here : List Step) (above label : ℕ) (rest : Walk) → IsHonestStop r rest.stop rest.asked
    → let walk = then_walking r here above label rest in IsHonestStop r walk.stop walk.asked
walk_then r here above label rest is =
    let q = question_of r label dir_search in
    elim q.yes as (λ (b : Bool). q.yes ≡ b
    → let walk : Walk = if b then record { stop = rest.stop; at = rest.at; above = rest.above; asked = q ∷ rest.asked }
    else record { stop = Some (reply.Denied dir_search r.number); at = here; above = above; asked = q ∷ [] } in
    IsHonestStop r walk.stop walk.asked) [
      | true ↦ λ allowed. honest.yes_first reply.Denied denial_of (λ perm number. refl) r label dir_search rest.stop rest.asked allowed is
      | false ↦ λ lacks. honest.no_alone reply.Denied denial_of (λ perm number. refl) r label dir_search lacks
    ] refl

-- a walk that goes on from what stands here
honest_looked : (r : Request) (above : ℕ) (here : List Step) (item : Option Item) (next : ℕ → Walk) → ((label : ℕ) → IsHonestStop r (next label).stop (next label).asked)
    → let walk = looked_into r above here item next in IsHonestStop r walk.stop walk.asked
honest_looked r above here None next is = none_asked r (Some reply.NotFound) refl
honest_looked r above here (Some item) next is =
    elim item.bytes as (λ (bytes : Option (List ℕ)).
    let walk = looked_into r above here (Some (record { label = item.label; bytes = bytes })) next in
    IsHonestStop r walk.stop walk.asked) [
      | Some bytes ↦ none_asked r (Some reply.NotDir) refl
      | None ↦ walk_then r here above item.label (next item.label) (is item.label)
    ]

-- a walk
honest_walk : (r : Request) (tree : PlainTree) (above : ℕ) (here : List Step) (names : List (List ℕ))
    → let walk = walked_from r tree above here names in IsHonestStop r walk.stop walk.asked
honest_walk r tree above here [] = none_asked r None refl
honest_walk r tree above here (name ∷ names) =
    honest_looked r above here (maps.get tree here)
    (λ label. walked_from r tree label (step_from here (entry_key r label) name) names)
    (λ label. honest_walk r tree label (step_from here (entry_key r label) name) names)

-- a walk first
sound_after_walk : (r : Request) (state : FileState) (path : List (List ℕ)) (rest : FileAnswer) → Sound r state rest → Sound r state (after_walk state (walked r state path) rest)
sound_after_walk r state path rest is =
    let walk = walked r state path in
    honest.sound_stopped reply.Denied denial_of (λ perm number. refl) opening_of r state walk.stop walk.asked rest (honest_walk r state.tree 0 [] path) is

-- making
sound_put : (r : Request) (state : FileState) (at : List Step) (item : Item) → Sound r state (put_in state at item)
sound_put r state at item =
    elim (nat_lt (maps.len state.tree) node_limit) as (λ (b : Bool). Sound r state
    (if b then saying (with_tree state (maps.insert state.tree at item)) reply.Done else saying state reply.TooMany)) [
      | true ↦ sound_saying r state (with_tree state (maps.insert state.tree at item)) reply.Done refl refl
      | false ↦ sound_saying r state state reply.TooMany refl refl
    ]

sound_made : (r : Request) (state : FileState) (bytes : Option (List ℕ)) (at : List Step) (above : ℕ) (item : Option Item) → Sound r state (made_at r state bytes at above item)
sound_made r state bytes at above (Some item) = sound_saying r state state reply.Exists refl refl
sound_made r state bytes at above None =
    let label = new_label r above bytes in
    let item : Item = record { label = label; bytes = bytes } in
    sound_asking r state above dir_add_name (asking r state label (create_perm bytes) (put_in state at item))
    (sound_asking r state label (create_perm bytes) (put_in state at item) (sound_put r state at item))

-- taking out
sound_taken : (r : Request) (state : FileState) (at : List Step) → Sound r state (taken_out state at)
sound_taken r state at = sound_saying r state _ reply.Done refl refl

sound_unlinked_as : (r : Request) (state : FileState) (at : List Step) (label : ℕ) (bytes : Option (List ℕ)) → Sound r state (unlinked_as r state at label bytes)
sound_unlinked_as r state at label (Some bytes) =
    sound_asking r state label file_unlink (taken_out state at) (sound_taken r state at)
sound_unlinked_as r state at label None =
    elim (has_entry_below state.tree at) as (λ (b : Bool). Sound r state (if b then saying state reply.NotEmpty else taken_out state at)) [
      | true ↦ sound_saying r state state reply.NotEmpty refl refl
      | false ↦ sound_taken r state at
    ]

sound_unlinked : (r : Request) (state : FileState) (at : List Step) (above : ℕ) (item : Option Item) → Sound r state (unlinked_at r state at above item)
sound_unlinked r state at above None = sound_saying r state state reply.NotFound refl refl
sound_unlinked r state at above (Some item) =
    sound_asking r state above dir_remove_name (unlinked_as r state at item.label item.bytes)
    (sound_unlinked_as r state at item.label item.bytes)

-- listing
sound_listed_as : (r : Request) (state : FileState) (skip : ℕ) (at : List Step) (label : ℕ) (bytes : Option (List ℕ)) → Sound r state (listed_as r state skip at label bytes)
sound_listed_as r state skip at label (Some bytes) = sound_saying r state state reply.NotDir refl refl
sound_listed_as r state skip at label None =
    sound_asking r state label dir_read _ (sound_saying r state state _ refl refl)

sound_listed : (r : Request) (state : FileState) (skip : ℕ) (at : List Step) (item : Option Item) → Sound r state (listed_at r state skip at item)
sound_listed r state skip at None = sound_saying r state state reply.NotFound refl refl
sound_listed r state skip at (Some item) = sound_listed_as r state skip at item.label item.bytes

-- attributes
sound_told : (r : Request) (state : FileState) (at : List Step) (item : Option Item) → Sound r state (told_at r state at item)
sound_told r state at None = sound_saying r state state reply.NotFound refl refl
sound_told r state at (Some item) =
    sound_asking r state item.label (getattr_perm item.bytes) _ (sound_saying r state state _ refl refl)

-- another label
sound_relabelled : (r : Request) (state : FileState) (label : ℕ) (at : List Step) (item : Option Item) → Sound r state (relabelled_at r state label at item)
sound_relabelled r state label at None = sound_saying r state state reply.NotFound refl refl
sound_relabelled r state label at (Some item) =
    sound_asking r state item.label (relabelfrom_perm item.bytes) _
    (sound_asking r state label (relabelto_perm item.bytes) _ (sound_saying r state _ reply.Done refl refl))

-- the slot is filled
sound_filled : (r : Request) (state : FileState) (place : ℕ) (at : List Step) (mode : ℕ) → Sound r state (filled state place at mode)
sound_filled r state place at mode = sound_saying r state _ reply.Done refl refl

-- opening
sound_opened_as : (r : Request) (state : FileState) (place mode : ℕ) (at : List Step) (label : ℕ) (bytes : Option (List ℕ)) → Sound r state (opened_as r state place mode at label bytes)
sound_opened_as r state place mode at label None = sound_saying r state state reply.IsDir refl refl
sound_opened_as r state place mode at label (Some bytes) =
    sound_after_asking r state label mode (filled state place at mode) (sound_filled r state place at mode)

sound_opened : (r : Request) (state : FileState) (place mode : ℕ) (at : List Step) (item : Option Item) → Sound r state (opened_at r state place mode at item)
sound_opened r state place mode at None = sound_saying r state state reply.NotFound refl refl
sound_opened r state place mode at (Some item) = sound_opened_as r state place mode at item.label item.bytes

sound_open : (r : Request) (state : FileState) (place : ℕ) (path : List (List ℕ)) (mode : ℕ) (held : Option Held) → Sound r state (open_into r state place path mode held)
sound_open r state place path mode (Some held) = sound_saying r state state reply.SlotUsed refl refl
sound_open r state place path mode None =
    let walk = walked r state path in
    sound_after_walk r state path _ (sound_opened r state place mode walk.at (maps.get state.tree walk.at))

-- what is done with the file of a slot
sound_with_file : (r : Request) (state : FileState) (item : Option Item) (rest : ℕ → List ℕ → FileAnswer) → ((label : ℕ) (bytes : List ℕ) → Sound r state (rest label bytes)) → Sound r state (with_file state item rest)
sound_with_file r state None rest honest = sound_saying r state state reply.BadSlot refl refl
sound_with_file r state (Some item) rest honest =
    elim item.bytes as (λ (bytes : Option (List ℕ)). Sound r state (with_file state (Some (record { label = item.label; bytes = bytes })) rest)) [
      | None ↦ sound_saying r state state reply.BadSlot refl refl
      | Some bytes ↦ honest item.label bytes
    ]

-- a use
sound_used : (r : Request) (state : FileState) (perm : Permission) (held : Option Held) (rest : List Step → ℕ → List ℕ → FileAnswer) → ((at : List Step) (label : ℕ) (bytes : List ℕ) → Sound r state (rest at label bytes)) → Sound r state (used r state perm held rest)
sound_used r state perm None rest honest = sound_saying r state state reply.BadSlot refl refl
sound_used r state perm (Some held) rest honest =
    let asked_use = λ (label : ℕ) (bytes : List ℕ). asking r state label perm (rest held.path label bytes) in
    elim (has held.mode perm.index) as (λ (b : Bool). Sound r state
    (if b then with_file state (maps.get state.tree held.path) asked_use else saying state reply.BadMode)) [
      | true ↦ sound_with_file r state (maps.get state.tree held.path) asked_use
          (λ label bytes. sound_asking r state label perm (rest held.path label bytes) (honest held.path label bytes))
      | false ↦ sound_saying r state state reply.BadMode refl refl
    ]

-- a change of the bytes
sound_sized : (r : Request) (state : FileState) (size : ℕ) (rest : FileAnswer) → Sound r state rest → Sound r state (sized state size rest)
sound_sized r state size rest honest =
    elim (nat_lt byte_limit size) as (λ (b : Bool). Sound r state (if b then saying state reply.TooBig else rest)) [
      | true ↦ sound_saying r state state reply.TooBig refl refl
      | false ↦ honest
    ]

-- freeing
sound_closed : (r : Request) (state : FileState) (place : ℕ) (held : Option Held) → Sound r state (closed state place held)
sound_closed r state place None = sound_saying r state state reply.BadSlot refl refl
sound_closed r state place (Some held) = sound_saying r state _ reply.Done refl refl

-- giving
sound_given_into : (r : Request) (state : FileState) (target : ℕ) (held : Held) (other : Option Held) → Sound r state (given_into r state target held other)
sound_given_into r state target held (Some other) = sound_saying r state state reply.SlotUsed refl refl
sound_given_into r state target held None =
    sound_with_file r state (maps.get state.tree held.path) _
    (λ label bytes. sound_after_asking r state label held.mode (filled state target held.path held.mode) (sound_filled r state target held.path held.mode))

sound_given : (r : Request) (state : FileState) (target : ℕ) (held : Option Held) → Sound r state (given_from r state target held)
sound_given r state target None = sound_saying r state state reply.BadSlot refl refl
sound_given r state target (Some held) =
    sound_given_into r state target held (maps.get state.slots target)

-- making, by the whole row
sound_make : (r : Request) (state : FileState) (path : List (List ℕ)) (bytes : Option (List ℕ)) → let walk = walked r state path in Sound r state (after_walk state walk (made_at r state bytes walk.at walk.above (maps.get state.tree walk.at)))
sound_make r state path bytes =
    let walk = walked r state path in
    sound_after_walk r state path _ (sound_made r state bytes walk.at walk.above (maps.get state.tree walk.at))

-- the answer to each call of a request
sound_answered : (r : Request) (state : FileState) (call : FileCall) → Sound r state (answered r state call)
sound_answered r state (call.Mkdir path) = sound_make r state path None
sound_answered r state (call.Create path) = sound_make r state path (Some [])
sound_answered r state (call.OpenFile slot path mode) =
    sound_open r state (slot_place r.client slot) path mode (maps.get state.slots (slot_place r.client slot))
sound_answered r state (call.ReadFile slot offset most) =
    sound_used r state file_read (maps.get state.slots (slot_place r.client slot)) _
    (λ at label bytes. sound_saying r state state _ refl refl)
sound_answered r state (call.WriteFile slot offset piece) =
    sound_used r state file_write (maps.get state.slots (slot_place r.client slot)) _
    (λ at label bytes. sound_sized r state _ _ (sound_saying r state _ reply.Done refl refl))
sound_answered r state (call.AppendFile slot piece) =
    sound_used r state file_append (maps.get state.slots (slot_place r.client slot)) _
    (λ at label bytes. sound_sized r state _ _ (sound_saying r state _ reply.Done refl refl))
sound_answered r state (call.CloseFile slot) =
    sound_closed r state (slot_place r.client slot) (maps.get state.slots (slot_place r.client slot))
sound_answered r state (call.Unlink path) =
    let walk = walked r state path in
    sound_after_walk r state path _
    (sound_unlinked r state walk.at walk.above (maps.get state.tree walk.at))
sound_answered r state (call.List path skip) =
    let walk = walked r state path in
    sound_after_walk r state path _
    (sound_listed r state skip walk.at (maps.get state.tree walk.at))
sound_answered r state (call.StatFile path) =
    let walk = walked r state path in
    sound_after_walk r state path _
    (sound_told r state walk.at (maps.get state.tree walk.at))
sound_answered r state (call.Relabel path sid) =
    let walk = walked r state path in
    sound_after_walk r state path _
    (sound_relabelled r state sid walk.at (maps.get state.tree walk.at))
sound_answered r state (call.Give slot client target) =
    sound_given (with_subject r (sid_of state client)) state (slot_place client target) (maps.get state.slots (slot_place r.client slot))

-- every answer of the plain manager is honest
pub honest_answer : (d : Decisions) (state : FileState) (caller : ℕ) (call : FileCall) (number version : ℕ) → IsHonest denial_of d number version (answer d state caller call number version)
honest_answer d state caller call number version = (sound_answered (request_of d state caller number version) state call).0

-- what a call names stays there
named_stays : (d : Decisions) (before after : FileState) (later : FileCall) → after.opening ≡ before.opening → IsNamed d before later → IsNamed d after later
named_stays d before after (call.Give slot client target) kept named =
    subst (λ (opening : FileOpening). client < length opening.clients) (sym kept) named
named_stays d before after (call.Relabel path sid) kept named = named
named_stays d before after (call.Mkdir path) kept named = named
named_stays d before after (call.Create path) kept named = named
named_stays d before after (call.OpenFile slot path mode) kept named = named
named_stays d before after (call.ReadFile slot offset most) kept named = named
named_stays d before after (call.WriteFile slot offset piece) kept named = named
named_stays d before after (call.AppendFile slot piece) kept named = named
named_stays d before after (call.CloseFile slot) kept named = named
named_stays d before after (call.Unlink path) kept named = named
named_stays d before after (call.List path skip) kept named = named
named_stays d before after (call.StatFile path) kept named = named

-- a call that is well formed stays so, whatever call comes before it
pub formed_stays : (d : Decisions) (state : FileState) (caller : ℕ) (call : FileCall) (number version other : ℕ) (later : FileCall)
    → IsFormed d state other later → IsFormed d (answer d state caller call number version).state other later
formed_stays d state caller call number version other later formed =
    let kept = (sound_answered (request_of d state caller number version) state call).1 in
    record {
      caller_is = subst (λ (opening : FileOpening). other < length opening.clients) (sym kept) formed.caller_is;
      ranges = formed.ranges;
      named = named_stays d state (answer d state caller call number version).state later kept formed.named;
    }

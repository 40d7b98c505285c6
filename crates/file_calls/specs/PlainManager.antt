-- The plain file manager: finite maps, no cache, and a slot that gives nothing by itself.
use Rattle.std.specs.Prelude.{ℕ, ◌/◌, ◌<◌, IsTrue, not, List, [], length, Option, Some, None, if◌then◌else◌}
use Rattle.std.specs.FinMap as maps
use Rattle.access_vectors.specs.Decisions.{Decisions}
use Rattle.access_vectors.specs.Mapped.{mapped}
use Rattle.access_vectors.specs.Stale.{Follows, Pair, slot_place}
use Rattle.manager_history.specs.Answers.{Denial}
use Rattle.mode_questions.specs.Requests.{Request, with_subject}
use Rattle.file_tree.specs.PlainTree.{Item}
use Rattle.file_tree.specs.declared.step.Step.{Step}
use Rattle.file_calls.specs.Formed.{IsCall}
use Rattle.file_calls.specs.States.{Held, FileState, FileAnswer, sid_of}
use Rattle.file_calls.specs.Walks.{walked}
use Rattle.file_calls.specs.PathCalls.{is_held_at, make_row, unlink_row, list_row, stat_row, relabel_row}
use Rattle.file_calls.specs.SlotCalls.{open_row, read_row, write_row, append_row, close_row, give_row}
use Rattle.file_calls.specs.declared.call.FileCall.{FileCall}
use Rattle.file_calls.specs.declared.call.FileCall.TheVariants as call
use Rattle.file_calls.specs.declared.call.FileReply.{FileReply}
use Rattle.file_calls.specs.declared.call.FileReply.TheVariants as reply

-- the plain manager's answer to a call of a request
abbrev pub answered : Request → FileState → FileCall → FileAnswer
answered r state (call.Mkdir path) = make_row r state path None
answered r state (call.Create path) = make_row r state path (Some [])
answered r state (call.OpenFile slot path mode) = open_row r state (slot_place r.client slot) path mode
answered r state (call.ReadFile slot offset most) = read_row r state (slot_place r.client slot) offset most
answered r state (call.WriteFile slot offset piece) = write_row r state (slot_place r.client slot) offset piece
answered r state (call.AppendFile slot piece) = append_row r state (slot_place r.client slot) piece
answered r state (call.CloseFile slot) = close_row state (slot_place r.client slot)
answered r state (call.Unlink path) = unlink_row r state path
answered r state (call.List path skip) = list_row r state path skip
answered r state (call.StatFile path) = stat_row r state path
answered r state (call.Relabel path sid) = relabel_row r state path sid
answered r state (call.Give slot client target) =
    give_row (with_subject r (sid_of state client)) state (slot_place r.client slot) (slot_place client target)

-- the request of a caller under a policy number and its version
abbrev pub request_of : Decisions → FileState → ℕ → ℕ → ℕ → Request
request_of d state caller number version =
    record { decisions = d; version = version; client = caller; subject = sid_of state caller; number = number }

-- the plain manager's answer to a caller's call under a policy number and its version
abbrev pub answer : Decisions → FileState → ℕ → FileCall → ℕ → ℕ → FileAnswer
answer d state caller call number version = answered (request_of d state caller number version) state call

-- the slot that a call uses: read, write and append are uses, and no other call is
abbrev pub use_of : ℕ → FileCall → Option ℕ
use_of caller (call.ReadFile slot offset most) = Some (slot_place caller slot)
use_of caller (call.WriteFile slot offset piece) = Some (slot_place caller slot)
use_of caller (call.AppendFile slot piece) = Some (slot_place caller slot)
use_of caller other = None

-- what the slots follow after a call that was done, and before any other
abbrev pub when_done : FileReply → Follows → Follows → Follows
when_done reply.Done changed before = changed
when_done said changed before = before

-- the slots that hold what stands at a path are free, and follow nothing
abbrev pub follows_without : FileState → List Step → Follows → Follows
follows_without state at follows = maps.retain_keys follows (λ place. not (is_held_at at (maps.get state.slots place)))

-- the slots that hold what stands at a path follow a number
abbrev pub follows_moved : FileState → List Step → ℕ → Follows → Follows
follows_moved state at number follows = mapped (λ place before. if is_held_at at (maps.get state.slots place) then number else before) follows

-- what the slots follow after a call of a request that got this reply: a call that fills a slot or gives a file another label
-- sets it to the number, and a slot that is free follows nothing
abbrev pub followed_by : Request → FileState → FileCall → FileReply → Follows → Follows
followed_by r state (call.OpenFile slot path mode) said follows = when_done said (maps.insert follows (slot_place r.client slot) r.number) follows
followed_by r state (call.Give slot client target) said follows = when_done said (maps.insert follows (slot_place client target) r.number) follows
followed_by r state (call.CloseFile slot) said follows = when_done said (maps.remove follows (slot_place r.client slot)) follows
followed_by r state (call.Unlink path) said follows = when_done said (follows_without state (walked r state path).at follows) follows
followed_by r state (call.Relabel path sid) said follows = when_done said (follows_moved state (walked r state path).at r.number follows) follows
followed_by r state other said follows = follows

-- what the slots follow after a caller's call under a policy number and its version
abbrev pub followed : Decisions → FileState → ℕ → FileCall → ℕ → ℕ → FileReply → Follows → Follows
followed d state caller call number version said follows = followed_by (request_of d state caller number version) state call said follows

-- the pair of a source and what stands at a path, if anything
abbrev pub pair_on : ℕ → Option Item → Option Pair
pair_on s None = None
pair_on s (Some item) = Some (record { source = s; target = item.label })

-- the pair of a client and what a slot of it holds, if anything
abbrev pub pair_held : FileState → ℕ → Option Held → Option Pair
pair_held state client None = None
pair_held state client (Some held) = pair_on (sid_of state client) (maps.get state.tree held.path)

-- the pair of a place: of the client's identifier, and of the label that the file in the slot has at present
abbrev pub pair_of : FileState → ℕ → Option Pair
pair_of state place = pair_held state (place / 256) (maps.get state.slots place)

-- what a call names besides its caller is there: the receiver of a slot is a client, and a new label is the decider's
abbrev pub IsNamed : Decisions → FileState → FileCall → Type 0
IsNamed d state (call.Give slot client target) = client < length state.opening.clients
IsNamed d state (call.Relabel path sid) = IsTrue (d.known sid)
IsNamed d state other = Unit {0}

-- a call as a session may give it: its caller is a client, its words and numbers are in their ranges, and what it names is
-- there
pub record IsFormed (d : Decisions) (state : FileState) (caller : ℕ) (call : FileCall) : Type 0 where
  pub caller_is : caller < length state.opening.clients
  pub ranges : IsCall call
  pub named : IsNamed d state call

-- the denial that a reply is, if it is one
abbrev pub denial_of : FileReply → Option Denial
denial_of (reply.Denied perm number) = Some (record { perm = perm; policy = number })
denial_of other = None

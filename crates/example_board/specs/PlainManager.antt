-- The plain board: a number, finite maps, no cache, and a slot that gives nothing by itself.
use Rattle.std.specs.Prelude.{ℕ, ◌/◌, ◌<◌, List, [], ◌∷◌, length, slice_index, All, IsTrue, Option, Some, None, if◌then◌else◌}
use Rattle.std.specs.Ordering.{nat_cmp}
use Rattle.std.specs.FinMap as maps
use Rattle.std.specs.FinMap.{FinMap}
use Rattle.access_vectors.specs.Table.{Permission}
use Rattle.access_vectors.specs.Perms.{file_read, file_write}
use Rattle.access_vectors.specs.Vectors.{has}
use Rattle.access_vectors.specs.Decisions.{Decisions}
use Rattle.access_vectors.specs.Stale.{Follows, Pair, slot_place}
use Rattle.manager_history.specs.Answers.{Answer, Denial}
use Rattle.mode_questions.specs.Requests.{Request, saying, asking, asking_mode, after_asking}
use Rattle.example_board.specs.declared.opening.BoardOpening.{BoardOpening}
use Rattle.example_board.specs.declared.call.BoardCall.{BoardCall}
use Rattle.example_board.specs.declared.call.BoardCall.TheVariants as call
use Rattle.example_board.specs.declared.call.BoardReply.{BoardReply}
use Rattle.example_board.specs.declared.call.BoardReply.TheVariants as reply

-- the state: what the board was opened with, the number on it, and the mode of each used slot, by the slot's place
pub record BoardState : Type 0 where
  pub opening : BoardOpening
  pub posted : ℕ
  pub slots : FinMap nat_cmp ℕ

-- the reply to a call, the state that it leaves, and the questions that it asked, up to the first no
abbrev pub BoardAnswer : Type 0
BoardAnswer = Answer BoardReply BoardState

-- every identifier of an opening is the decider's
pub record IsOpening (d : Decisions) (opening : BoardOpening) : Type 0 where
  pub clients : All (λ sid. IsTrue (d.known sid)) opening.clients
  pub label : IsTrue (d.known opening.label)

-- the state that an opening gives: the board says 0, and every slot is free
abbrev pub opened_with : BoardOpening → BoardState
opened_with opening = record { opening = opening; posted = 0; slots = maps.empty }

-- a client's identifier
abbrev pub sid_of : BoardState → ℕ → ℕ
sid_of state client = slice_index state.opening.clients client

-- the state with other used slots
abbrev pub with_slots : BoardState → FinMap nat_cmp ℕ → BoardState
with_slots state slots = record { opening = state.opening; posted = state.posted; slots = slots }

-- the state with another number on the board
abbrev pub with_posted : BoardState → ℕ → BoardState
with_posted state posted = record { opening = state.opening; posted = posted; slots = state.slots }

-- the permissions of a mode, in the order in which they are asked
abbrev pub mode_perms : List Permission
mode_perms = file_read ∷ file_write ∷ []

-- opening into what a place holds: SlotUsed; each permission of the mode; the slot has the mode
abbrev pub opened_into : Request → BoardState → ℕ → ℕ → Option ℕ → BoardAnswer
opened_into r state place mode (Some held) = saying state reply.SlotUsed
opened_into r state place mode None =
    after_asking reply.Denied r state (asking_mode r state.opening.label mode mode_perms)
    (saying (with_slots state (maps.insert state.slots place mode)) reply.Done)

abbrev pub open_row : Request → BoardState → ℕ → ℕ → BoardAnswer
open_row r state place mode = opened_into r state place mode (maps.get state.slots place)

-- a use of what a place holds: BadSlot; BadMode where the mode lacks the permission; the permission on the board's label
abbrev pub used : Request → BoardState → Permission → Option ℕ → BoardAnswer → BoardAnswer
used r state perm None rest = saying state reply.BadSlot
used r state perm (Some mode) rest =
    if has mode perm.index then asking reply.Denied r state state.opening.label perm rest else saying state reply.BadMode

-- read: the number on the board
abbrev pub read_row : Request → BoardState → ℕ → BoardAnswer
read_row r state place = used r state file_read (maps.get state.slots place) (saying state (reply.Number state.posted))

-- post: the board says another number
abbrev pub post_row : Request → BoardState → ℕ → ℕ → BoardAnswer
post_row r state place posted = used r state file_write (maps.get state.slots place) (saying (with_posted state posted) reply.Done)

-- closing what a place holds: BadSlot; the slot is free
abbrev pub closed : BoardState → ℕ → Option ℕ → BoardAnswer
closed state place None = saying state reply.BadSlot
closed state place (Some mode) = saying (with_slots state (maps.remove state.slots place)) reply.Done

abbrev pub close_row : BoardState → ℕ → BoardAnswer
close_row state place = closed state place (maps.get state.slots place)

-- the plain board's answer to a call of a request
abbrev pub answered : Request → BoardState → BoardCall → BoardAnswer
answered r state (call.Open slot mode) = open_row r state (slot_place r.client slot) mode
answered r state (call.Read slot) = read_row r state (slot_place r.client slot)
answered r state (call.Post slot posted) = post_row r state (slot_place r.client slot) posted
answered r state (call.Close slot) = close_row state (slot_place r.client slot)

-- the request of a caller under a policy number and its version
abbrev pub request_of : Decisions → BoardState → ℕ → ℕ → ℕ → Request
request_of d state caller number version =
    record { decisions = d; version = version; client = caller; subject = sid_of state caller; number = number }

-- the plain board's answer to a caller's call under a policy number and its version
abbrev pub answer : Decisions → BoardState → ℕ → BoardCall → ℕ → ℕ → BoardAnswer
answer d state caller call number version = answered (request_of d state caller number version) state call

-- the denial that a reply is, if it is one
abbrev pub denial_of : BoardReply → Option Denial
denial_of (reply.Denied perm number) = Some (record { perm = perm; policy = number })
denial_of other = None

-- the slot that a call uses: read and post are uses, and no other call is
abbrev pub use_of : ℕ → BoardCall → Option ℕ
use_of caller (call.Read slot) = Some (slot_place caller slot)
use_of caller (call.Post slot posted) = Some (slot_place caller slot)
use_of caller other = None

-- the pair of a client and the board, where a slot of the client is used
abbrev pub pair_held : BoardState → ℕ → Option ℕ → Option Pair
pair_held state client None = None
pair_held state client (Some mode) = Some (record { source = sid_of state client; target = state.opening.label })

-- the pair of a place: of the client's identifier, and of the board's label
abbrev pub pair_of : BoardState → ℕ → Option Pair
pair_of state place = pair_held state (place / 256) (maps.get state.slots place)

-- what the slots follow after a call that was done, and before any other
abbrev pub when_done : BoardReply → Follows → Follows → Follows
when_done reply.Done changed before = changed
when_done said changed before = before

-- what the slots follow after a call of a request that got this reply: an open sets its slot to the number, and a slot that is
-- free follows nothing
abbrev pub followed_by : Request → BoardCall → BoardReply → Follows → Follows
followed_by r (call.Open slot mode) said follows = when_done said (maps.insert follows (slot_place r.client slot) r.number) follows
followed_by r (call.Close slot) said follows = when_done said (maps.remove follows (slot_place r.client slot)) follows
followed_by r other said follows = follows

-- the same after a caller's call, which is done under a number and its version
abbrev pub followed : Decisions → BoardState → ℕ → BoardCall → ℕ → ℕ → BoardReply → Follows → Follows
followed d state caller call number version said follows = followed_by (request_of d state caller number version) call said follows

-- a slot's number
abbrev pub IsSlot : ℕ → Type 0
IsSlot slot = slot < 64

-- a call with its slot and mode in their ranges
abbrev pub IsCall : BoardCall → Type 0
IsCall (call.Open slot mode) = IsSlot slot × (0 < mode) × (mode < 4)
IsCall (call.Read slot) = IsSlot slot
IsCall (call.Post slot posted) = IsSlot slot
IsCall (call.Close slot) = IsSlot slot

-- a call that may be made: its caller is a client, and its numbers are in their ranges
pub record IsFormed (d : Decisions) (state : BoardState) (caller : ℕ) (call : BoardCall) : Type 0 where
  pub caller_is : caller < length state.opening.clients
  pub ranges : IsCall call

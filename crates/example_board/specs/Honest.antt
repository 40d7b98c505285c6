-- What holds of every answer: its questions have the answers that the decisions give, and are those of its reply; and no call
-- changes what the board was opened with, so that a call which is well formed stays so.
use Rattle.std.specs.Prelude.{◌≡◌, length, ◌<◌, ℕ, Option, Some, None, refl}
use Rattle.std.proofs.Common.{sym, subst}
use Rattle.std.specs.FinMap as maps
use Rattle.access_vectors.specs.Table.{Permission}
use Rattle.access_vectors.specs.Vectors.{has}
use Rattle.access_vectors.specs.Decisions.{Decisions}
use Rattle.access_vectors.specs.Stale.{slot_place}
use Rattle.access_vectors.specs.Perms.{file_read, file_write}
use Rattle.manager_history.specs.Answers.{IsHonest}
use Rattle.mode_questions.specs.Honesty as honest
use Rattle.mode_questions.specs.Requests.{Request, saying, asking}
use Rattle.example_board.specs.PlainManager.{BoardState, BoardAnswer, with_posted, with_slots, mode_perms, opened_into, used, closed, answered, answer, request_of, denial_of, IsFormed}
use Rattle.example_board.specs.declared.opening.BoardOpening.{BoardOpening}
use Rattle.example_board.specs.declared.call.BoardCall.{BoardCall}
use Rattle.example_board.specs.declared.call.BoardCall.TheVariants as call
use Rattle.example_board.specs.declared.call.BoardReply.{BoardReply}
use Rattle.example_board.specs.declared.call.BoardReply.TheVariants as reply

-- an answer to a request in a state is honest, and leaves the opening
abbrev Sound : Request → BoardState → BoardAnswer → Type 0
Sound r state given = IsHonest denial_of r.decisions r.number r.version given × (given.state.opening ≡ state.opening)

-- what the board was opened with
abbrev opening_of : BoardState → BoardOpening
opening_of state = state.opening

-- a reply that asks nothing more
sound_saying : (r : Request) (state after : BoardState) (said : BoardReply) → denial_of said ≡ None → after.opening ≡ state.opening → Sound r state (saying after said)
sound_saying r state after said none kept = honest.sound_saying reply.Denied denial_of (λ perm number. refl) opening_of r state after said none kept

-- opening
sound_opened : (r : Request) (state : BoardState) (place mode : ℕ) (held : Option ℕ) → Sound r state (opened_into r state place mode held)
sound_opened r state place mode (Some held) = sound_saying r state state reply.SlotUsed refl refl
sound_opened r state place mode None =
    honest.sound_after_asking reply.Denied denial_of (λ perm number. refl) opening_of r state state.opening.label mode mode_perms _
    (sound_saying r state (with_slots state (maps.insert state.slots place mode)) reply.Done refl refl)

-- a use
sound_used : (r : Request) (state : BoardState) (perm : Permission) (held : Option ℕ) (rest : BoardAnswer) → Sound r state rest → Sound r state (used r state perm held rest)
sound_used r state perm None rest is = sound_saying r state state reply.BadSlot refl refl
sound_used r state perm (Some mode) rest is =
    honest.sound_if reply.Denied denial_of (λ perm number. refl) opening_of r state (has mode perm.index)
    (asking reply.Denied r state state.opening.label perm rest) (saying state reply.BadMode)
    (honest.sound_asking reply.Denied denial_of (λ perm number. refl) opening_of r state state.opening.label perm rest is)
    (sound_saying r state state reply.BadMode refl refl)

-- closing
sound_closed : (r : Request) (state : BoardState) (place : ℕ) (held : Option ℕ) → Sound r state (closed state place held)
sound_closed r state place None = sound_saying r state state reply.BadSlot refl refl
sound_closed r state place (Some mode) = sound_saying r state (with_slots state (maps.remove state.slots place)) reply.Done refl refl

-- the answer to each call of a request
sound_answered : (r : Request) (state : BoardState) (call : BoardCall) → Sound r state (answered r state call)
sound_answered r state (call.Open slot mode) =
    sound_opened r state (slot_place r.client slot) mode (maps.get state.slots (slot_place r.client slot))
sound_answered r state (call.Read slot) =
    sound_used r state file_read (maps.get state.slots (slot_place r.client slot)) _ (sound_saying r state state (reply.Number state.posted) refl refl)
sound_answered r state (call.Post slot posted) =
    sound_used r state file_write (maps.get state.slots (slot_place r.client slot)) _ (sound_saying r state (with_posted state posted) reply.Done refl refl)
sound_answered r state (call.Close slot) = sound_closed r state (slot_place r.client slot) (maps.get state.slots (slot_place r.client slot))

-- every answer of the plain board is honest
pub honest_answer : (d : Decisions) (state : BoardState) (caller : ℕ) (call : BoardCall) (number version : ℕ) → IsHonest denial_of d number version (answer d state caller call number version)
honest_answer d state caller call number version = (sound_answered (request_of d state caller number version) state call).0

-- a call that is well formed stays so, whatever call comes before it
pub formed_stays : (d : Decisions) (state : BoardState) (caller : ℕ) (call : BoardCall) (number version other : ℕ) (later : BoardCall)
    → IsFormed d state other later → IsFormed d (answer d state caller call number version).state other later
formed_stays d state caller call number version other later formed =
    record {
      caller_is = subst (λ (opening : BoardOpening). other < length opening.clients)
          (sym (sound_answered (request_of d state caller number version) state call).1) formed.caller_is;
      ranges = formed.ranges;
    }

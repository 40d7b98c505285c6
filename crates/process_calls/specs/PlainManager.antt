-- The plain process manager: finite maps, no cache, and a slot that gives nothing by itself.
use Rattle.std.specs.Prelude.{ℕ, ◌/◌, ◌<◌, IsTrue, not, length, Option, Some, None, if◌then◌else◌}
use Rattle.std.specs.FinMap as maps
use Rattle.access_vectors.specs.Decisions.{Decisions}
use Rattle.access_vectors.specs.Mapped.{mapped}
use Rattle.access_vectors.specs.Stale.{Follows, Pair, slot_place}
use Rattle.manager_history.specs.Answers.{Denial}
use Rattle.mode_questions.specs.Requests.{Request}
use Rattle.process_calls.specs.Formed.{IsCall}
use Rattle.process_calls.specs.States.{ProcessState, ProcessAnswer, sid_of}
use Rattle.process_calls.specs.Rows.{is_attached_to, fork_row, exec_row, signal_row, exit_row, wait_row, attach_row, peek_row, poke_row, detach_row, stat_row}
use Rattle.process_calls.specs.declared.process.Process.{Process}
use Rattle.process_calls.specs.declared.call.ProcessCall.{ProcessCall}
use Rattle.process_calls.specs.declared.call.ProcessCall.TheVariants as call
use Rattle.process_calls.specs.declared.call.ProcessReply.{ProcessReply}
use Rattle.process_calls.specs.declared.call.ProcessReply.TheVariants as reply

-- the plain manager's answer to a call of a request
abbrev pub answered : Request → ProcessState → ProcessCall → ProcessAnswer
answered r state (call.Fork pid) = fork_row r state pid
answered r state (call.Exec pid sid) = exec_row r state pid sid
answered r state (call.Signal pid signal) = signal_row r state pid signal
answered r state (call.Exit pid code) = exit_row r state pid code
answered r state (call.Wait pid) = wait_row r state pid
answered r state (call.Attach slot pid) = attach_row r state (slot_place r.client slot) pid
answered r state (call.Peek slot) = peek_row r state (slot_place r.client slot)
answered r state (call.Poke slot value) = poke_row r state (slot_place r.client slot) value
answered r state (call.Detach slot) = detach_row state (slot_place r.client slot)
answered r state (call.StatProcess pid) = stat_row r state pid

-- the request of a caller under a policy number and its version
abbrev pub request_of : Decisions → ProcessState → ℕ → ℕ → ℕ → Request
request_of d state caller number version =
    record { decisions = d; version = version; client = caller; subject = sid_of state caller; number = number }

-- the plain manager's answer to a caller's call under a policy number and its version
abbrev pub answer : Decisions → ProcessState → ℕ → ProcessCall → ℕ → ℕ → ProcessAnswer
answer d state caller call number version = answered (request_of d state caller number version) state call

-- the slot that a call uses: peek and poke are uses, and no other call is
abbrev pub use_of : ℕ → ProcessCall → Option ℕ
use_of caller (call.Peek slot) = Some (slot_place caller slot)
use_of caller (call.Poke slot value) = Some (slot_place caller slot)
use_of caller other = None

-- what the slots follow after a call that was done, and before any other
abbrev pub when_done : ProcessReply → Follows → Follows → Follows
when_done reply.Done changed before = changed
when_done said changed before = before

-- what they follow after a process was waited for, and before any other reply
abbrev pub when_told : ProcessReply → Follows → Follows → Follows
when_told (reply.Num code) changed before = changed
when_told said changed before = before

-- the slots that are attached to a process are free, and follow nothing
abbrev pub follows_without : ProcessState → ℕ → Follows → Follows
follows_without state pid follows = maps.retain_keys follows (λ place. not (is_attached_to pid (maps.get state.slots place)))

-- the slots that are attached to a process follow a number
abbrev pub follows_moved : ProcessState → ℕ → ℕ → Follows → Follows
follows_moved state pid number follows = mapped (λ place before. if is_attached_to pid (maps.get state.slots place) then number else before) follows

-- what the slots follow after a call of a request that got this reply: a call that fills a slot or gives a process its label,
-- also the one that it has, sets it to the number, and a slot that is free follows nothing
abbrev pub followed_by : Request → ProcessState → ProcessCall → ProcessReply → Follows → Follows
followed_by r state (call.Attach slot pid) said follows = when_done said (maps.insert follows (slot_place r.client slot) r.number) follows
followed_by r state (call.Detach slot) said follows = when_done said (maps.remove follows (slot_place r.client slot)) follows
followed_by r state (call.Exec pid sid) said follows = when_done said (follows_moved state pid r.number follows) follows
followed_by r state (call.Wait pid) said follows = when_told said (follows_without state pid follows) follows
followed_by r state other said follows = follows

-- the same after a caller's call, which is done under a number and its version
abbrev pub followed : Decisions → ProcessState → ℕ → ProcessCall → ℕ → ℕ → ProcessReply → Follows → Follows
followed d state caller call number version said follows = followed_by (request_of d state caller number version) state call said follows

-- the pair of a source and a process, if there is one
abbrev pub pair_on : ℕ → Option Process → Option Pair
pair_on s None = None
pair_on s (Some process) = Some (record { source = s; target = process.label })

-- the pair of a client and the process that a slot of it is attached to, if any
abbrev pub pair_held : ProcessState → ℕ → Option ℕ → Option Pair
pair_held state client None = None
pair_held state client (Some pid) = pair_on (sid_of state client) (maps.get state.processes pid)

-- the pair of a place: of the client's identifier, and of the label that the slot's process has at present
abbrev pub pair_of : ProcessState → ℕ → Option Pair
pair_of state place = pair_held state (place / 256) (maps.get state.slots place)

-- what a call names besides its caller is there: a label is the decider's
abbrev pub IsNamed : Decisions → ProcessCall → Type 0
IsNamed d (call.Exec pid sid) = IsTrue (d.known sid)
IsNamed d other = Unit {0}

-- a call as a session may give it: its caller is a client, its numbers are in their ranges, and what it names is there
pub record IsFormed (d : Decisions) (state : ProcessState) (caller : ℕ) (call : ProcessCall) : Type 0 where
  pub caller_is : caller < length state.opening.clients
  pub ranges : IsCall call
  pub named : IsNamed d call

-- the denial that a reply is, if it is one
abbrev pub denial_of : ProcessReply → Option Denial
denial_of (reply.Denied perm number) = Some (record { perm = perm; policy = number })
denial_of other = None

-- What holds of every answer: its questions have the answers that the decisions give, and are those of its reply; and no call
-- changes what the manager was opened with, so that a call which is well formed stays so.
use Rattle.std.specs.Prelude.{◌≡◌, length, ◌<◌, ℕ, Bool, ◌==◌, nat_lt, Option, Some, None, refl, if◌then◌else◌}
use Rattle.std.proofs.Common.{sym, subst}
use Rattle.std.specs.FinMap as maps
use Rattle.access_vectors.specs.Table.{Permission}
use Rattle.access_vectors.specs.Decisions.{Decisions}
use Rattle.access_vectors.specs.Stale.{slot_place}
use Rattle.access_vectors.specs.Perms.{process_fork, process_transition, process_signal, process_exit, process_wait, process_getattr}
use Rattle.access_vectors.specs.declared.class.Class.TheVariants as class
use Rattle.manager_history.specs.Answers.{IsHonest}
use Rattle.mode_questions.specs.Honesty as honest
use Rattle.mode_questions.specs.Requests.{Request}
use Rattle.process_calls.specs.States.{ProcessState, ProcessAnswer, sid_of, with_process, process_limit, attach_mode, attach_perms, asking_attach, saying, asking, after_asking, with_found, for_child, while_running}
use Rattle.process_calls.specs.Rows.{started, becoming, started_at, fork_row, exec_row, signal_row, exit_row, waited, wait_row, attached_at, with_attached, used, detached, stat_row}
use Rattle.process_calls.specs.PlainManager.{answered, answer, request_of, denial_of, IsFormed}
use Rattle.process_calls.specs.declared.opening.ProcessOpening.{ProcessOpening}
use Rattle.process_calls.specs.declared.process.Process.{Process}
use Rattle.process_calls.specs.declared.call.ProcessCall.{ProcessCall}
use Rattle.process_calls.specs.declared.call.ProcessCall.TheVariants as call
use Rattle.process_calls.specs.declared.call.ProcessReply.{ProcessReply}
use Rattle.process_calls.specs.declared.call.ProcessReply.TheVariants as reply

-- an answer to a request in a state is honest, and leaves the opening
abbrev Sound : Request → ProcessState → ProcessAnswer → Type 0
Sound r state given = IsHonest denial_of r.decisions r.number r.version given × (given.state.opening ≡ state.opening)

-- what the manager was opened with
abbrev opening_of : ProcessState → ProcessOpening
opening_of state = state.opening

-- a reply that asks nothing more
sound_saying : (r : Request) (state after : ProcessState) (said : ProcessReply) → denial_of said ≡ None → after.opening ≡ state.opening → Sound r state (saying after said)
sound_saying r state after said none kept = honest.sound_saying reply.Denied denial_of (λ perm number. refl) opening_of r state after said none kept

-- a question first
sound_asking : (r : Request) (state : ProcessState) (t : ℕ) (perm : Permission) (rest : ProcessAnswer) → Sound r state rest → Sound r state (asking r state t perm rest)
sound_asking r state t perm rest is = honest.sound_asking reply.Denied denial_of (λ perm number. refl) opening_of r state t perm rest is

-- ptrace and getattr first
sound_attaching : (r : Request) (state : ProcessState) (t : ℕ) (rest : ProcessAnswer) → Sound r state rest → Sound r state (after_asking r state (asking_attach r t) rest)
sound_attaching r state t rest is =
    honest.sound_after_asking reply.Denied denial_of (λ perm number. refl) opening_of r state t attach_mode attach_perms rest is

-- one of two rests
sound_if : (r : Request) (state : ProcessState) (test : Bool) (one other : ProcessAnswer) → Sound r state one → Sound r state other → Sound r state (if test then one else other)
sound_if r state test one other first second = honest.sound_if reply.Denied denial_of (λ perm number. refl) opening_of r state test one other first second

-- a process that is looked up
sound_found : (r : Request) (state : ProcessState) (process : Option Process) (rest : Process → ProcessAnswer) → ((process : Process) → Sound r state (rest process)) → Sound r state (with_found state process rest)
sound_found r state None rest is = sound_saying r state state reply.NoProcess refl refl
sound_found r state (Some process) rest is = is process

-- a child
sound_child : (r : Request) (state : ProcessState) (caller : ℕ) (process : Process) (rest : ProcessAnswer) → Sound r state rest → Sound r state (for_child state caller process rest)
sound_child r state caller process rest is =
    sound_if r state (process.parent == caller) rest (saying state reply.NotChild) is (sound_saying r state state reply.NotChild refl refl)

-- while it runs
sound_running : (r : Request) (state : ProcessState) (ended : Option ℕ) (rest : ProcessAnswer) → Sound r state rest → Sound r state (while_running state ended rest)
sound_running r state None rest is = is
sound_running r state (Some code) rest is = sound_saying r state state reply.Ended refl refl

-- another label
sound_becoming : (r : Request) (state : ProcessState) (before label : ℕ) (rest : ProcessAnswer) → Sound r state rest → Sound r state (becoming r state before label rest)
sound_becoming r state before label rest is =
    sound_if r state (label == before) rest (asking r state label process_transition rest) is
    (sound_asking r state label process_transition rest is)

-- starting
sound_started : (r : Request) (state : ProcessState) (parent pid label : ℕ) (process : Option Process) → Sound r state (started_at state parent pid label process)
sound_started r state parent pid label (Some process) = sound_saying r state state reply.Exists refl refl
sound_started r state parent pid label None =
    sound_if r state (nat_lt (maps.len state.processes) process_limit) (saying (with_process state pid (started label parent)) reply.Done) (saying state reply.TooMany)
    (sound_saying r state (with_process state pid (started label parent)) reply.Done refl refl)
    (sound_saying r state state reply.TooMany refl refl)

sound_fork : (r : Request) (state : ProcessState) (pid : ℕ) → Sound r state (fork_row r state pid)
sound_fork r state pid =
    let label = r.decisions.label r.version r.subject r.subject class.Process in
    let rest = started_at state r.client pid label (maps.get state.processes pid) in
    sound_asking r state r.subject process_fork (becoming r state r.subject label rest)
    (sound_becoming r state r.subject label rest (sound_started r state r.client pid label (maps.get state.processes pid)))

sound_exec : (r : Request) (state : ProcessState) (pid argument : ℕ) → Sound r state (exec_row r state pid argument)
sound_exec r state pid argument =
    sound_found r state (maps.get state.processes pid) _ (λ process.
    sound_child r state r.client process _ (sound_running r state process.ended _
    (sound_becoming r state process.label (r.decisions.label r.version process.label argument class.Process) _ (sound_saying r state _ reply.Done refl refl))))

sound_signal : (r : Request) (state : ProcessState) (pid signal : ℕ) → Sound r state (signal_row r state pid signal)
sound_signal r state pid signal =
    sound_found r state (maps.get state.processes pid) _ (λ process.
    sound_running r state process.ended _
    (sound_asking r state process.label process_signal _ (sound_saying r state _ reply.Done refl refl)))

sound_exit : (r : Request) (state : ProcessState) (pid code : ℕ) → Sound r state (exit_row r state pid code)
sound_exit r state pid code =
    sound_found r state (maps.get state.processes pid) _ (λ process.
    sound_child r state r.client process _ (sound_running r state process.ended _
    (sound_asking r state process.label process_exit _ (sound_saying r state _ reply.Done refl refl))))

-- waiting
sound_waited : (r : Request) (state : ProcessState) (pid : ℕ) (ended : Option ℕ) → Sound r state (waited state pid ended)
sound_waited r state pid None = sound_saying r state state reply.Running refl refl
sound_waited r state pid (Some code) = sound_saying r state _ (reply.Num code) refl refl

sound_wait : (r : Request) (state : ProcessState) (pid : ℕ) → Sound r state (wait_row r state pid)
sound_wait r state pid =
    sound_found r state (maps.get state.processes pid) _ (λ process.
    sound_child r state r.client process _
    (sound_asking r state process.label process_wait _ (sound_waited r state pid process.ended)))

-- attaching
sound_attached : (r : Request) (state : ProcessState) (place pid : ℕ) (held : Option ℕ) → Sound r state (attached_at r state place pid held)
sound_attached r state place pid (Some attached) = sound_saying r state state reply.SlotUsed refl refl
sound_attached r state place pid None =
    sound_found r state (maps.get state.processes pid) _ (λ process.
    sound_running r state process.ended _
    (sound_attaching r state process.label _ (sound_saying r state _ reply.Done refl refl)))

-- a use
sound_used : (r : Request) (state : ProcessState) (held : Option ℕ) (rest : ℕ → Process → ProcessAnswer) → ((pid : ℕ) (process : Process) → Sound r state (rest pid process)) → Sound r state (used r state held rest)
sound_used r state None rest is = sound_saying r state state reply.BadSlot refl refl
sound_used r state (Some pid) rest is = attached (maps.get state.processes pid)
  where
    attached : (process : Option Process) → Sound r state (with_attached state process
        (λ process. after_asking r state (asking_attach r process.label) (while_running state process.ended (rest pid process))))
    attached None = sound_saying r state state reply.BadSlot refl refl
    attached (Some process) =
        sound_attaching r state process.label _ (sound_running r state process.ended _ (is pid process))

-- detaching
sound_detached : (r : Request) (state : ProcessState) (place : ℕ) (held : Option ℕ) → Sound r state (detached state place held)
sound_detached r state place None = sound_saying r state state reply.BadSlot refl refl
sound_detached r state place (Some pid) = sound_saying r state _ reply.Done refl refl

sound_stat : (r : Request) (state : ProcessState) (pid : ℕ) → Sound r state (stat_row r state pid)
sound_stat r state pid =
    sound_found r state (maps.get state.processes pid) _ (λ process.
    sound_asking r state process.label process_getattr _
    (sound_running r state process.ended _ (sound_saying r state state (reply.Stat process.label process.register) refl refl)))

-- the answer to each call of a request
sound_answered : (r : Request) (state : ProcessState) (call : ProcessCall) → Sound r state (answered r state call)
sound_answered r state (call.Fork pid) = sound_fork r state pid
sound_answered r state (call.Exec pid sid) = sound_exec r state pid sid
sound_answered r state (call.Signal pid signal) = sound_signal r state pid signal
sound_answered r state (call.Exit pid code) = sound_exit r state pid code
sound_answered r state (call.Wait pid) = sound_wait r state pid
sound_answered r state (call.Attach slot pid) =
    sound_attached r state (slot_place r.client slot) pid (maps.get state.slots (slot_place r.client slot))
sound_answered r state (call.Peek slot) =
    sound_used r state (maps.get state.slots (slot_place r.client slot)) _
    (λ pid process. sound_saying r state state (reply.Num process.register) refl refl)
sound_answered r state (call.Poke slot value) =
    sound_used r state (maps.get state.slots (slot_place r.client slot)) _
    (λ pid process. sound_saying r state _ reply.Done refl refl)
sound_answered r state (call.Detach slot) = sound_detached r state (slot_place r.client slot) (maps.get state.slots (slot_place r.client slot))
sound_answered r state (call.StatProcess pid) = sound_stat r state pid

-- every answer of the plain manager is honest
pub honest_answer : (d : Decisions) (state : ProcessState) (caller : ℕ) (call : ProcessCall) (number version : ℕ) → IsHonest denial_of d number version (answer d state caller call number version)
honest_answer d state caller call number version = (sound_answered (request_of d state caller number version) state call).0

-- a call that is well formed stays so, whatever call comes before it
pub formed_stays : (d : Decisions) (state : ProcessState) (caller : ℕ) (call : ProcessCall) (number version other : ℕ) (later : ProcessCall)
    → IsFormed d state other later → IsFormed d (answer d state caller call number version).state other later
formed_stays d state caller call number version other later formed =
    record {
      caller_is = subst (λ (opening : ProcessOpening). other < length opening.clients)
          (sym (sound_answered (request_of d state caller number version) state call).1) formed.caller_is;
      ranges = formed.ranges;
      named = formed.named;
    }

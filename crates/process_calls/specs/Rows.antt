-- The plain manager's calls. Each row is its tests and questions in order, and the first that fails is the reply.
use Rattle.std.specs.Prelude.{ℕ, Bool, false, not, ◌==◌, nat_lt, Option, Some, None, if◌then◌else◌}
use Rattle.std.specs.Ordering.{nat_cmp}
use Rattle.std.specs.FinMap as maps
use Rattle.std.specs.FinMap.{FinMap}
use Rattle.access_vectors.specs.Perms.{process_fork, process_transition, process_signal, process_exit, process_wait, process_getattr}
use Rattle.access_vectors.specs.declared.class.Class.TheVariants as class
use Rattle.mode_questions.specs.Requests.{Request}
use Rattle.process_calls.specs.States.{ProcessState, ProcessAnswer, with_process, with_slots, process_limit, asking_attach, saying, asking, after_asking, with_found, for_child, while_running}
use Rattle.process_calls.specs.declared.process.Process.{Process}
use Rattle.process_calls.specs.declared.call.ProcessReply.TheVariants as reply

-- a process that was just started: it runs, and its register is 0
abbrev pub started : ℕ → ℕ → Process
started label parent = record { label = label; parent = parent; ended = None; register = 0 }

-- a process with another label, with its end, and with another register
abbrev pub labelled : Process → ℕ → Process
labelled process label = record { label = label; parent = process.parent; ended = process.ended; register = process.register }

abbrev pub ended_with : Process → ℕ → Process
ended_with process code = record { label = process.label; parent = process.parent; ended = Some code; register = process.register }

abbrev pub holding : Process → ℕ → Process
holding process value = record { label = process.label; parent = process.parent; ended = process.ended; register = value }

-- another label than the one before asks for the transition to it; the same label asks nothing
abbrev pub becoming : Request → ProcessState → ℕ → ℕ → ProcessAnswer → ProcessAnswer
becoming r state before label rest = if label == before then rest else asking r state label process_transition rest

-- starting a process at a number that holds this: Exists; TooMany
abbrev pub started_at : ProcessState → ℕ → ℕ → ℕ → Option Process → ProcessAnswer
started_at state parent pid label (Some process) = saying state reply.Exists
started_at state parent pid label None =
    if nat_lt (maps.len state.processes) process_limit then saying (with_process state pid (started label parent)) reply.Done
    else saying state reply.TooMany

-- fork: fork on the caller itself; the new label is that of a process which the caller makes at itself, and where it is not
-- the caller's own, transition to it; Exists; TooMany; a process of that label runs as the caller's child
abbrev pub fork_row : Request → ProcessState → ℕ → ProcessAnswer
fork_row r state pid =
    asking r state r.subject process_fork
    (becoming r state r.subject (r.decisions.label r.version r.subject r.subject class.Process)
    (started_at state r.client pid (r.decisions.label r.version r.subject r.subject class.Process) (maps.get state.processes pid)))

-- exec: NoProcess; NotChild; Ended; the new label is that of a process which the old label makes at the argument, and where
-- it is not the old one, transition to it; the process has it
abbrev pub exec_row : Request → ProcessState → ℕ → ℕ → ProcessAnswer
exec_row r state pid argument =
    with_found state (maps.get state.processes pid)
    (λ process. for_child state r.client process (while_running state process.ended
    (becoming r state process.label (r.decisions.label r.version process.label argument class.Process)
    (saying (with_process state pid (labelled process (r.decisions.label r.version process.label argument class.Process))) reply.Done))))

-- the signal that ends a process, and the code with which it does
abbrev pub kill_signal : ℕ
kill_signal = 9

abbrev pub kill_code : ℕ
kill_code = 137

-- a process that got a signal
abbrev pub signalled : Process → ℕ → Process
signalled process signal = if signal == kill_signal then ended_with process kill_code else holding process signal

-- signal: NoProcess; Ended; signal on the process
abbrev pub signal_row : Request → ProcessState → ℕ → ℕ → ProcessAnswer
signal_row r state pid signal =
    with_found state (maps.get state.processes pid)
    (λ process. while_running state process.ended
    (asking r state process.label process_signal
    (saying (with_process state pid (signalled process signal)) reply.Done)))

-- exit: NoProcess; NotChild; Ended; exit on the process; it has ended with the code
abbrev pub exit_row : Request → ProcessState → ℕ → ℕ → ProcessAnswer
exit_row r state pid code =
    with_found state (maps.get state.processes pid)
    (λ process. for_child state r.client process (while_running state process.ended
    (asking r state process.label process_exit
    (saying (with_process state pid (ended_with process code)) reply.Done))))

-- the slot is attached to the process
abbrev pub is_attached_to : ℕ → Option ℕ → Bool
is_attached_to pid None = false
is_attached_to pid (Some attached) = attached == pid

-- without the slots that are attached to a process
abbrev pub slots_without : ℕ → FinMap nat_cmp ℕ → FinMap nat_cmp ℕ
slots_without pid slots = maps.retain_keys slots (λ place. not (is_attached_to pid (maps.get slots place)))

-- a process is gone, and the slots that were attached to it are free
abbrev pub gone : ProcessState → ℕ → ProcessState
gone state pid = record { opening = state.opening; processes = maps.remove state.processes pid; slots = slots_without pid state.slots }

-- waiting for a process, by the code with which it ended: Running where it has not
abbrev pub waited : ProcessState → ℕ → Option ℕ → ProcessAnswer
waited state pid None = saying state reply.Running
waited state pid (Some code) = saying (gone state pid) (reply.Num code)

-- wait: NoProcess; NotChild; wait on the process; Running; the process goes, and the reply is its code
abbrev pub wait_row : Request → ProcessState → ℕ → ProcessAnswer
wait_row r state pid =
    with_found state (maps.get state.processes pid)
    (λ process. for_child state r.client process
    (asking r state process.label process_wait (waited state pid process.ended)))

-- attaching what a place holds: SlotUsed; NoProcess; Ended; ptrace, then getattr on the process
abbrev pub attached_at : Request → ProcessState → ℕ → ℕ → Option ℕ → ProcessAnswer
attached_at r state place pid (Some attached) = saying state reply.SlotUsed
attached_at r state place pid None =
    with_found state (maps.get state.processes pid)
    (λ process. while_running state process.ended
    (after_asking r state (asking_attach r process.label)
    (saying (with_slots state (maps.insert state.slots place pid)) reply.Done)))

-- attach: SlotUsed; NoProcess; Ended; ptrace, then getattr on the process; the slot is attached to it
abbrev pub attach_row : Request → ProcessState → ℕ → ℕ → ProcessAnswer
attach_row r state place pid = attached_at r state place pid (maps.get state.slots place)

-- what is done with the process of a slot: a slot whose process is gone is as good as free
abbrev pub with_attached : ProcessState → Option Process → (Process → ProcessAnswer) → ProcessAnswer
with_attached state None rest = saying state reply.BadSlot
with_attached state (Some process) rest = rest process

-- a use of what a place holds: BadSlot; ptrace, then getattr on the process's present label; Ended
abbrev pub used : Request → ProcessState → Option ℕ → (ℕ → Process → ProcessAnswer) → ProcessAnswer
used r state None rest = saying state reply.BadSlot
used r state (Some pid) rest =
    with_attached state (maps.get state.processes pid)
    (λ process. after_asking r state (asking_attach r process.label)
    (while_running state process.ended (rest pid process)))

-- peek: BadSlot; ptrace, then getattr; Ended; the reply is the register
abbrev pub peek_row : Request → ProcessState → ℕ → ProcessAnswer
peek_row r state place =
    used r state (maps.get state.slots place) (λ pid process. saying state (reply.Num process.register))

-- poke: BadSlot; ptrace, then getattr; Ended; the register is the value
abbrev pub poke_row : Request → ProcessState → ℕ → ℕ → ProcessAnswer
poke_row r state place value =
    used r state (maps.get state.slots place) (λ pid process. saying (with_process state pid (holding process value)) reply.Done)

-- freeing what a place holds: BadSlot
abbrev pub detached : ProcessState → ℕ → Option ℕ → ProcessAnswer
detached state place None = saying state reply.BadSlot
detached state place (Some pid) = saying (with_slots state (maps.remove state.slots place)) reply.Done

-- detach: BadSlot; the slot is free
abbrev pub detach_row : ProcessState → ℕ → ProcessAnswer
detach_row state place = detached state place (maps.get state.slots place)

-- stat: NoProcess; getattr on the process; Ended; label and register
abbrev pub stat_row : Request → ProcessState → ℕ → ProcessAnswer
stat_row r state pid =
    with_found state (maps.get state.processes pid)
    (λ process. asking r state process.label process_getattr
    (while_running state process.ended (saying state (reply.Stat process.label process.register))))

-- The state of the plain process manager, and how its answers are put together.
use Rattle.std.specs.Prelude.{ℕ, ◌==◌, List, [], ◌∷◌, slice_index, All, IsTrue, Option, Some, None, if◌then◌else◌}
use Rattle.std.specs.Ordering.{nat_cmp}
use Rattle.std.specs.FinMap as maps
use Rattle.std.specs.FinMap.{FinMap}
use Rattle.access_vectors.specs.Table.{Permission}
use Rattle.access_vectors.specs.Perms.{process_ptrace, process_getattr}
use Rattle.access_vectors.specs.Decisions.{Decisions}
use Rattle.manager_history.specs.Answers.{Answer}
use Rattle.mode_questions.specs.Requests as requests
use Rattle.mode_questions.specs.Requests.{Request, Asking, asking_mode}
use Rattle.process_calls.specs.declared.opening.ProcessOpening.{ProcessOpening}
use Rattle.process_calls.specs.declared.process.Process.{Process}
use Rattle.process_calls.specs.declared.call.ProcessReply.{ProcessReply}
use Rattle.process_calls.specs.declared.call.ProcessReply.TheVariants as reply

-- the manager's state: what it was opened with, the processes by their numbers, and the number of the process that each used
-- slot is attached to, by the slot's place
pub record ProcessState : Type 0 where
  pub opening : ProcessOpening
  pub processes : FinMap nat_cmp Process
  pub slots : FinMap nat_cmp ℕ

-- the reply to a call, the state that it leaves, and the questions that it asked, up to the first no
abbrev pub ProcessAnswer : Type 0
ProcessAnswer = Answer ProcessReply ProcessState

-- every identifier of an opening is the decider's
abbrev pub IsOpening : Decisions → ProcessOpening → Type 0
IsOpening d opening = All (λ sid. IsTrue (d.known sid)) opening.clients

-- a client's identifier
abbrev pub sid_of : ProcessState → ℕ → ℕ
sid_of state client = slice_index state.opening.clients client

-- the state that an opening gives: no process, and every slot is free
abbrev pub opened_with : ProcessOpening → ProcessState
opened_with opening = record { opening = opening; processes = maps.empty; slots = maps.empty }

-- the state with other processes
abbrev pub with_processes : ProcessState → FinMap nat_cmp Process → ProcessState
with_processes state processes = record { opening = state.opening; processes = processes; slots = state.slots }

-- the state with a process at a number
abbrev pub with_process : ProcessState → ℕ → Process → ProcessState
with_process state pid process = with_processes state (maps.insert state.processes pid process)

-- the state with other slots
abbrev pub with_slots : ProcessState → FinMap nat_cmp ℕ → ProcessState
with_slots state slots = record { opening = state.opening; processes = state.processes; slots = slots }

-- how many processes may be kept
abbrev pub process_limit : ℕ
process_limit = 4096

-- the mode of every attached slot, ptrace and getattr, as a vector
abbrev pub attach_mode : ℕ
attach_mode = 72

-- its permissions, in the order in which they are asked
abbrev pub attach_perms : List Permission
attach_perms = process_ptrace ∷ process_getattr ∷ []

-- what comes of asking whether the subject may attach to a process of label t
abbrev pub asking_attach : Request → ℕ → Asking
asking_attach r t = asking_mode r t attach_mode attach_perms

-- a reply that asks nothing more, in a state
abbrev pub saying : ProcessState → ProcessReply → ProcessAnswer
saying state said = requests.saying state said

-- a question first: where it is denied that is the reply, and nothing else is done
abbrev pub asking : Request → ProcessState → ℕ → Permission → ProcessAnswer → ProcessAnswer
asking r state t perm rest = requests.asking reply.Denied r state t perm rest

-- what is done where no permission of the mode was denied
abbrev pub after_asking : Request → ProcessState → Asking → ProcessAnswer → ProcessAnswer
after_asking r state asking rest = requests.after_asking reply.Denied r state asking rest

-- what is done with a process that is looked up: NoProcess where there is none
abbrev pub with_found : ProcessState → Option Process → (Process → ProcessAnswer) → ProcessAnswer
with_found state None rest = saying state reply.NoProcess
with_found state (Some process) rest = rest process

-- what is done with a child of the caller: NotChild where another client is its parent
abbrev pub for_child : ProcessState → ℕ → Process → ProcessAnswer → ProcessAnswer
for_child state caller process rest = if process.parent == caller then rest else saying state reply.NotChild

-- what is done while a process runs, by the code with which it ended: Ended where it has
abbrev pub while_running : ProcessState → Option ℕ → ProcessAnswer → ProcessAnswer
while_running state None rest = rest
while_running state (Some code) rest = saying state reply.Ended

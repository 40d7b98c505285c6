-- Calls as a session may give them: which slots, processes and numbers there are.
use Rattle.std.specs.Prelude.{ℕ, ◌<◌, ◌≤◌}
use Rattle.process_calls.specs.declared.call.ProcessCall.{ProcessCall}
use Rattle.process_calls.specs.declared.call.ProcessCall.TheVariants as call

-- a slot's number
abbrev pub IsSlot : ℕ → Type 0
IsSlot slot = slot < 64

-- a process's number
abbrev pub IsPid : ℕ → Type 0
IsPid pid = (0 < pid) × (pid < 65536)

-- a signal's number
abbrev pub IsSignal : ℕ → Type 0
IsSignal number = (0 < number) × (number ≤ 64)

-- the code with which a process ends
abbrev pub IsCode : ℕ → Type 0
IsCode code = code < 256

-- a call with its slot, its process and its numbers in their ranges; a register takes each value of 32 bits
abbrev pub IsCall : ProcessCall → Type 0
IsCall (call.Fork pid) = IsPid pid
IsCall (call.Exec pid sid) = IsPid pid
IsCall (call.Signal pid number) = IsPid pid × IsSignal number
IsCall (call.Exit pid code) = IsPid pid × IsCode code
IsCall (call.Wait pid) = IsPid pid
IsCall (call.Attach slot pid) = IsSlot slot × IsPid pid
IsCall (call.Peek slot) = IsSlot slot
IsCall (call.Poke slot value) = IsSlot slot
IsCall (call.Detach slot) = IsSlot slot
IsCall (call.StatProcess pid) = IsPid pid

-- The entries of a manager's history, as a gate reads them.
use Rattle.std.specs.Prelude.{◌≡◌, ℕ, true, false, List, []}
use Rattle.access_vectors.specs.declared.phase.Phase.{Phase}
use Rattle.manager_history.specs.declared.entry.Entry.{Entry}
use Rattle.manager_history.specs.declared.entry.Entry.TheVariants.{Op, Aborted, Notice, Ack, Forced}
use Rattle.gate_rule.specs.History.{Kind, of_caller, phase_in}
use Rattle.gate_rule.specs.History.Kind.{Call as ACall, Notice as ANotice, Ack as AnAck}

-- the kind of an entry: a caller's, whether its call was done or aborted, a notice, or an acknowledgement, forced or not
abbrev pub kind_of : {Call Reply : Type 0} → Entry Call Reply → Kind
kind_of (Op caller mark call number asked reply) = ACall caller mark number
kind_of (Aborted caller mark call number) = ACall caller mark number
kind_of (Notice number version) = ANotice number version
kind_of (Ack number) = AnAck number false
kind_of (Forced number) = AnAck number true

-- where the policy change stands after a history
abbrev pub phase_of : {Call Reply : Type 0} → List (Entry Call Reply) → Phase
phase_of log = phase_in kind_of log

-- no caller has an entry in a history
abbrev pub IsUncalled : {Call Reply : Type 0} → List (Entry Call Reply) → Type 0
IsUncalled log = (n : ℕ) → of_caller kind_of n log ≡ []

-- Histories whose pending change is acknowledged at the end.
use Rattle.std.specs.Prelude.{◌≡◌, List, [], ◌∷◌, ◌++◌}
use Rattle.access_vectors.specs.declared.phase.Phase.{Phase}
use Rattle.access_vectors.specs.declared.phase.Phase.TheVariants.{Settled, Pending}
use Rattle.manager_history.specs.declared.entry.Entry.{Entry}
use Rattle.manager_history.specs.declared.entry.Entry.TheVariants.{Ack}
use Rattle.epoch_gate.specs.Seats.{SeatView}
use Rattle.managed_run.specs.Kinds.{phase_of}
use Rattle.managed_run.specs.Ends.{HasEndedWith}

-- the acknowledgement of a pending change, where one is pending
abbrev pub settling : {Call Reply : Type 0} → Phase → List (Entry Call Reply)
settling (Settled number version) = []
settling (Pending number old new) = Ack number ∷ []

-- a history, with the acknowledgement of its pending change behind it where one is pending
abbrev pub settled : {Call Reply : Type 0} → List (Entry Call Reply) → List (Entry Call Reply)
settled log = log ++ settling (phase_of log)

-- a station ended with a history, of which the administrator knows what it knows at the end, and which was settled then
pub record HasSettled {Call Reply D O : Type 0} (admin : SeatView (Entry Call Reply) D O) (log : List (Entry Call Reply)) : Type 0 where
  pub closed : List (Entry Call Reply)
  pub ended : HasEndedWith admin closed
  pub settled_is : log ≡ settled closed

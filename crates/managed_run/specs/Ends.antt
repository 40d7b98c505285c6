-- What is known of the history with which a station ends.
use Rattle.std.specs.Prelude.{◌≡◌, ℕ, ◌≤◌, List, []}
use mathlib.Core.Option.{some}
use lib.ListN.{get_elem?}
use Rattle.manager_history.specs.declared.entry.Entry.{Entry}
use Rattle.gate_rule.specs.declared.view.Ended.{Ended}
use Rattle.gate_rule.specs.History.{of_caller, controls, StartsWith}
use Rattle.gate_rule.specs.Rule.{AreOnce}
use Rattle.gate_rule.specs.Views.{entries_of}
use Rattle.epoch_gate.specs.Seats.{SeatView}
use Rattle.epoch_gate.specs.Known.{seen_by, seats_made, seats_retired, turns_had}
use Rattle.managed_run.specs.Kinds.{kind_of}

-- for each retired number the history has exactly the entries that its seat had; no number was retired twice, and one that
-- was never made has none; its notices and acknowledgements are those of the administrator's turns, in order; and it begins
-- with what the administrator had seen
pub record HasEndedWith {Call Reply D O : Type 0} (a : SeatView (Entry Call Reply) D O) (log : List (Entry Call Reply)) : Type 0 where
  pub ended : (i : ℕ) (e : Ended (Entry Call Reply)) → get_elem? (seats_retired a) i ≡ some e → e.entries ≡ of_caller kind_of e.number log
  pub once : AreOnce (seats_retired a)
  pub unmade : (n : ℕ) → seats_made a ≤ n → of_caller kind_of n log ≡ []
  pub changes : controls kind_of log ≡ entries_of (turns_had a)
  pub seen : StartsWith log (seen_by a)

-- Where a client stands at a manager, by its seat.
use Rattle.std.specs.Prelude.{ℕ, List, Option, Some, None}
use Rattle.gate_rule.specs.declared.view.Pass.{Pass}
use Rattle.gate_rule.specs.declared.view.Pass.TheVariants.{Out, Inside}
use Rattle.gate_rule.specs.History.{last_notice}
use Rattle.epoch_gate.specs.Seats.{SeatView}
use Rattle.epoch_gate.specs.Known.{seen_by, own_entries, caller_number, pass_held, quota_left}
use Rattle.manager_history.specs.declared.entry.Entry.{Entry}
use Rattle.managed_run.specs.Kinds.{kind_of}

-- where a client stands at a manager: its number, the policy number of the pass that it holds, if it holds one, the number of the
-- last notice that it has seen, how often it may enter yet, and its own entries
pub record Standing (Call Reply : Type 0) : Type 0 where
  pub client : ℕ
  pub held : Option ℕ
  pub newest : ℕ
  pub room : ℕ
  pub mine : List (Entry Call Reply)

-- the policy number of a pass
abbrev pub number_held : Pass → Option ℕ
number_held Out = None
number_held (Inside number version) = Some number

-- where the client of a seat stands
abbrev pub standing_of : {Call Reply D O : Type 0} → SeatView (Entry Call Reply) D O → Standing Call Reply
standing_of s = record {
  client = caller_number s;
  held = number_held (pass_held s);
  newest = (last_notice kind_of (seen_by s)).0;
  room = quota_left s;
  mine = own_entries s;
}

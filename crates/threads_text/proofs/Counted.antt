-- The changes that a history counts are its acknowledgements.
use Rattle.std.proofs.Common.{◌≡◌, ℕ, ◌+◌, Bool, List, [], ◌∷◌, length, arith}
use Rattle.manager_history.specs.declared.entry.Entry.{Entry}
use Rattle.manager_history.specs.declared.entry.Entry.TheVariants.{Op, Aborted, Notice, Ack, Forced}
use Rattle.history_text.specs.Counting.{with_entry, with_entries, counts_of}
use Rattle.history_text.specs.declared.counts.Counts.{Counts}
use Rattle.run_histories.specs.Changes.{acknowledged_in}

counted_from : {Call Reply : Type 0} (is_denial : Reply → Bool) (counts : Counts) (log : List (Entry Call Reply)) → (with_entries is_denial counts log).changes ≡ counts.changes + length (acknowledged_in log)
counted_from is_denial counts [] = omega arith
counted_from is_denial counts (Op caller mark call number asked reply ∷ log) = counted_from is_denial (with_entry is_denial counts (Op caller mark call number asked reply)) log
counted_from {Call = Call} is_denial counts (Aborted caller mark call number ∷ log) = counted_from is_denial (with_entry {Call = Call} is_denial counts (Aborted caller mark call number)) log
counted_from is_denial counts (Notice number version ∷ log) = counted_from is_denial counts log
counted_from is_denial counts (Ack number ∷ log) =
    let more = counted_from is_denial (record { calls = counts.calls; denied = counts.denied; changes = counts.changes + 1 }) log in omega arith
counted_from is_denial counts (Forced number ∷ log) =
    let more = counted_from is_denial (record { calls = counts.calls; denied = counts.denied; changes = counts.changes + 1 }) log in omega arith

pub changes_counted : {Call Reply : Type 0} (is_denial : Reply → Bool) (log : List (Entry Call Reply)) → (counts_of is_denial log).changes ≡ length (acknowledged_in log)
changes_counted is_denial log = let all = counted_from is_denial (record { calls = 0; denied = 0; changes = 0 }) log in omega arith

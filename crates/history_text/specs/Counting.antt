-- What the summary counts of a history.
use Rattle.std.specs.Prelude.{◌+◌, Bool, List, [], ◌∷◌, if◌then◌else◌}
use Rattle.manager_history.specs.declared.entry.Entry.{Entry}
use Rattle.manager_history.specs.declared.entry.Entry.TheVariants.{Op, Aborted, Notice, Ack, Forced}
use Rattle.history_text.specs.declared.counts.Counts.{Counts}

-- the counts with one entry more: an operation is a call, which may be denied; an aborted call is a call; an acknowledgement,
-- forced or not, ends a change
abbrev pub with_entry : {Call Reply : Type 0} → (Reply → Bool) → Counts → Entry Call Reply → Counts
with_entry is_denial counts (Op caller mark call number asked reply) =
    record { calls = counts.calls + 1; denied = counts.denied + (if is_denial reply then 1 else 0); changes = counts.changes }
with_entry is_denial counts (Aborted caller mark call number) = record { calls = counts.calls + 1; denied = counts.denied; changes = counts.changes }
with_entry is_denial counts (Notice number version) = counts
with_entry is_denial counts (Ack number) = record { calls = counts.calls; denied = counts.denied; changes = counts.changes + 1 }
with_entry is_denial counts (Forced number) = record { calls = counts.calls; denied = counts.denied; changes = counts.changes + 1 }

-- the counts with these entries more
abbrev pub with_entries : {Call Reply : Type 0} → (Reply → Bool) → Counts → List (Entry Call Reply) → Counts
with_entries is_denial counts [] = counts
with_entries is_denial counts (entry ∷ entries) = with_entries is_denial (with_entry is_denial counts entry) entries

-- the counts of a history
abbrev pub counts_of : {Call Reply : Type 0} → (Reply → Bool) → List (Entry Call Reply) → Counts
counts_of is_denial history = with_entries is_denial (record { calls = 0; denied = 0; changes = 0 }) history

-- Counts of a history, entry by entry.
use Rattle.std.proofs.Common.{◌≡◌, ◌≤◌, ◌+◌, List, [], ◌∷◌, ◌++◌, Bool, true, false, refl, arith}
use Rattle.std.specs.Prelude.{if◌then◌else◌}
use Rattle.manager_history.specs.declared.entry.Entry.{Entry}
use Rattle.manager_history.specs.declared.entry.Entry.TheVariants.{Op, Aborted, Notice, Ack, Forced}
use Rattle.history_text.specs.declared.counts.Counts.{Counts}
use Rattle.history_text.specs.Counting.{with_entry, with_entries}

-- one entry more behind others
pub counted_more : {Call Reply : Type 0} (is_denial : Reply → Bool) (counts : Counts) (entries : List (Entry Call Reply)) (entry : Entry Call Reply)
    → with_entries is_denial counts (entries ++ entry ∷ []) ≡ with_entry is_denial (with_entries is_denial counts entries) entry
counted_more is_denial counts [] entry = refl
counted_more is_denial counts (first ∷ entries) entry = counted_more is_denial (with_entry is_denial counts first) entries entry

-- one entry adds at most one to each count
pub one_call : {Call Reply : Type 0} (is_denial : Reply → Bool) (counts : Counts) (entry : Entry Call Reply) → (with_entry is_denial counts entry).calls ≤ counts.calls + 1
one_call is_denial counts (Op caller mark call number asked reply) = omega arith
one_call is_denial counts (Aborted caller mark call number) = omega arith
one_call is_denial counts (Notice number version) = omega arith
one_call is_denial counts (Ack number) = omega arith
one_call is_denial counts (Forced number) = omega arith

pub one_denial : {Call Reply : Type 0} (is_denial : Reply → Bool) (counts : Counts) (entry : Entry Call Reply) → (with_entry is_denial counts entry).denied ≤ counts.denied + 1
one_denial is_denial counts (Op caller mark call number asked reply) =
    elim (is_denial reply) as (λ (b : Bool). counts.denied + (if b then 1 else 0) ≤ counts.denied + 1) [
      | true ↦ omega arith
      | false ↦ omega arith
    ]
one_denial is_denial counts (Aborted caller mark call number) = omega arith
one_denial is_denial counts (Notice number version) = omega arith
one_denial is_denial counts (Ack number) = omega arith
one_denial is_denial counts (Forced number) = omega arith

pub one_change : {Call Reply : Type 0} (is_denial : Reply → Bool) (counts : Counts) (entry : Entry Call Reply) → (with_entry is_denial counts entry).changes ≤ counts.changes + 1
one_change is_denial counts (Op caller mark call number asked reply) = omega arith
one_change is_denial counts (Aborted caller mark call number) = omega arith
one_change is_denial counts (Notice number version) = omega arith
one_change is_denial counts (Ack number) = omega arith
one_change is_denial counts (Forced number) = omega arith

-- The parts of a history's text, and what it counts at most.
use Rattle.std.proofs.Common.{◌≡◌, ◌≤◌, ◌+◌, ℕ, Bool, List, [], ◌∷◌, ◌++◌, length, map, refl, ap, arith}
use Rattle.std.specs.List.{flat_map}
use Rattle.manager_history.specs.declared.entry.Entry.{Entry}
use Rattle.session_forms.specs.declared.run_forms.Manager.{Manager}
use Rattle.session_text.specs.declared.session.ClientLine.{ClientLine}
use Rattle.text_print.specs.Printed.{ended}
use Rattle.history_text.specs.Histories.{heading_words, entry_words, history_text}
use Rattle.history_text.specs.Counting.{with_entry, with_entries, counts_of}
use Rattle.history_text.specs.declared.counts.Counts.{Counts}
use Rattle.history_text.proofs.CountLemmas.{one_call, one_denial}
use Rattle.threads_print.specs.Printing.{entry_text}

-- the lines of the members of a list, one after another
each_ended : {X : Type 0} (words : X → List (List ℕ)) (xs : List X) → flat_map ended (map words xs) ≡ flat_map (λ x. ended (words x)) xs
each_ended words [] = refl
each_ended words (x ∷ xs) = ap (λ rest. ended (words x) ++ rest) (each_ended words xs)

-- a history's text is the line above its entries, and theirs
pub history_parts : {Call Reply : Type 0} (words : Reply → List (List ℕ)) (clients : List ClientLine) (manager : Manager) (entries : List (Entry Call Reply))
    → history_text words clients manager entries ≡ ended (heading_words manager) ++ flat_map (entry_text words clients manager) entries
history_parts words clients manager entries =
    ap (λ rest. ended (heading_words manager) ++ rest) (each_ended (entry_words words clients manager) entries)

-- a history counts at most its entries as calls, and as denied
calls_from : {Call Reply : Type 0} (is_denial : Reply → Bool) (counts : Counts) (entries : List (Entry Call Reply)) → (with_entries is_denial counts entries).calls ≤ counts.calls + length entries
calls_from is_denial counts [] = omega arith
calls_from is_denial counts (entry ∷ entries) =
    let first = one_call is_denial counts entry in
    let rest = calls_from is_denial (with_entry is_denial counts entry) entries in
    omega (arith, first, rest)

denied_from : {Call Reply : Type 0} (is_denial : Reply → Bool) (counts : Counts) (entries : List (Entry Call Reply)) → (with_entries is_denial counts entries).denied ≤ counts.denied + length entries
denied_from is_denial counts [] = omega arith
denied_from is_denial counts (entry ∷ entries) =
    let first = one_denial is_denial counts entry in
    let rest = denied_from is_denial (with_entry is_denial counts entry) entries in
    omega (arith, first, rest)

pub calls_within : {Call Reply : Type 0} (is_denial : Reply → Bool) (entries : List (Entry Call Reply)) → (counts_of is_denial entries).calls ≤ length entries
calls_within is_denial entries = let most = calls_from is_denial (record { calls = 0; denied = 0; changes = 0 }) entries in omega (arith, most)

pub denied_within : {Call Reply : Type 0} (is_denial : Reply → Bool) (entries : List (Entry Call Reply)) → (counts_of is_denial entries).denied ≤ length entries
denied_within is_denial entries = let most = denied_from is_denial (record { calls = 0; denied = 0; changes = 0 }) entries in omega (arith, most)

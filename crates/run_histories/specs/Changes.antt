-- The changes of policy in histories of managers.
use Rattle.std.specs.Prelude.{ℕ, ◌==◌, Bool, ◌&&◌, List, [], ◌∷◌, ◌++◌, map, length}
use Rattle.std.specs.List.{filter, list_any}
use Rattle.manager_history.specs.declared.entry.Entry.{Entry}
use Rattle.manager_history.specs.declared.entry.Entry.TheVariants.{Op, Aborted, Notice, Ack, Forced}

-- number and version of an entry that is a notice
abbrev pub notice_in : {Call Reply : Type 0} → Entry Call Reply → List (ℕ × ℕ)
notice_in (Notice number version) = (number, version) ∷ []
notice_in (Op caller mark call number asked reply) = []
notice_in (Aborted caller mark call number) = []
notice_in (Ack number) = []
notice_in (Forced number) = []

-- number and version of each notice of a history, in order
abbrev pub noticed_in : {Call Reply : Type 0} → List (Entry Call Reply) → List (ℕ × ℕ)
noticed_in [] = []
noticed_in (entry ∷ entries) = notice_in entry ++ noticed_in entries

-- the number of an entry that is an acknowledgement, forced or not
abbrev pub acknowledgement_in : {Call Reply : Type 0} → Entry Call Reply → List ℕ
acknowledgement_in (Ack number) = number ∷ []
acknowledgement_in (Forced number) = number ∷ []
acknowledgement_in (Op caller mark call number asked reply) = []
acknowledgement_in (Aborted caller mark call number) = []
acknowledgement_in (Notice number version) = []

-- the numbers that a history acknowledges, in order
abbrev pub acknowledged_in : {Call Reply : Type 0} → List (Entry Call Reply) → List ℕ
acknowledged_in [] = []
acknowledged_in (entry ∷ entries) = acknowledgement_in entry ++ acknowledged_in entries

-- the number of an entry that is a forced acknowledgement
abbrev pub forcing_in : {Call Reply : Type 0} → Entry Call Reply → List ℕ
forcing_in (Forced number) = number ∷ []
forcing_in (Ack number) = []
forcing_in (Op caller mark call number asked reply) = []
forcing_in (Aborted caller mark call number) = []
forcing_in (Notice number version) = []

-- the numbers that a history acknowledges by force, in order
abbrev pub forced_in : {Call Reply : Type 0} → List (Entry Call Reply) → List ℕ
forced_in [] = []
forced_in (entry ∷ entries) = forcing_in entry ++ forced_in entries

-- the numbers of notices
abbrev pub numbers_of : List (ℕ × ℕ) → List ℕ
numbers_of notices = map (λ notice. notice.0) notices

-- a number is one of these
abbrev pub is_among : List ℕ → ℕ → Bool
is_among numbers number = list_any (λ other. other == number) numbers

-- how many policy numbers are acknowledged in each of three histories
abbrev pub changes_in : {A B C D E F : Type 0} → List (Entry A B) → List (Entry C D) → List (Entry E F) → ℕ
changes_in files processes ports =
    length (filter (λ number. is_among (acknowledged_in processes) number && is_among (acknowledged_in ports) number) (acknowledged_in files))

-- What a client does at a manager, and the entries that this leads to.
use Rattle.std.specs.Prelude.{◌≡◌, ◌≤◌, ℕ, List, [], ◌∷◌, Option, Some, None}
use Rattle.manager_history.specs.declared.entry.Entry.{Entry}
use Rattle.manager_history.specs.declared.entry.Entry.TheVariants.{Op, Aborted}

-- what a client does at a manager: it takes a pass and holds it, it gives the held pass back, or it does a call, which has a mark
pub data Act (Call : Type 0) : Type 0 where
  Take : Act Call
  Give : Act Call
  Do : ℕ → Call → Act Call

-- the entry of this call of a client under a policy number, done or aborted
abbrev pub IsEntryOf : {Call Reply : Type 0} → ℕ → ℕ → Call → ℕ → Entry Call Reply → Type 0
IsEntryOf client mark call number (Op caller its_mark its_call its_number asked reply) =
    (caller ≡ client) × (its_mark ≡ mark) × (its_call ≡ call) × (its_number ≡ number)
IsEntryOf client mark call number (Aborted caller its_mark its_call its_number) =
    (caller ≡ client) × (its_mark ≡ mark) × (its_call ≡ call) × (its_number ≡ number)
IsEntryOf client mark call number other = ⊥

-- a call may have this policy number: that of the pass that is held, and else one that is not below the last
abbrev pub MayHave : Option ℕ → ℕ → ℕ → Type 0
MayHave None last number = last ≤ number
MayHave (Some held) last number = number ≡ held

-- acts of a client lead to these entries: each call has one, in order, with its mark; the policy numbers of the entries never fall, and
-- those of the calls between taking a pass and giving it back are the pass's. `held` is the number of the pass that the client holds, and
-- `last` the policy number of the entry before.
abbrev pub Leads : {Call Reply : Type 0} → ℕ → Option ℕ → ℕ → List (Act Call) → List (Entry Call Reply) → Type 0
Leads client held last [] entries = entries ≡ []
Leads client held last (Take ∷ acts) entries = (number : ℕ) × (last ≤ number) × Leads client (Some number) last acts entries
Leads client held last (Give ∷ acts) entries = Leads client None last acts entries
Leads client held last (Do mark call ∷ acts) [] = ⊥
Leads client held last (Do mark call ∷ acts) (entry ∷ entries) =
    (number : ℕ) × MayHave held last number × IsEntryOf client mark call number entry × Leads client held number acts entries

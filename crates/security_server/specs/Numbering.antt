-- Policy numbers, and the receipts of managers for the one that is proposed.
use Rattle.std.specs.Prelude.{ℕ, ◌+◌, Bool, true, false, ◌&&◌, ◌==◌, nat_lt, List, take, replicate, slice_get, slice_set, Option, Some, None, unwrap_or, Result, Ok, Err, if◌then◌else◌, refl}
use Rattle.std.specs.List.{list_all}
use Rattle.std.specs.Coded.{Coded, code_by, coded×, coded_list, coded_ℕ, coded_bool}
use Rattle.access_vectors.specs.Phases.{number_of, noticed, acknowledged}
use Rattle.access_vectors.specs.contracts.phase.Phase as phase_type
use Rattle.access_vectors.specs.declared.phase.Phase.{Phase}
use Rattle.access_vectors.specs.declared.phase.Phase.TheVariants.{Settled, Pending}
use Rattle.access_vectors.specs.Notices.{notice_fault}
use Rattle.access_vectors.specs.declared.change.NotifyFault.{NotifyFault}
use Rattle.access_vectors.specs.declared.change.Receipt.{Receipt}
use Rattle.security_server.specs.declared.answers.ReceiptFault.{ReceiptFault}
use Rattle.security_server.specs.declared.answers.ReceiptFault.TheVariants as receiving

-- what contracts see of a server: the decider, how many managers are registered, the last number that may be made, which
-- number is settled or pending, and by manager whether its receipt for the pending one is in
pub record ServerView (Decider : Type 0) : Type 0 where
  pub decider : Decider
  pub managers : ℕ
  pub most : ℕ
  pub phase : Phase
  pub receipts : List Bool

-- how a proof tells two of them apart: by the fields
abbrev pub server_code : {Decider : Type 0} → Coded Decider → Coded (ServerView Decider)
server_code {Decider = Decider} code =
    code_by (Decider × (ℕ × (ℕ × (Phase × List Bool)))) (coded× code (coded× coded_ℕ (coded× coded_ℕ (coded× phase_type.the_row.coded (coded_list coded_bool)))))
    (λ kept. (kept.decider, (kept.managers, (kept.most, (kept.phase, kept.receipts)))))
    (λ p. record { decider = p.0; managers = p.1.0; most = p.1.1.0; phase = p.1.1.1.0; receipts = p.1.1.1.1 }) (λ _. refl)

-- no receipt is in; there are places for 16 managers
abbrev pub no_receipts : List Bool
no_receipts = replicate 16 false

-- a server at its start: number 0 with version 0 is settled
abbrev pub opened : {Decider : Type 0} → Decider → ℕ → ℕ → ServerView Decider
opened decider managers most =
    record { decider = decider; managers = managers; most = most; phase = Settled 0 0; receipts = no_receipts }

-- what a proposal answers: the next number, or why it is refused, in the order of the tests
abbrev pub next_unless : Option NotifyFault → ℕ → Result ℕ NotifyFault
next_unless None settled = Ok (settled + 1)
next_unless (Some fault) settled = Err fault

abbrev pub proposal : {Decider : Type 0} → ℕ → ServerView Decider → ℕ → Result ℕ NotifyFault
proposal versions kept version = next_unless (notice_fault kept.phase versions version kept.most) (number_of kept.phase)

-- a version is proposed under a number
abbrev pub proposed : {Decider : Type 0} → ServerView Decider → ℕ → ℕ → ServerView Decider
proposed kept number version = record {
  decider = kept.decider;
  managers = kept.managers;
  most = kept.most;
  phase = noticed kept.phase number version;
  receipts = kept.receipts;
}

-- the number that is proposed and not complete, with its version
abbrev pub pending_of : Phase → Option (ℕ × ℕ)
pending_of (Settled settled version) = None
pending_of (Pending pending old new) = Some (pending, new)

abbrev pub pending_number : Phase → Option ℕ
pending_number (Settled settled version) = None
pending_number (Pending pending old new) = Some pending

-- the receipt of a manager is in
abbrev pub is_in : List Bool → ℕ → Bool
is_in receipts manager = unwrap_or (slice_get receipts manager) false

-- a number is the pending one
abbrev pub is_pending_number : Phase → ℕ → Bool
is_pending_number (Settled settled version) number = false
is_pending_number (Pending pending old new) number = number == pending

-- why a receipt is refused, if it is, in the order of the tests
abbrev pub receipt_fault : {Decider : Type 0} → ServerView Decider → Receipt → Option ReceiptFault
receipt_fault kept receipt =
    if nat_lt receipt.manager kept.managers then
    (if is_pending_number kept.phase receipt.number then
    (if is_in kept.receipts receipt.manager then Some (receiving.Double receipt.manager receipt.number) else None)
    else Some (receiving.Old receipt.number (pending_number kept.phase)))
    else Some (receiving.Foreign receipt.manager kept.managers)

-- the receipt of a manager is put in
abbrev pub with_receipt : {Decider : Type 0} → ServerView Decider → ℕ → ServerView Decider
with_receipt kept manager = record {
  decider = kept.decider;
  managers = kept.managers;
  most = kept.most;
  phase = kept.phase;
  receipts = slice_set kept.receipts manager true;
}

-- the receipt of each registered manager is in
abbrev pub are_all_in : {Decider : Type 0} → ServerView Decider → Bool
are_all_in kept = list_all (λ is_there. is_there) (take kept.managers kept.receipts)

-- a number is pending, and the receipt of each manager for it is in
abbrev pub is_complete : {Decider : Type 0} → ServerView Decider → ℕ → Bool
is_complete kept number = is_pending_number kept.phase number && are_all_in kept

-- a server whose pending number is complete, or that stays as it is
abbrev pub completed : {Decider : Type 0} → ServerView Decider → Bool → ServerView Decider
completed kept false = kept
completed kept true = record {
  decider = kept.decider;
  managers = kept.managers;
  most = kept.most;
  phase = acknowledged kept.phase;
  receipts = no_receipts;
}

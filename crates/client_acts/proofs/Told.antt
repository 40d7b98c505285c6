-- What a call tells of its audit lines.
use Rattle.std.proofs.Common.{◌≡◌, ◌∙◌, ℕ, Bool, true, false, List, [], ◌∷◌, ◌++◌, length, drop, Option, refl, sym, ap, append-nil}
use Rattle.std.specs.Prelude.{Result, Ok, Err, IfOk}
use Rattle.std.proofs.lemmas.List.{drop_at}
use Rattle.access_vectors.specs.declared.asked.Asked.{Asked}
use Rattle.manager_history.specs.declared.entry.Entry.{Entry}
use Rattle.manager_history.specs.declared.answers.Answer.{Answer as Said}
use Rattle.manager_history.specs.declared.answers.Answer.TheVariants as saying
use Rattle.epoch_gate.specs.Seats.{SeatView}
use Rattle.epoch_gate.specs.Known.{own_entries, caller_number, pass_number}
use Rattle.managed_run.specs.Calls.{HasAnswered}
use Rattle.audit_log.specs.Audited.{lines_of, lines_asked, audited_in}
use Rattle.audit_log.specs.declared.audited.AuditLine.{AuditLine}
use Rattle.client_acts.specs.declared.worker.Audit.{Audit}
use Rattle.client_acts.specs.Audits.{audited_since}

-- what stands behind a front
pub drop_front : {X : Type 0} (front back all : List X) → all ≡ front ++ back → drop (length front) all ≡ back
drop_front front back all is = ap (drop (length front)) is ∙ drop_at front back (length front) refl

module _ {Call Reply : Type 0} (audit : Audit) where
  -- where nothing is printed nothing is told
  pub none_since : (before after : List (Entry Call Reply)) → audit.printed ≡ false → audited_since audit before after ≡ []
  none_since before after off = rw off refl

  -- and else the audit lines of what came behind
  pub since_is : (before after added : List (Entry Call Reply)) → audit.printed ≡ true → after ≡ before ++ added
      → audited_since audit before after ≡ audited_in audit.policy.now audit.contexts.now added
  since_is before after added on is = rw on (ap (audited_in audit.policy.now audit.contexts.now) (drop_front before added after is))

  -- where nothing came behind nothing is told
  pub none_more : (before after : List (Entry Call Reply)) → after ≡ before → audited_since audit before after ≡ []
  none_more before after same = by_test audit.printed refl
    where
      by_test : (test : Bool) → audit.printed ≡ test → audited_since audit before after ≡ []
      by_test true on = since_is before after [] on (same ∙ sym (append-nil before))
      by_test false off = none_since before after off

  -- the lines of one entry more
  entry_told : (entry : Entry Call Reply) (before after : List (Entry Call Reply)) → audit.printed ≡ true → after ≡ before ++ entry ∷ []
      → lines_of audit.policy.now audit.contexts.now entry ≡ audited_since audit before after
  entry_told entry before after on added =
      sym (since_is before after (entry ∷ []) on added ∙ append-nil (lines_of audit.policy.now audit.contexts.now entry))

module _ {Call Reply D O : Type 0} (audit : Audit) (use_of : ℕ → Call → Option ℕ) (mark : ℕ) (call : Call) where
  -- the lines of the questions of a call are those of its entry
  pub call_is_told : (said : Said Reply) (asked : List Asked) (s t : SeatView (Entry Call Reply) D O) → audit.printed ≡ true → HasAnswered use_of mark call said asked s t
      → lines_asked audit.policy.now audit.contexts.now (record { client = caller_number s; mark = mark; number = pass_number s }) asked ≡ audited_since audit (own_entries s) (own_entries t)
  call_is_told (saying.Did reply) asked s t on answered = entry_told audit _ (own_entries s) (own_entries t) on answered.added.mine
  call_is_told saying.Aborted asked s t on answered =
      ap (lines_asked audit.policy.now audit.contexts.now (record { client = caller_number s; mark = mark; number = pass_number s })) answered.none_asked
      ∙ entry_told audit _ (own_entries s) (own_entries t) on answered.added.mine

  -- so lines that were made of the questions of a call under the pass are told
  pub lines_told : {E : Type 0} (result : Result (List AuditLine) E) (said : Said Reply) (asked given : List Asked) (whose number : ℕ) (s t : SeatView (Entry Call Reply) D O) → audit.printed ≡ true
      → HasAnswered use_of mark call said asked s t → given ≡ asked → whose ≡ caller_number s → pass_number s ≡ number
      → IfOk result (λ lines. lines ≡ lines_asked audit.policy.now audit.contexts.now (record { client = whose; mark = mark; number = number }) given)
      → IfOk result (λ lines. lines ≡ audited_since audit (own_entries s) (own_entries t))
  lines_told (Ok lines) said asked given whose number s t on answered given_is whose_is under made =
      made
      ∙ (λ i. lines_asked audit.policy.now audit.contexts.now (record { client = whose_is i; mark = mark; number = sym under i }) (given_is i))
      ∙ call_is_told said asked s t on answered
  lines_told (Err e) said asked given whose number s t on answered given_is whose_is under made = tt

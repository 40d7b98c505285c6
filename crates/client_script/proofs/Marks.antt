-- The marks of a client's entries are the numbers of its lines.
use Rattle.std.proofs.Common.{◌≡◌, ◌∙◌, ℕ, ◌+◌, ◌≤◌, Bool, true, false, true≢false, List, [], ◌∷◌, ◌++◌, Option, Some, None, refl, sym, ap, subst, arith, inl, inr}
use Rattle.std.specs.Prelude.{◌⊎◌, ◌==◌}
use Rattle.std.specs.List.{filter, flat_map}
use Rattle.std.proofs.lemmas.List.Elements.{filter-append}
use Rattle.flask_sid.specs.declared.context.ContextOf.{ContextOf}
use Rattle.policy_model.specs.declared.policy.PolicyParts.{PolicyParts}
use Rattle.manager_history.specs.declared.entry.Entry.{Entry}
use Rattle.manager_history.specs.declared.entry.Entry.TheVariants.{Op, Aborted, Notice, Ack, Forced}
use Rattle.gate_rule.specs.History.{of_caller}
use Rattle.managed_run.specs.Kinds.{kind_of}
use Rattle.session_forms.specs.declared.run_forms.Manager.TheVariants as manager
use Rattle.session_text.specs.declared.session.Run.{Run}
use Rattle.session_text.specs.declared.session.Run.TheVariants as run
use Rattle.session_text.specs.declared.session.RunLine.{RunLine}
use Rattle.audit_log.specs.Audited.{lines_asked, audited_in}
use Rattle.audit_log.specs.Logs.{is_of_call}
use Rattle.audit_log.specs.declared.audited.AuditLine.{AuditLine}
use Rattle.audit_log.proofs.CallLemmas.{no_lines, apart_mark, apart_client}
use Rattle.file_calls.specs.declared.call.FileCall.{FileCall}
use Rattle.file_calls.specs.declared.call.FileReply.{FileReply}
use Rattle.process_calls.specs.declared.call.ProcessCall.{ProcessCall}
use Rattle.process_calls.specs.declared.call.ProcessReply.{ProcessReply}
use Rattle.port_calls.specs.declared.call.PortCall.{PortCall}
use Rattle.port_calls.specs.declared.call.PortReply.{PortReply}
use Rattle.client_acts.specs.Acts.{Act, Take, Give, Do, IsEntryOf, Leads}
use Rattle.client_script.specs.Scripts.{is_by, script_of, file_act, process_act, port_act, acts_by, IsWhole}
use Rattle.client_script.specs.Audits.{audit_of, RiseFrom, own_audit}
use Rattle.client_script.specs.Clients.{Standings, HasRun}
use Rattle.client_acts.specs.declared.worker.Audit.{Audit}

-- ---- the marks of what acts lead to

-- the marks of the calls that acts do are such
abbrev pub AreDone : {Call : Type 0} → (ℕ → Type 0) → List (Act Call) → Type 0
AreDone P [] = Unit {0}
AreDone P (Take ∷ acts) = AreDone P acts
AreDone P (Give ∷ acts) = AreDone P acts
AreDone P (Do mark call ∷ acts) = P mark × AreDone P acts

done_append : {Call : Type 0} (P : ℕ → Type 0) (first rest : List (Act Call)) → AreDone P first → AreDone P rest → AreDone P (first ++ rest)
done_append P [] rest one two = two
done_append P (Take ∷ first) rest one two = done_append P first rest one two
done_append P (Give ∷ first) rest one two = done_append P first rest one two
done_append P (Do mark call ∷ first) rest one two = (one.0, done_append P first rest one.1 two)

-- what a line does has the line's number as its mark
abbrev pub Marks : {Call : Type 0} → (ℕ → Run → List (Act Call)) → Type 1
Marks act = (P : ℕ → Type 0) (mark : ℕ) (asks : Run) → P mark → AreDone P (act mark asks)

pub file_marks : Marks file_act
file_marks P mark (run.File who call) is = (is, tt)
file_marks P mark (run.Process who call) is = tt
file_marks P mark (run.Port who call) is = tt
file_marks P mark (run.Begin who manager.File) is = tt
file_marks P mark (run.Begin who manager.Process) is = tt
file_marks P mark (run.Begin who manager.Port) is = tt
file_marks P mark (run.End who manager.File) is = tt
file_marks P mark (run.End who manager.Process) is = tt
file_marks P mark (run.End who manager.Port) is = tt
file_marks P mark (run.Notify version) is = tt
file_marks P mark (run.Update most) is = tt
file_marks P mark run.Ack is = tt
file_marks P mark run.Force is = tt

pub process_marks : Marks process_act
process_marks P mark (run.File who call) is = tt
process_marks P mark (run.Process who call) is = (is, tt)
process_marks P mark (run.Port who call) is = tt
process_marks P mark (run.Begin who manager.File) is = tt
process_marks P mark (run.Begin who manager.Process) is = tt
process_marks P mark (run.Begin who manager.Port) is = tt
process_marks P mark (run.End who manager.File) is = tt
process_marks P mark (run.End who manager.Process) is = tt
process_marks P mark (run.End who manager.Port) is = tt
process_marks P mark (run.Notify version) is = tt
process_marks P mark (run.Update most) is = tt
process_marks P mark run.Ack is = tt
process_marks P mark run.Force is = tt

pub port_marks : Marks port_act
port_marks P mark (run.File who call) is = tt
port_marks P mark (run.Process who call) is = tt
port_marks P mark (run.Port who call) is = (is, tt)
port_marks P mark (run.Begin who manager.File) is = tt
port_marks P mark (run.Begin who manager.Process) is = tt
port_marks P mark (run.Begin who manager.Port) is = tt
port_marks P mark (run.End who manager.File) is = tt
port_marks P mark (run.End who manager.Process) is = tt
port_marks P mark (run.End who manager.Port) is = tt
port_marks P mark (run.Notify version) is = tt
port_marks P mark (run.Update most) is = tt
port_marks P mark run.Ack is = tt
port_marks P mark run.Force is = tt

-- the mark of an entry that is a call is such
abbrev pub IsCallMarked : {Call Reply : Type 0} → (ℕ → Type 0) → Entry Call Reply → Type 0
IsCallMarked P (Op caller mark call number asked reply) = P mark
IsCallMarked P (Aborted caller mark call number) = P mark
IsCallMarked P (Notice number version) = Unit {0}
IsCallMarked P (Ack number) = Unit {0}
IsCallMarked P (Forced number) = Unit {0}

abbrev pub AreCallsMarked : {Call Reply : Type 0} → (ℕ → Type 0) → List (Entry Call Reply) → Type 0
AreCallsMarked P [] = Unit {0}
AreCallsMarked P (entry ∷ entries) = IsCallMarked P entry × AreCallsMarked P entries

entry_marked : {Call Reply : Type 0} (P : ℕ → Type 0) (client mark : ℕ) (call : Call) (number : ℕ) (entry : Entry Call Reply) → P mark → IsEntryOf client mark call number entry → IsCallMarked P entry
entry_marked P client mark call number (Op caller its_mark its_call its_number asked reply) may is = subst P (sym is.1) may
entry_marked P client mark call number (Aborted caller its_mark its_call its_number) may is = subst P (sym is.1) may
entry_marked P client mark call number (Notice its_number version) may is = tt
entry_marked P client mark call number (Ack its_number) may is = tt
entry_marked P client mark call number (Forced its_number) may is = tt

-- the entries that acts lead to have the marks of the acts
led_marked : {Call Reply : Type 0} (P : ℕ → Type 0) (client : ℕ) (held : Option ℕ) (last : ℕ) (acts : List (Act Call)) (entries : List (Entry Call Reply)) → AreDone P acts → Leads client held last acts entries → AreCallsMarked P entries
led_marked P client held last [] entries done leads = rw leads tt
led_marked P client held last (Take ∷ acts) entries done leads = led_marked P client (Some leads.0) last acts entries done leads.2
led_marked P client held last (Give ∷ acts) entries done leads = led_marked P client _ last acts entries done leads
led_marked P client held last (Do mark call ∷ acts) [] done leads = tt
led_marked P client held last (Do mark call ∷ acts) (entry ∷ entries) done leads =
    (entry_marked P client mark call leads.0 entry done.0 leads.2, led_marked P client held leads.0 acts entries done.1 leads.3)

-- a mark is the number of one of these lines
abbrev pub IsMarkOf : List RunLine → ℕ → Type 0
IsMarkOf [] mark = ⊥
IsMarkOf (line ∷ lines) mark = (mark ≡ line.line) ⊎ IsMarkOf lines mark

-- the marks of what lines do are their numbers
lines_done : {Call : Type 0} (act : ℕ → Run → List (Act Call)) → Marks act → (P : ℕ → Type 0) (lines : List RunLine) → ((mark : ℕ) → IsMarkOf lines mark → P mark) → AreDone P (acts_by act lines)
lines_done act marks P [] may = tt
lines_done act marks P (line ∷ lines) may =
    done_append P (act line.line line.run) (acts_by act lines) (marks P line.line line.run (may line.line (inl refl))) (lines_done act marks P lines (λ mark is. may mark (inr is)))

-- the entries of a whole script have the numbers of its lines as their marks
pub whole_marked : {Call Reply : Type 0} (act : ℕ → Run → List (Act Call)) → Marks act → (client : ℕ) (lines : List RunLine) (log : List (Entry Call Reply)) → IsWhole act client lines log → AreCallsMarked (IsMarkOf lines) log
whole_marked act marks client lines log whole = led_marked (IsMarkOf lines) client None 0 (acts_by act lines) log (lines_done act marks (IsMarkOf lines) lines (λ mark is. is)) whole

-- ---- audit lines of a mark

-- the audit lines of an entry in front of others
before_others : (client mark : ℕ) (own rest kept : List AuditLine) → filter (is_of_call client mark) own ≡ [] → filter (is_of_call client mark) rest ≡ kept → filter (is_of_call client mark) (own ++ rest) ≡ kept
before_others client mark own rest kept none is = filter-append (is_of_call client mark) own rest ∙ (λ i. none i ++ is i)

-- where no entry has a mark, there is no audit line of it
pub none_marked : {Call Reply : Type 0} (P : ℕ → Type 0) (client mark : ℕ) (policy : PolicyParts) (contexts : List (ContextOf (List ℕ))) (log : List (Entry Call Reply)) → (P mark → ⊥) → AreCallsMarked P log
    → filter (is_of_call client mark) (audited_in policy contexts log) ≡ []
none_marked P client mark policy contexts [] not marked = refl
none_marked P client mark policy contexts (Op caller its_mark call number asked reply ∷ log) not marked =
    before_others client mark _ (audited_in policy contexts log) [] (no_lines client mark policy contexts (record { client = caller; mark = its_mark; number = number }) asked
    (apart_mark client mark (record { client = caller; mark = its_mark; number = number }) (λ same. not (subst P same marked.0))))
    (none_marked P client mark policy contexts log not marked.1)
none_marked P client mark policy contexts (Aborted caller its_mark call number ∷ log) not marked = none_marked P client mark policy contexts log not marked.1
none_marked P client mark policy contexts (Notice number version ∷ log) not marked = none_marked P client mark policy contexts log not marked.1
none_marked P client mark policy contexts (Ack number ∷ log) not marked = none_marked P client mark policy contexts log not marked.1
none_marked P client mark policy contexts (Forced number ∷ log) not marked = none_marked P client mark policy contexts log not marked.1

-- the audit lines of a client's call in a history are those in its own entries
pub own_at : {Call Reply : Type 0} (client mark : ℕ) (policy : PolicyParts) (contexts : List (ContextOf (List ℕ))) (log : List (Entry Call Reply))
    → filter (is_of_call client mark) (audited_in policy contexts (of_caller kind_of client log)) ≡ filter (is_of_call client mark) (audited_in policy contexts log)
own_at client mark policy contexts [] = refl
own_at {Call = Call} {Reply = Reply} client mark policy contexts (Op caller its_mark call number asked reply ∷ log) = by_test (caller == client) refl (own_at client mark policy contexts log)
  where
    by_test : (test : Bool) → (caller == client) ≡ test
        → filter (is_of_call client mark) (audited_in policy contexts (of_caller kind_of client log)) ≡ filter (is_of_call client mark) (audited_in policy contexts log)
        → filter (is_of_call client mark) (audited_in policy contexts (of_caller kind_of client (Op caller its_mark call number asked reply ∷ log)))
        ≡ filter (is_of_call client mark) (audited_in policy contexts (Op caller its_mark call number asked reply ∷ log))
    by_test true is behind =
        rw is (filter-append (is_of_call client mark) _ (audited_in policy contexts (of_caller kind_of client log))
        ∙ ap (λ (l : List AuditLine). filter (is_of_call client mark) (lines_asked policy contexts (record { client = caller; mark = its_mark; number = number }) asked) ++ l) behind
        ∙ sym (filter-append (is_of_call client mark) _ (audited_in policy contexts log)))
    by_test false is behind =
        rw is (behind ∙ sym (before_others client mark _ (audited_in policy contexts log) _
        (no_lines client mark policy contexts (record { client = caller; mark = its_mark; number = number }) asked (apart_client client mark (record { client = caller; mark = its_mark; number = number }) is)) refl))
own_at client mark policy contexts (Aborted caller its_mark call number ∷ log) = by_test (caller == client) refl (own_at client mark policy contexts log)
  where
    by_test : (test : Bool) → (caller == client) ≡ test
        → filter (is_of_call client mark) (audited_in policy contexts (of_caller kind_of client log)) ≡ filter (is_of_call client mark) (audited_in policy contexts log)
        → filter (is_of_call client mark) (audited_in policy contexts (of_caller kind_of client (Aborted caller its_mark call number ∷ log)))
        ≡ filter (is_of_call client mark) (audited_in policy contexts (Aborted caller its_mark call number ∷ log))
    by_test true is behind = rw is behind
    by_test false is behind = rw is behind
own_at client mark policy contexts (Notice number version ∷ log) = own_at client mark policy contexts log
own_at client mark policy contexts (Ack number ∷ log) = own_at client mark policy contexts log
own_at client mark policy contexts (Forced number ∷ log) = own_at client mark policy contexts log

-- ---- a client's lines among all

-- lines that rise from a number rise from a lesser one
rise_less : (m n : ℕ) (lines : List RunLine) → m ≤ n → RiseFrom n lines → RiseFrom m lines
rise_less m n [] below rising = tt
rise_less m n (line ∷ lines) below rising = (omega (arith, below, rising.0), rising.1)

-- the lines of a script rise where all lines do
pub script_rises : (client least : ℕ) (lines : List RunLine) → RiseFrom least lines → RiseFrom least (script_of client lines)
script_rises client least [] rising = tt
script_rises client least (line ∷ lines) rising = by_test (is_by client line) refl (script_rises client (line.line + 1) lines rising.1)
  where
    by_test : (test : Bool) → is_by client line ≡ test → RiseFrom (line.line + 1) (script_of client lines) → RiseFrom least (script_of client (line ∷ lines))
    by_test true is behind = rw is (rising.0, behind)
    by_test false is behind = rw is (rise_less least (line.line + 1) (script_of client lines) (omega (arith, rising.0)) behind)

-- numbers of lines that rise from a number are not below it
mark_from : (least : ℕ) (lines : List RunLine) (mark : ℕ) → RiseFrom least lines → IsMarkOf lines mark → least ≤ mark
mark_from least [] mark rising is = absurd is
mark_from least (line ∷ lines) mark rising (inl same) = omega (arith, same, rising.0)
mark_from least (line ∷ lines) mark rising (inr is) = let later = mark_from (line.line + 1) lines mark rising.1 is in omega (arith, later, rising.0)

-- the number of a line that is not a client's
abbrev IsOthers : ℕ → List RunLine → ℕ → Type 0
IsOthers client [] mark = ⊥
IsOthers client (line ∷ lines) mark = ((is_by client line ≡ false) × (mark ≡ line.line)) ⊎ IsOthers client lines mark

others_from : (client least : ℕ) (lines : List RunLine) (mark : ℕ) → RiseFrom least lines → IsOthers client lines mark → least ≤ mark
others_from client least [] mark rising is = absurd is
others_from client least (line ∷ lines) mark rising (inl same) = omega (arith, same.1, rising.0)
others_from client least (line ∷ lines) mark rising (inr is) = let later = others_from client (line.line + 1) lines mark rising.1 is in omega (arith, later, rising.0)

-- it is not the number of a line of the client
others_apart : (client least : ℕ) (lines : List RunLine) (mark : ℕ) → RiseFrom least lines → IsOthers client lines mark → IsMarkOf (script_of client lines) mark → ⊥
others_apart client least [] mark rising other own = other
others_apart client least (line ∷ lines) mark rising other own = by_test (is_by client line) refl other own (others_apart client (line.line + 1) lines mark rising.1)
  where
    by_test : (test : Bool) → is_by client line ≡ test → IsOthers client (line ∷ lines) mark → IsMarkOf (script_of client (line ∷ lines)) mark
        → (IsOthers client lines mark → IsMarkOf (script_of client lines) mark → ⊥) → ⊥
    by_test true is (inl other) own behind = absurd (true≢false (sym is ∙ other.0))
    by_test true is (inr other) own behind =
        let later = others_from client (line.line + 1) lines mark rising.1 other in
        elim (rw is at own) [ inl same ↦ absurd (omega (arith, same, later)) | inr own ↦ behind other own ]
    by_test false is (inl other) own behind =
        let later = mark_from (line.line + 1) (script_of client lines) mark (script_rises client (line.line + 1) lines rising.1) (rw is at own) in
        absurd (omega (arith, later, other.1))
    by_test false is (inr other) own behind = behind other (rw is at own)

-- where lines of others have no audit line of a client, its audit lines are those of its script
skips : (client : ℕ) (lines : List RunLine) (all : List AuditLine) → ((mark : ℕ) → IsOthers client lines mark → filter (is_of_call client mark) all ≡ [])
    → audit_of client (script_of client lines) all ≡ audit_of client lines all
skips client [] all none = refl
skips client (line ∷ lines) all none = by_test (is_by client line) refl (skips client lines all (λ mark other. none mark (inr other)))
  where
    by_test : (test : Bool) → is_by client line ≡ test → audit_of client (script_of client lines) all ≡ audit_of client lines all
        → audit_of client (script_of client (line ∷ lines)) all ≡ audit_of client (line ∷ lines) all
    by_test true is behind = rw is (ap (λ (l : List AuditLine). filter (is_of_call client line.line) all ++ l) behind)
    by_test false is behind = rw is (behind ∙ (λ i. sym (none line.line (inl (is, refl))) i ++ audit_of client lines all))

-- audit lines whose marks are of a client's script, in the order of the script and in that of all lines
pub script_alone : (client : ℕ) (lines : List RunLine) (all : List AuditLine) → RiseFrom 0 lines
    → ((mark : ℕ) → (IsMarkOf (script_of client lines) mark → ⊥) → filter (is_of_call client mark) all ≡ []) → audit_of client (script_of client lines) all ≡ audit_of client lines all
script_alone client lines all rising none = skips client lines all (λ mark other. none mark (others_apart client 0 lines mark rising other))

-- ---- a client that ran its whole script

-- three parts of which the same is kept
parts_same : (p : AuditLine → Bool) (f g h x y z u v w : List AuditLine) → filter p f ≡ u → filter p g ≡ v → filter p h ≡ w → filter p x ≡ u → filter p y ≡ v → filter p z ≡ w
    → filter p (f ++ (g ++ h)) ≡ filter p (x ++ (y ++ z))
parts_same p f g h x y z u v w in_f in_g in_h in_x in_y in_z =
    filter-append p f (g ++ h) ∙ ap (λ (l : List AuditLine). filter p f ++ l) (filter-append p g h)
    ∙ (λ i. (in_f ∙ sym in_x) i ++ ((in_g ∙ sym in_y) i ++ (in_h ∙ sym in_z) i))
    ∙ sym (filter-append p x (y ++ z) ∙ ap (λ (l : List AuditLine). filter p x ++ l) (filter-append p y z))

-- its audit lines in the order of its script are those of all histories in the order of all lines, where its own entries are its calls there
pub whole_audit : (audit : Audit) (client : ℕ) (lines : List RunLine) (s : Standings) (files : List (Entry FileCall FileReply)) (processes : List (Entry ProcessCall ProcessReply))
    (ports : List (Entry PortCall PortReply)) → RiseFrom 0 lines → HasRun client (script_of client lines) s → s.files.mine ≡ of_caller kind_of client files
    → s.processes.mine ≡ of_caller kind_of client processes → s.ports.mine ≡ of_caller kind_of client ports
    → audit_of client (script_of client lines) (own_audit audit s)
    ≡ audit_of client lines (audited_in audit.policy.now audit.contexts.now files
    ++ (audited_in audit.policy.now audit.contexts.now processes ++ audited_in audit.policy.now audit.contexts.now ports))
whole_audit audit client lines s files processes ports rising ran in_files in_processes in_ports =
    script_alone client lines (own_audit audit s) rising (λ mark not.
    parts_same (is_of_call client mark) _ _ _ [] [] [] [] [] []
    (none_marked (IsMarkOf (script_of client lines)) client mark policy contexts s.files.mine not (whole_marked file_act file_marks client (script_of client lines) s.files.mine ran.files))
    (none_marked (IsMarkOf (script_of client lines)) client mark policy contexts s.processes.mine not (whole_marked process_act process_marks client (script_of client lines) s.processes.mine ran.processes))
    (none_marked (IsMarkOf (script_of client lines)) client mark policy contexts s.ports.mine not (whole_marked port_act port_marks client (script_of client lines) s.ports.mine ran.ports)) refl refl refl)
    ∙ (λ i. flat_map (λ (line : RunLine). same line.line i) lines)
  where
    policy : PolicyParts
    policy = audit.policy.now

    contexts : List (ContextOf (List ℕ))
    contexts = audit.contexts.now

    same : (mark : ℕ) → filter (is_of_call client mark) (own_audit audit s)
        ≡ filter (is_of_call client mark) (audited_in policy contexts files ++ (audited_in policy contexts processes ++ audited_in policy contexts ports))
    same mark =
        parts_same (is_of_call client mark) _ _ _ _ _ _ _ _ _
        (ap (λ (l : List (Entry FileCall FileReply)). filter (is_of_call client mark) (audited_in policy contexts l)) in_files ∙ own_at client mark policy contexts files)
        (ap (λ (l : List (Entry ProcessCall ProcessReply)). filter (is_of_call client mark) (audited_in policy contexts l)) in_processes ∙ own_at client mark policy contexts processes)
        (ap (λ (l : List (Entry PortCall PortReply)). filter (is_of_call client mark) (audited_in policy contexts l)) in_ports ∙ own_at client mark policy contexts ports) refl refl refl

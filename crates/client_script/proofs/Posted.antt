-- What a client's pen has posted goes on by a line.
use Rattle.std.proofs.Common.{◌≡◌, ◌∙◌, ℕ, ◌+◌, ◌<◌, ◌≤◌, Bool, true, false, true≢false, List, [], ◌∷◌, ◌++◌, All, refl, sym, ap, subst, arith, append_assoc, append-nil}
use Rattle.std.specs.Prelude.{◌==◌, ◌&&◌}
use Rattle.std.specs.List.{filter}
use Rattle.std.proofs.lemmas.Grind.{flat_map-append}
use Rattle.std.proofs.lemmas.Bool.Decides.{nat_tests}
use Rattle.std.proofs.lemmas.List.Elements.{filter-append, filter_passes, All-weaker}
use Rattle.flask_sid.specs.declared.context.ContextOf.{ContextOf}
use Rattle.policy_model.specs.declared.policy.PolicyParts.{PolicyParts}
use Rattle.manager_history.specs.declared.entry.Entry.{Entry}
use Rattle.manager_history.specs.declared.entry.Entry.TheVariants.{Op, Aborted, Notice, Ack, Forced}
use Rattle.session_text.specs.declared.session.RunLine.{RunLine}
use Rattle.audit_log.specs.Audited.{lines_of, audited_in}
use Rattle.audit_log.specs.Logs.{is_of_call}
use Rattle.audit_log.specs.declared.audited.AuditLine.{AuditLine}
use Rattle.audit_log.proofs.CallLemmas.{own_lines, no_lines, apart_mark, of_own, audited_more}
use Rattle.client_acts.specs.declared.worker.Audit.{Audit}
use Rattle.client_acts.specs.Acts.{Act, Take, Give, Do, IsEntryOf}
use Rattle.client_acts.specs.Standings.{Standing}
use Rattle.client_acts.specs.Moves.{HasMoved}
use Rattle.client_acts.proofs.Told.{since_is, none_since, none_more}
use Rattle.client_script.specs.Scripts.{file_act, process_act, port_act}
use Rattle.client_script.specs.Clients.{Standings, AreOf, HasDone, HaveNone, HaveSame}
use Rattle.client_script.specs.Audits.{audit_of, RiseFrom, own_audit, audited_since, script_audit}
use Rattle.client_script.specs.Underway.{AreBelow, IsTold, IsPosted}
use Rattle.client_script.proofs.Marks.{AreDone, file_marks, process_marks, port_marks}

-- ---- the entries that a line adds at a manager

module _ {Call Reply : Type 0} (policy : PolicyParts) (contexts : List (ContextOf (List ℕ))) (client mark : ℕ) where
  -- the entries behind others have the audit lines of this call alone
  record IsAdding (before after : List (Entry Call Reply)) : Type 0 where
    added : List (Entry Call Reply)
    is : after ≡ before ++ added
    own : filter (is_of_call client mark) (audited_in policy contexts added) ≡ audited_in policy contexts added
    none : (other : ℕ) → (mark ≡ other → ⊥) → filter (is_of_call client other) (audited_in policy contexts added) ≡ []

  adding_nothing : (before after : List (Entry Call Reply)) → after ≡ before → IsAdding before after
  adding_nothing before after same = record { added = []; is = same ∙ sym (append-nil before); own = refl; none = λ other apart. refl }

  -- the lines of the entry of a call
  own_entry : (call : Call) (number : ℕ) (entry : Entry Call Reply) → IsEntryOf client mark call number entry
      → filter (is_of_call client mark) (lines_of policy contexts entry) ≡ lines_of policy contexts entry
  own_entry call number (Op caller its_mark its_call its_number asked reply) is =
      own_lines client mark policy contexts (record { client = caller; mark = its_mark; number = its_number }) asked (of_own client mark (record { client = caller; mark = its_mark; number = its_number }) is.0 is.1)
  own_entry call number (Aborted caller its_mark its_call its_number) is = refl
  own_entry call number (Notice its_number version) is = absurd is
  own_entry call number (Ack its_number) is = absurd is
  own_entry call number (Forced its_number) is = absurd is

  no_entry : (call : Call) (number : ℕ) (entry : Entry Call Reply) → IsEntryOf client mark call number entry → (other : ℕ) → (mark ≡ other → ⊥)
      → filter (is_of_call client other) (lines_of policy contexts entry) ≡ []
  no_entry call number (Op caller its_mark its_call its_number asked reply) is other apart =
      no_lines client other policy contexts (record { client = caller; mark = its_mark; number = its_number }) asked
      (apart_mark client other (record { client = caller; mark = its_mark; number = its_number }) (λ same. apart (sym is.1 ∙ same)))
  no_entry call number (Aborted caller its_mark its_call its_number) is other apart = refl
  no_entry call number (Notice its_number version) is other apart = absurd is
  no_entry call number (Ack its_number) is other apart = absurd is
  no_entry call number (Forced its_number) is other apart = absurd is

  adding_entry : (call : Call) (number : ℕ) (entry : Entry Call Reply) (before after : List (Entry Call Reply)) → IsEntryOf client mark call number entry → after ≡ before ++ entry ∷ [] → IsAdding before after
  adding_entry call number entry before after is added =
      let single = append-nil (lines_of policy contexts entry) in
      record {
        added = entry ∷ [];
        is = added;
        own = subst (λ (l : List AuditLine). filter (is_of_call client mark) l ≡ l) (sym single) (own_entry call number entry is);
        none = λ other apart. ap (filter (is_of_call client other)) single ∙ no_entry call number entry is other apart;
      }

  -- what a line does there adds the entry of its call, if it has one
  adding : (acts : List (Act Call)) (s t : Standing Call Reply) → s.client ≡ client → AreDone (λ its_mark. its_mark ≡ mark) acts → HasMoved acts s t → IsAdding s.mine t.mine
  adding [] s t whose done moved = adding_nothing s.mine t.mine (ap (λ (x : Standing Call Reply). x.mine) moved)
  adding (Take ∷ []) s t whose done moved = adding_nothing s.mine t.mine moved.none
  adding (Give ∷ []) s t whose done moved = adding_nothing s.mine t.mine moved.none
  adding (Do its_mark call ∷ []) s t whose done moved =
      adding_entry call moved.number moved.entry s.mine t.mine
      (subst (λ (n : ℕ). IsEntryOf client n call moved.number moved.entry) done.0 (subst (λ (n : ℕ). IsEntryOf n its_mark call moved.number moved.entry) whose moved.is)) moved.added
  adding (one ∷ next ∷ acts) s t whose done moved = absurd moved

-- ---- tests on lists of parts

module _ (p : AuditLine → Bool) where
  -- what two parts keep
  pair : (x y u v : List AuditLine) → filter p x ≡ u → filter p y ≡ v → filter p (x ++ y) ≡ u ++ v
  pair x y u v in_x in_y = filter-append p x y ∙ (λ i. in_x i ++ in_y i)

  -- a part of which nothing is kept
  alone : (x y : List AuditLine) → filter p y ≡ [] → filter p (x ++ y) ≡ filter p x
  alone x y none = pair x y (filter p x) [] refl none ∙ append-nil (filter p x)

  -- of three parts nothing is kept, and all of what each has more
  only_more : (f g h a b c : List AuditLine) → filter p f ≡ [] → filter p g ≡ [] → filter p h ≡ [] → filter p a ≡ a → filter p b ≡ b → filter p c ≡ c
      → filter p ((f ++ a) ++ ((g ++ b) ++ (h ++ c))) ≡ a ++ (b ++ c)
  only_more f g h a b c in_f in_g in_h in_a in_b in_c =
      pair (f ++ a) ((g ++ b) ++ (h ++ c)) a (b ++ c) (pair f a [] a in_f in_a) (pair (g ++ b) (h ++ c) b c (pair g b [] b in_g in_b) (pair h c [] c in_h in_c))

  -- of what each of three parts has more nothing is kept
  no_more : (f g h a b c : List AuditLine) → filter p a ≡ [] → filter p b ≡ [] → filter p c ≡ []
      → filter p ((f ++ a) ++ ((g ++ b) ++ (h ++ c))) ≡ filter p (f ++ (g ++ h))
  no_more f g h a b c in_a in_b in_c =
      pair (f ++ a) ((g ++ b) ++ (h ++ c)) (filter p f) (filter p g ++ filter p h) (alone f a in_a) (pair (g ++ b) (h ++ c) (filter p g) (filter p h) (alone g b in_b) (alone h c in_c))
      ∙ sym (pair f (g ++ h) (filter p f) (filter p g ++ filter p h) refl (pair g h (filter p g) (filter p h) refl refl))

-- the audit lines of calls below a mark are the same in two lists that have the same of each
same_below : (client next : ℕ) (done : List RunLine) (xs ys : List AuditLine) → AreBelow next done → ((mark : ℕ) → mark < next → filter (is_of_call client mark) xs ≡ filter (is_of_call client mark) ys)
    → audit_of client done xs ≡ audit_of client done ys
same_below client next [] xs ys below same = refl
same_below client next (line ∷ done) xs ys below same =
    let here = same line.line below.0 in
    let rest = same_below client next done xs ys below.1 same in
    λ i. here i ++ rest i

below_more : (m n : ℕ) (done : List RunLine) (line : RunLine) → m ≤ n → line.line < n → AreBelow m done → AreBelow n (done ++ line ∷ [])
below_more m n [] line less last below = (last, tt)
below_more m n (first ∷ done) line less last below = (omega (arith, less, below.0), below_more m n done line less last below.1)

-- lines that all are of a call are its client's
of_client : (client : ℕ) (test : Bool) (whose : ℕ) → ((whose == client) && test) ≡ true → whose ≡ client
of_client client test whose is = by_test (whose == client) refl is
  where
    by_test : (same : Bool) → (whose == client) ≡ same → (same && test) ≡ true → whose ≡ client
    by_test true same is = grind (arith, nat_tests, same)
    by_test false same is = absurd (true≢false (sym is))

all_kept : (client mark : ℕ) (lines : List AuditLine) → filter (is_of_call client mark) lines ≡ lines → All (λ (one : AuditLine). one.client ≡ client) lines
all_kept client mark lines kept =
    All-weaker (λ (one : AuditLine). is_of_call client mark one ≡ true) (λ (one : AuditLine). one.client ≡ client) (λ one is. of_client client (one.mark == mark) one.client is) lines
    (subst (All (λ (one : AuditLine). is_of_call client mark one ≡ true)) kept (filter_passes (is_of_call client mark) lines))

-- ---- a line

module _ (audit : Audit) (client : ℕ) (all : List RunLine) where
  -- before the first line nothing is posted
  told_first : (s : Standings) → HaveNone s → RiseFrom 0 all → IsTold audit client all all s []
  told_first s none rising =
      record {
        done = [];
        split = refl;
        next = 0;
        rising = rising;
        before = tt;
        files = λ mark above. ap (λ log. filter (is_of_call client mark) (audited_in audit.policy.now audit.contexts.now log)) none.files;
        processes = λ mark above. ap (λ log. filter (is_of_call client mark) (audited_in audit.policy.now audit.contexts.now log)) none.processes;
        ports = λ mark above. ap (λ log. filter (is_of_call client mark) (audited_in audit.policy.now audit.contexts.now log)) none.ports;
        told = refl;
      }

  module _ (line : RunLine) (left : List RunLine) (s t : Standings) (posted : List AuditLine) (of : AreOf client s) (moved : HasDone line.line line.run s t) where
    abbrev at_files : IsAdding audit.policy.now audit.contexts.now client line.line s.files.mine t.files.mine
    at_files = adding audit.policy.now audit.contexts.now client line.line (file_act line.line line.run) s.files t.files of.files (file_marks (λ mark. mark ≡ line.line) line.line line.run refl) moved.files

    abbrev at_processes : IsAdding audit.policy.now audit.contexts.now client line.line s.processes.mine t.processes.mine
    at_processes = adding audit.policy.now audit.contexts.now client line.line (process_act line.line line.run) s.processes t.processes of.processes (process_marks (λ mark. mark ≡ line.line) line.line line.run refl) moved.processes

    abbrev at_ports : IsAdding audit.policy.now audit.contexts.now client line.line s.ports.mine t.ports.mine
    at_ports = adding audit.policy.now audit.contexts.now client line.line (port_act line.line line.run) s.ports t.ports of.ports (port_marks (λ mark. mark ≡ line.line) line.line line.run refl) moved.ports

    -- the audit lines at each manager before the line, and those of what it added
    abbrev before_files : List AuditLine
    before_files = audited_in audit.policy.now audit.contexts.now s.files.mine

    abbrev before_processes : List AuditLine
    before_processes = audited_in audit.policy.now audit.contexts.now s.processes.mine

    abbrev before_ports : List AuditLine
    before_ports = audited_in audit.policy.now audit.contexts.now s.ports.mine

    abbrev more_files : List AuditLine
    more_files = audited_in audit.policy.now audit.contexts.now at_files.added

    abbrev more_processes : List AuditLine
    more_processes = audited_in audit.policy.now audit.contexts.now at_processes.added

    abbrev more_ports : List AuditLine
    more_ports = audited_in audit.policy.now audit.contexts.now at_ports.added

    in_files : audited_in audit.policy.now audit.contexts.now t.files.mine ≡ before_files ++ more_files
    in_files = ap (audited_in audit.policy.now audit.contexts.now) at_files.is ∙ audited_more audit.policy.now audit.contexts.now s.files.mine at_files.added

    in_processes : audited_in audit.policy.now audit.contexts.now t.processes.mine ≡ before_processes ++ more_processes
    in_processes = ap (audited_in audit.policy.now audit.contexts.now) at_processes.is ∙ audited_more audit.policy.now audit.contexts.now s.processes.mine at_processes.added

    in_ports : audited_in audit.policy.now audit.contexts.now t.ports.mine ≡ before_ports ++ more_ports
    in_ports = ap (audited_in audit.policy.now audit.contexts.now) at_ports.is ∙ audited_more audit.policy.now audit.contexts.now s.ports.mine at_ports.added

    in_all : own_audit audit t ≡ (before_files ++ more_files) ++ ((before_processes ++ more_processes) ++ (before_ports ++ more_ports))
    in_all = λ i. in_files i ++ (in_processes i ++ in_ports i)

    -- what was told of it
    more_is : audit.printed ≡ true → audited_since audit s t ≡ more_files ++ (more_processes ++ more_ports)
    more_is on =
        let of_files = since_is audit s.files.mine t.files.mine at_files.added on at_files.is in
        let of_processes = since_is audit s.processes.mine t.processes.mine at_processes.added on at_processes.is in
        let of_ports = since_is audit s.ports.mine t.ports.mine at_ports.added on at_ports.is in
        λ i. of_files i ++ (of_processes i ++ of_ports i)

    module _ (told : IsTold audit client all (line ∷ left) s posted) where
      -- calls before it have the audit lines that they had
      earlier : (mark : ℕ) → mark < told.next → filter (is_of_call client mark) (own_audit audit t) ≡ filter (is_of_call client mark) (own_audit audit s)
      earlier mark below =
          let apart : line.line ≡ mark → ⊥ = λ same. absurd (omega (arith, same, below, told.rising.0)) in
          ap (filter (is_of_call client mark)) in_all ∙ no_more (is_of_call client mark) before_files before_processes before_ports more_files more_processes more_ports (at_files.none mark apart) (at_processes.none mark apart) (at_ports.none mark apart)

      -- its own call has those that it added
      now_at : filter (is_of_call client line.line) (own_audit audit t) ≡ more_files ++ (more_processes ++ more_ports)
      now_at =
          ap (filter (is_of_call client line.line)) in_all
          ∙ only_more (is_of_call client line.line) before_files before_processes before_ports more_files more_processes more_ports (told.files line.line told.rising.0) (told.processes line.line told.rising.0) (told.ports line.line told.rising.0) at_files.own at_processes.own at_ports.own

      audit_more : audit_of client (told.done ++ line ∷ []) (own_audit audit t) ≡ audit_of client told.done (own_audit audit s) ++ (more_files ++ (more_processes ++ more_ports))
      audit_more =
          let one : audit_of client (line ∷ []) (own_audit audit t) ≡ more_files ++ (more_processes ++ more_ports) = append-nil (filter (is_of_call client line.line) (own_audit audit t)) ∙ now_at in
          let before = same_below client told.next told.done (own_audit audit t) (own_audit audit s) told.before earlier in
          flat_map-append (λ (line : RunLine). filter (is_of_call client line.line) (own_audit audit t)) told.done (line ∷ []) ∙ (λ i. before i ++ one i)

      -- later calls have none yet
      later : (own more after : List AuditLine) → ((mark : ℕ) → told.next ≤ mark → filter (is_of_call client mark) own ≡ [])
          → ((other : ℕ) → (line.line ≡ other → ⊥) → filter (is_of_call client other) more ≡ []) → after ≡ own ++ more
          → (mark : ℕ) → line.line + 1 ≤ mark → filter (is_of_call client mark) after ≡ []
      later own more after none none_more is mark above =
          let apart : line.line ≡ mark → ⊥ = λ same. absurd (omega (arith, same, above)) in
          ap (filter (is_of_call client mark)) is ∙ pair (is_of_call client mark) own more [] [] (none mark (omega (arith, above, told.rising.0))) (none_more mark apart)

      told_line : (now : List AuditLine) → audit.printed ≡ true → now ≡ posted ++ audited_since audit s t → IsTold audit client all left t now
      told_line now on is =
          record {
            done = told.done ++ line ∷ [];
            split = told.split ∙ sym (append_assoc told.done (line ∷ []) left);
            next = line.line + 1;
            rising = told.rising.1;
            before = below_more told.next (line.line + 1) told.done line (omega (arith, told.rising.0)) (omega arith) told.before;
            files = later before_files more_files (audited_in audit.policy.now audit.contexts.now t.files.mine) told.files at_files.none in_files;
            processes = later before_processes more_processes (audited_in audit.policy.now audit.contexts.now t.processes.mine) told.processes at_processes.none in_processes;
            ports = later before_ports more_ports (audited_in audit.policy.now audit.contexts.now t.ports.mine) told.ports at_ports.none in_ports;
            told = is ∙ (λ i. told.told i ++ more_is on i) ∙ sym audit_more;
          }

  -- behind the last line all is told
  told_last : (s : Standings) (posted : List AuditLine) → IsTold audit client all [] s posted → posted ≡ audit_of client all (own_audit audit s)
  told_last s posted told =
      told.told ∙ ap (λ (lines : List RunLine). audit_of client lines (own_audit audit s)) (sym (append-nil told.done) ∙ sym told.split)

  -- ---- whether audit lines are printed or not

  pub posted_first : (s : Standings) → HaveNone s → (posted : List AuditLine) → posted ≡ [] → IsPosted audit client all all s posted
  posted_first s none posted is = record { on = λ on rising. subst (IsTold audit client all all s) (sym is) (told_first s none rising); off = λ off. is }

  pub posted_line : (line : RunLine) (left : List RunLine) (s t : Standings) (posted now : List AuditLine) → AreOf client s → HasDone line.line line.run s t → now ≡ posted ++ audited_since audit s t
      → IsPosted audit client all (line ∷ left) s posted → IsPosted audit client all left t now
  posted_line line left s t posted now of moved is so_far =
      record {
        on = λ on rising. told_line line left s t posted of moved (so_far.on on rising) now on is;
        off = λ off. is ∙ (λ i. so_far.off off i ++ (none_since audit s.files.mine t.files.mine off i ++ (none_since audit s.processes.mine t.processes.mine off i ++ none_since audit s.ports.mine t.ports.mine off i)));
      }

  pub posted_last : (s : Standings) (posted : List AuditLine) → IsPosted audit client all [] s posted → RiseFrom 0 all → posted ≡ script_audit audit client all s
  posted_last s posted so_far rising = by_test audit.printed refl
    where
      by_test : (test : Bool) → audit.printed ≡ test → posted ≡ script_audit audit client all s
      by_test true on = rw on (told_last s posted (so_far.on on rising))
      by_test false off = rw off (so_far.off off)

  -- where no entry came there is none
  pub none_told : (s t : Standings) → HaveSame s t → audited_since audit s t ≡ []
  none_told s t same =
      let in_files = none_more audit s.files.mine t.files.mine same.files in
      let in_processes = none_more audit s.processes.mine t.processes.mine same.processes in
      let in_ports = none_more audit s.ports.mine t.ports.mine same.ports in
      λ i. in_files i ++ (in_processes i ++ in_ports i)

  -- the lines of a line are the client's
  pub own_client : (line : RunLine) (s t : Standings) → AreOf client s → HasDone line.line line.run s t → All (λ (one : AuditLine). one.client ≡ client) (audited_since audit s t)
  own_client line s t of moved = by_test audit.printed refl
    where
      by_test : (test : Bool) → audit.printed ≡ test → All (λ (one : AuditLine). one.client ≡ client) (audited_since audit s t)
      by_test true on =
          let added = more_is line [] s t [] of moved on in
          subst (All (λ (one : AuditLine). one.client ≡ client)) (sym added)
          (all_kept client line.line _
          (only_more (is_of_call client line.line) [] [] [] (more_files line [] s t [] of moved) (more_processes line [] s t [] of moved) (more_ports line [] s t [] of moved) refl refl refl
          (at_files line [] s t [] of moved).own (at_processes line [] s t [] of moved).own (at_ports line [] s t [] of moved).own))
      by_test false off = rw off (λ k d within. absurd (omega (arith, within)))

-- What closed histories, and the walk of the administrator's lines, say of the histories of a threaded run.
use Rattle.std.proofs.Common.{◌≡◌, ℕ, ◌≤◌, inl, inr, Bool, true, false, List, [], ◌∷◌, ◌++◌, map, length, Option, Some, None, refl, sym, ap, subst, ◌∙◌, append-nil, arith}
use Rattle.std.specs.Prelude.{◌==◌, nat_lt, not, ◌&&◌, ◌||◌, if◌then◌else◌}
use Rattle.std.specs.List.{filter, fold}
use Rattle.std.proofs.lemmas.List.Elements.{filter-append}
use Rattle.std.proofs.lemmas.Bool.Decides.{nat_tests}
use Rattle.access_vectors.specs.Decisions.{Decisions}
use Rattle.access_vectors.specs.Forced.{forced_to}
use Rattle.access_vectors.specs.Phases.{is_pending}
use Rattle.access_vectors.specs.declared.phase.Phase.{Phase}
use Rattle.access_vectors.specs.declared.phase.Phase.TheVariants.{Settled, Pending}
use Rattle.manager_history.specs.declared.entry.Entry.{Entry}
use Rattle.manager_history.specs.declared.entry.Entry.TheVariants.{Op, Aborted, Notice, Ack, Forced}
use Rattle.manager_history.specs.Answers.{Manager}
use Rattle.manager_history.specs.Histories.{moment, start_of, answer_at, IsLawful}
use Rattle.gate_rule.specs.declared.view.Item.{Item}
use Rattle.gate_rule.specs.History.{controls, of_caller, phase_after}
use Rattle.gate_rule.specs.Views.{entries_of}
use Rattle.managed_run.specs.Kinds.{kind_of, phase_of}
use Rattle.managed_run.specs.Administering.{turn_of}
use Rattle.managed_run.specs.Ends.{HasEndedWith}
use Rattle.epoch_gate.specs.Seats.{SeatView}
use Rattle.epoch_gate.specs.Known.{turns_had}
use Rattle.file_calls.specs.PlainManager as file_plain
use Rattle.file_calls.specs.States as file_states
use Rattle.file_calls.specs.declared.call.FileCall.{FileCall}
use Rattle.file_calls.specs.declared.call.FileReply.{FileReply}
use Rattle.process_calls.specs.PlainManager as process_plain
use Rattle.process_calls.specs.States as process_states
use Rattle.process_calls.specs.declared.call.ProcessCall.{ProcessCall}
use Rattle.process_calls.specs.declared.call.ProcessReply.{ProcessReply}
use Rattle.port_calls.specs.PlainManager as port_plain
use Rattle.port_calls.specs.States as port_states
use Rattle.port_calls.specs.declared.call.PortCall.{PortCall}
use Rattle.port_calls.specs.declared.call.PortReply.{PortReply}
use Rattle.session_text.specs.declared.session.SessionParts.{SessionParts}
use Rattle.session_text.specs.declared.session.Run.{Run}
use Rattle.session_text.specs.declared.session.Run.TheVariants as run
use Rattle.session_text.specs.declared.session.RunLine.{RunLine}
use Rattle.client_acts.specs.Acts.{Act}
use Rattle.client_script.specs.Scripts.{admin_script, script_of, file_act, process_act, port_act, IsWhole}
use Rattle.admin_walk.specs.Explained.{Later, TakesIf, SettlesIf, ExplainsLine, Explains}
use Rattle.admin_walk.specs.Moves.{notices_of, forced_of, forces, versions_of}
use Rattle.run_histories.specs.Histories.{IsOneOf, IsClosed, IsWalked, HasRunAt, KeepsCalls, AreOfRun, file_opening, process_opening, port_opening}
use Rattle.run_histories.specs.Changes.{noticed_in, acknowledged_in, forced_in, numbers_of, is_among, changes_in}
use Rattle.station_end.specs.Settling.{settling, settled, HasSettled}

-- the pending number, if one is pending
abbrev pending_first : Phase → List ℕ
pending_first (Settled number version) = []
pending_first (Pending number old new) = number ∷ []

-- where a change stands after more entries
abbrev phase_on : {Call Reply : Type 0} → Phase → List (Entry Call Reply) → Phase
phase_on phase log = fold (λ p e. phase_after p (kind_of e)) phase log

module _ {Call Reply State : Type 0} (plain : Manager Call Reply State) (formed : Decisions → State → ℕ → Call → Type 0) (d : Decisions) where
  acks_from : (state : State) (phase : Phase) (forced : ℕ) (log : List (Entry Call Reply)) → IsLawful plain formed d (moment state phase forced) log
      → is_pending (phase_on phase log) ≡ false → pending_first phase ++ numbers_of (noticed_in log) ≡ acknowledged_in log
  acks_from state (Settled last version) forced [] lawful rests = refl
  acks_from state (Pending last old new) forced [] lawful rests = absurd (cc)
  acks_from state phase forced (Op caller mark call number asked reply ∷ log) lawful rests =
      acks_from (answer_at plain d state phase caller call number).state phase forced log lawful.1 rests
  acks_from state phase forced (Aborted caller mark call number ∷ log) lawful rests = acks_from state phase forced log lawful.1 rests
  acks_from state (Settled last old) forced (Notice number version ∷ log) lawful rests = acks_from state (Pending number old version) forced log lawful.1 rests
  acks_from state (Pending last old new) forced (Notice number version ∷ log) lawful rests = absurd lawful.0
  acks_from state (Settled last version) forced (Ack number ∷ log) lawful rests = absurd lawful.0
  acks_from state (Pending last old new) forced (Ack number ∷ log) lawful rests =
      let more = acks_from state (Settled last new) forced log lawful.1 rests in
      λ i. sym lawful.0 i ∷ more i
  acks_from state (Settled last version) forced (Forced number ∷ log) lawful rests = absurd lawful.0
  acks_from state (Pending last old new) forced (Forced number ∷ log) lawful rests =
      let more = acks_from state (Settled last new) (forced_to forced (Some number)) log lawful.1 rests in
      λ i. sym lawful.0 i ∷ more i

  -- a lawful history that ends settled acknowledges the numbers of its notices
  pub settled_acknowledges : (opening : State) (log : List (Entry Call Reply)) → IsLawful plain formed d (start_of opening) log → is_pending (phase_of log) ≡ false
      → numbers_of (noticed_in log) ≡ acknowledged_in log
  settled_acknowledges opening log lawful rests = acks_from opening (Settled 0 0) 0 log lawful rests

-- the numbers that are among others
or_true : (a : Bool) → (a || true) ≡ true
or_true true = refl
or_true false = refl

same_number : (number : ℕ) → (number == number) ≡ true
same_number number = grind (arith, nat_tests)

kept_all : (numbers all : List ℕ) → ((number : ℕ) → is_among numbers number ≡ true → is_among all number ≡ true) → filter (λ number. is_among all number && is_among all number) numbers ≡ numbers
kept_all [] all each = refl
kept_all (number ∷ numbers) all each =
    let here : is_among all number ≡ true = each number (ap (λ (b : Bool). b || is_among numbers number) (same_number number)) in
    let rest = kept_all numbers all (λ other there. each other (ap (λ (b : Bool). (number == other) || b) there ∙ or_true (number == other))) in
    ap (λ (b : Bool). if b && b then number ∷ filter (λ number. is_among all number && is_among all number) numbers else filter (λ number. is_among all number && is_among all number) numbers) here
    ∙ ap (λ (l : List ℕ). number ∷ l) rest

-- three histories that acknowledge the same numbers have as many changes as the first acknowledges
pub changes_are : {A B C D E F : Type 0} (files : List (Entry A B)) (processes : List (Entry C D)) (ports : List (Entry E F)) → acknowledged_in processes ≡ acknowledged_in files
    → acknowledged_in ports ≡ acknowledged_in files → changes_in files processes ports ≡ length (acknowledged_in files)
changes_are files processes ports same_processes same_ports =
    (λ i. length (filter (λ number. is_among (same_processes i) number && is_among (same_ports i) number) (acknowledged_in files)))
    ∙ ap length (kept_all (acknowledged_in files) (acknowledged_in files) (λ number there. there))

-- settling adds no notice, no forced acknowledgement and no call
none_noticed : (Call Reply : Type 0) (phase : Phase) → noticed_in (settling {Call = Call} {Reply = Reply} phase) ≡ []
none_noticed Call Reply (Settled number version) = refl
none_noticed Call Reply (Pending number old new) = refl

none_forced : (Call Reply : Type 0) (phase : Phase) → forced_in (settling {Call = Call} {Reply = Reply} phase) ≡ []
none_forced Call Reply (Settled number version) = refl
none_forced Call Reply (Pending number old new) = refl

none_called : (Call Reply : Type 0) (client : ℕ) (phase : Phase) → of_caller kind_of client (settling {Call = Call} {Reply = Reply} phase) ≡ []
none_called Call Reply client (Settled number version) = refl
none_called Call Reply client (Pending number old new) = refl

rests_then : (Call Reply : Type 0) (phase : Phase) → is_pending (phase_on phase (settling {Call = Call} {Reply = Reply} phase)) ≡ false
rests_then Call Reply (Settled number version) = refl
rests_then Call Reply (Pending number old new) = refl

module _ {Call Reply : Type 0} where
  noticed-append : (xs ys : List (Entry Call Reply)) → noticed_in (xs ++ ys) ≡ noticed_in xs ++ noticed_in ys
  noticed-append [] ys = refl
  noticed-append (Op caller mark call number asked reply ∷ xs) ys = noticed-append xs ys
  noticed-append (Aborted caller mark call number ∷ xs) ys = noticed-append xs ys
  noticed-append (Notice number version ∷ xs) ys = ap (λ (l : List (ℕ × ℕ)). (number, version) ∷ l) (noticed-append xs ys)
  noticed-append (Ack number ∷ xs) ys = noticed-append xs ys
  noticed-append (Forced number ∷ xs) ys = noticed-append xs ys

  forced-append : (xs ys : List (Entry Call Reply)) → forced_in (xs ++ ys) ≡ forced_in xs ++ forced_in ys
  forced-append [] ys = refl
  forced-append (Op caller mark call number asked reply ∷ xs) ys = forced-append xs ys
  forced-append (Aborted caller mark call number ∷ xs) ys = forced-append xs ys
  forced-append (Notice number version ∷ xs) ys = forced-append xs ys
  forced-append (Ack number ∷ xs) ys = forced-append xs ys
  forced-append (Forced number ∷ xs) ys = ap (λ (l : List ℕ). number ∷ l) (forced-append xs ys)

  phase_more : (phase : Phase) (xs ys : List (Entry Call Reply)) → phase_on phase (xs ++ ys) ≡ phase_on (phase_on phase xs) ys
  phase_more phase [] ys = refl
  phase_more phase (x ∷ xs) ys = phase_more (phase_after phase (kind_of x)) xs ys

  pub settled_notices : (log : List (Entry Call Reply)) → noticed_in (settled log) ≡ noticed_in log
  settled_notices log = noticed-append log (settling (phase_of log)) ∙ (ap (λ (l : List (ℕ × ℕ)). noticed_in log ++ l) (none_noticed Call Reply (phase_of log)) ∙ append-nil (noticed_in log))

  pub settled_forced : (log : List (Entry Call Reply)) → forced_in (settled log) ≡ forced_in log
  settled_forced log = forced-append log (settling (phase_of log)) ∙ (ap (λ (l : List ℕ). forced_in log ++ l) (none_forced Call Reply (phase_of log)) ∙ append-nil (forced_in log))

  pub settled_calls : (client : ℕ) (log : List (Entry Call Reply)) → of_caller kind_of client (settled log) ≡ of_caller kind_of client log
  settled_calls client log =
      filter-append _ log (settling (phase_of log)) ∙ (ap (λ (l : List (Entry Call Reply)). of_caller kind_of client log ++ l) (none_called Call Reply client (phase_of log)) ∙ append-nil (of_caller kind_of client log))

  pub settled_rests : (log : List (Entry Call Reply)) → is_pending (phase_of (settled log)) ≡ false
  settled_rests log = ap is_pending (phase_more (Settled 0 0) log (settling (phase_of log))) ∙ rests_then Call Reply (phase_of log)

  -- the notices of a history are those among its notices and acknowledgements
  noticed_controls : (log : List (Entry Call Reply)) → noticed_in log ≡ noticed_in (controls kind_of log)
  noticed_controls [] = refl
  noticed_controls (Op caller mark call number asked reply ∷ log) = noticed_controls log
  noticed_controls (Aborted caller mark call number ∷ log) = noticed_controls log
  noticed_controls (Notice number version ∷ log) = ap (λ (l : List (ℕ × ℕ)). (number, version) ∷ l) (noticed_controls log)
  noticed_controls (Ack number ∷ log) = noticed_controls log
  noticed_controls (Forced number ∷ log) = noticed_controls log

  notices_at : (item : Item (Entry Call Reply)) (items : List (Item (Entry Call Reply))) (entry : Option (Entry Call Reply)) → item.entry ≡ entry
      → noticed_in (entries_of items) ≡ notices_of (map turn_of items) → noticed_in (entries_of (item ∷ items)) ≡ notices_of (map turn_of (item ∷ items))
  notices_at item items None is rest = rw is rest
  notices_at item items (Some (Op caller mark call number asked reply)) is rest = rw is rest
  notices_at item items (Some (Aborted caller mark call number)) is rest = rw is rest
  notices_at item items (Some (Notice number version)) is rest = rw is (ap (λ (l : List (ℕ × ℕ)). (number, version) ∷ l) rest)
  notices_at item items (Some (Ack number)) is rest = rw is rest
  notices_at item items (Some (Forced number)) is rest = rw is rest

  notices_by : (items : List (Item (Entry Call Reply))) → noticed_in (entries_of items) ≡ notices_of (map turn_of items)
  notices_by [] = refl
  notices_by (item ∷ items) = notices_at item items item.entry refl (notices_by items)

  -- a history whose notices and acknowledgements are the entries of these turns has the notices of the turns
  pub noticed_turns : (log : List (Entry Call Reply)) (items : List (Item (Entry Call Reply))) → controls kind_of log ≡ entries_of items → noticed_in log ≡ notices_of (map turn_of items)
  noticed_turns log items same = noticed_controls log ∙ (ap noticed_in same ∙ notices_by items)

  forced_controls : (log : List (Entry Call Reply)) → forced_in log ≡ forced_in (controls kind_of log)
  forced_controls [] = refl
  forced_controls (Op caller mark call number asked reply ∷ log) = forced_controls log
  forced_controls (Aborted caller mark call number ∷ log) = forced_controls log
  forced_controls (Notice number version ∷ log) = forced_controls log
  forced_controls (Ack number ∷ log) = forced_controls log
  forced_controls (Forced number ∷ log) = ap (λ (l : List ℕ). number ∷ l) (forced_controls log)

  forced_at : (item : Item (Entry Call Reply)) (items : List (Item (Entry Call Reply))) (entry : Option (Entry Call Reply)) → item.entry ≡ entry
      → forced_in (entries_of items) ≡ forced_of (map turn_of items) → forced_in (entries_of (item ∷ items)) ≡ forced_of (map turn_of (item ∷ items))
  forced_at item items None is rest = rw is rest
  forced_at item items (Some (Op caller mark call number asked reply)) is rest = rw is rest
  forced_at item items (Some (Aborted caller mark call number)) is rest = rw is rest
  forced_at item items (Some (Notice number version)) is rest = rw is rest
  forced_at item items (Some (Ack number)) is rest = rw is rest
  forced_at item items (Some (Forced number)) is rest = rw is (ap (λ (l : List ℕ). number ∷ l) rest)

  forced_by : (items : List (Item (Entry Call Reply))) → forced_in (entries_of items) ≡ forced_of (map turn_of items)
  forced_by [] = refl
  forced_by (item ∷ items) = forced_at item items item.entry refl (forced_by items)

  pub forced_turns : (log : List (Entry Call Reply)) (items : List (Item (Entry Call Reply))) → controls kind_of log ≡ entries_of items → forced_in log ≡ forced_of (map turn_of items)
  forced_turns log items same = forced_controls log ∙ (ap forced_in same ∙ forced_by items)

-- what holds of fewer lines holds of more
weaker_line : (always : Bool) (versions : ℕ) (pending : Bool) (said : Run) (chosen : List ℕ) (A B : Later) → ((now : Bool) (left : List ℕ) → A now left → B now left)
    → ExplainsLine always versions pending said chosen A → ExplainsLine always versions pending said chosen B
weaker_line always versions pending (run.Notify version) chosen A B so one = takes (nat_lt version versions && not pending) one
  where
    takes : (b : Bool) → TakesIf b version pending chosen A → TakesIf b version pending chosen B
    takes true one = (one.0, one.1, so true one.0 one.2)
    takes false one = so pending chosen one
weaker_line always versions pending run.Ack chosen A B so one = settles always pending one
  where
    settles : (always pending : Bool) → SettlesIf always pending chosen A → SettlesIf always pending chosen B
    settles true false one = so false chosen one
    settles false false one = so false chosen one
    settles true true one = so false chosen one
    settles false true one = elim one [ inl settled ↦ inl (so false chosen settled) | inr stays ↦ inr (so true chosen stays) ]
weaker_line always versions pending run.Force chosen A B so one = settles always pending one
  where
    settles : (always pending : Bool) → SettlesIf always pending chosen A → SettlesIf always pending chosen B
    settles true false one = so false chosen one
    settles false false one = so false chosen one
    settles true true one = so false chosen one
    settles false true one = elim one [ inl settled ↦ inl (so false chosen settled) | inr stays ↦ inr (so true chosen stays) ]
weaker_line always versions pending (run.Update most) chosen A B so one = so pending chosen one
weaker_line always versions pending (run.File client call) chosen A B so one = so pending chosen one
weaker_line always versions pending (run.Process client call) chosen A B so one = so pending chosen one
weaker_line always versions pending (run.Port client call) chosen A B so one = so pending chosen one
weaker_line always versions pending (run.Begin client manager) chosen A B so one = so pending chosen one
weaker_line always versions pending (run.End client manager) chosen A B so one = so pending chosen one

-- what the administrator's lines explain, all lines explain
module _ (always : Bool) (versions : ℕ) (lines : List RunLine) (rest : (pending : Bool) (left : List ℕ) → Explains always versions pending (admin_script lines) left → Explains always versions pending lines left) where
  explains_on : (pending : Bool) (mark : ℕ) (said : Run) (chosen : List ℕ) → Explains always versions pending (admin_script (record { line = mark; run = said } ∷ lines)) chosen
      → ExplainsLine always versions pending said chosen (λ now left. Explains always versions now lines left)
  explains_on pending mark (run.Notify version) chosen explains = weaker_line always versions pending (run.Notify version) chosen _ _ rest explains
  explains_on pending mark (run.Update most) chosen explains = weaker_line always versions pending (run.Update most) chosen _ _ rest explains
  explains_on pending mark run.Ack chosen explains = weaker_line always versions pending run.Ack chosen _ _ rest explains
  explains_on pending mark run.Force chosen explains = weaker_line always versions pending run.Force chosen _ _ rest explains
  explains_on pending mark (run.File client call) chosen explains = rest pending chosen explains
  explains_on pending mark (run.Process client call) chosen explains = rest pending chosen explains
  explains_on pending mark (run.Port client call) chosen explains = rest pending chosen explains
  explains_on pending mark (run.Begin client manager) chosen explains = rest pending chosen explains
  explains_on pending mark (run.End client manager) chosen explains = rest pending chosen explains

pub explains_all : (always : Bool) (versions : ℕ) (pending : Bool) (lines : List RunLine) (chosen : List ℕ) → Explains always versions pending (admin_script lines) chosen
    → Explains always versions pending lines chosen
explains_all always versions pending [] chosen explains = explains
explains_all always versions pending (line ∷ lines) chosen explains =
    explains_on always versions lines (λ now left. explains_all always versions now lines left) pending line.line line.run chosen explains

-- where no line forces, none of the administrator's does
forces_on : (lines : List RunLine) → (forces lines ≡ false → forces (admin_script lines) ≡ false) → (mark : ℕ) (said : Run) → forces (record { line = mark; run = said } ∷ lines) ≡ false
    → forces (admin_script (record { line = mark; run = said } ∷ lines)) ≡ false
forces_on lines rest mark (run.Notify version) none = rest none
forces_on lines rest mark (run.Update most) none = rest none
forces_on lines rest mark run.Ack none = rest none
forces_on lines rest mark run.Force none = none
forces_on lines rest mark (run.File client call) none = rest none
forces_on lines rest mark (run.Process client call) none = rest none
forces_on lines rest mark (run.Port client call) none = rest none
forces_on lines rest mark (run.Begin client manager) none = rest none
forces_on lines rest mark (run.End client manager) none = rest none

pub forces_admin : (lines : List RunLine) → forces lines ≡ false → forces (admin_script lines) ≡ false
forces_admin [] none = none
forces_admin (line ∷ lines) none = forces_on lines (forces_admin lines) line.line line.run none

-- a closed station's history, once it is settled, is one of the run
module _ {Call Reply State : Type 0} (plain : Manager Call Reply State) (formed : Decisions → State → ℕ → Call → Type 0) (d : Decisions) (opening : State)
    (act : ℕ → Run → List (Act Call)) (clients : ℕ) (lines : List RunLine) (chosen : List (ℕ × ℕ)) (turns : List (Item (Entry Call Reply))) (log : List (Entry Call Reply))
    (closed : IsClosed act clients lines turns log) (walked : IsWalked lines chosen (map turn_of turns)) where
  pub one_of : IsLawful plain formed d (start_of opening) (settled log) → IsOneOf plain formed d opening act clients lines (settled log)
  one_of lawful = record {
    lawful = lawful;
    scripts = record {
      whole = λ client below. subst (IsWhole act client (script_of client lines)) (sym (settled_calls client log)) (closed.scripts.whole client below);
      others = λ client past. settled_calls client log ∙ closed.scripts.others client past;
    };
    settled = settled_rests log;
    unforced = λ none. settled_forced log ∙ (forced_turns log turns closed.changes ∙ walked.unforced none);
  }

  pub notices_are : noticed_in (settled log) ≡ chosen
  notices_are = settled_notices log ∙ (noticed_turns log turns closed.changes ∙ walked.notices)

-- three closed stations' histories, once they are settled, are those of the run
pub of_run : (d : Decisions) (session : SessionParts) (chosen : List (ℕ × ℕ)) (files : List (Entry FileCall FileReply)) (processes : List (Entry ProcessCall ProcessReply)) (ports : List (Entry PortCall PortReply))
    → IsOneOf file_plain.answer file_plain.IsFormed d (file_states.opened_with (file_opening session)) file_act (length session.clients) session.lines files
    → IsOneOf process_plain.answer process_plain.IsFormed d (process_states.opened_with (process_opening session)) process_act (length session.clients) session.lines processes
    → IsOneOf port_plain.answer port_plain.IsFormed d (port_states.opened_with (port_opening session)) port_act (length session.clients) session.lines ports
    → noticed_in files ≡ chosen → noticed_in processes ≡ chosen → noticed_in ports ≡ chosen
    → Explains false d.versions false (admin_script session.lines) (versions_of chosen)
    → (session.clients ≡ [] → Explains true d.versions false (admin_script session.lines) (versions_of chosen))
    → AreOfRun d session files processes ports
of_run d session chosen files processes ports of_files of_processes of_ports in_files in_processes in_ports explained at_once = record {
  of_files = of_files;
  of_processes = of_processes;
  of_ports = of_ports;
  same_processes = in_processes ∙ sym in_files;
  same_ports = in_ports ∙ sym in_files;
  explained = subst (λ (l : List (ℕ × ℕ)). Explains false d.versions false session.lines (versions_of l)) (sym in_files) (explains_all false d.versions false session.lines (versions_of chosen) explained);
  at_once = λ none. subst (λ (l : List (ℕ × ℕ)). Explains true d.versions false session.lines (versions_of l)) (sym in_files) (explains_all true d.versions false session.lines (versions_of chosen) (at_once none));
}

-- so many changes are in them as the first acknowledges
pub changes_of_run : (d : Decisions) (session : SessionParts) (files : List (Entry FileCall FileReply)) (processes : List (Entry ProcessCall ProcessReply)) (ports : List (Entry PortCall PortReply))
    → AreOfRun d session files processes ports → changes_in files processes ports ≡ length (acknowledged_in files)
changes_of_run d session files processes ports of =
    let in_files = settled_acknowledges file_plain.answer file_plain.IsFormed d (file_states.opened_with (file_opening session)) files of.of_files.lawful of.of_files.settled in
    let in_processes = settled_acknowledges process_plain.answer process_plain.IsFormed d (process_states.opened_with (process_opening session)) processes of.of_processes.lawful of.of_processes.settled in
    let in_ports = settled_acknowledges port_plain.answer port_plain.IsFormed d (port_states.opened_with (port_opening session)) ports of.of_ports.lawful of.of_ports.settled in
    changes_are files processes ports (sym in_processes ∙ (ap numbers_of of.same_processes ∙ in_files)) (sym in_ports ∙ (ap numbers_of of.same_ports ∙ in_files))

-- what is known of a station at the end gives what is known of its closed history
pub closed_of : {Call Reply D O : Type 0} (act : ℕ → Run → List (Act Call)) (session : SessionParts) (chosen : List (ℕ × ℕ)) (admin : SeatView (Entry Call Reply) D O) (log : List (Entry Call Reply))
    → HasRunAt act session chosen admin → HasEndedWith admin log → IsClosed act (length session.clients) session.lines (turns_had admin) log
closed_of act session chosen admin log ran ended = record {
  scripts = record {
    whole = λ client below.
        let one = ran.whole client below in
        subst (IsWhole act client (script_of client session.lines)) (ended.ended one.0 one.1 one.2 ∙ ap (λ (n : ℕ). of_caller kind_of n log) one.3) one.4;
    others = λ client past. ended.unmade client (subst (λ (n : ℕ). n ≤ client) (sym ran.made) past);
  };
  changes = ended.changes;
}

-- a station that was ended has one of the run's histories, with the notices of the turns
pub ended_one : {Call Reply State D O : Type 0} (plain : Manager Call Reply State) (formed : Decisions → State → ℕ → Call → Type 0) (d : Decisions) (opening : State)
    (act : ℕ → Run → List (Act Call)) (session : SessionParts) (chosen : List (ℕ × ℕ)) (admin : SeatView (Entry Call Reply) D O) (log : List (Entry Call Reply))
    → HasRunAt act session chosen admin → HasSettled admin log → IsLawful plain formed d (start_of opening) log
    → IsOneOf plain formed d opening act (length session.clients) session.lines log × (noticed_in log ≡ chosen)
ended_one {Call = Call} {Reply = Reply} plain formed d opening act session chosen admin log ran ended lawful =
    let closed = closed_of act session chosen admin ended.closed ran ended.ended in (
      subst (λ (l : List (Entry Call Reply)). IsOneOf plain formed d opening act (length session.clients) session.lines l) (sym ended.settled_is)
          (one_of plain formed d opening act (length session.clients) session.lines chosen (turns_had admin) ended.closed closed ran.walked
          (subst (λ (l : List (Entry Call Reply)). IsLawful plain formed d (start_of opening) l) ended.settled_is lawful)),
      ap noticed_in ended.settled_is ∙ notices_are plain formed d opening act (length session.clients) session.lines chosen (turns_had admin) ended.closed closed ran.walked,
    )

-- and has each retired seat's entries as the calls of its number
pub keeps_calls : {Call Reply D O : Type 0} (admin : SeatView (Entry Call Reply) D O) (log : List (Entry Call Reply)) → HasSettled admin log → KeepsCalls admin log
keeps_calls admin log ended = λ k one at.
    ended.ended.ended k one at ∙ (sym (settled_calls one.number ended.closed) ∙ ap (of_caller kind_of one.number) (sym ended.settled_is))

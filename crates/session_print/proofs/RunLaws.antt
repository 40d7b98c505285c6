-- Lines that run, printed, are read as those lines.
use Rattle.std.proofs.Common.{◌≡◌, ◌∙◌, ℕ, Bool, true, false, not, length, List, [], ◌∷◌, ◌++◌, map, Some, Result, Ok, Err, refl, sym, ap, arith}
use Rattle.std.specs.Prelude.{codes}
use Rattle.std.specs.List.{list_all}
use Rattle.std.specs.Str.{bytes_eq}
use Rattle.std.proofs.lemmas.Bool.{and_from, not-true}
use Rattle.flask_sid.specs.Names.{is_name_form}
use Rattle.text_lines.specs.Lines.{is_comment}
use Rattle.text_lines.specs.declared.fault.FaultKind.{FaultKind}
use Rattle.text_lines.specs.declared.fault.FaultKind.TheVariants.{Syntax}
use Rattle.text_print.specs.Printed.{is_word}
use Rattle.text_print.proofs.NameLaws.{form_of_name, name_is_word, name_is_no_comment}
use Rattle.text_print.proofs.WordLaws.{line_words_spaced}
use Rattle.text_print.proofs.LeadLaws.{Leads}
use Rattle.policy_model.specs.Kept.{Grows, Grown}
use Rattle.policy_print.proofs.SameLaws.{same_snoc}
use Rattle.session_forms.specs.Arguments.{one_word}
use Rattle.session_forms.specs.RunForms.{manager_of}
use Rattle.session_forms.specs.declared.run_forms.Manager.{Manager}
use Rattle.session_forms.specs.declared.run_forms.Manager.TheVariants as manager
use Rattle.session_text.specs.declared.session.Run.{Run}
use Rattle.session_text.specs.declared.session.Run.TheVariants.{File, Process, Port, Begin, End, Notify, Update, Ack, Force}
use Rattle.session_text.specs.declared.session.RunLine.{RunLine}
use Rattle.session_text.specs.declared.session.SessionParts.{SessionParts}
use Rattle.session_text.specs.Above.{client_number}
use Rattle.session_text.specs.Calls.{client_of}
use Rattle.session_text.specs.Grammar.{with_line, holds, begin_run, end_run, asked_run, client_run, admin_run, run_of, run_words_read, run_line_read}
use Rattle.session_text.specs.Sessions.{IsSidOf, MayClient, IsRun, IsWritten, IsTurn, held_below, held_after, is_held, MayLine}
use Rattle.session_print.specs.Words.{client_word, manager_word}
use Rattle.session_print.specs.Printed.{run_words, run_line_words}
use Rattle.session_print.specs.Same.{bare_line, IsSameSession}
use Rattle.session_print.proofs.ArgumentLaws.{range_printed}
use Rattle.session_print.proofs.PlaceLaws.{IsClientWord, client_printed, client_reads}
use Rattle.session_print.proofs.CallLaws.{CallSays, is_plain}
use Rattle.session_print.proofs.FileCallLaws.{file_says}
use Rattle.session_print.proofs.ProcessCallLaws.{process_says}
use Rattle.session_print.proofs.PortCallLaws.{port_says}

-- who holds a pass does not depend on the numbers of lines
held_bare : (above : Bool) (lines : List RunLine) (client : ℕ) (manager : Manager) → held_after above (map bare_line lines) client manager ≡ held_after above lines client manager
held_bare above [] client manager = refl
held_bare above (line ∷ lines) client manager = held_bare (held_below above line.run client manager) lines client manager

-- nor does who holds one below lines that are the same
held_same : (one other : List RunLine) (client : ℕ) (manager : Manager) → map bare_line one ≡ map bare_line other → is_held one client manager ≡ is_held other client manager
held_same one other client manager same =
    sym (held_bare false one client manager) ∙ ap (λ lines. held_after false lines client manager) same ∙ held_bare false other client manager

-- a client of that number holds by its name what it holds
holds_named : (manager : Manager) (state : SessionParts) (name : List ℕ) (client : ℕ) → client_number state.clients name ≡ Some client → holds manager state name ≡ is_held state.lines client manager
unfolding holds
holds_named manager state name client is = rw is refl

-- a manager's word is one, and is read again
manager_again : (manager : Manager) → (is_word (manager_word manager) ≡ true) × (manager_of (manager_word manager) ≡ Some manager)
unfolding manager_of
manager_again manager.File = (refl, refl)
manager_again manager.Process = (refl, refl)
manager_again manager.Port = (refl, refl)

-- what words ask that stand in a line that runs
abbrev run_said : SessionParts → List (List ℕ) → Result Run FaultKind
run_said state [] = Err Syntax
run_said state (first ∷ words) = run_of state first words

-- words say a line that runs: below lines that are the same it is read as that
record RunSays (one : SessionParts) (words : List (List ℕ)) (run : Run) : Type 0 where
  words_are : list_all is_word words ≡ true
  plain : is_plain words ≡ true
  reads : (state : SessionParts) → IsSameSession state one → run_said state words ≡ Ok run

-- what a client asks of a manager, behind the manager's word
asked_line : (state : SessionParts) (name : List ℕ) (manager : Manager) (words : List (List ℕ)) (run : Run) → bytes_eq name (codes "admin") ≡ false → is_name_form name ≡ true → asked_run state name manager words ≡ Ok run → run_of state name (manager_word manager ∷ words) ≡ Ok run
unfolding run_of client_run
asked_line state name manager words run other form asked = rw (other, form, (manager_again manager).1) asked

-- the client of a name has its number again
client_again : (one state : SessionParts) (client : ℕ) (name : List ℕ) → IsClientWord one.clients client name → IsSameSession state one → client_of state.clients name ≡ Ok client
client_again one state client name name_is same = rw same.clients (client_reads one.clients client name name_is)

-- a client's call
call_says : (one : SessionParts) (client : ℕ) (name : List ℕ) (manager : Manager) (words : List (List ℕ)) (run : Run) → IsClientWord one.clients client name → CallSays one.policy one.clients manager client words run → RunSays one (name ∷ manager_word manager ∷ words) run
call_says one client name manager words run name_is call =
    let name_form = form_of_name name name_is.is_name in
    record {
      words_are = and_from _ _ (name_is_word name name_form) (and_from _ _ (manager_again manager).0 call.words_are);
      plain = ap not (name_is_no_comment name name_form);
      reads = λ state same.
          asked_line state name manager words run name_is.other name_form (call.asked state name same.policy same.clients (client_again one state client name name_is same));
    }

-- a client takes a pass
begin_says : (one : SessionParts) (client : ℕ) (name : List ℕ) (manager : Manager) → IsClientWord one.clients client name → is_held one.lines client manager ≡ false → RunSays one (name ∷ manager_word manager ∷ codes "begin" ∷ []) (Begin client manager)
unfolding asked_run begin_run
begin_says one client name manager name_is none =
    let name_form = form_of_name name name_is.is_name in
    record {
      words_are = and_from _ _ (name_is_word name name_form) (and_from _ _ (manager_again manager).0 refl);
      plain = ap not (name_is_no_comment name name_form);
      reads = λ state same.
          let number : client_number state.clients name ≡ Some client = rw same.clients name_is.number in
          let free : holds manager state name ≡ false = holds_named manager state name client number ∙ held_same state.lines one.lines client manager same.lines ∙ none in
          asked_line state name manager (codes "begin" ∷ []) (Begin client manager) name_is.other name_form (rw (free, client_again one state client name name_is same) refl);
    }

-- a client gives its pass back
end_says : (one : SessionParts) (client : ℕ) (name : List ℕ) (manager : Manager) → IsClientWord one.clients client name → is_held one.lines client manager ≡ true → RunSays one (name ∷ manager_word manager ∷ codes "end" ∷ []) (End client manager)
unfolding asked_run end_run
end_says one client name manager name_is held =
    let name_form = form_of_name name name_is.is_name in
    record {
      words_are = and_from _ _ (name_is_word name name_form) (and_from _ _ (manager_again manager).0 refl);
      plain = ap not (name_is_no_comment name name_form);
      reads = λ state same.
          let number : client_number state.clients name ≡ Some client = rw same.clients name_is.number in
          let its : holds manager state name ≡ true = holds_named manager state name client number ∙ held_same state.lines one.lines client manager same.lines ∙ held in
          asked_line state name manager (codes "end" ∷ []) (End client manager) name_is.other name_form (rw (its, client_again one state client name name_is same) refl);
    }

-- any line that may stand below these
run_says : (one : SessionParts) → Grown one.policy → Grows (MayClient one.policy.contexts) [] one.clients → (run : Run) → IsRun (IsSidOf one.policy.contexts) (length one.clients) run → IsWritten run → IsTurn one.lines run → RunSays one (run_words one.policy.contexts one.clients run) run
unfolding run_of admin_run one_word
run_says one grown named (File client said) asks written turn =
    call_says one client (client_word one.clients client) manager.File _ (File client said) (client_printed one.policy.contexts one.clients named client asks.0)
    (file_says one.policy grown one.clients named client said asks.1 asks.2 written)
run_says one grown named (Process client said) asks written turn =
    call_says one client (client_word one.clients client) manager.Process _ (Process client said) (client_printed one.policy.contexts one.clients named client asks.0)
    (process_says one.policy grown one.clients client said asks.1 asks.2 written)
run_says one grown named (Port client said) asks written turn =
    call_says one client (client_word one.clients client) manager.Port _ (Port client said) (client_printed one.policy.contexts one.clients named client asks.0)
    (port_says one.policy one.clients client said asks.1 written)
run_says one grown named (Begin client manager) asks written turn =
    begin_says one client (client_word one.clients client) manager (client_printed one.policy.contexts one.clients named client asks) turn
run_says one grown named (End client manager) asks written turn =
    end_says one client (client_word one.clients client) manager (client_printed one.policy.contexts one.clients named client asks) turn
run_says one grown named (Notify ver) asks written turn =
    let number = range_printed 0 255 ver (omega arith) (omega (arith, asks)) (omega arith) in
    record { words_are = rw number.is_word refl; plain = refl; reads = λ state same. rw number.read refl }
run_says one grown named (Update most) asks written turn =
    let number = range_printed 0 4294967295 most (omega arith) (omega (arith, asks)) (omega arith) in
    record { words_are = rw number.is_word refl; plain = refl; reads = λ state same. rw number.read refl }
run_says one grown named Ack asks written turn = record { words_are = refl; plain = refl; reads = λ state same. refl }
run_says one grown named Force asks written turn = record { words_are = refl; plain = refl; reads = λ state same. refl }

-- a line more, in sessions that are the same
with_same_line : (n : ℕ) (line : RunLine) (state one : SessionParts) → IsSameSession state one → IsSameSession (with_line n line.run state) (record one { lines = one.lines ++ line ∷ [] })
with_same_line n line state one same =
    record {
      policy = same.policy;
      root = same.root;
      port = same.port;
      ports = same.ports;
      audit = same.audit;
      nodes = same.nodes;
      clients = same.clients;
      lines = same_snoc bare_line state.lines one.lines (record { line = n; run = line.run }) line same.lines refl;
    }

-- words that say a line lead to it
said_leads : (one : SessionParts) (words : List (List ℕ)) (line : RunLine) → RunSays one words line.run → Leads run_line_read IsSameSession words one (record one { lines = one.lines ++ line ∷ [] })
unfolding run_line_read run_words_read
said_leads one [] line says = let never = says.plain in cc
said_leads one (first ∷ words) line says =
    record {
      words_are = says.words_are;
      step = λ n state counted same.
          let plain : is_comment first ≡ false = not-true (is_comment first) says.plain in
          (with_line n line.run state, rw (line_words_spaced n first words counted says.words_are plain, says.reads state same) refl, with_same_line n line state one same);
    }

-- a printed line that runs leads to that line
pub run_line_leads : (session : SessionParts) → Grown session.policy → Grows (MayClient session.policy.contexts) [] session.clients → (seen : List RunLine) (line : RunLine) → MayLine session.policy.contexts session.clients seen line → Leads run_line_read IsSameSession (run_line_words session.policy.contexts session.clients line) (record session { lines = seen }) (record session { lines = seen ++ line ∷ [] })
run_line_leads session grown named seen line may =
    said_leads (record session { lines = seen }) (run_line_words session.policy.contexts session.clients line) line
    (run_says (record session { lines = seen }) grown named line.run may.run may.written may.turn)

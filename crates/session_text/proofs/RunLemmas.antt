-- A line that was read is one that a session may have below the lines above it.
use Rattle.std.proofs.Common.{◌≡◌, ◌<◌, ◌∙◌, ℕ, List, [], ◌∷◌, length, Ok, Err, sym, arith}
use Rattle.std.specs.Prelude.{IfOk, not, codes}
use Rattle.std.specs.Str.{bytes_eq}
use Rattle.std.proofs.lemmas.Bool.{not-false}
use Rattle.flask_sid.specs.Names.{is_name_form}
use Rattle.text_lines.specs.Lines.{line_words}
use Rattle.text_lines.specs.declared.fault.FaultKind.TheVariants.{Syntax, Order}
use Rattle.text_lines.specs.ResultSteps.{found_or}
use Rattle.policy_text.proofs.StepLemmas.{unless, after}
use Rattle.file_calls.specs.declared.call.FileCall.{FileCall}
use Rattle.process_calls.specs.declared.call.ProcessCall.{ProcessCall}
use Rattle.port_calls.specs.declared.call.PortCall.{PortCall}
use Rattle.session_forms.specs.FirstFaults.{both}
use Rattle.session_forms.specs.Arguments.{is_end}
use Rattle.session_forms.specs.ArgumentTypes.{value_of, version_of}
use Rattle.session_forms.specs.RunForms.{manager_of}
use Rattle.session_forms.specs.declared.run_forms.Manager.{Manager}
use Rattle.session_forms.specs.declared.run_forms.Manager.TheVariants as manager
use Rattle.session_forms.proofs.FormedLemmas.{words_behind}
use Rattle.session_forms.proofs.WordLemmas.{AreWords, line_are_words}
use Rattle.session_text.specs.Calls.{client_of, file_call, process_call, port_call}
use Rattle.session_text.specs.Grammar.{holds, call_run, alone, begin_run, end_run, asked_run, client_run, admin_run, run_of}
use Rattle.session_text.specs.Sessions.{IsSidOf, IsRun, IsWritten, IsTurn}
use Rattle.session_text.specs.declared.session.Run.{Run}
use Rattle.session_text.specs.declared.session.Run.TheVariants.{File, Process, Port, Begin, End, Notify, Update, Ack, Force}
use Rattle.session_text.specs.declared.session.SessionParts.{SessionParts}
use Rattle.session_text.proofs.ArgumentLemmas.{if_ok, chosen, made, both_given, made_one, number_given, client_given, client_is}
use Rattle.session_text.proofs.CallLemmas.{IsAllowed, IsAllowedProcess, IsAllowedPort, file_allowed, process_allowed, port_allowed}
use Rattle.session_text.proofs.PassLemmas.{holds_as}

-- what a line of a session may ask, below these lines
abbrev pub MayAsk : SessionParts → Run → Type 0
MayAsk session asked = IsRun (IsSidOf session.policy.contexts) (length session.clients) asked × IsWritten asked × IsTurn session.lines asked

-- one of the clients
abbrev IsClient : SessionParts → ℕ → Type 0
IsClient session client = client < length session.clients

-- a client's call
call_allowed : (session : SessionParts) (name : List ℕ) (manager : Manager) (call : List ℕ) (words : List (List ℕ)) → AreWords words → IfOk (call_run session name manager call words) (MayAsk session)
unfolding call_run
call_allowed session name manager.File call words are =
    let here = client_of session.clients name in
    let there = file_call session.policy.contexts session.clients call words in
    made (λ (said : ℕ × FileCall). IsClient session said.0 × IsAllowed session.policy.contexts session.clients said.1) (MayAsk session) (λ (said : ℕ × FileCall). File said.0 said.1) (both here there)
    (both_given (IsClient session) (IsAllowed session.policy.contexts session.clients) here there (client_given session.clients name) (file_allowed session.policy.contexts session.clients call words are))
    (λ said is. ((is.0, is.1.0, is.1.1), is.1.2, tt))
call_allowed session name manager.Process call words are =
    let here = client_of session.clients name in
    let there = process_call session.policy.contexts call words in
    made (λ (said : ℕ × ProcessCall). IsClient session said.0 × IsAllowedProcess session.policy.contexts said.1) (MayAsk session) (λ (said : ℕ × ProcessCall). Process said.0 said.1) (both here there)
    (both_given (IsClient session) (IsAllowedProcess session.policy.contexts) here there (client_given session.clients name) (process_allowed session.policy.contexts call words are))
    (λ said is. ((is.0, is.1.0, is.1.1), is.1.2, tt))
call_allowed session name manager.Port call words are =
    let here = client_of session.clients name in
    let there = port_call call words in
    made (λ (said : ℕ × PortCall). IsClient session said.0 × IsAllowedPort said.1) (MayAsk session) (λ (said : ℕ × PortCall). Port said.0 said.1) (both here there)
    (both_given (IsClient session) IsAllowedPort here there (client_given session.clients name) (port_allowed call words are))
    (λ said is. ((is.0, is.1.0), is.1.1, tt))

-- a client that takes a pass
begin_allowed : (session : SessionParts) (name : List ℕ) (manager : Manager) (words : List (List ℕ)) → IfOk (begin_run session name manager words) (MayAsk session)
unfolding begin_run
begin_allowed session name manager words =
    unless (not (is_end words)) Syntax _ (MayAsk session) (λ last.
    unless (holds manager session name) Order _ (MayAsk session) (λ free.
    after (client_of session.clients name) (λ client. Ok (Begin client manager)) (MayAsk session) (λ client is.
    let known = if_ok (client_of session.clients name) client (IsClient session) (client_given session.clients name) is in
    (known, tt, sym (holds_as session name client manager (client_is session.clients name client is)) ∙ free))))

-- a client that gives its pass back
end_allowed : (session : SessionParts) (name : List ℕ) (manager : Manager) (words : List (List ℕ)) → IfOk (end_run session name manager words) (MayAsk session)
unfolding end_run
end_allowed session name manager words =
    unless (not (is_end words)) Syntax _ (MayAsk session) (λ last.
    unless (not (holds manager session name)) Order _ (MayAsk session) (λ held.
    after (client_of session.clients name) (λ client. Ok (End client manager)) (MayAsk session) (λ client is.
    let known = if_ok (client_of session.clients name) client (IsClient session) (client_given session.clients name) is in
    (known, tt, sym (holds_as session name client manager (client_is session.clients name client is)) ∙ not-false (holds manager session name) held))))

-- what a client asks of a manager
asked_allowed : (session : SessionParts) (name : List ℕ) (manager : Manager) (words : List (List ℕ)) → AreWords words → IfOk (asked_run session name manager words) (MayAsk session)
unfolding asked_run
asked_allowed session name manager [] are = tt
asked_allowed session name manager (call ∷ words) are =
    chosen (MayAsk session) (bytes_eq call (codes "begin")) (begin_run session name manager words) _ (begin_allowed session name manager words)
    (chosen (MayAsk session) (bytes_eq call (codes "end")) (end_run session name manager words) (call_run session name manager call words) (end_allowed session name manager words)
    (call_allowed session name manager call words (words_behind call words are)))

-- a line of a client
client_allowed : (session : SessionParts) (name : List ℕ) (words : List (List ℕ)) → AreWords words → IfOk (client_run session name words) (MayAsk session)
unfolding client_run
client_allowed session name [] are = tt
client_allowed session name (word ∷ words) are =
    after (found_or Syntax (manager_of word)) (λ manager. asked_run session name manager words) (MayAsk session) (λ manager is. asked_allowed session name manager words (words_behind word words are))

-- a version, and how many slots follow an update
abbrev IsVersion : ℕ → Type 0
IsVersion ver = ver < 256

abbrev IsCount : ℕ → Type 0
IsCount most = most < 4294967296

-- a line of one word behind `admin`
alone_allowed : (session : SessionParts) (words : List (List ℕ)) (run : Run) → MayAsk session run → IfOk (alone words run) (MayAsk session)
alone_allowed session [] run may = may
alone_allowed session (word ∷ words) run may = tt

-- a line of the administrator
admin_allowed : (session : SessionParts) (words : List (List ℕ)) → AreWords words → IfOk (admin_run words) (MayAsk session)
unfolding admin_run
admin_allowed session [] are = tt
admin_allowed session (what ∷ words) are =
    chosen (MayAsk session) (bytes_eq what (codes "notify")) _ _
    (made_one IsVersion (MayAsk session) Notify version_of words (number_given 0 255 IsVersion (λ ver low high. omega (arith, high))) (words_behind what words are) (λ ver below. (below, tt, tt)))
    (chosen (MayAsk session) (bytes_eq what (codes "update")) _ _
    (made_one IsCount (MayAsk session) Update value_of words (number_given 0 4294967295 IsCount (λ most low high. omega (arith, high))) (words_behind what words are) (λ most below. (below, tt, tt)))
    (chosen (MayAsk session) (bytes_eq what (codes "ack")) _ _ (alone_allowed session words Ack (tt, tt, tt))
    (chosen (MayAsk session) (bytes_eq what (codes "force")) (alone words Force) _ (alone_allowed session words Force (tt, tt, tt)) tt)))

-- any line that runs
run_allowed : (session : SessionParts) (first : List ℕ) (words : List (List ℕ)) → AreWords words → IfOk (run_of session first words) (MayAsk session)
unfolding run_of
run_allowed session first words are =
    chosen (MayAsk session) (bytes_eq first (codes "admin")) (admin_run words) _ (admin_allowed session words are)
    (chosen (MayAsk session) (is_name_form first) (client_run session first words) (Err Syntax) (client_allowed session first words are) tt)

-- a line that was read
pub run_may : (n : ℕ) (line first : List ℕ) (words : List (List ℕ)) (session : SessionParts) (run : Run) → line_words n line ≡ Ok (first ∷ words) → run_of session first words ≡ Ok run → MayAsk session run
run_may n line first words session run line_is is =
    if_ok (run_of session first words) run (MayAsk session) (run_allowed session first words (words_behind first words (line_are_words n line (first ∷ words) line_is))) is

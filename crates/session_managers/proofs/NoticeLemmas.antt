-- What a notice does to a session.
use Rattle.std.proofs.Common.{not, ◌≡◌, ◌≤◌, ◌<◌, ◌+◌, ℕ, Bool, true, false, length, Option, Some, None, Result, Ok, Err, refl, sym, ap, ◌∙◌, arith}
use Rattle.std.specs.Prelude.{slice_get, nat_lt, ◌==◌, ◌&&◌, option_map, is_some, if◌then◌else◌}
use Rattle.std.proofs.lemmas.Bool.Decides.{nat_tests}
use Rattle.access_vectors.specs.Decisions.{Decisions}
use Rattle.access_vectors.specs.Notices.{notice_fault}
use Rattle.access_vectors.specs.Phases.{number_of, is_pending}
use Rattle.access_vectors.specs.declared.change.NotifyFault.{NotifyFault}
use Rattle.access_vectors.specs.declared.change.NotifyFault.TheVariants as refusing
use Rattle.access_vectors.specs.declared.class.Class.TheVariants as class
use Rattle.access_vectors.specs.declared.phase.Phase.{Phase}
use Rattle.access_vectors.specs.declared.phase.Phase.TheVariants.{Settled, Pending}
use Rattle.managed.specs.Posts.{Post}
use Rattle.managed.specs.declared.managed.Event.TheVariants.{Notice}
use Rattle.security_server.specs.Numbering.{ServerView, is_in}
use Rattle.change_protocol.specs.Changes.{Led, IsLed, IsPlaced, AreBoth, IsNotifiedAt, notify_all_fault, notify_all_answer, ending, for_all, goes_on, phase_at, started, number_after, first_on}
use Rattle.change_protocol.specs.declared.answers.NotifyAllFault.{NotifyAllFault}
use Rattle.change_protocol.specs.declared.answers.NotifyAllFault.TheVariants as faults
use Rattle.file_calls.specs.PlainManager as file
use Rattle.file_calls.specs.States.{FileState}
use Rattle.file_store.specs.Stores as file_store
use Rattle.process_calls.specs.PlainManager as process
use Rattle.process_calls.specs.States.{ProcessState}
use Rattle.process_store.specs.Stores as process_store
use Rattle.port_calls.specs.PlainManager as port
use Rattle.port_calls.specs.States.{PortState}
use Rattle.port_store.specs.Stores as port_store
use Rattle.session_managers.specs.declared.one_manager.OneManager.{OneManager}
use Rattle.session_managers.specs.declared.one_manager.OneManager.TheVariants.{File, Process, Port}
use Rattle.session_managers.specs.SessionStates.{pending_at, refusal_of, state_notified, with_posts}
use Rattle.session_managers.specs.SessionViews.{IsSaid, IsStateUnlessMemory, IsWholeUnlessMemory, notified_if, reached_by, events_noticed}
use Rattle.session_managers.specs.One.{Files, Processes, Ports, phase, place_of, decider_of, seen, file_opening, process_opening, port_opening}
use Rattle.session_managers.specs.Standings.{IsSession, is_whole, session_state_of}
use Rattle.session_managers.proofs.AdminLemmas.{notified_post, refused_post}
use Rattle.session_managers.proofs.EventLemmas.{events_of, events_are, noticed}
use Rattle.session_managers.proofs.ThreeLemmas.{AreFiles, AreProcesses, ArePorts, Three, state_is}

-- a place is before, at or behind a bound
data Order (n m : ℕ) : Type 0 where
  Below : n < m → Order n m
  At : n ≡ m → Order n m
  Above : m < n → Order n m

order : (n m : ℕ) → Order n m
order n m = elim (nat_lt n m) as (λ (b : Bool). nat_lt n m ≡ b → Order n m) [
  | true ↦ λ is. Below (grind (arith, nat_tests))
  | false ↦ λ is. elim (n == m) as (λ (b : Bool). (n == m) ≡ b → Order n m) [
    | true ↦ λ same. At (grind (arith, nat_tests))
    | false ↦ λ apart. Above (grind (arith, nat_tests))
  ] refl
] refl

module _ {D : Type 0} (decides : D → Decisions) where
  -- where the change of a manager stands, as the administrator sees it
  pub seen_phase : (m : OneManager D) → (seen decides m).phase ≡ phase (place_of m)
  seen_phase (File m) = refl
  seen_phase (Process m) = refl
  seen_phase (Port m) = refl

  -- the manager of files, at its place of a round of notices
  noticed_files : (was now : OneManager D) (post : Post FileState) (decider : D) (version number reached place : ℕ) → AreFiles was now post → decider_of was ≡ decider
      → IsNotifiedAt (seen decides) version number 0 reached place was now
      → (place_of now ≡ Files (notified_if (nat_lt place reached) post version)) × (decider_of now ≡ decider)
  noticed_files was now post decider version number reached place are at round =
      (from (order place reached), rw are.now_is (are.same.decider ∙ ap decider_of (sym are.was_is) ∙ at))
    where
      stayed : place_of was ≡ Files post
      stayed = rw (are.was_is, ← are.post_is) refl

      from : Order place reached → place_of now ≡ Files (notified_if (nat_lt place reached) post version)
      from (Below below) =
          let test : nat_lt place reached ≡ true = grind (arith, nat_tests) in
          let here = rw (are.was_is, are.now_is) at round.given (omega arith) below in
          rw (test, are.now_is, ← are.post_is) (ap Files (notified_post decides class.File file.pair_of file_opening file_store.state_of file_store.follows are.old are.new are.same version number here))
      from (At same) =
          let test : nat_lt place reached ≡ false = grind (arith, nat_tests) in
          let here = rw (are.was_is, are.now_is) at round.refused same in
          rw (test, are.now_is, ← are.post_is) (ap Files (refused_post decides class.File file.pair_of file_opening file_store.state_of file_store.follows are.old are.new are.same version refusing.Memory here))
      from (Above above) =
          let test : nat_lt place reached ≡ false = grind (arith, nat_tests) in
          rw test (ap place_of (round.behind above) ∙ stayed)

  -- the manager of processes, at its place of a round of notices
  noticed_processes : (was now : OneManager D) (post : Post ProcessState) (decider : D) (version number reached place : ℕ) → AreProcesses was now post → decider_of was ≡ decider
      → IsNotifiedAt (seen decides) version number 0 reached place was now
      → (place_of now ≡ Processes (notified_if (nat_lt place reached) post version)) × (decider_of now ≡ decider)
  noticed_processes was now post decider version number reached place are at round =
      (from (order place reached), rw are.now_is (are.same.decider ∙ ap decider_of (sym are.was_is) ∙ at))
    where
      stayed : place_of was ≡ Processes post
      stayed = rw (are.was_is, ← are.post_is) refl

      from : Order place reached → place_of now ≡ Processes (notified_if (nat_lt place reached) post version)
      from (Below below) =
          let test : nat_lt place reached ≡ true = grind (arith, nat_tests) in
          let here = rw (are.was_is, are.now_is) at round.given (omega arith) below in
          rw (test, are.now_is, ← are.post_is) (ap Processes (notified_post decides class.Process process.pair_of process_opening process_store.state_of process_store.follows are.old are.new are.same version number here))
      from (At same) =
          let test : nat_lt place reached ≡ false = grind (arith, nat_tests) in
          let here = rw (are.was_is, are.now_is) at round.refused same in
          rw (test, are.now_is, ← are.post_is) (ap Processes (refused_post decides class.Process process.pair_of process_opening process_store.state_of process_store.follows are.old are.new are.same version refusing.Memory here))
      from (Above above) =
          let test : nat_lt place reached ≡ false = grind (arith, nat_tests) in
          rw test (ap place_of (round.behind above) ∙ stayed)

  -- the manager of ports, at its place of a round of notices
  noticed_ports : (was now : OneManager D) (post : Post PortState) (decider : D) (version number reached place : ℕ) → ArePorts was now post → decider_of was ≡ decider
      → IsNotifiedAt (seen decides) version number 0 reached place was now
      → (place_of now ≡ Ports (notified_if (nat_lt place reached) post version)) × (decider_of now ≡ decider)
  noticed_ports was now post decider version number reached place are at round =
      (from (order place reached), rw are.now_is (are.same.decider ∙ ap decider_of (sym are.was_is) ∙ at))
    where
      stayed : place_of was ≡ Ports post
      stayed = rw (are.was_is, ← are.post_is) refl

      from : Order place reached → place_of now ≡ Ports (notified_if (nat_lt place reached) post version)
      from (Below below) =
          let test : nat_lt place reached ≡ true = grind (arith, nat_tests) in
          let here = rw (are.was_is, are.now_is) at round.given (omega arith) below in
          rw (test, are.now_is, ← are.post_is) (ap Ports (notified_post decides class.Port port.pair_of port_opening port_store.state_of port_store.follows are.old are.new are.same version number here))
      from (At same) =
          let test : nat_lt place reached ≡ false = grind (arith, nat_tests) in
          let here = rw (are.was_is, are.now_is) at round.refused same in
          rw (test, are.now_is, ← are.post_is) (ap Ports (refused_post decides class.Port port.pair_of port_opening port_store.state_of port_store.follows are.old are.new are.same version refusing.Memory here))
      from (Above above) =
          let test : nat_lt place reached ≡ false = grind (arith, nat_tests) in
          rw test (ap place_of (round.behind above) ∙ stayed)

  -- where nothing is proposed each manager is settled
  settled_at : (versions : ℕ) (server : ServerView D) (reached place number version : ℕ) (m : OneManager D) → server.phase ≡ Settled number version
      → IsPlaced versions server reached place (seen decides m) → phase (place_of m) ≡ Settled number version
  settled_at versions server reached place number version m at placed =
      sym (seen_phase m) ∙ placed.phase ∙ ap (λ p. phase_at p server.receipts reached place) at

  -- while a number is proposed that each has its notice of, it is the newest of each
  pub number_at : (versions : ℕ) (server : ServerView D) (reached place number old version : ℕ) (m : OneManager D) → server.phase ≡ Pending number old version → place < reached
      → IsPlaced versions server reached place (seen decides m) → number_of (phase (place_of m)) ≡ number
  number_at versions server reached place number old version m at there placed =
      let test : nat_lt place reached ≡ true = grind (arith, nat_tests) in
      let stands : phase (place_of m) ≡ phase_at (Pending number old version) server.receipts reached place = sym (seen_phase m) ∙ placed.phase ∙ ap (λ p. phase_at p server.receipts reached place) at in
      rw (stands, test) (elim (is_in server.receipts place) as (λ (b : Bool). number_of (if b then Settled number version else Pending number old version) ≡ number) [ true ↦ refl | false ↦ refl ])

  -- the session after the choice of a version, what she is told, and where it stands then
  pub record IsNotifiedSession (led after : Led D (OneManager D)) (said : Result ℕ NotifyAllFault) (version calls denied changes : ℕ) : Type 0 where
    pub session : IsSession after
    pub told : IsSaid said (refusal_of (decides led.server.decider) (session_state_of led.managers calls denied changes) version) (number_of (session_state_of led.managers calls denied changes).files.phase + 1)
    pub state : IsStateUnlessMemory said (session_state_of after.managers calls denied changes) (session_state_of led.managers calls denied changes) version
        (state_notified (session_state_of led.managers calls denied changes) version (refusal_of (decides led.server.decider) (session_state_of led.managers calls denied changes) version))
    pub events : events_of decides after.managers
        ≡ events_noticed (events_of decides led.managers) (reached_by said) (Notice (number_of (session_state_of led.managers calls denied changes).files.phase + 1) version)
    pub whole : IsWholeUnlessMemory said (is_whole after)

  -- what the coordinator tells of a round of notices
  pub record IsRoundOf (led after : Led D (OneManager D)) (said : Result ℕ NotifyAllFault) (version : ℕ) : Type 0 where
    pub answer : said ≡ notify_all_answer (notify_all_fault (decides led.server.decider).versions led.server led.reached version) (number_after led.server.phase) after.reached led.server.managers
    pub refused : is_some (notify_all_fault (decides led.server.decider).versions led.server led.reached version) ≡ true → after ≡ led
    pub server : is_some (notify_all_fault (decides led.server.decider).versions led.server led.reached version) ≡ false → after.server ≡ started led.server version
    pub notified : is_some (notify_all_fault (decides led.server.decider).versions led.server led.reached version) ≡ false → (place : ℕ)
        → AreBoth (IsNotifiedAt (seen decides) version (number_after led.server.phase) (first_on led.server.phase led.reached) after.reached place) (slice_get led.managers place) (slice_get after.managers place)
    pub was_led : IsLed decides (seen decides) led

  -- a choice that is refused leaves all as it was
  refused_session : (led after : Led D (OneManager D)) (s : IsSession led) (said : Result ℕ NotifyAllFault) (version calls denied changes : ℕ) (fault : NotifyFault) → (fault ≡ refusing.Memory → ⊥)
      → after ≡ led → is_whole led ≡ true → said ≡ Err (for_all fault) → refusal_of (decides led.server.decider) (session_state_of led.managers calls denied changes) version ≡ Some fault
      → IsNotifiedSession led after said version calls denied changes
  refused_session led after s said version calls denied changes fault told same whole said_is refusal =
      rw (same, said_is) (record { session = s; told = rw refusal (at fault told); state = rw refusal (stays fault told); events = none fault; whole = all fault })
    where
      at : (fault : NotifyFault) → (fault ≡ refusing.Memory → ⊥) → IsSaid (Err (for_all fault)) (Some fault) (number_of (session_state_of led.managers calls denied changes).files.phase + 1)
      at (refusing.Pending number) told = refl
      at refusing.NoVersion told = refl
      at refusing.Spent told = refl
      at refusing.Memory told = absurd (told refl)

      stays : (fault : NotifyFault) → (fault ≡ refusing.Memory → ⊥) → IsStateUnlessMemory (Err (for_all fault)) (session_state_of led.managers calls denied changes) (session_state_of led.managers calls denied changes) version
          (state_notified (session_state_of led.managers calls denied changes) version (Some fault))
      stays (refusing.Pending number) told = refl
      stays refusing.NoVersion told = refl
      stays refusing.Spent told = refl
      stays refusing.Memory told = absurd (told refl)

      none : (fault : NotifyFault) → events_of decides led.managers
          ≡ events_noticed (events_of decides led.managers) (reached_by (Err (for_all fault))) (Notice (number_of (session_state_of led.managers calls denied changes).files.phase + 1) version)
      none (refusing.Pending number) = refl
      none refusing.NoVersion = refl
      none refusing.Spent = refl
      none refusing.Memory = refl

      all : (fault : NotifyFault) → IsWholeUnlessMemory (Err (for_all fault)) (is_whole led)
      all (refusing.Pending number) = whole
      all refusing.NoVersion = whole
      all refusing.Spent = whole
      all refusing.Memory = tt

  three_of : (led : Led D (OneManager D)) (s : IsSession led) → IsLed decides (seen decides) led → led.server.managers ≡ 3
  three_of led s was_led = sym was_led.registered ∙ ap length s.managers_are

  pub reached_all : (led : Led D (OneManager D)) (s : IsSession led) → IsLed decides (seen decides) led → not (nat_lt led.reached 3) ≡ true → led.reached ≡ 3
  reached_all led s was_led all =
      let test : nat_lt led.reached 3 ≡ false = elim (nat_lt led.reached 3) as (λ (b : Bool). not b ≡ true → b ≡ false) [ true ↦ λ is. cc | false ↦ λ is. refl ] all in
      let few : led.reached ≤ 3 = rw (three_of led s was_led) at was_led.within in
      grind (arith, nat_tests)

  -- while a change is pending
  pub pending_session : (led after : Led D (OneManager D)) (s : IsSession led) (said : Result ℕ NotifyAllFault) (version calls denied changes number old new : ℕ) → led.server.phase ≡ Pending number old new
      → is_whole led ≡ true → IsRoundOf led after said version → IsNotifiedSession led after said version calls denied changes
  pending_session led after s said version calls denied changes number old new at whole round =
      let reached : led.reached ≡ 3 = reached_all led s round.was_led (rw at at whole) in
      let managers = three_of led s round.was_led in
      let full : nat_lt led.reached led.server.managers ≡ false = rw (reached, managers) refl in
      let none : goes_on led.server led.reached new version ≡ false = rw full (elim (new == version) as (λ (b : Bool). (b && false) ≡ false) [ true ↦ refl | false ↦ refl ]) in
      let fault : notify_all_fault (decides led.server.decider).versions led.server led.reached version ≡ Some (faults.Pending number) = rw (at, none) refl in
      let changing : pending_at s.files.phase s.processes.phase s.ports.phase ≡ true = sym (s.changing whole) ∙ ap is_pending at in
      let placed = round.was_led.placed 0 s.file (ap (λ ms. slice_get ms 0) s.managers_are) in
      let newest : number_of s.files.phase ≡ number = rw s.files_are at (number_at _ led.server led.reached 0 number old new s.file at (omega (arith, reached)) placed) in
      refused_session led after s said version calls denied changes (refusing.Pending number) (λ same. cc)
      (round.refused (ap is_some fault)) whole (rw fault at round.answer)
      (ap (λ state. refusal_of (decides led.server.decider) state version) (state_is led s calls denied changes) ∙ rw (changing, newest) refl)

  -- the phases of the three where nothing is proposed
  pub all_settled : (led : Led D (OneManager D)) (s : IsSession led) (number version : ℕ) → led.server.phase ≡ Settled number version → IsLed decides (seen decides) led
      → (s.files.phase ≡ Settled number version) × (s.processes.phase ≡ Settled number version) × (s.ports.phase ≡ Settled number version)
  all_settled led s number version at was_led = (
    rw s.files_are at (settled_at _ led.server led.reached 0 number version s.file at (was_led.placed 0 s.file (ap (λ ms. slice_get ms 0) s.managers_are))),
    rw s.processes_are at (settled_at _ led.server led.reached 1 number version s.process at (was_led.placed 1 s.process (ap (λ ms. slice_get ms 1) s.managers_are))),
    rw s.ports_are at (settled_at _ led.server led.reached 2 number version s.port at (was_led.placed 2 s.port (ap (λ ms. slice_get ms 2) s.managers_are))),
  )

  -- a refusal that is tested is never want of memory
  never_memory : (number old versions version most : ℕ) → notice_fault (Settled number old) versions version most ≡ Some refusing.Memory → ⊥
  never_memory number old versions version most =
      elim (nat_lt version versions) as (λ (b : Bool). (if b then (if number == most then Some refusing.Spent else None) else Some refusing.NoVersion) ≡ Some refusing.Memory → ⊥) [
        | true ↦ elim (number == most) as (λ (b : Bool). (if b then Some refusing.Spent else None) ≡ Some refusing.Memory → ⊥) [ true ↦ λ is. cc | false ↦ λ is. cc ]
        | false ↦ λ is. cc
      ]

  -- the version is proposed, and the first so many managers have their notice
  given_session : (led after : Led D (OneManager D)) (s : IsSession led) (t : Three led s after.managers) (said : Result ℕ NotifyAllFault) (version calls denied changes number old : ℕ)
      → led.server.phase ≡ Settled number old → IsRoundOf led after said version
      → notice_fault (Settled number old) (decides led.server.decider).versions version led.server.most ≡ None → IsNotifiedSession led after said version calls denied changes
  given_session led after s t said version calls denied changes number old at round none =
      let settled = all_settled led s number old at round.was_led in
      let fault : notify_all_fault (decides led.server.decider).versions led.server led.reached version ≡ None = rw at (ap (option_map for_all) none) in
      let server : after.server ≡ started led.server version = round.server (ap is_some fault) in
      let phase_is : after.server.phase ≡ Pending (number + 1) old version = rw (server, at) refl in
      let each = rw (s.managers_are, t.are, at) at (round.notified (ap is_some fault)) in
      let f = noticed_files s.file t.file s.files led.server.decider version (number + 1) after.reached 0 t.files s.file_decider (each 0) in
      let p = noticed_processes s.process t.process s.processes led.server.decider version (number + 1) after.reached 1 t.processes s.process_decider (each 1) in
      let q = noticed_ports s.port t.port s.ports led.server.decider version (number + 1) after.reached 2 t.ports s.port_decider (each 2) in
      let decider : after.server.decider ≡ led.server.decider = rw (server, at) refl in
      let files' = notified_if (nat_lt 0 after.reached) s.files version in
      let processes' = notified_if (nat_lt 1 after.reached) s.processes version in
      let ports' = notified_if (nat_lt 2 after.reached) s.ports version in
      let session : IsSession after = record {
        file = t.file;
        process = t.process;
        port = t.port;
        managers_are = t.are;
        files = files';
        files_are = f.0;
        processes = processes';
        processes_are = p.0;
        ports = ports';
        ports_are = q.0;
        file_decider = f.1 ∙ sym decider;
        process_decider = p.1 ∙ sym decider;
        port_decider = q.1 ∙ sym decider;
        most = rw (server, at) s.most;
        changing = λ whole.
            let test : nat_lt after.reached 3 ≡ false = let all = rw phase_is at whole in elim (nat_lt after.reached 3) as (λ (b : Bool). not b ≡ true → b ≡ false) [ true ↦ λ is. cc | false ↦ λ is. refl ] all in
            let zero : nat_lt 0 after.reached ≡ true = grind (arith, nat_tests) in
            rw (phase_is, zero, settled.0) refl;
      } in
      let idle : refusal_of (decides led.server.decider) (session_state_of led.managers calls denied changes) version ≡ None =
      ap (λ state. refusal_of (decides led.server.decider) state version) (state_is led s calls denied changes)
      ∙ rw (settled.0, settled.1, settled.2) (ap (λ most. notice_fault (Settled number old) (decides led.server.decider).versions version most) (sym s.most) ∙ none) in
      let answer : said ≡ ending (number + 1) after.reached 3 = rw (fault, at, three_of led s round.was_led) at round.answer in
      let now = state_is after session calls denied changes in
      let before = state_is led s calls denied changes in
      let next : number_of (session_state_of led.managers calls denied changes).files.phase + 1 ≡ number + 1 = ap (λ state. number_of state.files.phase + 1) before ∙ ap (λ p. number_of p + 1) settled.0 in
      let histories : events_of decides after.managers ≡ events_noticed (events_of decides led.managers) after.reached (Notice (number + 1) version) =
      events_are decides after.managers t.file t.process t.port t.are
      ∙ rw (noticed decides s.file t.file version (number + 1) after.reached 0 (each 0), noticed decides s.process t.process version (number + 1) after.reached 1 (each 1), noticed decides s.port t.port version (number + 1) after.reached 2 (each 2))
      (sym (ap (λ events. events_noticed events after.reached (Notice (number + 1) version)) (events_are decides led.managers s.file s.process s.port s.managers_are))) in
      elim (nat_lt after.reached 3) as (λ (b : Bool). nat_lt after.reached 3 ≡ b → said ≡ (if b then Err (faults.Memory after.reached) else Ok (number + 1)) → IsNotifiedSession led after said version calls denied changes) [
        | true ↦ λ few is. record {
          session = session;
          told = rw is (idle, grind (arith, nat_tests));
          events = rw (is, next) histories;
          whole = rw is tt;
          state = rw is (now ∙ sym (ap (λ state. with_posts state (notified_if (nat_lt 0 after.reached) state.files version) (notified_if (nat_lt 1 after.reached) state.processes version)
              (notified_if (nat_lt 2 after.reached) state.ports version)) before));
        }
        | false ↦ λ all is.
            let zero : nat_lt 0 after.reached ≡ true = grind (arith, nat_tests) in
            let one : nat_lt 1 after.reached ≡ true = grind (arith, nat_tests) in
            let two : nat_lt 2 after.reached ≡ true = grind (arith, nat_tests) in
            record {
              session = session;
              whole = rw (is, phase_is, all) refl;
              told = rw is (idle, sym next);
              events = rw (is, next) (rw (zero, one, two) at histories);
              state = rw (is, idle) ((rw (zero, one, two) at now) ∙ sym (ap (λ state. state_notified state version None) before));
            }
      ] refl answer

  -- where nothing is proposed
  settled_session : (led after : Led D (OneManager D)) (s : IsSession led) (t : Three led s after.managers) (said : Result ℕ NotifyAllFault) (version calls denied changes number old : ℕ)
      → led.server.phase ≡ Settled number old → IsRoundOf led after said version → IsNotifiedSession led after said version calls denied changes
  settled_session led after s t said version calls denied changes number old at round = from (notice_fault (Settled number old) (decides led.server.decider).versions version led.server.most) refl
    where
      from : (fault : Option NotifyFault) → notice_fault (Settled number old) (decides led.server.decider).versions version led.server.most ≡ fault
          → IsNotifiedSession led after said version calls denied changes
      from None is = given_session led after s t said version calls denied changes number old at round is
      from (Some fault) is =
          let settled = all_settled led s number old at round.was_led in
          let refused : notify_all_fault (decides led.server.decider).versions led.server led.reached version ≡ Some (for_all fault) = rw at (ap (option_map for_all) is) in
          refused_session led after s said version calls denied changes fault (λ same. never_memory number old _ version led.server.most (is ∙ ap Some same))
          (round.refused (ap is_some refused)) (rw at refl) (rw refused at round.answer)
          (ap (λ state. refusal_of (decides led.server.decider) state version) (state_is led s calls denied changes)
          ∙ rw (settled.0, settled.1, settled.2) (ap (λ most. notice_fault (Settled number old) (decides led.server.decider).versions version most) (sym s.most) ∙ is))

  pub notified_session : (led after : Led D (OneManager D)) (s : IsSession led) (t : Three led s after.managers) (said : Result ℕ NotifyAllFault) (version calls denied changes : ℕ) → is_whole led ≡ true
      → IsRoundOf led after said version → IsNotifiedSession led after said version calls denied changes
  notified_session led after s t said version calls denied changes whole round = from led.server.phase refl
    where
      from : (phase : Phase) → led.server.phase ≡ phase → IsNotifiedSession led after said version calls denied changes
      from (Settled number old) at = settled_session led after s t said version calls denied changes number old at round
      from (Pending number old new) at = pending_session led after s said version calls denied changes number old new at whole round

-- What the question whether the managers acknowledge does to a session.
use Rattle.std.proofs.Common.{◌≡◌, ℕ, Bool, true, false, not, List, [], ◌∷◌, ◌++◌, length, Some, refl, sym, ap, ◌∙◌, append-nil, arith}
use Rattle.std.specs.Prelude.{◌&&◌, slice_get, nat_lt, ◌||◌, if◌then◌else◌}
use Rattle.std.specs.List.{list_all}
use Rattle.access_vectors.specs.Decisions.{Decisions}
use Rattle.access_vectors.specs.Phases.{number_of, is_pending, acknowledged}
use Rattle.access_vectors.specs.declared.class.Class.TheVariants as class
use Rattle.access_vectors.specs.declared.phase.Phase.{Phase}
use Rattle.access_vectors.specs.declared.phase.Phase.TheVariants.{Settled, Pending}
use Rattle.manager_history.specs.Kept.{ack_answer, is_done}
use Rattle.manager_history.specs.declared.answers.Ack.{Ack}
use Rattle.manager_history.specs.declared.answers.Ack.TheVariants as acks
use Rattle.managed.specs.Posts.{Post, stale_on, settled_if}
use Rattle.managed.specs.Seen.{acknowledging}
use Rattle.security_server.specs.Numbering.{is_in}
use Rattle.change_protocol.specs.Changes as changes
use Rattle.change_protocol.specs.Changes.{Led, IsLed, IsPlaced, AreAll, IsAskedUnless, HasAskedAll, phase_after, phase_at, is_kept}
use Rattle.change_protocol.specs.declared.answers.AckAll.{AckAll}
use Rattle.change_protocol.specs.declared.answers.AckAll.TheVariants as acking
use Rattle.change_protocol.specs.declared.answers.Said.{Said}
use Rattle.change_protocol.specs.declared.answers.Said.TheVariants as saying
use Rattle.file_calls.specs.PlainManager as file
use Rattle.file_calls.specs.States.{FileState}
use Rattle.file_store.specs.Stores as file_store
use Rattle.process_calls.specs.PlainManager as process
use Rattle.process_calls.specs.States.{ProcessState}
use Rattle.process_store.specs.Stores as process_store
use Rattle.port_calls.specs.PlainManager as port
use Rattle.port_calls.specs.States.{PortState}
use Rattle.port_store.specs.Stores as port_store
use Rattle.session_managers.specs.declared.one_manager.OneManager.{OneManager}
use Rattle.session_managers.specs.SessionStates.{SessionState, pending_at, waits_on, ack_on, said_of, all_saying, standing_by, is_complete, counted_change, state_settled, file_ack, process_ack, port_ack}
use Rattle.session_managers.specs.SessionViews.{Events, events_acknowledged}
use Rattle.session_managers.specs.One.{Files, Processes, Ports, IsSame, phase, place_of, decider_of, seen, file_opening, process_opening, port_opening}
use Rattle.session_managers.specs.Standings.{IsSession, is_whole, session_state_of}
use Rattle.session_managers.proofs.AdminLemmas.{acknowledged_post, acknowledged_answer, phase_as}
use Rattle.session_managers.proofs.NoticeLemmas.{seen_phase, number_at, reached_all, all_settled}
use Rattle.session_managers.proofs.EventLemmas.{history, events_of, events_are, unasked, asked as asked_one}
use Rattle.session_managers.proofs.ThreeLemmas.{AreFiles, AreProcesses, ArePorts, Three, state_is}

-- while a change is pending a manager that is asked does not say that nothing is
said_pending : (number old new manager older stale : ℕ) → changes.said_of (ack_answer (Pending number old new) manager older stale) ≡ said_of (ack_answer (Pending number old new) manager older stale)
said_pending number old new manager older stale =
    elim (nat_lt 0 older) as (λ (b : Bool). changes.said_of (if b then acks.Busy older else (if nat_lt 0 stale then acks.Behind stale else acks.Done (record { manager = manager; number = number })))
    ≡ said_of (if b then acks.Busy older else (if nat_lt 0 stale then acks.Behind stale else acks.Done (record { manager = manager; number = number })))) [
      | true ↦ refl
      | false ↦ elim (nat_lt 0 stale) as (λ (b : Bool). changes.said_of (if b then acks.Behind stale else acks.Done (record { manager = manager; number = number }))
          ≡ said_of (if b then acks.Behind stale else acks.Done (record { manager = manager; number = number }))) [ true ↦ refl | false ↦ refl ]
    ]

said_at : (phase : Phase) (manager older stale : ℕ) → is_pending phase ≡ true → changes.said_of (ack_answer phase manager older stale) ≡ said_of (ack_answer phase manager older stale)
said_at (Settled number version) manager older stale is = cc
said_at (Pending number old new) manager older stale is = said_pending number old new manager older stale

-- a change is pending afterwards exactly where its manager keeps it back
pending_if : (phase : Phase) (manager older stale : ℕ)
    → is_pending (if is_done (ack_answer phase manager older stale) then acknowledged phase else phase) ≡ not (is_kept (said_of (ack_answer phase manager older stale)))
pending_if (Settled number version) manager older stale = refl
pending_if (Pending number old new) manager older stale =
    elim (nat_lt 0 older) as (λ (b : Bool).
    is_pending (if is_done (if b then acks.Busy older else (if nat_lt 0 stale then acks.Behind stale else acks.Done (record { manager = manager; number = number }))) then Settled number new else Pending number old new)
    ≡ not (is_kept (said_of (if b then acks.Busy older else (if nat_lt 0 stale then acks.Behind stale else acks.Done (record { manager = manager; number = number })))))) [
      | true ↦ refl
      | false ↦ elim (nat_lt 0 stale) as (λ (b : Bool).
          is_pending (if is_done (if b then acks.Behind stale else acks.Done (record { manager = manager; number = number })) then Settled number new else Pending number old new)
          ≡ not (is_kept (said_of (if b then acks.Behind stale else acks.Done (record { manager = manager; number = number }))))) [ true ↦ refl | false ↦ refl ]
    ]

pending_after : {State : Type 0} (forced : Bool) (post : Post State) (manager : ℕ) (stale : List ℕ)
    → is_pending (settled_if post (is_done (ack_on forced post manager stale))).phase ≡ not (is_kept (said_of (ack_on forced post manager stale)))
pending_after forced post manager stale =
    ap is_pending (sym (phase_as post (is_done (ack_on forced post manager stale)))) ∙ pending_if post.phase manager (waits_on forced post) (length stale)

module _ {D : Type 0} (decides : D → Decisions) (forced : Bool) where
  -- the manager of files
  abbrev ack_files : D → Post FileState → ℕ → Ack
  ack_files decider post place = ack_on forced post place (stale_on (decides decider) class.File file.pair_of post)

  asked_files : (was now : OneManager D) (post : Post FileState) (decider : D) (receipts : List Bool) (place number old new : ℕ) (said : Said) → AreFiles was now post → decider_of was ≡ decider
      → (seen decides was).manager ≡ place → post.phase ≡ (if is_in receipts place then Settled number new else Pending number old new)
      → IsAskedUnless (seen decides) forced (is_in receipts place) was now said
      → (place_of now ≡ Files (settled_if post (is_done (ack_files decider post place)))) × (said ≡ said_of (ack_files decider post place)) × (decider_of now ≡ decider)
      × (history decides now ≡ history decides was ++ acknowledging forced post.phase (is_done (ack_files decider post place)))
  asked_files was now post decider receipts place number old new said are at numbered stands asked =
      let by = ap decider_of (sym are.was_is) ∙ at in
      let got = from (is_in receipts place) stands asked in
      (got.0, got.1, rw are.now_is (are.same.decider ∙ by), got.2)
    where
      from : (b : Bool) → post.phase ≡ (if b then Settled number new else Pending number old new) → IsAskedUnless (seen decides) forced b was now said
          → (place_of now ≡ Files (settled_if post (is_done (ack_files decider post place)))) × (said ≡ said_of (ack_files decider post place))
          × (history decides now ≡ history decides was ++ acknowledging forced post.phase (is_done (ack_files decider post place)))
      from true stands asked =
          let idle : ack_files decider post place ≡ acks.Idle = rw stands refl in
          (rw (idle, asked.0, are.was_is, ← are.post_is) refl, asked.1 ∙ sym (ap said_of idle), unasked decides was now forced post.phase _ asked.0 idle)
      from false stands asked =
          let by = ap decider_of (sym are.was_is) ∙ at in
          let here = rw (are.was_is, are.now_is) at asked.acknowledged in
          let manager : are.old.keeper.manager ≡ place = rw are.was_is at numbered in
          let ack_is : asked.ack ≡ ack_files decider post place =
          rw (← are.post_is, ← by, ← manager) (acknowledged_answer decides class.File file.pair_of file_opening file_store.state_of file_store.follows are.old are.new are.same forced asked.ack here) in
          let stood : place_of now ≡ Files (settled_if post (is_done asked.ack)) =
          rw (are.now_is, ← are.post_is) (ap Files (acknowledged_post decides class.File file.pair_of file_opening file_store.state_of file_store.follows are.old are.new are.same forced asked.ack here)) in (
            stood ∙ ap (λ a. Files (settled_if post (is_done a))) ack_is,
            asked.said_is ∙ ap changes.said_of ack_is ∙ said_at post.phase place (waits_on forced post) _ (ap is_pending stands),
            asked_one decides was now forced post.phase _ said asked ack_is (rw (are.was_is, ← are.post_is) refl),
          )

  -- the manager of processes
  abbrev ack_processes : D → Post ProcessState → ℕ → Ack
  ack_processes decider post place = ack_on forced post place (stale_on (decides decider) class.Process process.pair_of post)

  asked_processes : (was now : OneManager D) (post : Post ProcessState) (decider : D) (receipts : List Bool) (place number old new : ℕ) (said : Said) → AreProcesses was now post → decider_of was ≡ decider
      → (seen decides was).manager ≡ place → post.phase ≡ (if is_in receipts place then Settled number new else Pending number old new)
      → IsAskedUnless (seen decides) forced (is_in receipts place) was now said
      → (place_of now ≡ Processes (settled_if post (is_done (ack_processes decider post place)))) × (said ≡ said_of (ack_processes decider post place)) × (decider_of now ≡ decider)
      × (history decides now ≡ history decides was ++ acknowledging forced post.phase (is_done (ack_processes decider post place)))
  asked_processes was now post decider receipts place number old new said are at numbered stands asked =
      let by = ap decider_of (sym are.was_is) ∙ at in
      let got = from (is_in receipts place) stands asked in
      (got.0, got.1, rw are.now_is (are.same.decider ∙ by), got.2)
    where
      from : (b : Bool) → post.phase ≡ (if b then Settled number new else Pending number old new) → IsAskedUnless (seen decides) forced b was now said
          → (place_of now ≡ Processes (settled_if post (is_done (ack_processes decider post place)))) × (said ≡ said_of (ack_processes decider post place))
          × (history decides now ≡ history decides was ++ acknowledging forced post.phase (is_done (ack_processes decider post place)))
      from true stands asked =
          let idle : ack_processes decider post place ≡ acks.Idle = rw stands refl in
          (rw (idle, asked.0, are.was_is, ← are.post_is) refl, asked.1 ∙ sym (ap said_of idle), unasked decides was now forced post.phase _ asked.0 idle)
      from false stands asked =
          let by = ap decider_of (sym are.was_is) ∙ at in
          let here = rw (are.was_is, are.now_is) at asked.acknowledged in
          let manager : are.old.keeper.manager ≡ place = rw are.was_is at numbered in
          let ack_is : asked.ack ≡ ack_processes decider post place =
          rw (← are.post_is, ← by, ← manager) (acknowledged_answer decides class.Process process.pair_of process_opening process_store.state_of process_store.follows are.old are.new are.same forced asked.ack here) in
          let stood : place_of now ≡ Processes (settled_if post (is_done asked.ack)) =
          rw (are.now_is, ← are.post_is) (ap Processes (acknowledged_post decides class.Process process.pair_of process_opening process_store.state_of process_store.follows are.old are.new are.same forced asked.ack here)) in (
            stood ∙ ap (λ a. Processes (settled_if post (is_done a))) ack_is,
            asked.said_is ∙ ap changes.said_of ack_is ∙ said_at post.phase place (waits_on forced post) _ (ap is_pending stands),
            asked_one decides was now forced post.phase _ said asked ack_is (rw (are.was_is, ← are.post_is) refl),
          )

  -- the manager of ports
  abbrev ack_ports : D → Post PortState → ℕ → Ack
  ack_ports decider post place = ack_on forced post place (stale_on (decides decider) class.Port port.pair_of post)

  asked_ports : (was now : OneManager D) (post : Post PortState) (decider : D) (receipts : List Bool) (place number old new : ℕ) (said : Said) → ArePorts was now post → decider_of was ≡ decider
      → (seen decides was).manager ≡ place → post.phase ≡ (if is_in receipts place then Settled number new else Pending number old new)
      → IsAskedUnless (seen decides) forced (is_in receipts place) was now said
      → (place_of now ≡ Ports (settled_if post (is_done (ack_ports decider post place)))) × (said ≡ said_of (ack_ports decider post place)) × (decider_of now ≡ decider)
      × (history decides now ≡ history decides was ++ acknowledging forced post.phase (is_done (ack_ports decider post place)))
  asked_ports was now post decider receipts place number old new said are at numbered stands asked =
      let by = ap decider_of (sym are.was_is) ∙ at in
      let got = from (is_in receipts place) stands asked in
      (got.0, got.1, rw are.now_is (are.same.decider ∙ by), got.2)
    where
      from : (b : Bool) → post.phase ≡ (if b then Settled number new else Pending number old new) → IsAskedUnless (seen decides) forced b was now said
          → (place_of now ≡ Ports (settled_if post (is_done (ack_ports decider post place)))) × (said ≡ said_of (ack_ports decider post place))
          × (history decides now ≡ history decides was ++ acknowledging forced post.phase (is_done (ack_ports decider post place)))
      from true stands asked =
          let idle : ack_ports decider post place ≡ acks.Idle = rw stands refl in
          (rw (idle, asked.0, are.was_is, ← are.post_is) refl, asked.1 ∙ sym (ap said_of idle), unasked decides was now forced post.phase _ asked.0 idle)
      from false stands asked =
          let by = ap decider_of (sym are.was_is) ∙ at in
          let here = rw (are.was_is, are.now_is) at asked.acknowledged in
          let manager : are.old.keeper.manager ≡ place = rw are.was_is at numbered in
          let ack_is : asked.ack ≡ ack_ports decider post place =
          rw (← are.post_is, ← by, ← manager) (acknowledged_answer decides class.Port port.pair_of port_opening port_store.state_of port_store.follows are.old are.new are.same forced asked.ack here) in
          let stood : place_of now ≡ Ports (settled_if post (is_done asked.ack)) =
          rw (are.now_is, ← are.post_is) (ap Ports (acknowledged_post decides class.Port port.pair_of port_opening port_store.state_of port_store.follows are.old are.new are.same forced asked.ack here)) in (
            stood ∙ ap (λ a. Ports (settled_if post (is_done a))) ack_is,
            asked.said_is ∙ ap changes.said_of ack_is ∙ said_at post.phase place (waits_on forced post) _ (ap is_pending stands),
            asked_one decides was now forced post.phase _ said asked ack_is (rw (are.was_is, ← are.post_is) refl),
          )

  -- the list of what they say has one for each
  three_said : (was now : List (OneManager D)) (f f' p p' q q' : OneManager D) (said : List Said) (R : ℕ → OneManager D → OneManager D → Said → Type 0) → was ≡ f ∷ p ∷ q ∷ [] → now ≡ f' ∷ p' ∷ q' ∷ []
      → ((place : ℕ) → AreAll (R place) (slice_get was place) (slice_get now place) (slice_get said place))
      → (a b c : Said) × (said ≡ a ∷ b ∷ c ∷ []) × R 0 f f' a × R 1 p p' b × R 2 q q' c
  three_said was now f f' p p' q q' said R was_is now_is each = from said (rw (was_is, now_is) at each)
    where
      from : (said : List Said) → ((place : ℕ) → AreAll (R place) (slice_get (f ∷ p ∷ q ∷ []) place) (slice_get (f' ∷ p' ∷ q' ∷ []) place) (slice_get said place))
          → (a b c : Said) × (said ≡ a ∷ b ∷ c ∷ []) × R 0 f f' a × R 1 p p' b × R 2 q q' c
      from [] each = absurd (each 0)
      from (a ∷ []) each = absurd (each 1)
      from (a ∷ b ∷ []) each = absurd (each 2)
      from (a ∷ b ∷ c ∷ []) each = (a, b, c, refl, each 0, each 1, each 2)
      from (a ∷ b ∷ c ∷ d ∷ more) each = absurd (each 3)

  -- what the coordinator tells of the question
  abbrev pub IsAskedOf : (led after : Led D (OneManager D)) (said : List Said) (all : AckAll) → Type 0
  IsAskedOf led after said all = HasAskedAll decides (seen decides) IsSame forced led after (saying.Kept ∷ saying.Kept ∷ saying.Kept ∷ []) said all

  -- the session then
  pub record IsAckedSession (led after : Led D (OneManager D)) (said : List Said) (all : AckAll) (calls denied changes : ℕ) : Type 0 where
    pub session : IsSession after
    pub all_is : all ≡ standing_by forced (decides led.server.decider) (session_state_of led.managers calls denied changes)
    pub said_is : said ≡ all_saying forced (decides led.server.decider) (session_state_of led.managers calls denied changes)
    pub state : session_state_of after.managers calls denied (counted_change (is_complete all) changes) ≡ state_settled forced (decides led.server.decider) (session_state_of led.managers calls denied changes)
    pub events : events_of decides after.managers ≡ events_acknowledged forced (decides led.server.decider) (session_state_of led.managers calls denied changes) (events_of decides led.managers)
    pub whole : is_whole after ≡ true

  -- by where it stood: a triple of posts
  abbrev state_with : (led : Led D (OneManager D)) → IsSession led → ℕ → ℕ → ℕ → SessionState
  state_with led s calls denied changes = record { files = s.files; processes = s.processes; ports = s.ports; calls = calls; denied = denied; changes = changes }

  -- while a change is pending
  asked_session : (led after : Led D (OneManager D)) (s : IsSession led) (t : Three led s after.managers) (said : List Said) (all : AckAll) (calls denied changes number old new : ℕ)
      → led.server.phase ≡ Pending number old new → is_whole led ≡ true → IsAskedOf led after said all → IsAckedSession led after said all calls denied changes
  asked_session led after s t said all calls denied changes number old new at whole told =
      let reached : led.reached ≡ 3 = reached_all decides led s told.was_led (rw at at whole) in
      let there = λ (place : ℕ) (m : OneManager D) (is : slice_get led.managers place ≡ Some m). told.was_led.placed place m is in
      let file_placed = there 0 s.file (ap (λ ms. slice_get ms 0) s.managers_are) in
      let process_placed = there 1 s.process (ap (λ ms. slice_get ms 1) s.managers_are) in
      let port_placed = there 2 s.port (ap (λ ms. slice_get ms 2) s.managers_are) in
      let file_at : s.files.phase ≡ (if is_in led.server.receipts 0 then Settled number new else Pending number old new) =
      sym (ap phase s.files_are) ∙ sym (seen_phase decides s.file) ∙ file_placed.phase ∙ rw (at, reached) refl in
      let process_at : s.processes.phase ≡ (if is_in led.server.receipts 1 then Settled number new else Pending number old new) =
      sym (ap phase s.processes_are) ∙ sym (seen_phase decides s.process) ∙ process_placed.phase ∙ rw (at, reached) refl in
      let port_at : s.ports.phase ≡ (if is_in led.server.receipts 2 then Settled number new else Pending number old new) =
      sym (ap phase s.ports_are) ∙ sym (seen_phase decides s.port) ∙ port_placed.phase ∙ rw (at, reached) refl in
      let each = three_said led.managers after.managers s.file t.file s.process t.process s.port t.port said
      (λ place. IsAskedUnless (seen decides) forced (is_in led.server.receipts place)) s.managers_are t.are (told.asked (ap is_pending at)) in
      let f = asked_files s.file t.file s.files led.server.decider led.server.receipts 0 number old new each.0 t.files s.file_decider file_placed.numbered file_at each.4 in
      let p = asked_processes s.process t.process s.processes led.server.decider led.server.receipts 1 number old new each.1 t.processes s.process_decider process_placed.numbered process_at each.5 in
      let q = asked_ports s.port t.port s.ports led.server.decider led.server.receipts 2 number old new each.2 t.ports s.port_decider port_placed.numbered port_at each.6 in
      let d = decides led.server.decider in
      let state = state_with led s calls denied changes in
      let before : session_state_of led.managers calls denied changes ≡ state = state_is led s calls denied changes in
      let said_here : said ≡ all_saying forced d state = rw (each.3, f.1, p.1, q.1) refl in
      let changing : pending_at s.files.phase s.processes.phase s.ports.phase ≡ true = sym (s.changing whole) ∙ ap is_pending at in
      let newest : number_of s.files.phase ≡ number = rw s.files_are at (number_at decides _ led.server led.reached 0 number old new s.file at (omega (arith, reached)) file_placed) in
      let answer : all ≡ (if list_all is_kept (all_saying forced d state) then acking.Complete number else acking.Waiting) = rw (at, said_here) at told.answer in
      let all_here : all ≡ standing_by forced d state = answer ∙ rw (changing, newest) refl in
      let pending : pending_at (settled_if s.files (is_done (file_ack forced d state))).phase (settled_if s.processes (is_done (process_ack forced d state))).phase (settled_if s.ports (is_done (port_ack forced d state))).phase
      ≡ not (list_all is_kept (all_saying forced d state)) =
      rw (pending_after forced s.files 0 _, pending_after forced s.processes 1 _, pending_after forced s.ports 2 _) (none_back (is_kept (said_of (file_ack forced d state))) (is_kept (said_of (process_ack forced d state))) (is_kept (said_of (port_ack forced d state)))) in
      let session : IsSession after = record {
        file = t.file;
        process = t.process;
        port = t.port;
        managers_are = t.are;
        files = settled_if s.files (is_done (file_ack forced d state));
        files_are = f.0;
        processes = settled_if s.processes (is_done (process_ack forced d state));
        processes_are = p.0;
        ports = settled_if s.ports (is_done (port_ack forced d state));
        ports_are = q.0;
        file_decider = f.2 ∙ sym told.decider;
        process_decider = p.2 ∙ sym told.decider;
        port_decider = q.2 ∙ sym told.decider;
        most = told.most ∙ s.most;
        changing = λ _. ap is_pending (told.phase ∙ rw (answer, at) (phase_of (list_all is_kept (all_saying forced d state)))) ∙ pending_of (list_all is_kept (all_saying forced d state)) ∙ sym pending;
      } in
      record {
        session = session;
        all_is = all_here ∙ sym (ap (standing_by forced d) before);
        said_is = said_here ∙ sym (ap (all_saying forced d) before);
        state = state_is after session calls denied (counted_change (is_complete all) changes) ∙ rw all_here (sym (ap (state_settled forced d) before));
        events = events_are decides after.managers t.file t.process t.port t.are ∙ rw (f.3, p.3, q.3)
            (sym (ap (λ events. events_acknowledged forced d state events) (events_are decides led.managers s.file s.process s.port s.managers_are)) ∙ sym (ap (λ state. events_acknowledged forced d state (events_of decides led.managers)) before));
        whole = rw (told.reached, reached) (either (is_pending after.server.phase));
      }
    where
      none_back : (a b c : Bool) → (not a || not b || not c) ≡ not (list_all (λ one. one) (a ∷ b ∷ c ∷ []))
      none_back true true true = refl
      none_back true true false = refl
      none_back true false c = refl
      none_back false b c = refl

      phase_of : (b : Bool) → phase_after (if b then acking.Complete number else acking.Waiting) (Pending number old new) ≡ (if b then Settled number new else Pending number old new)
      phase_of true = refl
      phase_of false = refl

      pending_of : (b : Bool) → is_pending (if b then Settled number new else Pending number old new) ≡ not b
      pending_of true = refl
      pending_of false = refl

      either : (b : Bool) → not (b && false) ≡ true
      either true = refl
      either false = refl

  none_added : (events : Events) → record { files = events.files ++ []; processes = events.processes ++ []; ports = events.ports ++ [] } ≡ events
  none_added events = rw (append-nil events.files, append-nil events.processes, append-nil events.ports) refl

  -- where nothing is pending all is as it was
  idle_session : (led after : Led D (OneManager D)) (s : IsSession led) (said : List Said) (all : AckAll) (calls denied changes number version : ℕ) → led.server.phase ≡ Settled number version
      → IsAskedOf led after said all → IsAckedSession led after said all calls denied changes
  idle_session led after s said all calls denied changes number version at told =
      let d = decides led.server.decider in
      let settled = all_settled decides led s number version at told.was_led in
      let state = state_with led s calls denied changes in
      let before : session_state_of led.managers calls denied changes ≡ state = state_is led s calls denied changes in
      let same : after ≡ led = told.idle (ap is_pending at) in
      let answer : all ≡ acking.Idle = told.answer ∙ rw at refl in
      record {
        session = rw same s;
        all_is = answer ∙ sym (ap (standing_by forced d) before ∙ rw (settled.0, settled.1, settled.2) refl);
        said_is = told.idle_said (ap is_pending at) ∙ sym (ap (all_saying forced d) before ∙ rw (settled.0, settled.1, settled.2) refl);
        state = rw (same, answer) (before ∙ sym (ap (state_settled forced d) before ∙ rw (settled.0, settled.1, settled.2) refl));
        events = rw same (sym (ap (λ state. events_acknowledged forced d state (events_of decides led.managers)) before ∙ rw (settled.0, settled.1, settled.2)
            (none_added (events_of decides led.managers))));
        whole = rw (same, at) refl;
      }

  pub acked_session : (led after : Led D (OneManager D)) (s : IsSession led) (t : Three led s after.managers) (said : List Said) (all : AckAll) (calls denied changes : ℕ) → is_whole led ≡ true
      → IsAskedOf led after said all → IsAckedSession led after said all calls denied changes
  acked_session led after s t said all calls denied changes whole told = from led.server.phase refl
    where
      from : (phase : Phase) → led.server.phase ≡ phase → IsAckedSession led after said all calls denied changes
      from (Settled number version) at = idle_session led after s said all calls denied changes number version at told
      from (Pending number old new) at = asked_session led after s t said all calls denied changes number old new at whole told

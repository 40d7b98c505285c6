-- What an update does to a session.
use Rattle.std.proofs.Common.{◌≡◌, ℕ, List, [], ◌∷◌, length, drop, refl, sym, ap, ◌∙◌}
use Rattle.std.specs.Prelude.{slice_get}
use Rattle.access_vectors.specs.Decisions.{Decisions}
use Rattle.access_vectors.specs.declared.class.Class.TheVariants as class
use Rattle.managed.specs.Posts.{Post, stale_on, updated}
use Rattle.managed.specs.Seen.{IsUpdated}
use Rattle.change_protocol.specs.Changes.{Led, AreAll}
use Rattle.file_calls.specs.PlainManager as file
use Rattle.file_calls.specs.States.{FileState}
use Rattle.file_store.specs.Stores as file_store
use Rattle.process_calls.specs.PlainManager as process
use Rattle.process_calls.specs.States.{ProcessState}
use Rattle.process_store.specs.Stores as process_store
use Rattle.port_calls.specs.PlainManager as port
use Rattle.port_calls.specs.States.{PortState}
use Rattle.port_store.specs.Stores as port_store
use Rattle.session_managers.specs.declared.one_manager.OneManager.{OneManager}
use Rattle.session_managers.specs.SessionStates.{state_updated, left_on}
use Rattle.session_managers.specs.One.{Files, Processes, Ports, place_of, decider_of, seen, file_opening, process_opening, port_opening}
use Rattle.session_managers.specs.Standings.{IsSession, session_state_of}
use Rattle.session_managers.proofs.AdminLemmas.{updated_post, updated_left}
use Rattle.session_managers.proofs.EventLemmas.{events_of, events_are, stayed}
use Rattle.session_managers.proofs.ThreeLemmas.{AreFiles, AreProcesses, ArePorts, Three, state_is}

module _ {D : Type 0} (decides : D → Decisions) where
  -- the manager of files: where it stands then, and how many it leaves
  abbrev stale_files : D → Post FileState → List ℕ
  stale_files decider post = stale_on (decides decider) class.File file.pair_of post

  updated_files : (was now : OneManager D) (post : Post FileState) (decider : D) (most left : ℕ) → AreFiles was now post → decider_of was ≡ decider
      → IsUpdated most (seen decides was) (seen decides now) left
      → (place_of now ≡ Files (updated post (stale_files decider post) most)) × (left ≡ length (drop most (stale_files decider post))) × (decider_of now ≡ decider)
  updated_files was now post decider most left are at told =
      let here = rw (are.was_is, are.now_is) at told in
      let by = ap decider_of (sym are.was_is) ∙ at in (
        rw (are.now_is, ← are.post_is, ← by) (ap Files (updated_post decides class.File file.pair_of file_opening file_store.state_of file_store.follows are.old are.new are.same most left here)),
        rw (← are.post_is, ← by) (updated_left decides class.File file.pair_of file_opening file_store.state_of file_store.follows are.old are.new are.same most left here),
        rw are.now_is (are.same.decider ∙ by),
      )

  -- the manager of processes: where it stands then, and how many it leaves
  abbrev stale_processes : D → Post ProcessState → List ℕ
  stale_processes decider post = stale_on (decides decider) class.Process process.pair_of post

  updated_processes : (was now : OneManager D) (post : Post ProcessState) (decider : D) (most left : ℕ) → AreProcesses was now post → decider_of was ≡ decider
      → IsUpdated most (seen decides was) (seen decides now) left
      → (place_of now ≡ Processes (updated post (stale_processes decider post) most)) × (left ≡ length (drop most (stale_processes decider post))) × (decider_of now ≡ decider)
  updated_processes was now post decider most left are at told =
      let here = rw (are.was_is, are.now_is) at told in
      let by = ap decider_of (sym are.was_is) ∙ at in (
        rw (are.now_is, ← are.post_is, ← by) (ap Processes (updated_post decides class.Process process.pair_of process_opening process_store.state_of process_store.follows are.old are.new are.same most left here)),
        rw (← are.post_is, ← by) (updated_left decides class.Process process.pair_of process_opening process_store.state_of process_store.follows are.old are.new are.same most left here),
        rw are.now_is (are.same.decider ∙ by),
      )

  -- the manager of ports: where it stands then, and how many it leaves
  abbrev stale_ports : D → Post PortState → List ℕ
  stale_ports decider post = stale_on (decides decider) class.Port port.pair_of post

  updated_ports : (was now : OneManager D) (post : Post PortState) (decider : D) (most left : ℕ) → ArePorts was now post → decider_of was ≡ decider
      → IsUpdated most (seen decides was) (seen decides now) left
      → (place_of now ≡ Ports (updated post (stale_ports decider post) most)) × (left ≡ length (drop most (stale_ports decider post))) × (decider_of now ≡ decider)
  updated_ports was now post decider most left are at told =
      let here = rw (are.was_is, are.now_is) at told in
      let by = ap decider_of (sym are.was_is) ∙ at in (
        rw (are.now_is, ← are.post_is, ← by) (ap Ports (updated_post decides class.Port port.pair_of port_opening port_store.state_of port_store.follows are.old are.new are.same most left here)),
        rw (← are.post_is, ← by) (updated_left decides class.Port port.pair_of port_opening port_store.state_of port_store.follows are.old are.new are.same most left here),
        rw are.now_is (are.same.decider ∙ by),
      )

  -- the list of what is left has one number for each
  three_left : (was now : List (OneManager D)) (f f' p p' q q' : OneManager D) (left : List ℕ) (R : OneManager D → OneManager D → ℕ → Type 0) → was ≡ f ∷ p ∷ q ∷ [] → now ≡ f' ∷ p' ∷ q' ∷ []
      → ((place : ℕ) → AreAll R (slice_get was place) (slice_get now place) (slice_get left place))
      → (a b c : ℕ) × (left ≡ a ∷ b ∷ c ∷ []) × R f f' a × R p p' b × R q q' c
  three_left was now f f' p p' q q' left R was_is now_is each = from left (rw (was_is, now_is) at each)
    where
      from : (left : List ℕ) → ((place : ℕ) → AreAll R (slice_get (f ∷ p ∷ q ∷ []) place) (slice_get (f' ∷ p' ∷ q' ∷ []) place) (slice_get left place))
          → (a b c : ℕ) × (left ≡ a ∷ b ∷ c ∷ []) × R f f' a × R p p' b × R q q' c
      from [] each = absurd (each 0)
      from (a ∷ []) each = absurd (each 1)
      from (a ∷ b ∷ []) each = absurd (each 2)
      from (a ∷ b ∷ c ∷ []) each = (a, b, c, refl, each 0, each 1, each 2)
      from (a ∷ b ∷ c ∷ d ∷ more) each = absurd (each 3)

  -- the session then, and what is left
  pub record IsUpdatedSession (led after : Led D (OneManager D)) (s : IsSession led) (most : ℕ) (left : List ℕ) : Type 0 where
    pub session : IsSession after
    pub files : session.files ≡ updated s.files (stale_files led.server.decider s.files) most
    pub processes : session.processes ≡ updated s.processes (stale_processes led.server.decider s.processes) most
    pub ports : session.ports ≡ updated s.ports (stale_ports led.server.decider s.ports) most
    pub left_is : left ≡ length (drop most (stale_files led.server.decider s.files)) ∷ length (drop most (stale_processes led.server.decider s.processes))
        ∷ length (drop most (stale_ports led.server.decider s.ports)) ∷ []
    pub events : events_of decides after.managers ≡ events_of decides led.managers

  pub updated_session : (led after : Led D (OneManager D)) (s : IsSession led) (t : Three led s after.managers) (most : ℕ) (left : List ℕ)
      → ((place : ℕ) → AreAll (λ was now left. IsUpdated most (seen decides was) (seen decides now) left) (slice_get led.managers place) (slice_get after.managers place) (slice_get left place))
      → after.server ≡ led.server → after.reached ≡ led.reached → IsUpdatedSession led after s most left
  updated_session led after s t most left each server reached =
      let (a, b, c, left_is, file_told, process_told, port_told) = three_left led.managers after.managers s.file t.file s.process t.process s.port t.port left _ s.managers_are t.are each in
      let f = updated_files s.file t.file s.files led.server.decider most a t.files s.file_decider file_told in
      let p = updated_processes s.process t.process s.processes led.server.decider most b t.processes s.process_decider process_told in
      let q = updated_ports s.port t.port s.ports led.server.decider most c t.ports s.port_decider port_told in
      record {
        session = record {
          file = t.file;
          process = t.process;
          port = t.port;
          managers_are = t.are;
          files = updated s.files (stale_files led.server.decider s.files) most;
          files_are = f.0;
          processes = updated s.processes (stale_processes led.server.decider s.processes) most;
          processes_are = p.0;
          ports = updated s.ports (stale_ports led.server.decider s.ports) most;
          ports_are = q.0;
          file_decider = rw server f.2;
          process_decider = rw server p.2;
          port_decider = rw server q.2;
          most = rw server s.most;
          changing = rw (server, reached) s.changing;
        };
        files = refl;
        processes = refl;
        ports = refl;
        left_is = rw (left_is, f.1, p.1, q.1) refl;
        events = events_are decides after.managers t.file t.process t.port t.are
            ∙ rw (stayed decides s.file t.file file_told.history, stayed decides s.process t.process process_told.history, stayed decides s.port t.port port_told.history)
            (sym (events_are decides led.managers s.file s.process s.port s.managers_are));
      }

  pub updated_state : (led after : Led D (OneManager D)) (s : IsSession led) (most : ℕ) (left : List ℕ) (calls denied changes : ℕ) → IsUpdatedSession led after s most left
      → session_state_of after.managers calls denied changes ≡ state_updated (decides led.server.decider) (session_state_of led.managers calls denied changes) most
  updated_state led after s most left calls denied changes is =
      state_is after is.session calls denied changes ∙ rw (is.files, is.processes, is.ports) (sym (ap (λ state. state_updated (decides led.server.decider) state most) (state_is led s calls denied changes)))

  pub updated_left_on : (led after : Led D (OneManager D)) (s : IsSession led) (most : ℕ) (left : List ℕ) (calls denied changes : ℕ) → IsUpdatedSession led after s most left
      → left ≡ left_on (decides led.server.decider) (session_state_of led.managers calls denied changes) most
  updated_left_on led after s most left calls denied changes is =
      is.left_is ∙ sym (ap (λ state. left_on (decides led.server.decider) state most) (state_is led s calls denied changes))

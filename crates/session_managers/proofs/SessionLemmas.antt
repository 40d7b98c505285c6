-- The managers of a session stay the three that they are.
use Rattle.std.proofs.Common.{◌≡◌, ◌+◌, ◌≤◌, arith, ℕ, List, [], ◌∷◌, Option, Some, None, Result, Ok, Err, refl, sym, ap, ◌∙◌}
use Rattle.std.specs.Prelude.{slice_get, slice_set}
use Rattle.access_vectors.specs.Decisions.{Decisions}
use Rattle.flask_sid.specs.declared.memory.Memory.{Memory}
use Rattle.managed.specs.Posts.{Post}
use Rattle.security_server.specs.Numbering.{ServerView}
use Rattle.change_protocol.specs.Changes.{Led, HasServed}
use Rattle.file_calls.specs.States.{FileState}
use Rattle.process_calls.specs.States.{ProcessState}
use Rattle.port_calls.specs.States.{PortState}
use Rattle.session_forms.specs.declared.run_forms.Manager.{Manager}
use Rattle.session_forms.specs.declared.run_forms.Manager.TheVariants as manager
use Rattle.session_managers.specs.declared.acting.Act.{Act}
use Rattle.session_managers.specs.declared.acting.Act.TheVariants as act
use Rattle.session_managers.specs.declared.acting.Call.{Call}
use Rattle.session_managers.specs.declared.acting.Call.TheVariants as call
use Rattle.session_managers.specs.declared.one_manager.OneManager.{OneManager}
use Rattle.session_managers.specs.declared.one_manager.OneManager.TheVariants.{File, Process, Port}
use Rattle.session_managers.specs.SessionStates.{pending_at, counted_denial, manager_of, told_to, state_called}
use Rattle.session_managers.specs.SessionViews.{number_of}
use Rattle.session_managers.specs.One.{Files, Processes, Ports, IsKept, HasCalled, HasDone, place_of, decider_of, opening_of, phase, denial_in, after_call}
use Rattle.session_managers.specs.Standings.{IsSession, session_state_of}
use Rattle.session_managers.proofs.OneLemmas.{stayed_seen}

module _ {D : Type 0} (decides : D → Decisions) where
  -- a manager that is kept stays one of files, of processes or of ports, and its change stands where it stood
  files_kept : (was now : OneManager D) (post : Post FileState) → place_of was ≡ Files post → IsKept decides was now
      → (after : Post FileState) × (place_of now ≡ Files after) × (after.phase ≡ post.phase)
  files_kept (File a) (File b) post is kept = (_, refl, kept.served.phase ∙ ap phase is)
  files_kept (File a) (Process b) post is kept = absurd (let apart = kept.opening in cc)
  files_kept (File a) (Port b) post is kept = absurd (let apart = kept.opening in cc)
  files_kept (Process a) now post is kept = absurd cc
  files_kept (Port a) now post is kept = absurd cc

  processes_kept : (was now : OneManager D) (post : Post ProcessState) → place_of was ≡ Processes post → IsKept decides was now
      → (after : Post ProcessState) × (place_of now ≡ Processes after) × (after.phase ≡ post.phase)
  processes_kept (Process a) (Process b) post is kept = (_, refl, kept.served.phase ∙ ap phase is)
  processes_kept (Process a) (File b) post is kept = absurd (let apart = kept.opening in cc)
  processes_kept (Process a) (Port b) post is kept = absurd (let apart = kept.opening in cc)
  processes_kept (File a) now post is kept = absurd cc
  processes_kept (Port a) now post is kept = absurd cc

  ports_kept : (was now : OneManager D) (post : Post PortState) → place_of was ≡ Ports post → IsKept decides was now
      → (after : Post PortState) × (place_of now ≡ Ports after) × (after.phase ≡ post.phase)
  ports_kept (Port a) (Port b) post is kept = (_, refl, kept.served.phase ∙ ap phase is)
  ports_kept (Port a) (File b) post is kept = absurd (let apart = kept.opening in cc)
  ports_kept (Port a) (Process b) post is kept = absurd (let apart = kept.opening in cc)
  ports_kept (File a) now post is kept = absurd cc
  ports_kept (Process a) now post is kept = absurd cc

  -- after an act at one of them
  pub acted_session : (server : ServerView D) (managers after : List (OneManager D)) (reached : ℕ) (of : Manager) (was now : OneManager D)
      → IsSession (record { server = server; managers = managers; reached = reached })
      → slice_get managers (number_of of) ≡ Some was → after ≡ slice_set managers (number_of of) now → IsKept decides was now
      → IsSession (record { server = server; managers = after; reached = reached })
  acted_session server managers after reached manager.File was now s there is kept =
      let here : was ≡ s.file = let found = rw s.managers_are at there in cc in
      let got = files_kept was now s.files (ap place_of here ∙ s.files_are) kept in
      record {
        file = now;
        process = s.process;
        port = s.port;
        managers_are = is ∙ ap (λ ms. slice_set ms 0 now) s.managers_are;
        files = got.0;
        files_are = got.1;
        processes = s.processes;
        processes_are = s.processes_are;
        ports = s.ports;
        ports_are = s.ports_are;
        file_decider = kept.decider ∙ ap decider_of here ∙ s.file_decider;
        process_decider = s.process_decider;
        port_decider = s.port_decider;
        most = s.most;
        changing = λ whole. s.changing whole ∙ ap (λ p. pending_at p s.processes.phase s.ports.phase) (sym got.2);
      }
  acted_session server managers after reached manager.Process was now s there is kept =
      let here : was ≡ s.process = let found = rw s.managers_are at there in cc in
      let got = processes_kept was now s.processes (ap place_of here ∙ s.processes_are) kept in
      record {
        file = s.file;
        process = now;
        port = s.port;
        managers_are = is ∙ ap (λ ms. slice_set ms 1 now) s.managers_are;
        files = s.files;
        files_are = s.files_are;
        processes = got.0;
        processes_are = got.1;
        ports = s.ports;
        ports_are = s.ports_are;
        file_decider = s.file_decider;
        process_decider = kept.decider ∙ ap decider_of here ∙ s.process_decider;
        port_decider = s.port_decider;
        most = s.most;
        changing = λ whole. s.changing whole ∙ ap (λ p. pending_at s.files.phase p s.ports.phase) (sym got.2);
      }
  acted_session server managers after reached manager.Port was now s there is kept =
      let here : was ≡ s.port = let found = rw s.managers_are at there in cc in
      let got = ports_kept was now s.ports (ap place_of here ∙ s.ports_are) kept in
      record {
        file = s.file;
        process = s.process;
        port = now;
        managers_are = is ∙ ap (λ ms. slice_set ms 2 now) s.managers_are;
        files = s.files;
        files_are = s.files_are;
        processes = s.processes;
        processes_are = s.processes_are;
        ports = got.0;
        ports_are = got.1;
        file_decider = s.file_decider;
        process_decider = s.process_decider;
        port_decider = kept.decider ∙ ap decider_of here ∙ s.port_decider;
        most = s.most;
        changing = λ whole. s.changing whole ∙ ap (λ p. pending_at s.files.phase s.processes.phase p) (sym got.2);
      }

  -- each act keeps its manager
  same_kept : (was now : OneManager D) → now ≡ was → IsKept decides was now
  same_kept was now same = record { decider = ap decider_of same; opening = ap opening_of same; served = stayed_seen decides was now same }

  pub done_kept : (client : ℕ) (was now : OneManager D) (done : Act) (said : Result (Unit {0}) Memory) → HasDone decides client was done now said → IsKept decides was now
  done_kept client was now (act.Call mark asks) (Ok called) did = did.kept
  done_kept client was now (act.Call mark asks) (Err memory) did = same_kept was now did
  done_kept client was now act.Begin (Ok begun) did = did.kept
  done_kept client was now act.Begin (Err memory) did = absurd did
  done_kept client was now act.End (Ok ended) did = did.kept
  done_kept client was now act.End (Err memory) did = absurd did

  -- after a client's act
  pub served_session : (led after : Led D (OneManager D)) (of : Manager) (number client : ℕ) (done : Act) (said : Result (Unit {0}) Memory) → IsSession led → number ≡ number_of of
      → HasServed (λ was now. HasDone decides client was done now said) led.managers after.managers number
      → after.server ≡ led.server → after.reached ≡ led.reached → IsSession after
  served_session led after of number client done said s at served server reached =
      rw (server, reached) (acted_session led.server led.managers after.managers led.reached of served.was served.now s
      (rw at at served.there) (rw at at served.managers) (done_kept client served.was served.now done said served.done))

  -- where the session stands after a client's call, with its denial counted
  pub called_state : (led after : Led D (OneManager D)) (number client mark : ℕ) (asks : Call) (calls denied completed counted : ℕ) → IsSession led → number ≡ number_of (manager_of asks)
      → HasServed (λ was now. HasCalled decides client mark was asks now) led.managers after.managers number
      → counted ≡ counted_denial (denial_in (told_to (decides led.server.decider) (session_state_of led.managers calls denied completed) client asks).answer) denied
      → session_state_of after.managers (calls + 1) counted completed ≡ state_called (decides led.server.decider) (session_state_of led.managers calls denied completed) client asks
  called_state led after number client mark (call.File asks) calls denied completed counted s at served counted_is =
      let here : served.was ≡ s.file = let found = rw (at, s.managers_are) at served.there in cc in
      let now_is : place_of served.now ≡ after_call (decides led.server.decider) (Files s.files) client (call.File asks) = rw (here, s.file_decider, s.files_are) at served.done.place in
      let are : after.managers ≡ served.now ∷ s.process ∷ s.port ∷ [] = rw (at, s.managers_are) at served.managers in
      rw (counted_is, are, s.managers_are, now_is, s.files_are, s.processes_are, s.ports_are) refl
  called_state led after number client mark (call.Process asks) calls denied completed counted s at served counted_is =
      let here : served.was ≡ s.process = let found = rw (at, s.managers_are) at served.there in cc in
      let now_is : place_of served.now ≡ after_call (decides led.server.decider) (Processes s.processes) client (call.Process asks) = rw (here, s.process_decider, s.processes_are) at served.done.place in
      let are : after.managers ≡ s.file ∷ served.now ∷ s.port ∷ [] = rw (at, s.managers_are) at served.managers in
      rw (counted_is, are, s.managers_are, now_is, s.files_are, s.processes_are, s.ports_are) refl
  called_state led after number client mark (call.Port asks) calls denied completed counted s at served counted_is =
      let here : served.was ≡ s.port = let found = rw (at, s.managers_are) at served.there in cc in
      let now_is : place_of served.now ≡ after_call (decides led.server.decider) (Ports s.ports) client (call.Port asks) = rw (here, s.port_decider, s.ports_are) at served.done.place in
      let are : after.managers ≡ s.file ∷ s.process ∷ served.now ∷ [] = rw (at, s.managers_are) at served.managers in
      rw (counted_is, are, s.managers_are, now_is, s.files_are, s.processes_are, s.ports_are) refl

-- a denial is counted as one of the calls
pub counted_few : {A : Type 0} (denial : Option A) (denied calls : ℕ) → denied ≤ calls → counted_denial denial denied ≤ calls + 1
counted_few None denied calls few = omega (arith, few)
counted_few (Some one) denied calls few = omega (arith, few)

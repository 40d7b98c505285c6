use Rattle.std.proofs.Common.{List, true, ◌≡◌, ◌++◌, [], map, length, refl, sym, subst, ap, ◌∙◌, arith}
use Rattle.std.specs.Prelude.{All, is_ok}
use Rattle.std.specs.List.{AllZip, list_all}
use Rattle.run_histories.specs.Histories.{AreOfRun}
use Rattle.run_histories.specs.Audits.{IsLogOf}
use Rattle.audit_queue.specs.Pens.{Taken}
use Rattle.thread_run.specs.declared.clients.Slot.{Slot}
use Rattle.thread_run.specs.Workers.{MayWork, MayPost, HasWorked, HasPosted}
use Rattle.thread_run.proofs.Lists.{zip_weaker}
use Rattle.thread_run.proofs.Outcome.{all_may_work, all_may_leave, are_manned, are_of_queue, all_slots, ran_whole, was_run}
use Rattle.thread_run.proofs.Left.{of_left}
use Rattle.thread_run.proofs.Logged.{is_log}
use Rattle.thread_run.proofs.run.run_on_threads.Goals as goal

pub run_workers-requires-clause-clients : goal.run_workers-requires-clause-clients
run_workers-requires-clause-clients g c κs within =
    subst (All (λ (slot : Slot _). MayWork g.D.Decider.decides c.args.prepared.stations slot × MayPost c.in_ok-queue.queue slot)) (sym c.in_ok-slots.ensures.slots)
    (all_may_work g.D.Decider.decides c.args.prepared c.requires c.in_ok-queue.queue)

pub close-closed-requires-clause-clients : goal.close-closed-requires-clause-clients
close-closed-requires-clause-clients g c =
    let worked = subst (λ (l : List (Slot _)). AllZip (λ was now. HasWorked c.args.prepared.stations was now × HasPosted c.args.audit.now was now) l c.in_ok-worked.worked.slots.items)
    c.in_ok-slots.ensures.slots c.in_ok-worked.ensures.clients in
    all_may_leave g.D.Decider.decides c.args.prepared c.requires c.in_ok-queue.queue c.in_ok-worked.worked.slots.items
    (zip_weaker (λ (was now : Slot _). HasWorked c.args.prepared.stations was now × HasPosted c.args.audit.now was now) (HasWorked c.args.prepared.stations) (λ was now both. both.0) _ c.in_ok-worked.worked.slots.items worked)
    c.in_ok-worked.worked.admins c.in_ok-worked.ensures.admins

pub close-closed-requires-clause-pens : goal.close-closed-requires-clause-pens
close-closed-requires-clause-pens g c =
    let worked = subst (λ (l : List (Slot _)). AllZip (λ was now. HasWorked c.args.prepared.stations was now × HasPosted c.args.audit.now was now) l c.in_ok-worked.worked.slots.items)
    c.in_ok-slots.ensures.slots c.in_ok-worked.ensures.clients in
    are_of_queue g.D.Decider.decides c.args.prepared c.requires c.in_ok-queue.queue c.args.audit.now c.in_ok-worked.worked.slots.items worked

pub close-closed-requires-clause-admins : goal.close-closed-requires-clause-admins
close-closed-requires-clause-admins g c =
    let worked = subst (λ (l : List (Slot _)). AllZip (λ was now. HasWorked c.args.prepared.stations was now × HasPosted c.args.audit.now was now) l c.in_ok-worked.worked.slots.items)
    c.in_ok-slots.ensures.slots c.in_ok-worked.ensures.clients in
    are_manned g.D.Decider.decides c.args.prepared c.requires c.in_ok-queue.queue c.in_ok-worked.worked.slots.items
    (zip_weaker (λ (was now : Slot _). HasWorked c.args.prepared.stations was now × HasPosted c.args.audit.now was now) (HasWorked c.args.prepared.stations) (λ was now both. both.0) _ c.in_ok-worked.worked.slots.items worked)
    c.in_ok-worked.worked.admins c.in_ok-worked.ensures.admins

pub returns-clause-of_run : goal.returns-clause-of_run
returns-clause-of_run g c = of_left _ _ _ _ _ c.left_by.result (λ ran closed log all ended session is.
    let walked = ran_whole c.in_ok-worked.worked.ended ended c.in_ok-worked.ensures.walked in
    let worked = subst (λ (l : List (Slot _)). AllZip (λ was now. HasWorked c.args.prepared.stations was now × HasPosted c.args.audit.now was now) l c.in_ok-worked.worked.slots.items)
    c.in_ok-slots.ensures.slots c.in_ok-worked.ensures.clients in
    let alone = zip_weaker (λ (was now : Slot _). HasWorked c.args.prepared.stations was now × HasPosted c.args.audit.now was now) (HasWorked c.args.prepared.stations) (λ was now both. both.0) _ c.in_ok-worked.worked.slots.items worked in
    let whole : list_all (λ (slot : Slot _). is_ok slot.ended) c.in_ok-worked.worked.slots.items ≡ true = (rw c.as_slice.ensures.value at (sym c.have_all_run-whole.ensures)) ∙ all in
    rw closed (subst (λ (d : _). AreOfRun (g.D.Decider.decides d) session c.close-closed.result.files.history c.close-closed.result.processes.history c.close-closed.result.ports.history)
    c.requires.staff.stations_are.files.decider_is
    (c.close-closed.ensures.of_run session walked.chosen
    (was_run g.D.Decider.decides c.args.prepared c.requires c.in_ok-queue.queue c.in_ok-worked.worked.slots.items alone c.in_ok-worked.worked.admins c.in_ok-worked.ensures.admins session is whole walked))))
    c.left_by.ensures.closed c.left_by.ensures.log c.left_by.ensures.whole c.left_by.ensures.ended

pub returns-clause-log : goal.returns-clause-log
returns-clause-log g c = of_left _ _ _ _ _ c.left_by.result (λ ran closed log all ended session is rising.
    let worked = subst (λ (l : List (Slot _)). AllZip (λ was now. HasWorked c.args.prepared.stations was now × HasPosted c.args.audit.now was now) l c.in_ok-worked.worked.slots.items)
    c.in_ok-slots.ensures.slots c.in_ok-worked.ensures.clients in
    let alone = zip_weaker (λ (was now : Slot _). HasWorked c.args.prepared.stations was now × HasPosted c.args.audit.now was now) (HasWorked c.args.prepared.stations) (λ was now both. both.0) _ c.in_ok-worked.worked.slots.items worked in
    let whole : list_all (λ (slot : Slot _). is_ok slot.ended) c.in_ok-worked.worked.slots.items ≡ true = (rw c.as_slice.ensures.value at (sym c.have_all_run-whole.ensures)) ∙ all in
    let made = c.slots_of.ensures.taker ∙ ap (λ (taker : Taken). record taker { made = c.slots_of.new.taker.made }) c.in_ok-queue.ensures in
    let drained = rw log at c.drained-log.ensures in
    let logged : IsLogOf c.args.audit.now.policy.now c.args.audit.now.contexts.now c.close-closed.result.files.history c.close-closed.result.processes.history c.close-closed.result.ports.history
    c.args.audit.now.printed (length session.clients) session.lines ran.log =
    is_log g.D.Decider.decides c.args.prepared c.requires c.in_ok-queue.queue c.args.audit.now session is rising c.in_ok-worked.worked.slots.items worked whole c.close-closed.result.files.history
    c.close-closed.result.processes.history c.close-closed.result.ports.history c.close-closed.ensures.calls c.close-closed.new.taker ran.log
    (ap (λ (taker : Taken). taker.kept) c.close-closed.ensures.taker ∙ ap (λ (taker : Taken). taker.kept ++ map (λ (slot : Slot _). record { pen = slot.pen.number; lines = slot.pen.lines }) c.in_ok-worked.worked.slots.items) made)
    (ap (λ (taker : Taken). taker.clients) c.close-closed.ensures.taker ∙ ap (λ (taker : Taken). taker.clients) made ∙ omega (arith, c.len-clients.ensures, c.args.prepared.seats.ok, is.clients))
    (all_slots g.D.Decider.decides c.args.prepared c.requires c.in_ok-queue.queue c.in_ok-worked.worked.slots.items alone ∙ is.clients) drained in
    rw closed logged)
    c.left_by.ensures.closed c.left_by.ensures.log c.left_by.ensures.whole c.left_by.ensures.ended

use Rattle.std.proofs.Common.{◌≡◌, ◌+◌, ◌++◌, ℕ, List, length, arith, ap, subst, sym, refl, ◌∙◌}
use Rattle.std.specs.Prelude.{All}
use Rattle.std.specs.Vec.Iter.{into_iter_items}
use Rattle.session_text.specs.declared.session.RunLine.{RunLine}
use Rattle.audit_log.specs.declared.audited.AuditLine.{AuditLine}
use Rattle.audit_queue.specs.Pens.{Posted}
use Rattle.client_script.specs.Clients.{IsFormedFor, standings_of}
use Rattle.client_script.specs.Underway.{AreAlong, IsPosted}
use Rattle.client_script.proofs.Steps.{all_first, all_line, all_last, all_so_far, all_stopped, stopped_of, all_of, no_lines, rest_of, on_err_of}
use Rattle.client_script.proofs.Posted.{posted_first, posted_line, posted_last, own_client}
use Rattle.client_script.proofs.script.run_lines.Goals as goal

pub lines-init : goal.lines-init
lines-init g c =
    let iterated = c.into_iter-line-iterator.ensures.into_iter_gives in
    rw (iterated.0)
    (record {
      seated = c.requires.seated;
      along = all_first c.args.pen.now.number c.args.lines.items (standings_of c.args.seats.now) c.requires.client c.requires.fresh c.requires.room;
      posted = posted_first c.args.worker.now.audit.now c.args.pen.now.number c.args.lines.items (standings_of c.args.seats.now) c.requires.fresh c.args.pen.now.lines c.requires.unused;
      queue = refl;
      number = refl;
      formed = c.requires.formed;
      counted = omega (arith, iterated.1, c.args.lines.ok);
    })

pub returns-in_err-asked-clause-err : goal.returns-in_err-asked-clause-err
returns-in_err-asked-clause-err g c =
    on_err_of _ _
    (all_stopped c.args.pen.now.number c.args.lines.items (into_iter_items c.next.new.self) c.in-Some.line (standings_of c.lines.seats) (standings_of c.run_line.new.seats)
    (subst (λ (left : List RunLine). AreAlong c.args.pen.now.number c.args.lines.items left (standings_of c.lines.seats)) c.in-Some.ensures.steps.0 c.lines.invariant.along) c.in_err-asked.ensures.err)

pub returns-in_err-asked-clause-client : goal.returns-in_err-asked-clause-client
returns-in_err-asked-clause-client g c =
    stopped_of c.args.pen.now.number c.args.lines.items (into_iter_items c.next.new.self) c.in-Some.line (standings_of c.lines.seats) (standings_of c.run_line.new.seats)
    (subst (λ (left : List RunLine). AreAlong c.args.pen.now.number c.args.lines.items left (standings_of c.lines.seats)) c.in-Some.ensures.steps.0 c.lines.invariant.along) c.in_err-asked.ensures.err

pub post_all-requires-clause-client : goal.post_all-requires-clause-client
post_all-requires-clause-client g c =
    let of = all_of c.args.pen.now.number c.args.lines.items (into_iter_items c.lines.line-iterator) (standings_of c.lines.seats) c.lines.invariant.along in
    let own = own_client c.args.worker.now.audit.now c.args.pen.now.number c.args.lines.items c.in-Some.line (standings_of c.lines.seats) (standings_of c.run_line.new.seats) of c.in_ok-asked.ensures.ok in
    subst (λ (n : ℕ). All (λ (one : AuditLine). one.client ≡ n) c.as_slice.result.now) (sym c.lines.invariant.number)
    (subst (All (λ (one : AuditLine). one.client ≡ c.args.pen.now.number)) (sym (c.as_slice.ensures ∙ c.in_ok-asked.ensures.told)) own)

pub returns-in_err-post_all-clause-err : goal.returns-in_err-post_all-clause-err
returns-in_err-post_all-clause-err g c =
    on_err_of _ _
    (all_so_far c.args.pen.now.number c.args.lines.items (into_iter_items c.next.new.self) (standings_of c.run_line.new.seats)
    (all_line c.args.pen.now.number c.args.lines.items (into_iter_items c.next.new.self) c.in-Some.line (standings_of c.lines.seats) (standings_of c.run_line.new.seats)
    (subst (λ (left : List RunLine). AreAlong c.args.pen.now.number c.args.lines.items left (standings_of c.lines.seats)) c.in-Some.ensures.steps.0 c.lines.invariant.along) c.in_ok-asked.ensures.ok))

pub returns-in_err-post_all-clause-client : goal.returns-in_err-post_all-clause-client
returns-in_err-post_all-clause-client g c =
    all_of c.args.pen.now.number c.args.lines.items (into_iter_items c.next.new.self) (standings_of c.run_line.new.seats)
    (all_line c.args.pen.now.number c.args.lines.items (into_iter_items c.next.new.self) c.in-Some.line (standings_of c.lines.seats) (standings_of c.run_line.new.seats)
    (subst (λ (left : List RunLine). AreAlong c.args.pen.now.number c.args.lines.items left (standings_of c.lines.seats)) c.in-Some.ensures.steps.0 c.lines.invariant.along) c.in_ok-asked.ensures.ok)

pub lines-preserved : goal.lines-preserved
lines-preserved g c =
    let kept = c.lines.invariant in
    let step = c.in-Some.ensures.steps in
    let behind : length (into_iter_items c.lines.line-iterator) ≡ length (into_iter_items c.next.new.self) + 1 = ap length step.0 ∙ omega arith in
    let of = all_of c.args.pen.now.number c.args.lines.items (into_iter_items c.lines.line-iterator) (standings_of c.lines.seats) kept.along in
    let asked = c.as_slice.ensures ∙ c.in_ok-asked.ensures.told in
    record {
      seated = c.run_line.ensures.seated;
      along = all_line c.args.pen.now.number c.args.lines.items (into_iter_items c.next.new.self) c.in-Some.line (standings_of c.lines.seats) (standings_of c.run_line.new.seats)
          (subst (λ (left : List RunLine). AreAlong c.args.pen.now.number c.args.lines.items left (standings_of c.lines.seats)) step.0 kept.along) c.in_ok-asked.ensures.ok;
      posted = posted_line c.args.worker.now.audit.now c.args.pen.now.number c.args.lines.items c.in-Some.line (into_iter_items c.next.new.self) (standings_of c.lines.seats) (standings_of c.run_line.new.seats)
          c.lines.pen.lines c.post_all.new.pen.lines of c.in_ok-asked.ensures.ok (ap (λ (pen : Posted). pen.lines) c.in_ok-post_all.ensures.ok ∙ ap (λ (l : List AuditLine). c.lines.pen.lines ++ l) asked)
          (subst (λ (left : List RunLine). IsPosted c.args.worker.now.audit.now c.args.pen.now.number c.args.lines.items left (standings_of c.lines.seats) c.lines.pen.lines) step.0 kept.posted);
      queue = c.post_all.ensures.queue ∙ kept.queue;
      number = c.post_all.ensures.number ∙ kept.number;
      formed = rest_of (λ (line : RunLine). IsFormedFor g.D.Decider.decides c.args.stations.now c.args.pen.now.number line.run) (into_iter_items c.lines.line-iterator) (into_iter_items c.next.new.self) c.in-Some.line
          step.0 kept.formed;
      counted = omega (arith, step.1, kept.counted, behind);
    }

pub returns-clause-ok : goal.returns-clause-ok
returns-clause-ok g c =
    let kept = c.lines.invariant in
    let none = no_lines (into_iter_items c.lines.line-iterator) (omega (arith, kept.counted, c.in-None.ensures.steps.0)) in
    all_last c.args.pen.now.number c.args.lines.items (standings_of c.lines.seats)
    (subst (λ (left : List RunLine). AreAlong c.args.pen.now.number c.args.lines.items left (standings_of c.lines.seats)) none kept.along)

pub returns-clause-posted : goal.returns-clause-posted
returns-clause-posted g c =
    let kept = c.lines.invariant in
    let none = no_lines (into_iter_items c.lines.line-iterator) (omega (arith, kept.counted, c.in-None.ensures.steps.0)) in
    posted_last c.args.worker.now.audit.now c.args.pen.now.number c.args.lines.items (standings_of c.lines.seats) c.lines.pen.lines
    (subst (λ (left : List RunLine). IsPosted c.args.worker.now.audit.now c.args.pen.now.number c.args.lines.items left (standings_of c.lines.seats) c.lines.pen.lines) none kept.posted)

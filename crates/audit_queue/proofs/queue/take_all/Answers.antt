use Rattle.std.proofs.Common.{◌≡◌, ap, refl, sym, ◌∙◌, length, Result, Ok, Err, List}
use Rattle.std.specs.Prelude.{OnErr}
use Rattle.audit_log.specs.Logs.{of_client, lines_by}
use Rattle.audit_log.specs.declared.audited.AuditLine.{AuditLine}
use Rattle.audit_queue.specs.declared.knowledge.Knowledge.{Knowledge}
use Rattle.audit_queue.specs.Delivery.{HasGot, IsTakenFront}
use Rattle.audit_queue.specs.Pens.{knows}
use Rattle.audit_queue.proofs.DeliveryLemmas.{gets, learns}
use Rattle.audit_queue.proofs.DrainLemmas.{of_blank, blank_fronts, HasGotAll, got_more, unmade_more, fronts_more, taken_all}
use Rattle.audit_queue.proofs.queue.take_all.Goals as goal

-- what holds anyway holds after an error
on_err : {T E : Type 0} (result : Result T E) (fact : Type 0) → fact → OnErr result fact
on_err (Ok value) fact is = tt
on_err (Err why) fact is = is

pub left-init : goal.left-init
left-init g c = record {
  queue = c.requires.queue;
  taking = c.requires.taking;
  kept = refl;
  made = refl;
  logged = λ client. ap (λ log. of_client log client) c.requires.empty ∙ of_blank (length c.args.log.now) client ∙ sym (ap (lines_by client) c.requires.begun);
  unmade = λ client above. ap (λ log. of_client log client) c.requires.empty ∙ of_blank (length c.args.log.now) client;
  fronts = blank_fronts (knows c.args.taker) (length c.args.log.now) c.args.log.now c.requires.empty;
  clients = refl;
}

pub pop_as-requires-clause-rule : goal.pop_as-requires-clause-rule
pop_as-requires-clause-rule g c = (gets _ _ c.left.invariant.taking.takes c.left.invariant.taking.posts, learns _ _ c.left.invariant.taking.takes)

pub left-preserved : goal.left-preserved
left-preserved g c =
    let kept = c.left.invariant in
    let got = c.in-Some-pop_as.ensures.rule.0 in
    let put = c.in_ok-put-in-Some-pop_as.ensures in
    let logged : HasGotAll (knows c.pop_as.new.pass) c.put.new.self = got_more (knows c.left.pass) (knows c.pop_as.new.pass) c.in-Some-pop_as.line c.left.log c.put.new.self got kept.logged put.own put.others in
    record {
      queue = c.in-Some-pop_as.ensures.queue.0;
      taking = record {
        rest = (c.in-Some-pop_as.ensures.queue.0.1, c.in-Some-pop_as.ensures.queue.0.2);
        posts = ap (λ (v : Knowledge). v.posts) got.0 ∙ kept.taking.posts;
        takes = ap (λ (v : Knowledge). v.takes) got.0 ∙ kept.taking.takes;
        made_is = refl;
      };
      kept = ap (λ (v : Knowledge). v.kept) got.0 ∙ kept.kept;
      made = ap (λ (v : Knowledge). v.made) got.0 ∙ kept.made;
      logged = logged;
      unmade = unmade_more (knows c.left.pass) (knows c.pop_as.new.pass) (knows c.args.taker).made c.in-Some-pop_as.line c.left.log c.put.new.self got kept.made kept.unmade put.others;
      fronts = fronts_more (knows c.left.pass) (knows c.pop_as.new.pass) (knows c.args.taker) c.in-Some-pop_as.line c.put.new.self got kept.kept logged;
      clients = put.clients ∙ kept.clients;
    }

pub returns-in_err-put-in-Some-pop_as-clause-err : goal.returns-in_err-put-in-Some-pop_as-clause-err
returns-in_err-put-in-Some-pop_as-clause-err g c =
    on_err c.from_residual.result _ (rw c.in_err-put-in-Some-pop_as.ensures.err c.left.invariant.fronts)

use Rattle.std.proofs.Common.{List, ℕ, length, subst, sym, ap, ◌∙◌}
use Rattle.std.specs.Prelude.{OnOk, OnErr}
use Rattle.flask_io.specs.Streams.{Adds}
use Rattle.flask_sid.specs.declared.context.ContextOf.{ContextOf}
use Rattle.policy_versions.specs.Compiling.{sids_of, decides_of}
use Rattle.session_text.proofs.SessionLemmas.{few_clients}
use Rattle.run_output.specs.Writing.{AddsFront}
use Rattle.flaskd_run.specs.Threads.{text_of}
use Rattle.session_runner.proofs.OpeningLemmas.{declared_known, openings_known}
use Rattle.flaskd_run.proofs.TopLemmas.{threads_writes}
use Rattle.flaskd_run.proofs.top.run_threads.Goals as goal

pub run_to_end-requires-clause-openings : goal.run_to_end-requires-clause-openings
run_to_end-requires-clause-openings g c κs within =
    openings_known c.into_parts.result (decides_of c.args.catalogue.now)
    (rw (← c.into_parts.ensures.value) at c.into_parts.ensures.kept)
    (declared_known c.into_parts.result.policy (sids_of c.args.catalogue.now) (decides_of c.args.catalogue.now)
    (rw (← c.into_parts.ensures.value) at c.requires.judged.1) (rw (← c.into_parts.ensures.value) at c.requires.decides))

pub run_to_end-requires-clause-known : goal.run_to_end-requires-clause-known
run_to_end-requires-clause-known g c κs within =
    declared_known c.into_parts.result.policy (sids_of c.args.catalogue.now) (decides_of c.args.catalogue.now)
    (rw (← c.into_parts.ensures.value) at c.requires.judged.1) (rw (← c.into_parts.ensures.value) at c.requires.decides)

pub write_ended-written-requires-clause-few : goal.write_ended-written-requires-clause-few
write_ended-written-requires-clause-few g c κs within =
    let kept = rw (← c.into_parts.ensures.value) at c.into_parts.ensures.kept in
    rw c.in_ok-ended.ensures.ended.clients_are (few_clients c.into_parts.result kept)

pub write_ended-written-requires-clause-log : goal.write_ended-written-requires-clause-log
write_ended-written-requires-clause-log g c κs within =
    c.in_ok-ended.ensures.log.count ∙ sym (ap length c.in_ok-ended.ensures.ended.clients_are)

pub returns-clause-writes : goal.returns-clause-writes
returns-clause-writes g c =
    let d = decides_of c.args.catalogue.now in
    threads_writes c.write_ended-written.result c.args.session c.into_parts.result (sids_of c.args.catalogue.now) d c.in_ok-ended.ended
    (g.K.Sink.written c.args.sink.now) (g.K.Sink.written c.write_ended-written.new.sink) c.into_parts.ensures.value c.requires.decides c.in_ok-ended.ensures.ended
    (subst (λ (contexts : List (ContextOf (List ℕ))). OnOk c.write_ended-written.result (Adds (g.K.Sink.written c.args.sink.now) (g.K.Sink.written c.write_ended-written.new.sink) (text_of contexts c.into_parts.result c.in_ok-ended.ended)))
    c.sids-contexts.ensures (c.write_ended-written.ensures.ok d c.into_parts.result c.in_ok-ended.ensures.ended c.in_ok-ended.ensures.log))
    (subst (λ (contexts : List (ContextOf (List ℕ))). OnErr c.write_ended-written.result (AddsFront (g.K.Sink.written c.args.sink.now) (g.K.Sink.written c.write_ended-written.new.sink) (text_of contexts c.into_parts.result c.in_ok-ended.ended)))
    c.sids-contexts.ensures (c.write_ended-written.ensures.err d c.into_parts.result c.in_ok-ended.ensures.ended c.in_ok-ended.ensures.log))

use Rattle.std.proofs.Common.{◌≡◌, Err, refl, subst}
use Rattle.policy_model.specs.declared.policy.PolicyParts.{PolicyParts}
use Rattle.policy_versions.specs.Compiling.{IsAnswer, sids_of}
use Rattle.flaskd_run.specs.Tasks.{policy_in, Writes}
use Rattle.run_output.specs.declared.stop.RunStop.{RunStop}
use Rattle.run_output.specs.declared.stop.RunStop.TheVariants as run_stop
use Rattle.flaskd_run.proofs.TopLemmas.{refused_policy, ok_served, failed_served, cut_served}
use Rattle.flaskd_run.proofs.top.serve.Goals as goal

pub returns-in-Err-clause-served : goal.returns-in-Err-clause-served
returns-in-Err-clause-served g c =
    rw c.in-Ok.ensures
    (refused_policy c.in-Ok.task (policy_in c.in-Ok.task) c.in-Err.fault c.refused.result _
    refl (subst (λ (policy : PolicyParts). IsAnswer policy (Err c.in-Err.fault)) c.policy.ensures c.in-Err.ensures) (rw (c.parts.ensures.parts, c.policy-in-Err.ensures) at c.refused.ensures))

pub returns-in-Ok-write-clause-served : goal.returns-in-Ok-write-clause-served
returns-in-Ok-write-clause-served g c =
    rw c.in-Ok.ensures (ok_served c.in-Ok.task (sids_of c.in-Ok-compile.catalogue) _ _ (rw c.policy.ensures at c.in-Ok-compile.ensures.judged) c.in-Ok-write.ensures.writes)

pub returns-in-Err-WriteFault-clause-served : goal.returns-in-Err-WriteFault-clause-served
returns-in-Err-WriteFault-clause-served g c =
    let task = c.in-Ok.task in
    let contexts = sids_of c.in-Ok-compile.catalogue in
    let before = g.K.Sink.written c.args.sink.now in
    let after = g.K.Sink.written c.write.new.sink in
    let fault : c.in-Err-WriteFault.field-0 ≡ run_stop.WriteFault = c.in-Err-WriteFault.field-0-is in
    rw c.in-Ok.ensures
    (failed_served task contexts before after (rw c.policy.ensures at c.in-Ok-compile.ensures.judged)
    (subst (λ (stop : RunStop). Writes {A = Unit {0}} (Err stop) task contexts before after) fault c.in-Err-WriteFault.ensures.writes))

pub returns-clause-served : goal.returns-clause-served
returns-clause-served g c =
    let task = c.in-Ok.task in
    let contexts = sids_of c.in-Ok-compile.catalogue in
    let before = g.K.Sink.written c.args.sink.now in
    let after = g.K.Sink.written c.write.new.sink in
    let memory : c.in-Err-Memory-write.field-0 ≡ run_stop.Memory = c.in-Err-Memory-write.field-0-is in
    rw c.in-Ok.ensures
    (cut_served task contexts before after (rw c.policy.ensures at c.in-Ok-compile.ensures.judged)
    (subst (λ (stop : RunStop). Writes {A = Unit {0}} (Err stop) task contexts before after) memory c.in-Err-Memory-write.ensures.writes))

use Rattle.std.proofs.Common.{◌≡◌, ◌++◌, codes}
use Rattle.std.proofs.lemmas.Result.{IfErr-weaker}
use Rattle.run_output.proofs.PartLemmas.{cut_first, cut_last}
use Rattle.run_output.proofs.Outcomes.{on_err_always}
use Rattle.grant_print.specs.Printed.{grants_text}
use Rattle.grant_print.proofs.grants.write_learned.Goals as goal

pub returns-in_err-write_grants-clause-err : goal.returns-in_err-write_grants-clause-err
returns-in_err-write_grants-clause-err g c =
    on_err_always _ _
    (cut_first _ _ (grants_text c.args.policy.now (codes "allow") c.args.learned.now.allow) (grants_text c.args.policy.now (codes "refused") c.args.learned.now.refused)
    (rw c.as_slice.ensures at c.in_err-write_grants.ensures.err))

pub returns-clause-err : goal.returns-clause-err
returns-clause-err g c =
    IfErr-weaker c.write_grants-2.result _ _
    (λ stop cut. cut_last _ _ _ (grants_text c.args.policy.now (codes "allow") c.args.learned.now.allow) (grants_text c.args.policy.now (codes "refused") c.args.learned.now.refused)
    (rw c.as_slice.ensures at c.in_ok-write_grants.ensures.ok) (rw c.as_slice-2.ensures at cut))
    c.write_grants-2.ensures.err

use Rattle.policy_versions.specs.Compiling.{sids_of}
use Rattle.flaskd_run.proofs.TopLemmas.{path_writes}
use Rattle.flaskd_run.proofs.top.answer.Goals as goal

pub returns-clause-writes : goal.returns-clause-writes
returns-clause-writes g c =
    path_writes c.write_found.result c.args.policy.now c.parts.result.now (sids_of c.args.catalogue.now) c.args.kind c.args.asked.now c.in_ok-found.found _ _
    c.parts.ensures.parts c.in_ok-found.ensures c.write_found.ensures.ok c.write_found.ensures.err

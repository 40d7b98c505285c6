use Rattle.policy_print.proofs.PrintedLaws.{version_from}
use Rattle.policy_print.proofs.rules.put_version.Goals as goal

pub returns-clause-ok : goal.returns-clause-ok
returns-clause-ok c = rw (version_from c.args.out.now c.args.version.now, ← c.in_ok-extend.ensures.ok, ← c.as_slice.ensures) c.put_rules.ensures.ok

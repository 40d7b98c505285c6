use Rattle.policy_versions.proofs.TableLemmas.{all_given}
use Rattle.policy_versions.proofs.given.GivenRows.compile.Goals as goal

pub returns : goal.returns
returns c = all_given c.args.policy.now (record { transitions = c.in_ok-transitions.transitions; members = c.in_ok-members.members }) c.in_ok-transitions.ensures c.in_ok-members.ensures

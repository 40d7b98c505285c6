use Rattle.std.proofs.Common.{◌≡◌, length}
use Rattle.policy_versions.specs.Compiling.{sids_of}
use Rattle.flow_query.proofs.NodeLemmas.{MarksBelow}
use Rattle.flow_query.proofs.nodes.marks_of.Given as goal

abbrev pub invariant-contexts : goal.invariant-contexts
invariant-contexts l = record {
  long : length l.marks ≡ 128;
  below : MarksBelow l.policy (sids_of l.catalogue) l.place l.marks;
}

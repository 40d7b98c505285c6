use Rattle.std.proofs.Common.{◌≡◌, true, length}
use Rattle.policy_versions.specs.Judging.{is_asked}
use Rattle.policy_versions.specs.Tables.{decisions_by}
use Rattle.policy_versions.proofs.JudgingLemmas.{asked_from}
use Rattle.policy_versions.proofs.catalogue.CatalogueDecider.vector.Goals as goal

pub returns : goal.returns
unfolding decisions_by
returns c =
    let asked : is_asked c.args.self.now.versions (length c.args.self.now.contexts.sids) c.args.ver c.args.s c.args.t ≡ true = asked_from _ _ _ _ _ c.requires.version c.requires.source c.requires.target in
    rw asked (rw (c.kind.ensures, c.kind-2.ensures) at c.cell.ensures)

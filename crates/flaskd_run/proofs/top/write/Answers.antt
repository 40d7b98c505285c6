use Rattle.policy_versions.specs.Compiling.{IsCatalogueOf, sids_of, decides_of}
use Rattle.session_runner.proofs.OpeningLemmas.{declared_known}
use Rattle.flaskd_run.proofs.TopLemmas.{serial_writes, summary_writes}
use Rattle.flaskd_run.proofs.top.write.Goals as goal

pub serial-requires-clause-known : goal.serial-requires-clause-known
serial-requires-clause-known g c =
    let of : IsCatalogueOf c.in-Serial.session.policy c.args.catalogue.now = rw c.in-Serial.is at c.requires in
    declared_known c.into_parts.result.policy (sids_of c.args.catalogue.now) (decides_of c.args.catalogue.now)
    (rw (← c.into_parts.ensures.value) at of.judged.1) (rw (← c.into_parts.ensures.value) at of.decides)

pub returns-in-Serial-clause-writes : goal.returns-in-Serial-clause-writes
returns-in-Serial-clause-writes g c =
    let of : IsCatalogueOf c.in-Serial.session.policy c.args.catalogue.now = rw c.in-Serial.is at c.requires in
    rw c.in-Serial.is (serial_writes c.serial.result c.in-Serial.session c.into_parts.result (sids_of c.args.catalogue.now) (decides_of c.args.catalogue.now) _ _
    c.into_parts.ensures.value of.decides (rw c.sids-contexts.ensures at c.serial.ensures.ok) (rw c.sids-contexts.ensures at c.serial.ensures.err))

pub summary-requires-clause-known : goal.summary-requires-clause-known
summary-requires-clause-known g c =
    let of : IsCatalogueOf c.in-Summary.session.policy c.args.catalogue.now = rw c.in-Summary.is at c.requires in
    declared_known c.into_parts-in-Summary.result.policy (sids_of c.args.catalogue.now) (decides_of c.args.catalogue.now)
    (rw (← c.into_parts-in-Summary.ensures.value) at of.judged.1) (rw (← c.into_parts-in-Summary.ensures.value) at of.decides)

pub returns-in-Summary-clause-writes : goal.returns-in-Summary-clause-writes
returns-in-Summary-clause-writes g c =
    let of : IsCatalogueOf c.in-Summary.session.policy c.args.catalogue.now = rw c.in-Summary.is at c.requires in
    rw c.in-Summary.is (summary_writes c.summary.result c.in-Summary.session c.into_parts-in-Summary.result (sids_of c.args.catalogue.now) (decides_of c.args.catalogue.now) _ _
    c.into_parts-in-Summary.ensures.value of.decides c.summary.ensures.ok c.summary.ensures.err)

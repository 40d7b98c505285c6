use Rattle.std.proofs.Common.{ap, ◌∙◌}
use Rattle.std.specs.FinMap as maps
use Rattle.station_start.proofs.Empty.{entries_empty}
use Rattle.station_start.proofs.opening.start.Goals as goal

pub open-requires-clause-fits : goal.open-requires-clause-fits
open-requires-clause-fits g c =
    c.in_ok-files.ensures.fits (g.D.Decider.decides c.args.decider.now) (g.met.D.Decider.closed c.args.decider.now).some_version c.requires.openings.files

pub open-requires-clause-unused : goal.open-requires-clause-unused
open-requires-clause-unused g c = ap maps.entries c.in_ok-files.ensures.follows ∙ entries_empty

pub open-requires-2-clause-fits : goal.open-requires-2-clause-fits
open-requires-2-clause-fits g c =
    c.new-processes.ensures.fits (g.D.Decider.decides c.args.decider.now) (g.met.D.Decider.closed c.args.decider.now).some_version c.requires.openings.processes

pub open-requires-2-clause-unused : goal.open-requires-2-clause-unused
open-requires-2-clause-unused g c = ap maps.entries c.new-processes.ensures.follows ∙ entries_empty

pub open-requires-3-clause-fits : goal.open-requires-3-clause-fits
open-requires-3-clause-fits g c =
    c.new-ports.ensures.fits (g.D.Decider.decides c.args.decider.now) (g.met.D.Decider.closed c.args.decider.now).some_version c.requires.openings.ports

pub open-requires-3-clause-unused : goal.open-requires-3-clause-unused
open-requires-3-clause-unused g c = ap maps.entries c.new-ports.ensures.follows ∙ entries_empty

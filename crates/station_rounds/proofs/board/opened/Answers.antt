use Rattle.std.proofs.Common.{ap, ◌∙◌}
use Rattle.std.specs.FinMap as maps
use Rattle.retained_rights.specs.Rights.{follows_of}
use Rattle.station_rounds.proofs.Empty.{entries_empty}
use Rattle.station_rounds.proofs.board.opened.Goals as goal

pub new-requires-clause-unused : goal.new-requires-clause-unused
new-requires-clause-unused c = ap (λ (k : _). maps.entries (follows_of k.core.rights)) c.new-keeper.ensures ∙ (ap maps.entries c.new-core.ensures.follows ∙ entries_empty)

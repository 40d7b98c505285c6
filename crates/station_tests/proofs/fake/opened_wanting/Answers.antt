use Rattle.std.proofs.Common.{ap, ◌∙◌}
use Rattle.std.specs.FinMap as maps
use Rattle.retained_rights.specs.Rights.{follows_of}
use Rattle.station_tests.proofs.Empty.{entries_empty}
use Rattle.station_tests.proofs.fake.opened_wanting.Goals as goal

pub new-requires-2-clause-unused : goal.new-requires-2-clause-unused
new-requires-2-clause-unused c = ap (λ (k : _). maps.entries (follows_of k.core.rights)) c.new-keeper.ensures ∙ (ap maps.entries c.new.ensures.follows ∙ entries_empty)

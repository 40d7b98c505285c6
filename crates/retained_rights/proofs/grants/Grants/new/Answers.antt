use Rattle.std.proofs.Common.{refl}
use Rattle.slot_tables.specs.Words.{places, places_from}
use Rattle.retained_rights.proofs.grants.Grants.new.Goals as goal

pub returns : goal.returns
unfolding places places_from
returns g c = rw (c.new.ensures, c.new-2.ensures) refl

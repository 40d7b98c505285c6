-- Rights that are held in slots may cross threads.
use denote.RattleType.{RattleType}
use denote.Param.Send.{IsSend, IsSync, sendable}
use Rattle.std.proofs.Crossing.{crosses}
use Rattle.std.proofs.MapsCrossing as maps
use Rattle.retained_rights.specs.declared.rule.Callback as callback
use Rattle.slot_tables.specs.contracts.place_index.PlaceIndex as place_index
use Rattle.slot_tables.specs.contracts.place_set.PlaceSet as place_set
use Rattle.slot_tables.specs.contracts.table.Table as table
use Rattle.retained_rights.specs.contracts.grants.Grants as grants
use Rattle.retained_rights.specs.contracts.grant.Grant as grant
use Rattle.retained_rights.specs.contracts.store.Store as store
use Rattle.retained_rights.specs.contracts.ruled.Ruled as ruled

pub place_index_send : IsSend place_index.the_row
place_index_send = search (sendable, crosses, maps.crosses) depth 60

pub place_set_send : IsSend place_set.the_row
place_set_send = search (sendable, crosses) depth 60

pub table_send : (T : RattleType) → IsSend T → IsSend (table.the_row T)
table_send T t = search (sendable, crosses) depth 60

grant_send : IsSend grant.the_row
grant_send = search (sendable, crosses) depth 60

store_send : IsSend store.the_row
store_send = let a = table_send grant.the_row grant_send in let b = place_set_send in let c = place_index_send in search (sendable, crosses) depth 60

ruled_send : (F : RattleType) (g : callback.Ghosts F.Denot) → IsSend F → IsSend (ruled.the_row F g)
ruled_send F g f = search (sendable, crosses) depth 60

pub grants_send : (F : RattleType) (g : callback.Ghosts F.Denot) → IsSend F → IsSend (grants.the_row F g)
grants_send F g f = let a = store_send in let b = ruled_send F g f in search (sendable, crosses) depth 60

-- Short lists, which lie in the value that owns them, may be shared by threads where their members may.
use denote.RattleType.{RattleType}
use denote.Param.Send.{IsSync, sendable}
use Rattle.std.proofs.Crossing.{crosses, sync}
use Rattle.std_heap.specs.contracts.Global as heap
use Rattle.std_heap.specs.contracts.GlobalAllocator.TheImpl.{ghosts}
use Rattle.arrayvec.specs.contracts.cells.Cells as cells
use Rattle.arrayvec.specs.contracts.array_vec.ArrayVec as array_vec
use Rattle.smallvec.specs.contracts.storage.Data as storage
use Rattle.smallvec.specs.contracts.small_vec.SmallVec as small_vec

cells_sync : (T N : RattleType) → IsSync T → IsSync (cells.the_row T N)
cells_sync T N t = search (sendable, crosses) depth 20

array_vec_sync : (T N A : RattleType) → IsSync T → IsSync A → IsSync (array_vec.the_row T N A)
array_vec_sync T N A t a = let c = cells_sync in search (sendable, crosses) depth 20

storage_sync : (T N : RattleType) → IsSync T → IsSync (storage.the_row T N heap.the_row ghosts)
storage_sync T N t = let h = sync in let v = array_vec_sync in search (sendable, crosses) depth 20

pub small_vec_sync : (T N : RattleType) → IsSync T → IsSync (small_vec.the_row T N heap.the_row ghosts)
small_vec_sync T N t = let s = storage_sync in search (sendable, crosses) depth 20

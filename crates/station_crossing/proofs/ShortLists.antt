-- Short lists, which lie in the value that owns them, may cross threads where their members may.
use denote.RattleType.{RattleType}
use denote.Param.Send.{IsSend, sendable}
use Rattle.std.proofs.Crossing.{crosses, send}
use Rattle.std_heap.specs.contracts.Global as heap
use Rattle.std_heap.specs.contracts.GlobalAllocator.TheImpl.{ghosts}
use Rattle.arrayvec.specs.contracts.cells.Cells as cells
use Rattle.arrayvec.specs.contracts.array_vec.ArrayVec as array_vec
use Rattle.smallvec.specs.contracts.storage.Data as storage
use Rattle.smallvec.specs.contracts.small_vec.SmallVec as small_vec

cells_send : (T N : RattleType) → IsSend T → IsSend (cells.the_row T N)
cells_send T N t = search (sendable, crosses) depth 20

array_vec_send : (T N A : RattleType) → IsSend T → IsSend A → IsSend (array_vec.the_row T N A)
array_vec_send T N A t a = let c = cells_send in search (sendable, crosses) depth 20

storage_send : (T N : RattleType) → IsSend T → IsSend (storage.the_row T N heap.the_row ghosts)
storage_send T N t = let h = send in let v = array_vec_send in search (sendable, crosses) depth 20

pub small_vec_send : (T N : RattleType) → IsSend T → IsSend (small_vec.the_row T N heap.the_row ghosts)
small_vec_send T N t = let s = storage_send in search (sendable, crosses) depth 20

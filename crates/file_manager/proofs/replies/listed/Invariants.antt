use Rattle.std.proofs.Common.{◌≡◌, take}
use Rattle.file_manager.proofs.replies.listed.Given as goal

abbrev pub invariant-loop-name : goal.invariant-loop-name
invariant-loop-name l = l.kept ≡ take l.name-index l.name-items

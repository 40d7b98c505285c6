use Rattle.std.proofs.Common.{◌≡◌, ◌++◌, take}
use Rattle.client_script.proofs.posting.post_all.Given as goal

abbrev pub invariant-lines : goal.invariant-lines
invariant-lines g l = l.pen ≡ record l.fn.pen { lines = l.fn.pen.lines ++ take l.line-index l.lines }

use Rattle.std.proofs.Common.{◌≡◌, take}
use Rattle.std.specs.List.{flat_map}
use Rattle.parallel_print.proofs.wording.text_of.Given as goal

abbrev pub invariant-items : goal.invariant-items
invariant-items g l = record { out_is : l.out ≡ flat_map (g.W.Wording.text l.wording) (take l.item-index l.items) }

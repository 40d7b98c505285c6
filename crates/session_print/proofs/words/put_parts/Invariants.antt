use Rattle.std.proofs.Common.{◌≡◌, ◌++◌, take}
use Rattle.std.specs.List.{flat_map}
use Rattle.session_print.specs.Words
use Rattle.session_print.proofs.words.put_parts.Given as goal

abbrev pub invariant-parts : goal.invariant-parts
invariant-parts l = l.out ≡ l.fn.out ++ flat_map Words.part_text (take l.part-index l.parts)

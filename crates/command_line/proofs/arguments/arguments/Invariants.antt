use Rattle.std.proofs.Common.{◌≡◌, true, take}
use Rattle.std.specs.List.{list_all}
use Rattle.command_line.specs.Arguments.{is_argument, texts}
use Rattle.command_line.proofs.arguments.arguments.Given as goal

abbrev pub invariant-words : goal.invariant-words
invariant-words l = (texts l.texts.items ≡ take l.word-index l.words) × (list_all is_argument (take l.word-index l.words) ≡ true)

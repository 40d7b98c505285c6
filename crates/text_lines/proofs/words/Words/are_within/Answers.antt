use Rattle.std.proofs.Common.{arith}
use Rattle.std.proofs.lemmas.Bool.Decides.{nat_tests}
use Rattle.text_lines.proofs.LineLemmas.{words_within}
use Rattle.text_lines.proofs.words.Words.are_within.Goals as goal

pub returns : goal.returns
returns c = λ yes. rw (← c.self.view_is) (words_within c.self.inside.rest.now c.args.most (grind (arith, nat_tests, yes)))

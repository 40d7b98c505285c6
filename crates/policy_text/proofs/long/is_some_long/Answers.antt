use Rattle.std.proofs.Common.{sym}
use Rattle.policy_text.proofs.LongLemmas.{none_long}
use Rattle.policy_text.proofs.long.is_some_long.Goals as goal

pub returns-then-are_within : goal.returns-then-are_within
returns-then-are_within c = sym (none_long c.args.words (c.are_within.ensures c.if-are_within.true))

use Rattle.policy_versions.proofs.BlockLemmas.{blank_cells}
use Rattle.policy_versions.proofs.block.Block.clear.Goals as goal

pub returns-then-not-self : goal.returns-then-not-self
returns-then-not-self c = λ s t within. blank_cells _ (c.args.self.now.blank c.if-not-self.true) s t within

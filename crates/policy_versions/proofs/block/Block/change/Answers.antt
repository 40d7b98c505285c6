use Rattle.policy_versions.proofs.BlockLemmas.{matched_rows, matched_own}
use Rattle.policy_versions.proofs.block.Block.change.Goals as goal

pub returns-in-Itself : goal.returns-in-Itself
returns-in-Itself c = λ policy kinds.
    matched_own policy c.args.source.now c.args.target.now _ c.args.change _ _ kinds.few kinds.apart (c.sources-sources.ensures policy kinds) c.in-Itself.is c.change_own.ensures

pub returns-in_default : goal.returns-in_default
returns-in_default c = λ policy kinds.
    matched_rows policy c.args.source.now c.args.target.now _ _ c.args.change _ _ kinds.few (c.sources-sources.ensures policy kinds) (c.sources.ensures policy kinds) c.in_default.not-Itself c.change_rows.ensures

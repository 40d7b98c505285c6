use Rattle.policy_versions.proofs.TableLemmas.{blank_stands}
use Rattle.policy_versions.proofs.table.place.Goals as goal

pub returns-then-not-block-clause-stands : goal.returns-then-not-block-clause-stands
returns-then-not-block-clause-stands c = blank_stands _ _ c.requires.blank (c.args.block.now.blank c.if-not-block.true)

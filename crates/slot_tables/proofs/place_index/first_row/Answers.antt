use Rattle.slot_tables.proofs.RangeLemmas.{first_in_range}
use Rattle.slot_tables.proofs.place_index.first_row.Goals as goal

pub returns : goal.returns
returns c = first_in_range c.args.rows.now c.args.low c.args.end c.in_ok-key.key.now c.in_ok-key.word.now _ _ c.in_ok-key.ensures.steps (c.range.ensures.in_range search)

use Rattle.std.proofs.Common.{◌≡◌, ◌∙◌, ◌*◌, ◌^◌, ◌%◌, bit_or, rules, sym, ap}
use Rattle.std.specs.Option.{unwrap_or}
use Rattle.slot_tables.specs.Rows.{row_key}
use Rattle.slot_tables.proofs.RowLemmas.{word_of, changed_at, row_found, on-added, written-put, has_row-put}
use Rattle.slot_tables.proofs.place_index.PlaceIndex.add.Goals as goal

pub unreachable-requires : goal.unreachable-requires
unreachable-requires c =
    row_found c.self.inside.rows.entries c.args.name c.args.place c.row_key-key.result c.row_key-key.ensures (rw (← c.self.view_is) at c.requires.row) (sym c.in_default.ensures.value)

pub returns-clause-on : goal.returns-clause-on
returns-clause-on c =
    let rows = c.self.inside.rows.entries in
    let word = c.in-Some.word.now in
    let more = bit_or word (1 * 2 ^ (c.args.place % 64) % 2 ^ 64) in
    let new = (c.get_mut.follows.lender more).entries in
    let after = (c.get_mut.follows.holds more).3 (search rules) in
    let is : word ≡ word_of rows (row_key c.args.name c.args.place) =
    ap (λ o. unwrap_or o 0) c.in-Some.ensures.value ∙ ap (word_of rows) c.row_key-key.ensures in
    rw (← c.self.view_is) (on-added rows new c.args.name c.args.place word c.requires.small is
    (written-put rows new (row_key c.args.name c.args.place) _ (changed_at rows new c.row_key-key.result _ _ c.row_key-key.ensures after.0)))

pub returns-clause-rows : goal.returns-clause-rows
returns-clause-rows c =
    let rows = c.self.inside.rows.entries in
    let more = bit_or c.in-Some.word.now (1 * 2 ^ (c.args.place % 64) % 2 ^ 64) in
    let after = (c.get_mut.follows.holds more).3 (search rules) in
    rw (← c.self.view_is) (has_row-put rows (c.get_mut.follows.lender more).entries c.row_key-key.result _ after.0)

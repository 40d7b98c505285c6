use Rattle.std.proofs.Common.{◌≡◌, Some, None, ◌∙◌, sym, ap}
use Rattle.std.specs.Option.{is_some}
use Rattle.slot_tables.specs.Rows.{row_at}
use Rattle.slot_tables.proofs.RowLemmas.{word_of, word_of-none, changed_at, on-same, written-put, has_row-put, has_row-made, has_row-is, none_from_absent}
use Rattle.slot_tables.proofs.place_index.PlaceIndex.make_row.Goals as goal

pub returns-in_ok-insert-clause-on : goal.returns-in_ok-insert-clause-on
returns-in_ok-insert-clause-on c =
    let rows = c.self.inside.rows.entries in
    let key = c.row_key-key.result in
    let none : row_at rows key ≡ None = none_from_absent (row_at rows key) (sym c.contains_key.ensures ∙ c.if-not-contains_key.true) in
    rw (← c.self.view_is) (on-same rows c.insert.new.self.entries key
    (written-put rows c.insert.new.self.entries key (word_of rows key) (rw (word_of-none rows key none) c.in_ok-insert.ensures.updates.0)))

pub returns-in_ok-insert-clause-rows : goal.returns-in_ok-insert-clause-rows
returns-in_ok-insert-clause-rows c = rw (← c.self.view_is) (has_row-put c.self.inside.rows.entries c.insert.new.self.entries c.row_key-key.result 0 c.in_ok-insert.ensures.updates.0)

pub returns-in_ok-insert-clause-made : goal.returns-in_ok-insert-clause-made
returns-in_ok-insert-clause-made c =
    let rows = c.self.inside.rows.entries in
    has_row-made rows c.insert.new.self.entries c.args.name c.args.place 0 (changed_at rows c.insert.new.self.entries c.row_key-key.result _ (Some 0) c.row_key-key.ensures c.in_ok-insert.ensures.updates.0)

pub returns-else-not-contains_key-clause-made : goal.returns-else-not-contains_key-clause-made
returns-else-not-contains_key-clause-made c =
    let rows = c.self.inside.rows.entries in
    rw (← c.self.view_is) (has_row-is rows c.args.name c.args.place ∙ ap (λ k. is_some (row_at rows k)) (sym c.row_key-key.ensures) ∙ sym c.contains_key.ensures ∙ c.if-not-contains_key.false)

use Rattle.std.proofs.Common.{◌≡◌, ◌∙◌, ◌*◌, ◌^◌, ◌%◌, bit_or, rules, ap}
use Rattle.std.specs.Option.{unwrap_or}
use Rattle.slot_tables.specs.Rows.{row_key}
use Rattle.slot_tables.proofs.RowLemmas.{word_of, changed_at, on-added, written-put}
use Rattle.slot_tables.proofs.place_index.PlaceIndex.put.Goals as goal

pub returns-in-Some-clause-on : goal.returns-in-Some-clause-on
returns-in-Some-clause-on c =
    let rows = c.self.inside.rows.entries in
    let word = c.in-Some.word.now in
    let more = bit_or word (1 * 2 ^ (c.args.place % 64) % 2 ^ 64) in
    let new = (c.get_mut.follows.lender more).entries in
    let after = (c.get_mut.follows.holds more).3 (search rules) in
    let is : word ≡ word_of rows (row_key c.args.name c.args.place) =
    ap (λ o. unwrap_or o 0) c.in-Some.ensures.value ∙ ap (word_of rows) c.row_key-key.ensures in
    rw (← c.self.view_is) (on-added rows new c.args.name c.args.place word c.requires is
    (written-put rows new (row_key c.args.name c.args.place) _ (changed_at rows new c.row_key-key.result _ _ c.row_key-key.ensures after.0)))

pub returns-clause-on : goal.returns-clause-on
returns-clause-on c =
    let rows = c.self.inside.rows.entries in
    let new = c.insert.new.self.entries in
    let after = rw c.get_mut.follows.holds-at-none at c.in_ok-insert.ensures.updates.0 in
    let is : 0 ≡ word_of rows (row_key c.args.name c.args.place) =
    ap (λ o. unwrap_or o 0) c.in_default.ensures.value ∙ ap (word_of rows) c.row_key-key.ensures in
    rw (← c.self.view_is) (on-added rows new c.args.name c.args.place 0 c.requires is
    (written-put rows new (row_key c.args.name c.args.place) _ (changed_at rows new c.row_key-key.result _ _ c.row_key-key.ensures after)))

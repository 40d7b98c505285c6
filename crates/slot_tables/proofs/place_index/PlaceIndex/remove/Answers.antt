use Rattle.std.proofs.Common.{◌≡◌, ◌%◌, ◌*◌, ◌^◌, bit_and, w64, None, Some, ◌∙◌, sym, ap, rules}
use Rattle.std.specs.Int.{bit_not}
use Rattle.std.specs.Option.{unwrap_or}
use Rattle.slot_tables.specs.Rows.{row_key}
use Rattle.slot_tables.proofs.RowLemmas.{word_of, changed_at, changed_twice, on-missing, on-removed, written-put, written-taken, written_as, has_row-put, has_row-taken}
use Rattle.slot_tables.proofs.place_index.PlaceIndex.remove.Goals as goal

pub returns-in_default-clause-on : goal.returns-in_default-clause-on
returns-in_default-clause-on c =
    rw (← c.self.view_is) (rw c.get_mut.follows.holds-at-none (on-missing c.self.inside.rows.entries c.args.name c.args.place c.row_key-key.result c.requires c.row_key-key.ensures
    (sym c.in_default.ensures.value)))

pub returns-then-rest-eq0-clause-on : goal.returns-then-rest-eq0-clause-on
returns-then-rest-eq0-clause-on c =
    let rows = c.self.inside.rows.entries in
    let new = c.remove.new.self.entries in
    let word = c.in-Some.word.now in
    let key = row_key c.args.name c.args.place in
    let rest = bit_and word (bit_not w64 (1 * 2 ^ (c.args.place % 64) % 2 ^ 64)) in
    let between = (c.get_mut.follows.holds rest).3 (search rules) in
    let after = changed_twice rows (c.get_mut.follows.lender rest).entries new c.row_key-key.result (Some rest) None between.0 c.remove.ensures.updates.0 in
    let is : word ≡ word_of rows key = ap (λ o. unwrap_or o 0) c.in-Some.ensures.value ∙ ap (word_of rows) c.row_key-key.ensures in
    rw (← c.self.view_is) (on-removed rows new c.args.name c.args.place word c.requires is
    (written_as rows new key 0 rest (sym c.if-rest-eq0.true) (written-taken rows new key (changed_at rows new c.row_key-key.result key None c.row_key-key.ensures after))))

pub returns-then-rest-eq0-clause-rows : goal.returns-then-rest-eq0-clause-rows
returns-then-rest-eq0-clause-rows c =
    let rows = c.self.inside.rows.entries in
    let new = c.remove.new.self.entries in
    let key = row_key c.args.name c.args.place in
    let rest = bit_and c.in-Some.word.now (bit_not w64 (1 * 2 ^ (c.args.place % 64) % 2 ^ 64)) in
    let between = (c.get_mut.follows.holds rest).3 (search rules) in
    let after = changed_twice rows (c.get_mut.follows.lender rest).entries new c.row_key-key.result (Some rest) None between.0 c.remove.ensures.updates.0 in
    rw (← c.self.view_is) (has_row-taken rows new c.args.name c.args.place c.requires (changed_at rows new c.row_key-key.result key None c.row_key-key.ensures after))

pub returns-else-rest-eq0-clause-on : goal.returns-else-rest-eq0-clause-on
returns-else-rest-eq0-clause-on c =
    let rows = c.self.inside.rows.entries in
    let word = c.in-Some.word.now in
    let key = row_key c.args.name c.args.place in
    let rest = bit_and word (bit_not w64 (1 * 2 ^ (c.args.place % 64) % 2 ^ 64)) in
    let new = (c.get_mut.follows.lender rest).entries in
    let after = (c.get_mut.follows.holds rest).3 (search rules) in
    let is : word ≡ word_of rows key = ap (λ o. unwrap_or o 0) c.in-Some.ensures.value ∙ ap (word_of rows) c.row_key-key.ensures in
    rw (← c.self.view_is) (on-removed rows new c.args.name c.args.place word c.requires is
    (written-put rows new key _ (changed_at rows new c.row_key-key.result key _ c.row_key-key.ensures after.0)))

pub returns-else-rest-eq0-clause-rows : goal.returns-else-rest-eq0-clause-rows
returns-else-rest-eq0-clause-rows c =
    let rows = c.self.inside.rows.entries in
    let rest = bit_and c.in-Some.word.now (bit_not w64 (1 * 2 ^ (c.args.place % 64) % 2 ^ 64)) in
    let after = (c.get_mut.follows.holds rest).3 (search rules) in
    rw (← c.self.view_is) (λ n q below apart has. has_row-put rows (c.get_mut.follows.lender rest).entries c.row_key-key.result _ after.0 n q has)

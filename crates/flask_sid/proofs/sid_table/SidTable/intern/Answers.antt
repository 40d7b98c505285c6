use Rattle.std.proofs.Common.{◌≡◌, ◌+◌, length, false, arith}
use Rattle.flask_sid.specs.SidTables.{is_kept, with_context}
use Rattle.flask_sid.proofs.SidLemmas.{sid_of_new}
use Rattle.flask_sid.proofs.sid_table.SidTable.intern.Goals as goal

pub returns-clause-sid : goal.returns-clause-sid
returns-clause-sid c =
    let new : is_kept c.args.self.now c.args.context ≡ false = grind (arith, c.find.ensures.kept) in
    let added : c.insert.new.self.keys ≡ with_context c.args.self.now c.args.context = rw (← c.self.view_is) c.in_ok-insert.ensures.keys in
    let next : c.at_place.result ≡ length c.args.self.now + 1 = grind arith in
    sid_of_new c.args.self.now c.insert.new.self.keys c.args.context c.at_place.result new added next

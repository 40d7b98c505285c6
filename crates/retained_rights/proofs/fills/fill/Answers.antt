use Rattle.std.proofs.Common.{◌<◌, ◌*◌, length, refl, ◌∙◌, ap, arith}
use Rattle.std.specs.FinMap as maps
use Rattle.slot_tables.specs.Slots.{map_of}
use Rattle.retained_rights.specs.Stored.{IsIndexed}
use Rattle.retained_rights.proofs.IndexLemmas.{indexed_same, indexed_put}
use Rattle.retained_rights.proofs.fills.fill.Goals as goal

pub returns-then-is_stale-clause-indexed : goal.returns-then-is_stale-clause-indexed
returns-then-is_stale-clause-indexed c =
    let roomy : IsIndexed (map_of c.make_room.new.table) c.make_room.new.stale c.args.by_pair.now c.args.by_object.now =
    indexed_same c.requires.indexed _ _ _ _ c.make_room.ensures.map c.make_room.ensures.more (λ n q. refl) (λ n q. refl) in
    let room : c.args.place < 64 * length c.make_room.new.stale = c.in_ok-make_room.ensures.room in
    indexed_put roomy (map_of c.set.new.self) c.add.new.self c.put_both.new.by_pair c.put_both.new.by_object c.args.place c.args.grant
    (ap (λ m. maps.get m c.args.place) c.make_room.ensures.map ∙ c.requires.free) c.set.ensures.map (omega (arith, c.add.ensures.room)) (omega (arith, c.add.ensures.room))
    (rw c.pair_name-name.ensures at c.in_ok-put_both.ensures.pairs) c.in_ok-put_both.ensures.objects

pub returns-else-is_stale-clause-indexed : goal.returns-else-is_stale-clause-indexed
returns-else-is_stale-clause-indexed c =
    let roomy : IsIndexed (map_of c.make_room.new.table) c.make_room.new.stale c.args.by_pair.now c.args.by_object.now =
    indexed_same c.requires.indexed _ _ _ _ c.make_room.ensures.map c.make_room.ensures.more (λ n q. refl) (λ n q. refl) in
    indexed_put roomy (map_of c.set.new.self) c.make_room.new.stale c.put_both.new.by_pair c.put_both.new.by_object c.args.place c.args.grant
    (ap (λ m. maps.get m c.args.place) c.make_room.ensures.map ∙ c.requires.free) c.set.ensures.map (omega arith) c.in_ok-make_room.ensures.room
    (rw c.pair_name-name.ensures at c.in_ok-put_both.ensures.pairs) c.in_ok-put_both.ensures.objects

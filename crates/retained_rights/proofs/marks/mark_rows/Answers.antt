use Rattle.std.proofs.Common.{◌≡◌, ◌*◌, ◌<◌, ◌/◌, ◌%◌, Bool, true, false, ◌&&◌, ◌||◌, eqb, length, refl, sym, ap, subst, ◌∙◌, arith}
use Rattle.slot_tables.specs.Words.{has_bit, holds}
use Rattle.slot_tables.specs.Slots.{map_of}
use Rattle.retained_rights.proofs.MarkLemmas.{IsMarked, mark_none, mark_all, mark_skipped, mark_step, head_row_of}
use Rattle.retained_rights.proofs.marks.mark_rows.Goals as goal

pub loop-key-init : goal.loop-key-init
loop-key-init g c =
    let held = map_of c.args.table.now in
    let d = g.D.Decider.decides c.args.decider.now in
    let closed = g.met.D.Decider.closed c.args.decider.now in
    rw (c.into_iter-key-iterator.ensures.into_iter_gives, c.rows-key-items.ensures.rows)
    (mark_none d c.args.class c.args.old c.args.new held c.args.by_pair.now (length c.args.stale.now) c.requires.indexed c.args.stale.now 18446744073709551615 c.requires.none refl c.rows-key-items.ensures.ordered
    (λ q grant used same. let known = c.requires.known q grant used in
    let s_small : grant.s < 4096 = (closed.sids grant.s known.0).1 in
    let t_small : grant.t < 4096 = (closed.sids grant.t known.1).1 in omega arith))

pub grant_in_row-requires : goal.grant_in_row-requires
grant_in_row-requires g c =
    let held = map_of c.args.table.now in
    let d = g.D.Decider.decides c.args.decider.now in
    head_row_of d c.args.class c.args.old c.args.new held c.args.by_pair.now (length c.args.stale.now) c.requires.indexed c.loop-key.stale c.in-Some.key.now c.in-Some.word.now c.next.new.self _ _
    (subst (λ left. IsMarked d c.args.class c.args.old c.args.new held c.args.by_pair.now (length c.args.stale.now) c.loop-key.stale left c.loop-key.asked.pair c.loop-key.asked.differs) c.in-Some.ensures.steps c.loop-key.invariant)

pub add_word-requires : goal.add_word-requires
add_word-requires g c =
    let found = c.in-Some-grant_in_row.ensures in
    let room : found.0 < 64 * length c.args.stale.now = c.requires.room found.0 c.in-Some-grant_in_row.grant found.3 in
    omega (arith, found.1, c.loop-key.invariant.room_is)

pub loop-key-preserved-in_default : goal.loop-key-preserved-in_default
loop-key-preserved-in_default g c =
    let held = map_of c.args.table.now in
    let d = g.D.Decider.decides c.args.decider.now in
    mark_skipped d c.args.class c.args.old c.args.new held c.args.by_pair.now (length c.args.stale.now) c.requires.indexed c.loop-key.stale c.in-Some.key.now c.in-Some.word.now c.next.new.self c.loop-key.asked.pair c.loop-key.asked.differs
    (subst (λ left. IsMarked d c.args.class c.args.old c.args.new held c.args.by_pair.now (length c.args.stale.now) c.loop-key.stale left c.loop-key.asked.pair c.loop-key.asked.differs) c.in-Some.ensures.steps c.loop-key.invariant) c.in_default.ensures

pub loop-key-preserved-then-asked : goal.loop-key-preserved-then-asked
loop-key-preserved-then-asked g c =
    let held = map_of c.args.table.now in
    let d = g.D.Decider.decides c.args.decider.now in
    rw c.ask_once-asked.ensures.pair
    (mark_step d c.args.class c.args.old c.args.new held c.args.by_pair.now (length c.args.stale.now) c.requires.indexed c.loop-key.stale c.in-Some.key.now c.in-Some.word.now c.next.new.self c.loop-key.asked.pair c.loop-key.asked.differs
    (subst (λ left. IsMarked d c.args.class c.args.old c.args.new held c.args.by_pair.now (length c.args.stale.now) c.loop-key.stale left c.loop-key.asked.pair c.loop-key.asked.differs) c.in-Some.ensures.steps c.loop-key.invariant)
    c.in-Some-grant_in_row.grant c.add_word.new.self c.ask_once-asked.result.differs c.requires.known (g.met.D.Decider.closed c.args.decider.now) c.in-Some-grant_in_row.ensures c.ask_once-asked.ensures.differs c.add_word.ensures.room
    (λ q. c.add_word.ensures.held q ∙ ap (λ t. holds c.loop-key.stale q || (t && (eqb (q / 64) (c.in-Some.key.now % 1024) && has_bit c.in-Some.word.now (q % 64)))) (sym c.if-asked.true)))

pub loop-key-preserved : goal.loop-key-preserved
loop-key-preserved g c =
    let held = map_of c.args.table.now in
    let d = g.D.Decider.decides c.args.decider.now in
    rw c.ask_once-asked.ensures.pair
    (mark_step d c.args.class c.args.old c.args.new held c.args.by_pair.now (length c.args.stale.now) c.requires.indexed c.loop-key.stale c.in-Some.key.now c.in-Some.word.now c.next.new.self c.loop-key.asked.pair c.loop-key.asked.differs
    (subst (λ left. IsMarked d c.args.class c.args.old c.args.new held c.args.by_pair.now (length c.args.stale.now) c.loop-key.stale left c.loop-key.asked.pair c.loop-key.asked.differs) c.in-Some.ensures.steps c.loop-key.invariant)
    c.in-Some-grant_in_row.grant c.loop-key.stale c.ask_once-asked.result.differs c.requires.known (g.met.D.Decider.closed c.args.decider.now) c.in-Some-grant_in_row.ensures c.ask_once-asked.ensures.differs refl
    (λ q. or_false (holds c.loop-key.stale q) ∙ ap (λ t. holds c.loop-key.stale q || (t && (eqb (q / 64) (c.in-Some.key.now % 1024) && has_bit c.in-Some.word.now (q % 64)))) (sym c.if-asked.false)))
  where
    or_false : (b : Bool) → b ≡ (b || false)
    or_false true = refl
    or_false false = refl

pub returns-clause-held : goal.returns-clause-held
returns-clause-held g c =
    let held = map_of c.args.table.now in
    let d = g.D.Decider.decides c.args.decider.now in
    mark_all d c.args.class c.args.old c.args.new held c.args.by_pair.now (length c.args.stale.now) c.requires.indexed c.loop-key.stale c.loop-key.asked.pair c.loop-key.asked.differs
    (subst (λ left. IsMarked d c.args.class c.args.old c.args.new held c.args.by_pair.now (length c.args.stale.now) c.loop-key.stale left c.loop-key.asked.pair c.loop-key.asked.differs) c.in-None.ensures.steps.0 c.loop-key.invariant)

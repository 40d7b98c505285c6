use Rattle.std.proofs.Common.{ℕ, ◌+◌, arith, ap}
use Rattle.epoch_gate.proofs.Hands as hands
use Rattle.epoch_gate.proofs.steps.look_row.Goals as goal

pub load-requires : goal.load-requires
load-requires g c =
    let h = c.requires.seat in (
      c.requires.table.0,
      omega (arith, c.requires.table.1, c.row_place-at.ensures.within),
      hands.see g.V.Journal.means g.D.Decider.decides c.args.words.now.key _ _ _ h.0.0 h.0.1 h.1 _ c.requires.key c.row_place-at.ensures.sids _ (omega (arith, c.row_place-at.ensures.within)) (omega (arith, c.row_place-at.ensures.within)),
    )

pub returns-clause-told : goal.returns-clause-told
returns-clause-told g c = hands.saw g.V.Journal.means g.D.Decider.decides c.args.words.now.table_id.slots c.args.place.now.me c.load.new.seat.me c.load.result _ _ c.requires.key (ap (λ (x : ℕ). 5 + x) c.row_place-at.ensures.place) c.load.ensures.2

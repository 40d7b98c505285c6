use Rattle.std.proofs.Common.{◌∙◌, rules}
use Rattle.epoch_gate.proofs.Hands as hands
use Rattle.std.proofs.Common.{ap}
use Rattle.epoch_gate.proofs.Standing.{stands_as}
use Rattle.epoch_gate.proofs.steps.give.Goals as goal

pub fetch_add-requires : goal.fetch_add-requires
fetch_add-requires g c =
    let h = c.requires.seat in
    (c.exchange-left.ensures.0 ∙ c.requires.table.0, search rules, hands.give_after g.V.Journal.means g.D.Decider.decides c.args.words.now.key _ _ c.args.place.now.me _ c.args.value h.0 h.1 h.2 c.exchange-left.ensures.3 c.requires.history c.requires.value)

pub returns-clause-given : goal.returns-clause-given
returns-clause-given g c = hands.given_after g.V.Journal.means g.D.Decider.decides c.args.words.now.key c.args.place.now.me _ _ c.args.value _ c.requires.seat.2 c.exchange-left.ensures.3 c.fetch_add.ensures.2.0

pub returns-clause-rule : goal.returns-clause-rule
returns-clause-rule g c =
    let same = ap (λ (m : _). m.0) c.exchange-left.ensures.3 in
    let found = hands.found_after g.V.Journal.means g.D.Decider.decides c.args.words.now.key c.args.place.now.me _ _ c.args.value _ c.requires.seat.2 c.exchange-left.ensures.3 c.fetch_add.ensures.2.0 in
    stands_as g.V.Journal.means g.D.Decider.decides _ c.args.place.now.me.0 4 c.fetch_add.result _ same found c.fetch_add.ensures.2.1

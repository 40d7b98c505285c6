use Rattle.std.proofs.Common.{◌∷◌, Some, ◌∙◌, sym, ap, refl, rules}
use Rattle.atomic_table.specs.Table.{rest}
use Rattle.gate_rule.specs.Tickets.{word_of}
use Rattle.gate_rule.proofs.Turns as kept
use Rattle.epoch_gate.proofs.Hands as hands
use Rattle.epoch_gate.proofs.Standing.{stands_as}
use Rattle.epoch_gate.proofs.steps.poll.Goals as goal

pub load-found-requires : goal.load-found-requires
load-found-requires g c =
    let h = c.requires.seat in
    (c.requires.table.0, search rules, kept.poll g.V.Journal.means g.D.Decider.decides c.args.words.now.key _ _ _ _ h.0 h.1 h.2)

pub exchange-requires : goal.exchange-requires
exchange-requires g c =
    let hit = c.load-found.ensures.2.0 (c.if-found-ticket.false ∙ sym (ap word_of c.requires.seat.1)) in
    (c.load-found.ensures.0 ∙ c.requires.table.0, (Some hit.0, (λ i. (hit.1 i).1) ∙ (λ i. (0, Some hit.0) ∷ rest ((sym hit.1 i).1))))

pub returns-clause-turn : goal.returns-clause-turn
returns-clause-turn g c =
    let hit = c.load-found.ensures.2.0 (c.if-found-ticket.false ∙ sym (ap word_of c.requires.seat.1)) in
    hands.taken g.V.Journal.means c.args.place.now.me.0 c.args.ticket c.load-found.result hit.0 _ _ _ _ hit.1 c.if-found-ticket.false c.exchange.ensures.2 c.exchange.ensures.3 c.in-Some.is hit.2

pub returns-clause-rule : goal.returns-clause-rule
returns-clause-rule g c = stands_as g.V.Journal.means g.D.Decider.decides c.args.place.now.me.0 c.args.place.now.me.0 4 c.load-found.result c.args.ticket refl (sym c.if-found-ticket.false) c.load-found.ensures.2.2

use Rattle.std.proofs.Common.{◌∙◌, ap, refl}
use Rattle.gate_ledger.specs.declared.ledger.Line.TheVariants.{Op}
use Rattle.gate_ledger.proofs.Growing as growing
use Rattle.gate_ledger.proofs.station.call.Goals as goal

pub give-requires-clause-history : goal.give-requires-clause-history
give-requires-clause-history g c =
    growing.calls c.take-ledger.new.seat c.take-ledger.result.lines.items _ (Op c.number-caller.result c.args.mark c.in-Some.number) _ _ _ _ c.in-Ok.ensures.ok (ap (λ (v : _). v.seen) c.take-ledger.ensures.took)
    (ap (λ (v : _). v.role) c.take-ledger.ensures.took ∙ c.number-caller.ensures) (ap (λ (v : _). v.rights.pass) c.take-ledger.ensures.took ∙ c.in-Some.ensures.pass) refl

pub give-requires-clause-value : goal.give-requires-clause-value
give-requires-clause-value g c =
    let value = c.take-ledger.ensures.value in
    (value.0, c.in-Ok.ensures.decider ∙ value.1, growing.grown _ _ _ _ value.2 c.in-Ok.ensures.ok tt, tt)

pub returns-in-Ok-clause-turn : goal.returns-in-Ok-clause-turn
returns-in-Ok-clause-turn g c =
    growing.had_turn c.args.seat.now c.take-ledger.new.seat c.give.new.seat c.in-Ok.ledger.lines.items 0 c.take-ledger.ensures.waited (ap (λ (v : _). v.trace) c.give.ensures.gave)
    c.take-ledger.ensures.turns c.give.ensures.turns

pub returns-in-Err-clause-turn : goal.returns-in-Err-clause-turn
returns-in-Err-clause-turn g c =
    growing.had_turn c.args.seat.now c.take-ledger.new.seat c.give-in-Err.new.seat c.in-Err.ledger.lines.items 0 c.take-ledger.ensures.waited (ap (λ (v : _). v.trace) c.give-in-Err.ensures.gave)
    c.take-ledger.ensures.turns c.give-in-Err.ensures.turns

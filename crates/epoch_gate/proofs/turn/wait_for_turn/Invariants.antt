use Rattle.std.proofs.Common.{◌≡◌, ℕ, []}
use Rattle.epoch_gate.specs.Calls.{HasMissed}
use Rattle.epoch_gate.proofs.turn.wait_for_turn.Given as goal

abbrev pub invariant-loop : goal.invariant-loop
invariant-loop g l =
    (l.place.table_id ≡ l.initial.place.table_id) × (l.place.me ≡ (record l.initial.place.me.0 { trace = l.place.me.0.trace }, []))
    × ((misses : ℕ) × HasMissed l.initial.place.me.0.trace l.initial.ticket misses l.place.me.0.trace)

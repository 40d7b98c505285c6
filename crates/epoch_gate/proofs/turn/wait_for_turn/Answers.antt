use Rattle.std.proofs.Common.{suc, ap, subst, rules}
use Rattle.gate_rule.specs.Told.{Takes}
use Rattle.std.proofs.Common.{refl}
use Rattle.epoch_gate.proofs.Standing.{stands_as}
use Rattle.epoch_gate.proofs.turn.wait_for_turn.Goals as goal

pub loop-preserved : goal.loop-preserved
loop-preserved g c = (
  search rules,
  search rules,
  (
    suc c.loop.invariant.2.0,
    (c.loop.place.me.0.trace, c.loop.invariant.2.1, c.poll.new.place.me.0.trace.last.found, c.in_default.ensures.missed, ap (λ (m : _). m.0.trace) c.in_default.ensures.wait),
  ),
)

pub returns-in-Some-poll-clause-learns : goal.returns-in-Some-poll-clause-learns
returns-in-Some-poll-clause-learns g c =
    subst (λ (v : _). Takes g.V.Journal.means v c.in-Some-poll.value) (ap (λ (m : _). m.0) c.loop.invariant.1) c.in-Some-poll.ensures.turn.1

pub returns-in-Some-poll-clause-rule : goal.returns-in-Some-poll-clause-rule
returns-in-Some-poll-clause-rule g c = (
  c.loop.place.me.0.trace,
  stands_as g.V.Journal.means g.D.Decider.decides c.loop.place.me.0 _ 4 c.args.ticket c.args.ticket (ap (λ (m : _). m.0) c.loop.invariant.1) refl c.in-Some-poll.ensures.rule,
)

use Rattle.std.proofs.Common.{◌≡◌, Some, sym, ap, ◌∙◌, subst}
use Rattle.gate_rule.specs.Told.{Closes}
use Rattle.epoch_gate.proofs.Ending as ending
use Rattle.epoch_gate.proofs.gate.Gate.close.Goals as goal

pub unreachable-requires : goal.unreachable-requires
unreachable-requires g c =
    let w = ending.ended g.V.Journal.means g.D.Decider.decides c.self.inside.table.shared.key c.admin.inside.place.id c.admin.inside.place.me.0 c.args.admin.view _ _ c.close_with-closed.ensures.values.2 (ap (λ (s : _). s.view) c.admin.view_is) c.admin.invariant.role c.requires.idle c.requires.out _ c.take-slot.ensures.value in
    c.in_default.not-Some w.0 w.1

pub returns-clause-closed : goal.returns-clause-closed
returns-clause-closed g c =
    let w = ending.ended g.V.Journal.means g.D.Decider.decides c.self.inside.table.shared.key c.admin.inside.place.id c.admin.inside.place.me.0 c.args.admin.view _ _ c.close_with-closed.ensures.values.2 (ap (λ (s : _). s.view) c.admin.view_is) c.admin.invariant.role c.requires.idle c.requires.out _ c.take-slot.ensures.value in
    let slot : Some w.0 ≡ Some c.in-Some.value = sym w.1 ∙ c.in-Some.is in
    let same : w.0 ≡ c.in-Some.value = cc in
    subst (λ (x : _). Closes g.V.Journal.means c.args.admin.view x) same w.2

pub returns-clause-rule : goal.returns-clause-rule
returns-clause-rule g c =
    ending.has_ended g.V.Journal.means g.D.Decider.decides c.self.inside.table.shared.key c.admin.inside.place.id c.admin.inside.place.me.0 c.args.admin.view _ _ c.close_with-closed.ensures.values.2 (ap (λ (s : _). s.view) c.admin.view_is) c.args.self.fixed (ap (λ (s : _). s.fixed) c.self.view_is)

use Rattle.std.proofs.Common.{ℕ, ◌+◌, ◌-◌, arith, ap, sym, ◌∙◌}
use Rattle.gate_rule.specs.Views.{leave_word}
use Rattle.epoch_gate.proofs.Standing.{stood_at, clear_at}
use Rattle.epoch_gate.proofs.gate.Gate.older.Goals as goal

pub returns-clause-rule : goal.returns-clause-rule
returns-clause-rule g c =
    let told = c.count-left.ensures.told in
    let number = sym c.admin.invariant.newest ∙ ap (λ (s : _). s.view.admin_view.newest) c.admin.view_is in
    stood_at g.V.Journal.means g.D.Decider.decides c.args.self.now.fixed c.admin.inside.place.me.0 c.args.admin.now.view _ _ c.count-left.result _ (ap (λ (x : ℕ). leave_word (x + 1)) number) (ap (λ (s : _). s.view) c.admin.view_is)
    (ap (λ (m : _). m.0.trace.last.found) told.0) c.requires.gate.1 told.3

pub returns-clause-clear : goal.returns-clause-clear
returns-clause-clear g c = λ none.
    let told = c.count-left.ensures.told in
    let view = c.admin.view_is in
    let found = told.1 in
    ap (λ (m : _). m.0.admin_view.clear) told.0 ∙ (clear_at c.admin.inside.place.me.0.admin_view.counted c.count-left.result (c.admin.inside.counted - c.count-left.result) _ _ (let k = c.admin.invariant.counted_is in omega arith) none ∙ ap (λ (s : _). s.view.admin_view.newest) view)

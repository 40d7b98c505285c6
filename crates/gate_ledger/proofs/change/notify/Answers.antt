use Rattle.std.proofs.Common.{◌≡◌, ℕ, ◌+◌, ◌∙◌, Some, None, sym, ap, subst}
use Rattle.gate_ledger.specs.declared.ledger.Line.TheVariants.{Noticed}
use Rattle.access_vectors.specs.Notices.{notice_fault}
use Rattle.epoch_gate.specs.Known.{versions_at}
use Rattle.gate_ledger.specs.Changes.{phase_after}
use Rattle.gate_ledger.proofs.Growing as growing
use Rattle.gate_ledger.proofs.Noticing as noticing
use Rattle.gate_ledger.proofs.change.notify.Goals as goal

pub returns-in-Ok-clause-ok : goal.returns-in-Ok-clause-ok
returns-in-Ok-clause-ok g c =
    let took = c.take_admin-ledger.ensures.took in
    let raised = c.raise.ensures.raised in
    let gave = c.give_admin.ensures.gave in
    let w = c.raise.new.admin.view in
    let b = c.give_admin.new.admin.view in
    let items = c.take_admin-ledger.result.lines.items in
    let learns = c.take_admin-ledger.ensures.learns in
    let lawful = c.take_admin-ledger.ensures.value.2 in
    let versions = c.versions.ensures ∙ ap (λ (d : _). (g.D.Decider.decides d).versions) c.decider.ensures in
    let number = noticing.number _ c.args.ver c.most.result items lawful c.in-Ok.ensures.settled in
    let next = c.in-Ok.ensures.next ∙ ap (λ (n : ℕ). n + 1) (sym number) in
    let seen = ap (λ (v : _). v.seen) raised ∙ ap (λ (v : _). v.seen) took in (
      items,
      subst (λ (m : ℕ). notice_fault (phase_after items) (versions_at g.D.Decider.decides c.args.gate.now) c.args.ver m ≡ None) c.most.ensures (subst (λ (n : ℕ). notice_fault (phase_after items) n c.args.ver c.most.result ≡ None) versions c.in-Ok.ensures.allowed),
      next,
      (learns.0, ap (λ (v : _). v.seen) gave ∙ c.in-Ok.ensures.ok),
      growing.turn_done w b c.in-Ok.ledger.lines.items 0 (ap (λ (v : _). v.admin_view.turns) gave) _ (Some (Noticed c.in-Ok.ledger.newest c.args.ver)) None 0 (ap (λ (v : _). v.admin_view.turns) raised ∙ ap (λ (v : _). v.admin_view.turns) took)
          (growing.line_added w items _ (Noticed c.in-Ok.ledger.newest c.args.ver) seen c.in-Ok.ensures.ok) (ap (λ (v : _). v.admin_view.looked) raised ∙ ap (λ (v : _). v.admin_view.looked) took) (ap (λ (v : _). v.admin_view.found) raised ∙ ap (λ (v : _). v.admin_view.found) took),
      ap (λ (v : _). v.admin_view.newest) gave ∙ (ap (λ (v : _). v.admin_view.newest) raised ∙ (ap (λ (v : _). v.admin_view.newest + 1) took ∙ (ap (λ (p : _). p.0 + 1) (sym learns.1.last) ∙ sym c.in-Ok.ensures.next))),
      ap (λ (v : _). v.admin_view.version) gave ∙ c.raise.ensures.version,
    )

pub returns-in-Err-clause-err : goal.returns-in-Err-clause-err
returns-in-Err-clause-err g c =
    let took = c.take_admin-ledger.ensures.took in
    let gave = c.give_admin-in-Err.ensures.gave in
    let w = c.take_admin-ledger.new.admin.view in
    let b = c.give_admin-in-Err.new.admin.view in
    let items = c.take_admin-ledger.result.lines.items in
    let same = c.in-Err.ensures.err.0 in (
      growing.begins_same items _ _ (ap (λ (v : _). v.seen) gave ∙ same) c.take_admin-ledger.ensures.learns.0,
      growing.turn_done w b c.in-Err.ledger.lines.items 0 (ap (λ (v : _). v.admin_view.turns) gave) _ None None 0 (ap (λ (v : _). v.admin_view.turns) took)
          (growing.none_added w items _ (ap (λ (v : _). v.seen) took) same) (ap (λ (v : _). v.admin_view.looked) took) (ap (λ (v : _). v.admin_view.found) took),
      ap (λ (v : _). v.admin_view.newest) gave ∙ ap (λ (v : _). v.admin_view.newest) took,
      ap (λ (v : _). v.admin_view.version) gave ∙ ap (λ (v : _). v.admin_view.version) took,
    )

use Rattle.std.proofs.Common.{◌≡◌, ◌+◌, ◌∙◌, Some, None, sym, refl, ap, ⊎_elim, arith}
use Rattle.gate_ledger.specs.declared.ledger.Line.TheVariants.{Settled}
use Rattle.gate_ledger.proofs.Growing as growing
use Rattle.gate_ledger.proofs.change.acknowledge.Goals as goal

pub returns-then-ledger-newest-clause-answer : goal.returns-then-ledger-newest-clause-answer
returns-then-ledger-newest-clause-answer g c =
    let took = c.take_admin-ledger.ensures.took in
    let gave = c.give_admin.ensures.gave in
    let w = c.take_admin-ledger.new.admin.view in
    let ledger = c.take_admin-ledger.result in
    let items = ledger.lines.items in
    let seen = ap (λ (v : _). v.seen) gave in (
      growing.rests _ items _ seen c.take_admin-ledger.ensures.value.2 (sym ledger.settled_is ∙ (c.if-ledger-newest.true ∙ ledger.newest_is)),
      growing.begins_same items _ _ seen c.take_admin-ledger.ensures.learns.0,
      growing.turn_done w c.give_admin.new.admin.view items 0 (ap (λ (v : _). v.admin_view.turns) gave) _ None None 0 (ap (λ (v : _). v.admin_view.turns) took) (growing.none_added w items items (ap (λ (v : _). v.seen) took) refl) (ap (λ (v : _). v.admin_view.looked) took)
          (ap (λ (v : _). v.admin_view.found) took),
    )

pub returns-then-older-gt0-clause-answer : goal.returns-then-older-gt0-clause-answer
returns-then-older-gt0-clause-answer g c =
    let took = c.take_admin-ledger.ensures.took in
    let counted = c.older-older.ensures.counted in
    let gave = c.give_admin-then-older-gt0.ensures.gave in
    let u = c.take_admin-ledger.new.admin.view in
    let w = c.older-older.new.admin.view in
    let b = c.give_admin-then-older-gt0.new.admin.view in
    let ledger = c.take_admin-ledger.result in
    let items = ledger.lines.items in
    let seen = ap (λ (v : _). v.seen) gave in (
      growing.pends _ items _ seen c.take_admin-ledger.ensures.value.2 (λ e. c.if-ledger-newest.false (ledger.settled_is ∙ (e ∙ sym ledger.newest_is))),
      c.if-older-gt0.true,
      growing.load_shown c.args.admin.now.view u w b c.older-older.result (ap (λ (v : _). v.trace.earlier) gave) (ap (λ (v : _). v.trace.last) counted) c.older-older.ensures.older (ap (λ (v : _). v.admin_view.newest) took) (ap (λ (v : _). v.admin_view.counted) took),
      growing.begins_same items _ _ seen c.take_admin-ledger.ensures.learns.0,
      growing.turn_done w b items 0 (ap (λ (v : _). v.admin_view.turns) gave) _ None (Some c.older-older.result) 0 (ap (λ (v : _). v.admin_view.turns) counted ∙ ap (λ (v : _). v.admin_view.turns) took)
          (growing.none_added w items items (ap (λ (v : _). v.seen) counted ∙ ap (λ (v : _). v.seen) took) refl)
          (growing.shown _ _ c.older-older.result c.older-older.ensures.older w.admin_view.looked (ap (λ (v : _). v.admin_view.looked) counted)) (ap (λ (v : _). v.admin_view.found) counted ∙ ap (λ (v : _). v.admin_view.found) took),
    )

pub give_admin-requires-in-Ok-clause-value : goal.give_admin-requires-in-Ok-clause-value
give_admin-requires-in-Ok-clause-value g c =
    let value = c.take_admin-ledger.ensures.value in
    let ledger = c.take_admin-ledger.result in
    let learns = c.take_admin-ledger.ensures.learns in
    let newest = ap (λ (p : _). p.0) learns.1.last in (
      value.0,
      c.in-Ok.ensures.decider ∙ value.1,
      growing.grown _ _ _ _ value.2 c.in-Ok.ensures.ok
          (⊎_elim (λ e. absurd (c.if-ledger-newest.false (ledger.settled_is ∙ (e ∙ (sym newest ∙ sym ledger.newest_is))))) (λ e. newest ∙ e) learns.1.settled, ledger.newest_is),
      tt,
    )

pub returns-in-Ok-clause-answer : goal.returns-in-Ok-clause-answer
returns-in-Ok-clause-answer g c =
    let took = c.take_admin-ledger.ensures.took in
    let counted = c.older-older.ensures.counted in
    let gave = c.give_admin-in-Ok.ensures.gave in
    let u = c.take_admin-ledger.new.admin.view in
    let w = c.older-older.new.admin.view in
    let b = c.give_admin-in-Ok.new.admin.view in
    let ledger = c.take_admin-ledger.result in
    let items = ledger.lines.items in
    let apart = λ (e : _). c.if-ledger-newest.false (ledger.settled_is ∙ (e ∙ sym ledger.newest_is)) in
    let newest = ap (λ (p : _). p.0) c.take_admin-ledger.ensures.learns.1.last in
    let known = ap (λ (v : _). v.admin_view.newest) took ∙ (sym newest ∙ sym ledger.newest_is) in
    let none = c.if-older-gt0.false in
    let sum : 0 + w.trace.last.found ≡ u.admin_view.counted = let o = c.older-older.ensures.older in omega (arith, none) in (
      items,
      growing.pends _ items items refl c.take_admin-ledger.ensures.value.2 apart,
      growing.pending_number _ items c.take_admin-ledger.ensures.value.2 apart ∙ sym ledger.newest_is,
      growing.load_shown c.args.admin.now.view u w b 0 (ap (λ (v : _). v.trace.earlier) gave) (ap (λ (v : _). v.trace.last) counted) sum (ap (λ (v : _). v.admin_view.newest) took) (ap (λ (v : _). v.admin_view.counted) took),
      (c.take_admin-ledger.ensures.learns.0, ap (λ (v : _). v.seen) gave ∙ c.in-Ok.ensures.ok),
      growing.turn_done w b c.in-Ok.ledger.lines.items 0 (ap (λ (v : _). v.admin_view.turns) gave) _ (Some (Settled ledger.newest)) (Some 0) 0 (ap (λ (v : _). v.admin_view.turns) counted ∙ ap (λ (v : _). v.admin_view.turns) took)
          (growing.line_added w items _ (Settled ledger.newest) (ap (λ (v : _). v.seen) counted ∙ ap (λ (v : _). v.seen) took) c.in-Ok.ensures.ok)
          (growing.shown _ _ c.older-older.result c.older-older.ensures.older w.admin_view.looked (ap (λ (v : _). v.admin_view.looked) counted) ∙ ap (λ (x : _). Some x) (omega (arith, none))) (ap (λ (v : _). v.admin_view.found) counted ∙ ap (λ (v : _). v.admin_view.found) took),
      ap (λ (v : _). v.admin_view.newest) gave ∙ (ap (λ (v : _). v.admin_view.newest) counted ∙ known),
      ap (λ (v : _). v.admin_view.clear) gave ∙ (ap (λ (v : _). v.admin_view.clear) counted ∙ (growing.cleared _ _ c.older-older.result _ _ c.older-older.ensures.older none ∙ known)),
    )

pub returns-in-Err-clause-err : goal.returns-in-Err-clause-err
returns-in-Err-clause-err g c =
    let took = c.take_admin-ledger.ensures.took in
    let counted = c.older-older.ensures.counted in
    let gave = c.give_admin-in-Err.ensures.gave in
    let u = c.take_admin-ledger.new.admin.view in
    let w = c.older-older.new.admin.view in
    let b = c.give_admin-in-Err.new.admin.view in
    let ledger = c.take_admin-ledger.result in
    let items = ledger.lines.items in
    let same = c.in-Err.ensures.ok in
    let seen = ap (λ (v : _). v.seen) gave ∙ same in
    let none = c.if-older-gt0.false in
    let sum : 0 + w.trace.last.found ≡ u.admin_view.counted = let o = c.older-older.ensures.older in omega (arith, none) in (
      growing.pends _ items _ seen c.take_admin-ledger.ensures.value.2 (λ e. c.if-ledger-newest.false (ledger.settled_is ∙ (e ∙ sym ledger.newest_is))),
      growing.load_shown c.args.admin.now.view u w b 0 (ap (λ (v : _). v.trace.earlier) gave) (ap (λ (v : _). v.trace.last) counted) sum (ap (λ (v : _). v.admin_view.newest) took) (ap (λ (v : _). v.admin_view.counted) took),
      growing.begins_same items _ _ seen c.take_admin-ledger.ensures.learns.0,
      growing.turn_done w b c.in-Err.ledger.lines.items 0 (ap (λ (v : _). v.admin_view.turns) gave) _ None (Some 0) 0 (ap (λ (v : _). v.admin_view.turns) counted ∙ ap (λ (v : _). v.admin_view.turns) took)
          (growing.none_added w items _ (ap (λ (v : _). v.seen) counted ∙ ap (λ (v : _). v.seen) took) same)
          (growing.shown _ _ c.older-older.result c.older-older.ensures.older w.admin_view.looked (ap (λ (v : _). v.admin_view.looked) counted) ∙ ap (λ (x : _). Some x) (omega (arith, none))) (ap (λ (v : _). v.admin_view.found) counted ∙ ap (λ (v : _). v.admin_view.found) took),
    )

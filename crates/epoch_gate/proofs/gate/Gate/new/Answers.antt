use Rattle.std.proofs.Common.{List, ◌∙◌, ◌++◌, [], ◌∷◌, Some, sym, ap, arith, rules}
use Rattle.epoch_gate.proofs.Ending.{opened, inside}
use Rattle.epoch_gate.proofs.gate.Gate.new.Goals as goal

pub new-requires : goal.new-requires
new-requires g c =
    let seats = inside c.from.result 64 (sym c.is_outside.ensures ∙ c.if-is_outside.false) in
    let quota = inside c.args.quota 536870912 (sym c.is_outside-2.ensures ∙ c.if-is_outside-2.false) in
    let most = inside c.args.most 1048575 (sym c.is_outside-3.ensures ∙ c.if-is_outside-3.false) in
    opened g.V.Journal.means g.D.Decider.decides _ _ _ c.args.value (c.as_slice.ensures.value ∙ c.in-Ok.ensures.items_if_clones_equal (λ y h. h))
    (c.in-Ok-push.ensures.items ∙ ap (λ (l : List _). l ++ Some c.args.value ∷ []) c.new-slots.ensures.items) (search rules) c.args.decider.now (search rules) c.requires.fresh c.requires.decider c.requires.promise.0 c.requires.promise.1 (g.met.D.Decider.closed c.args.decider.now)
    (omega (arith, seats.1, c.from.ensures, c.from-2.ensures)) (omega (arith, quota.1, c.from-3.ensures)) (omega (arith, most.1, c.from-4.ensures))

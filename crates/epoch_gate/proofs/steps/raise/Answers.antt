use Rattle.std.proofs.Common.{◌≡◌, ℕ, ◌+◌, ◌*◌, sym, subst, rules}
use Rattle.gate_rule.proofs.Serving.{turn_is}
use Rattle.gate_rule.proofs.Numbers as kept
use Rattle.epoch_gate.proofs.steps.raise.Goals as goal

pub fetch_add-requires : goal.fetch_add-requires
fetch_add-requires g c =
    let t = turn_is _ c.requires.seat.1 in (
      c.requires.table.0,
      search rules,
      kept.raise g.V.Journal.means g.D.Decider.decides c.args.words.now.key _ _ _ t.0 _ c.args.new c.requires.seat.0 t.1 c.requires.rest c.requires.allowed
          (subst (λ (x : ℕ). c.raise_by-amount.result + x * 68719476736 ≡ 17592186044416 + c.args.new * 68719476736) (sym c.requires.version) c.raise_by-amount.ensures.amount),
    )

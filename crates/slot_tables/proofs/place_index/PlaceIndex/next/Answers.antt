use Rattle.std.proofs.Common.{◌<◌, ◌+◌, ◌*◌, sym, subst, arith}
use Rattle.slot_tables.specs.Rows.{IsFirstRow}
use Rattle.slot_tables.proofs.RowLemmas.{next_none, next_found, next_step}
use Rattle.slot_tables.proofs.place_index.PlaceIndex.next.Goals as goal

pub returns-in_err-key : goal.returns-in_err-key
returns-in_err-key c =
    rw (c.from_residual.ensures, ← c.self.view_is)
    (next_none c.self.inside.rows.entries c.args.name c.args.from c.loop-low.low c.loop-low.invariant (λ other above below. c.in_err-key.ensures other above (subst (λ n. other < 1024 * (n + 1)) (sym c.from.ensures) below)))

pub returns-then-rest-ne0 : goal.returns-then-rest-ne0
returns-then-rest-ne0 c =
    rw (← c.self.view_is)
    (next_found c.self.inside.rows.entries c.args.name c.args.from c.loop-low.low c.in_ok-key.key c.in_ok-key.word c.saturating_sub-skip.result c.loop-low.invariant (subst (λ n. IsFirstRow c.self.inside.rows.entries c.loop-low.low (1024 * (n + 1)) c.in_ok-key.key c.in_ok-key.word) c.from.ensures c.in_ok-key.ensures)
    c.saturating_sub-skip.ensures (omega arith) c.if-rest-ne0.true)

pub loop-low-preserved : goal.loop-low-preserved
loop-low-preserved c =
    next_step c.self.inside.rows.entries c.args.name c.args.from c.loop-low.low c.in_ok-key.key c.in_ok-key.word c.saturating_sub-skip.result c.loop-low.invariant (subst (λ n. IsFirstRow c.self.inside.rows.entries c.loop-low.low (1024 * (n + 1)) c.in_ok-key.key c.in_ok-key.word) c.from.ensures c.in_ok-key.ensures)
    c.saturating_sub-skip.ensures c.if-rest-ne0.false

pub returns : goal.returns
returns c = rw (← c.self.view_is) (next_none c.self.inside.rows.entries c.args.name c.args.from c.loop-low.low c.loop-low.invariant (λ other above below. absurd (omega arith)))

use Rattle.std.proofs.Common.{◌≡◌, ◌-◌, ◌≤◌, ◌++◌, length, take, replicate}
use Rattle.flask_sid.proofs.piece.Piece.fill_and_extend.Given as goal

abbrev pub invariant-loop : goal.invariant-loop
invariant-loop l = let old = l.initial.self-inside.bytes.items in
    (l.self-inside.bytes.items ≡ old ++ replicate (l.counter - length old) l.filler) × (length old ≤ l.counter) × (l.counter ≤ l.len)
    × (take (length old) l.self-inside.bytes.items ≡ old)

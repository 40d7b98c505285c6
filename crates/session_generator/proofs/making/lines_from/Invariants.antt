use Rattle.std.proofs.Common.{◌≡◌, ◌+◌, ◌++◌, ℕ}
use Rattle.session_generator.specs.Generated
use Rattle.session_generator.proofs.making.lines_from.Given as goal

-- what is made, with so many more lines as are left to make
abbrev pub invariant-lines : goal.invariant-lines
invariant-lines l =
    (left : ℕ) → l.place + left ≡ l.count
    → l.lines.items ++ Generated.lines_from l.clients l.state (l.first + l.place) left ≡ Generated.lines_from l.clients l.fn.state l.first l.count

-- Which fault of a line is told where several of its words are faulty: that of the kind which comes first.
use Rattle.std.specs.Prelude.{ℕ, nat_lt, Result, Ok, Err, if◌then◌else◌}
use Rattle.text_lines.specs.declared.fault.FaultKind.{FaultKind}
use Rattle.text_lines.specs.declared.fault.FaultKind.TheVariants.{Syntax, Order, Limit, Unknown, Undeclared, Twice, Ended}

-- the place of a kind among the kinds of fault of a line, of which the first that holds is told; `Ended` is no word's
abbrev pub kind_place : FaultKind → ℕ
kind_place Syntax = 0
kind_place Order = 1
kind_place Limit = 2
kind_place Unknown = 3
kind_place Undeclared = 4
kind_place Twice = 5
kind_place Ended = 6

-- the one of two kinds that comes first
unfoldable pub first_kind : FaultKind → FaultKind → FaultKind
first_kind one other = if nat_lt (kind_place other) (kind_place one) then other else one

-- both values, or the kind of fault that comes first
abbrev pub both : {A B : Type 0} → Result A FaultKind → Result B FaultKind → Result (A × B) FaultKind
both (Ok one) (Ok other) = Ok (one, other)
both (Ok one) (Err kind) = Err kind
both (Err kind) (Ok other) = Err kind
both (Err kind) (Err other) = Err (first_kind kind other)

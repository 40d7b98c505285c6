use Rattle.std.proofs.Common.{◌≡◌, drop}
use Rattle.port_calls.specs.States.{label_in}
use Rattle.port_store.proofs.labels.label_in.Given as goal

abbrev pub invariant-loop-line : goal.invariant-loop-line
invariant-loop-line l = label_in l.fn.lines l.fn.initial l.fn.port ≡ label_in (drop l.line-index l.fn.lines) l.fn.initial l.fn.port

-- The lines of a ledger, as a gate reads them.
use Rattle.std.specs.Prelude.{false}
use Rattle.gate_rule.specs.History.{Kind}
use Rattle.gate_rule.specs.History.Kind.{Call, Notice, Ack}
use Rattle.gate_ledger.specs.declared.ledger.Line.{Line}
use Rattle.gate_ledger.specs.declared.ledger.Line.TheVariants.{Op, Noticed, Settled}

-- the kind of a line
abbrev pub kind_of : Line → Kind
kind_of (Op caller mark number) = Call caller mark number
kind_of (Noticed number version) = Notice number version
kind_of (Settled number) = Ack number false

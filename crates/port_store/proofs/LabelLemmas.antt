-- The labels of ports are the decider's.
use Rattle.std.proofs.Common.{ℕ, suc, IsTrue, Bool, true, false, List, [], ◌∷◌, arith}
use Rattle.std.specs.Prelude.{All, ◌==◌, if◌then◌else◌}
use Rattle.access_vectors.specs.Decisions.{Decisions}
use Rattle.port_calls.specs.States.{IsOpening, label_in, label_of}
use Rattle.port_calls.specs.declared.opening.LabelledPort.{LabelledPort}
use Rattle.port_calls.specs.declared.opening.PortOpening.{PortOpening}

-- the labels that lines give are the decider's
known_in : (d : Decisions) (lines : List LabelledPort) (initial port : ℕ) → IsTrue (d.known initial) → All (λ line. IsTrue (d.known line.sid)) lines → IsTrue (d.known (label_in lines initial port))
known_in d [] initial port known all = known
known_in d (line ∷ lines) initial port known all =
    elim (line.port == port) as (λ (b : Bool). IsTrue (d.known (if b then line.sid else label_in lines initial port))) [
      | true ↦ all 0 line (omega arith)
      | false ↦ known_in d lines initial port known (λ k default less. all (suc k) default (omega arith))
    ]

pub known_label : (d : Decisions) (opening : PortOpening) (port : ℕ) → IsOpening d opening → IsTrue (d.known (label_of opening port))
known_label d opening port known = known_in d opening.ports opening.initial port known.1 known.2

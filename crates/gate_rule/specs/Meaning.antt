-- What a value in a gate's slot means to the gate.
use Rattle.std.specs.Prelude.{ℕ, List, Option}
use Rattle.access_vectors.specs.declared.class.Class.{Class}
use Rattle.access_vectors.specs.Stale.{Follows, Pair}
use Rattle.gate_rule.specs.History.{Kind}

-- a value's history and the kind of each entry, its opening and decider, and what its type promises of a history and of a value; the class of the objects that its slots hold, the pair of a slot, the number that each used slot follows, and the places of the stale slots
pub record Means (V E D O : Type 0) : Type 1 where
  pub history : V → List E
  pub kind : E → Kind
  pub opening : V → O
  pub decider : V → D
  pub promise : O → D → List E → Type 0
  pub keeps : V → Type 0
  pub class : Class
  pub pair_of : V → ℕ → Option Pair
  pub follows : V → Follows
  pub stale : V → List ℕ

-- What a station promises of the keeper at its gate.
use Rattle.std.specs.Prelude.{◌≡◌, ℕ, List, [], Option}
use Rattle.std.specs.FinMap as maps
use Rattle.access_vectors.specs.Decisions.{Decisions}
use Rattle.access_vectors.specs.Stale.{Follows, Pair, AreNamed}
use Rattle.access_vectors.specs.declared.class.Class.{Class}
use Rattle.manager_history.specs.Answers.{Manager}
use Rattle.manager_history.specs.Histories.{start_of, replay}
use Rattle.manager_history.specs.Kept.{KeeperView, stale_in}
use Rattle.managed_run.specs.Kinds.{phase_of, IsUncalled}

-- a keeper came from a core, by what the core means: its opening is that core's, its phase is the history's, its state the
-- replay of the history from there; its stale slots are those of the definition, each used slot follows a number that may
-- be named, and while no caller has called no slot is used
pub record IsFrom {Core Decider Call Reply State : Type 0} (plain : Manager Call Reply State) (d : Decisions) (class : Class)
    (pair_of : State → ℕ → Option Pair) (opening state : Core → State) (follows : Core → Follows) (stale : Core → List ℕ)
    (first : Core) (now : KeeperView Core Decider Call Reply) : Type 0 where
  pub opened : opening now.core ≡ opening first
  pub phase : now.phase ≡ phase_of now.history
  pub state_is : (replay plain d (start_of (opening first)) now.history).state ≡ state now.core
  pub stale_is : stale now.core ≡ stale_in d class pair_of state follows now
  pub named : AreNamed now.phase (follows now.core)
  pub unused : IsUncalled now.history → maps.entries (follows now.core) ≡ []

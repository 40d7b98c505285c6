-- What the administrator sees of a manager on one thread.
use Rattle.std.specs.Prelude.{◌≡◌, ℕ, map, Option, Some, None}
use Rattle.access_vectors.specs.Decisions.{Decisions}
use Rattle.access_vectors.specs.Stale.{Follows, Pair}
use Rattle.access_vectors.specs.declared.class.Class.{Class}
use Rattle.managed.specs.Posts.{ManagerView, post_of, stale_on, older_on}
use Rattle.managed.specs.Seen.{Seen, event_of}

-- what the administrator sees of it: older passes, what slots follow and the stale slots are told, and items are not
abbrev pub seen_of : {Core Decider Call Reply State : Type 0} → (Decider → Decisions) → Class → (State → ℕ → Option Pair)
    → (Core → State) → (Core → Follows) → ManagerView Core Decider Call Reply → Seen
seen_of decides class pair_of state follows plain = record {
  manager = plain.keeper.manager;
  phase = plain.keeper.phase;
  history = map event_of plain.keeper.history;
  most = plain.most;
  versions = (decides plain.keeper.decider).versions;
  tries = plain.tries;
  shown = plain.shown;
  older = Some (older_on (post_of state follows plain));
  follows = Some (follows plain.keeper.core);
  stale = Some (stale_on (decides plain.keeper.decider) class pair_of (post_of state follows plain));
  items = None;
}

-- one and the same manager: the opening, the decider, its number, the last policy number that may be made, the held passes
-- and the plain manager's state are equal
pub record IsSameBesidesChange {Core Decider Call Reply State : Type 0} (opening state : Core → State) (old new : ManagerView Core Decider Call Reply) : Type 0 where
  pub opened : opening new.keeper.core ≡ opening old.keeper.core
  pub decider : new.keeper.decider ≡ old.keeper.decider
  pub manager : new.keeper.manager ≡ old.keeper.manager
  pub most : new.most ≡ old.most
  pub held : new.held ≡ old.held
  pub state_is : state new.keeper.core ≡ state old.keeper.core

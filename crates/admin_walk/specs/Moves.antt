-- What lines of the administrator do to a coordinator and its managers.
use Rattle.std.specs.Prelude.{◌≡◌, ℕ, ◌+◌, ◌<◌, ◌≤◌, ◌⊎◌, Bool, true, false, ◌||◌, List, [], ◌∷◌, ◌++◌, map, length, slice_get, Option, Some, None, Result, Err, IfSome}
use Rattle.std.specs.List.{list_all}
use Rattle.access_vectors.specs.Phases.{number_of, is_pending}
use Rattle.managed.specs.Seen.{Seen, Turn}
use Rattle.managed.specs.declared.managed.Event.{Event}
use Rattle.managed.specs.declared.managed.Event.TheVariants as event
use Rattle.change_protocol.specs.Changes.{Led, AreBoth}
use Rattle.change_protocol.specs.declared.answers.NotifyAllFault.{NotifyAllFault}
use Rattle.change_protocol.specs.declared.answers.NotifyAllFault.TheVariants as faults
use Rattle.session_text.specs.declared.session.Run.{Run}
use Rattle.session_text.specs.declared.session.Run.TheVariants as run
use Rattle.session_text.specs.declared.session.RunLine.{RunLine}
use Rattle.admin_walk.specs.Walks.{Given, Rest, IsNoticeTurn, is_clear, Step, Walks, stand_of, is_administrators, one_if}
use Rattle.admin_walk.specs.Explained.{Explains}

-- memory was wanted while managers were given a notice
abbrev pub is_short : Result ℕ NotifyAllFault → Bool
is_short (Err (faults.Memory reached)) = true
is_short other = false

-- the notices of turns: number and version of each
abbrev pub notice_of : Option Event → List (ℕ × ℕ)
notice_of (Some (event.Notice number version)) = (number, version) ∷ []
notice_of other = []

abbrev pub notices_of : List Turn → List (ℕ × ℕ)
notices_of [] = []
notices_of (turn ∷ turns) = notice_of turn.added ++ notices_of turns

-- the numbers that turns acknowledged by force
abbrev pub forcing_of : Option Event → List ℕ
forcing_of (Some (event.Acknowledgement number true)) = number ∷ []
forcing_of other = []

abbrev pub forced_of : List Turn → List ℕ
forced_of [] = []
forced_of (turn ∷ turns) = forcing_of turn.added ++ forced_of turns

-- some of the lines forces acknowledgements
abbrev pub is_force : Run → Bool
is_force run.Force = true
is_force other = false

abbrev pub forces : List RunLine → Bool
forces [] = false
forces (line ∷ lines) = is_force line.run || forces lines

-- the versions of notices
abbrev pub versions_of : List (ℕ × ℕ) → List ℕ
versions_of notices = map (λ notice. notice.1) notices

-- each of these turns is clear
abbrev pub AreClear : List Turn → Type 0
AreClear turns = list_all is_clear turns ≡ true

module _ {Manager : Type 0} (seen : Manager → Seen) where
  -- each manager tells its turns
  abbrev pub AreTold : List Manager → Type 0
  AreTold managers = (place : ℕ) → IfSome (slice_get managers place) (λ manager. (turns : List Turn) × ((seen manager).items ≡ Some turns))

  -- a manager's turns are told, and grew by these
  abbrev pub HasGrown : List Turn → Manager → Manager → Type 0
  HasGrown more was now = (turns : List Turn) × ((seen was).items ≡ Some turns) × ((seen now).items ≡ Some (turns ++ more))

  -- each manager's turns grew by those that it was given
  abbrev pub HaveGrown : Given → List Manager → List Manager → Type 0
  HaveGrown given was now = (place : ℕ) → AreBoth (HasGrown (given place)) (slice_get was place) (slice_get now place)

  -- the administrator may go on: the turns are told, and where a change is pending each manager has its notice
  pub record IsReady {Decider : Type 0} (led : Led Decider Manager) : Type 0 where
    pub told : AreTold led.managers
    pub reached : is_pending led.server.phase ≡ true → length led.managers ≤ led.reached

  -- a line was run: it made such a step, and each manager's turns grew by those that the line gave it. No manager came or went, the
  -- decider and the last number that may be made stay, and the number rises by at most one, and by an own line alone.
  pub record HasActed {Decider : Type 0} (versions : ℕ) (run : Run) (was now : Led Decider Manager) : Type 0 where
    pub given : Given
    pub step : Step versions (length was.managers) (stand_of was.server) run given (stand_of now.server)
    pub grown : HaveGrown given was.managers now.managers
    pub many : length now.managers ≡ length was.managers
    pub decider : now.server.decider ≡ was.server.decider
    pub most : now.server.most ≡ was.server.most
    pub number : number_of now.server.phase ≤ number_of was.server.phase + one_if (is_administrators run)
    pub reached : is_pending now.server.phase ≡ true → length now.managers ≤ now.reached

  -- lines were run: they make such a walk, and each manager's turns grew by those that it was given
  pub record HasRun {Decider : Type 0} (versions : ℕ) (lines : List RunLine) (was now : Led Decider Manager) : Type 0 where
    pub given : Given
    pub walks : Walks versions (length was.managers) (stand_of was.server) lines given (stand_of now.server)
    pub grown : HaveGrown given was.managers now.managers

  -- a turn of a notice, or one that added nothing
  abbrev pub MayBegin : ℕ → ℕ → Turn → Type 0
  MayBegin number version turn = IsNoticeTurn number version turn ⊎ (turn.added ≡ None)

  -- turns grew by these, and then by at most one of a notice that may have been given
  abbrev pub HasGrownShort : List Turn → ℕ → ℕ → Manager → Manager → Type 0
  HasGrownShort more number version was now = HasGrown more was now ⊎ ((turn : Turn) × MayBegin number version turn × HasGrown (more ++ turn ∷ []) was now)

  -- memory was wanted at a notice: of the number after the settled one, and of a version that there is. Each manager's turns grew by
  -- at most one, which is that of the notice or added nothing.
  pub record HasStopped {Decider : Type 0} (versions : ℕ) (said : Run) (was now : Led Decider Manager) : Type 0 where
    pub number : ℕ
    pub rested : stand_of was.server ≡ Rest number
    pub version : ℕ
    pub notice : said ≡ run.Notify version
    pub known : version < versions
    pub grown : (place : ℕ) → AreBoth (HasGrownShort [] (number + 1) version) (slice_get was.managers place) (slice_get now.managers place)

  -- lines were run down to a notice at which memory was wanted: the lines above it make a walk that ends at rest, each manager's turns
  -- grew by those that it was given there, and then by at most one, which is that of the notice or added nothing
  pub record HasRunShort {Decider : Type 0} (versions : ℕ) (lines : List RunLine) (was now : Led Decider Manager) : Type 0 where
    pub done : List RunLine
    pub line : RunLine
    pub left : List RunLine
    pub split : lines ≡ done ++ line ∷ left
    pub number : ℕ
    pub version : ℕ
    pub notice : line.run ≡ run.Notify version
    pub known : version < versions
    pub given : Given
    pub walks : Walks versions (length was.managers) (stand_of was.server) done given (Rest number)
    pub grown : (place : ℕ) → AreBoth (HasGrownShort (given place) (number + 1) version) (slice_get was.managers place) (slice_get now.managers place)

  -- all managers had the same notices more, and the lines explain their versions; no acknowledgement was forced unless a line forces; and where no manager had a turn that found a stale
  -- slot or counted an older pass, they explain them with each acknowledgement of a pending change settling it
  pub record IsExplained {Decider : Type 0} (versions : ℕ) (lines : List RunLine) (was now : Led Decider Manager) : Type 0 where
    pub chosen : List (ℕ × ℕ)
    pub grown : (place : ℕ) → AreBoth (λ was now. (turns : List Turn) × (more : List Turn) × ((seen was).items ≡ Some turns) × ((seen now).items ≡ Some (turns ++ more))
        × (notices_of more ≡ chosen) × (forces lines ≡ false → forced_of more ≡ [])) (slice_get was.managers place) (slice_get now.managers place)
    pub explains : Explains false versions false lines (versions_of chosen)
    pub at_once : ((place : ℕ) → IfSome (slice_get now.managers place) (λ manager. IfSome (seen manager).items AreClear))
        → Explains true versions false lines (versions_of chosen)

-- What contracts see of a runner, and what its type keeps.
use Rattle.std.specs.Prelude.{◌≡◌, ◌≤◌, ℕ, Bool, true, false, refl}
use Rattle.std.specs.Coded.{Coded, code_by, coded×, coded_ℕ, coded_bool}
use Rattle.session_managers.specs.SessionStates.{SessionState}
use Rattle.session_managers.specs.SessionViews.{Standing, LastTold, HasClients, state_code, all_told_code}

-- where the session stands, what decides, what the newest entries tell of calls, how many clients there are, and whether memory was wanting
pub record Running (Decider : Type 0) : Type 0 where
  pub state : SessionState
  pub decider : Decider
  pub told : LastTold
  pub clients : ℕ
  pub stopped : Bool

-- how a proof tells two of them apart: by the fields
abbrev pub running_code : {Decider : Type 0} → Coded Decider → Coded (Running Decider)
running_code {Decider = Decider} code =
    code_by (SessionState × (Decider × (LastTold × (ℕ × Bool)))) (coded× state_code (coded× code (coded× all_told_code (coded× coded_ℕ coded_bool))))
    (λ running. (running.state, (running.decider, (running.told, (running.clients, running.stopped)))))
    (λ p. record { state = p.0; decider = p.1.0; told = p.1.1.0; clients = p.1.1.1.0; stopped = p.1.1.1.1 })
    (λ _. refl)

-- the managers were opened with so many clients, which are few, and unless memory was wanting each has its notice
pub record IsRunner {Decider : Type 0} (managed : Standing Decider) (clients : ℕ) (stopped : Bool) : Type 0 where
  pub few : clients ≤ 62
  pub clients_are : HasClients clients managed.state
  pub whole : stopped ≡ false → managed.whole ≡ true

-- the same run: the same decider, and as many clients
pub record IsSameRun {Decider : Type 0} (old new : Running Decider) : Type 0 where
  pub decider : new.decider ≡ old.decider
  pub clients : new.clients ≡ old.clients

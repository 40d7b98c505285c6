-- The scripts that the lines of a session are split into.
use Rattle.std.specs.Prelude.{◌≡◌, ℕ, ◌<◌, List, [], ◌++◌, length, All, option_map, unwrap_or, slice_get, Some}
use Rattle.std.specs.Global.{Vec}
use Rattle.session_text.specs.declared.session.RunLine.{RunLine}
use Rattle.client_script.specs.Scripts.{script_of, admin_script}
use Rattle.run_scripts.specs.declared.splitting.Scripts.{Scripts}

-- the lines are split: there is a script for each client, which has its lines in their order, and one for the administrator
pub record AreScripts (clients : ℕ) (lines : List RunLine) (scripts : Scripts) : Type 0 where
  pub count : length scripts.clients.items ≡ clients
  pub each : (client : ℕ) (script : Vec RunLine) → slice_get scripts.clients.items client ≡ Some script → script.items ≡ script_of client lines
  pub admin : scripts.admin.items ≡ admin_script lines

-- the lines of a client in these scripts, and none where there is no script for it
abbrev pub lines_in : List (Vec RunLine) → ℕ → List RunLine
lines_in scripts client = unwrap_or (option_map (λ (script : Vec RunLine). script.items) (slice_get scripts client)) []

-- these scripts have these lines more: each client of a script those that are its own, and the administrator those that are its
pub record Gains (lines : List RunLine) (old new : Scripts) : Type 0 where
  pub count : length new.clients.items ≡ length old.clients.items
  pub each : (client : ℕ) → client < length old.clients.items → lines_in new.clients.items client ≡ lines_in old.clients.items client ++ script_of client lines
  pub admin : new.admin.items ≡ old.admin.items ++ admin_script lines

-- so many scripts, with no line yet
pub record AreEmpty (clients : ℕ) (scripts : Scripts) : Type 0 where
  pub count : length scripts.clients.items ≡ clients
  pub each : All (λ (script : Vec RunLine). script.items ≡ []) scripts.clients.items
  pub admin : scripts.admin.items ≡ []

-- scripts on their way: of all lines these are left, and with them behind what the scripts have they are split
pub record AreOnTheWay (clients : ℕ) (all left : List RunLine) (scripts : Scripts) : Type 0 where
  pub count : length scripts.clients.items ≡ clients
  pub each : (client : ℕ) → client < clients → lines_in scripts.clients.items client ++ script_of client left ≡ script_of client all
  pub admin : scripts.admin.items ++ admin_script left ≡ admin_script all

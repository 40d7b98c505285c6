use Rattle.std.proofs.Common.{◌≡◌, [], length}
use Rattle.std.specs.Prelude.{All}
use Rattle.run_scripts.proofs.splitting.empty_scripts.Given as goal

abbrev pub invariant-clients : goal.invariant-clients
invariant-clients l = (length l.scripts.items ≡ l._client) × All (λ script. script.items ≡ []) l.scripts.items

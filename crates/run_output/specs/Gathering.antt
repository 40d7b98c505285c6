-- Lines gathered for one write.
use Rattle.std.specs.Prelude.{◌≡◌, ℕ, List, [], Option, ◌⊎◌}
use Rattle.flask_io.specs.Streams.{Adds}
use Rattle.run_output.specs.Writing.{OffersWhole}

-- the lines that were gathered went out: they were offered whole in one write, and the rest where the sink took a part; none is gathered now
pub record GoesOut (before now : Option (List ℕ)) (offered later : Option (List (List ℕ))) (gathered left : List ℕ) : Type 0 where
  pub adds : Adds before now gathered
  pub whole : OffersWhole offered later gathered
  pub none_left : left ≡ []

-- they wait: nothing was offered or written, and they are still gathered
pub record Waits (before now : Option (List ℕ)) (offered later : Option (List (List ℕ))) (gathered left : List ℕ) : Type 0 where
  pub still : now ≡ before
  pub unoffered : later ≡ offered
  pub kept : left ≡ gathered

-- what was gathered goes out whole, or all of it waits
abbrev pub PutsOrWaits : Option (List ℕ) → Option (List ℕ) → Option (List (List ℕ)) → Option (List (List ℕ)) → List ℕ → List ℕ → Type 0
PutsOrWaits before now offered later gathered left = GoesOut before now offered later gathered left ⊎ Waits before now offered later gathered left

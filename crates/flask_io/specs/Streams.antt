-- What a read takes from a source, and what a write adds to a sink.
use Rattle.std.specs.Prelude.{◌≡◌, ◌<◌, ◌≤◌, ◌+◌, ◌-◌, ◌^◌, ℕ, min, List, [], ◌∷◌, ◌++◌, length, take, Option, option_map, IfSome}
use Rattle.flask_io.specs.declared.source.Got.{Got}
use Rattle.flask_io.specs.declared.source.Got.TheVariants.{Bytes, End, Failed}
use Rattle.flask_io.specs.declared.sink.Put.{Put}
use Rattle.flask_io.specs.declared.sink.Put.TheVariants.{Took, Failed as Refused}

-- what was left to read is what was taken and what is left now, where a source tells it
abbrev pub Takes : Option (List ℕ) → Option (List ℕ) → List ℕ → Type 0
Takes before now taken = before ≡ option_map (λ rest. taken ++ rest) now

-- what was written now is what was written before and the addition, where a sink tells it
abbrev pub Adds : Option (List ℕ) → Option (List ℕ) → List ℕ → Type 0
Adds before now added = now ≡ option_map (λ bytes. bytes ++ added) before

-- what a sink was offered now is what it was offered before and this piece, where it tells it
abbrev pub Offers : Option (List (List ℕ)) → Option (List (List ℕ)) → List ℕ → Type 0
Offers before now piece = now ≡ option_map (λ pieces. pieces ++ piece ∷ []) before

-- a read gives from one to as many bytes as the buffer has, the first of those left; or it finds the end, where nothing is left; or it fails, and takes nothing
abbrev pub Reads : Got → Option (List ℕ) → Option (List ℕ) → List ℕ → Type 0
Reads (Bytes n) before now buf = (0 < n) × (n ≤ length buf) × Takes before now (take n buf)
Reads End before now buf = (now ≡ before) × IfSome before (λ bytes. bytes ≡ [])
Reads Failed before now buf = now ≡ before

-- a write takes from one to all bytes of the piece, the first of them; or it fails, and takes nothing
abbrev pub Writes : Put → Option (List ℕ) → Option (List ℕ) → List ℕ → Type 0
Writes (Took n) before now piece = (0 < n) × (n ≤ length piece) × Adds before now (take n piece)
Writes Refused before now piece = now ≡ before

-- a count of faults rose; one that stands at the greatest 64-bit number is taken as risen
abbrev pub Rose : ℕ → ℕ → Type 0
Rose before now = min (before + 1) (2 ^ 64 - 1) ≤ now

-- a count of faults never falls; a failure comes only where it rose, and where nothing failed it stands
pub record HasCause (before now : ℕ) (failed : Type 0) : Type 0 where
  pub later : before ≤ now
  pub rose : failed → Rose before now
  pub quiet : (failed → ⊥) → now ≤ before

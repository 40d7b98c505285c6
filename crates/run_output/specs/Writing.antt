-- What a run wrote.
use Rattle.std.specs.Prelude.{◌≡◌, ◌<◌, ℕ, List, [], ◌∷◌, ◌++◌, length, Option, option_map}
use Rattle.flask_io.specs.Streams.{Adds}

-- a front of the text was added
abbrev pub AddsFront : Option (List ℕ) → Option (List ℕ) → List ℕ → Type 0
AddsFront before now text = (front : List ℕ) × (rest : List ℕ) × (text ≡ front ++ rest) × Adds before now front

-- of a line this rest is still to be offered, and all before it was added
abbrev pub IsOffered : Option (List ℕ) → Option (List ℕ) → List ℕ → List ℕ → Type 0
IsOffered before now line rest = (front : List ℕ) × (line ≡ front ++ rest) × Adds before now front

-- what is left of a line behind a front of it that is not empty
abbrev pub IsRest : List ℕ → List ℕ → Type 0
IsRest line rest = (front : List ℕ) × (0 < length front) × (line ≡ front ++ rest)

-- each piece is a rest of the line
abbrev pub AreRests : List ℕ → List (List ℕ) → Type 0
AreRests line [] = Unit {0}
AreRests line (piece ∷ pieces) = IsRest line piece × AreRests line pieces

-- the line was offered as one piece, and then nothing but rests of it
abbrev pub OffersFirst : Option (List (List ℕ)) → Option (List (List ℕ)) → List ℕ → Type 0
OffersFirst before now line = (rests : List (List ℕ)) × AreRests line rests × (now ≡ option_map (λ pieces. pieces ++ line ∷ rests) before)

-- a line was offered whole, in one write, where a sink tells what it was offered; of a line without bytes nothing was
abbrev pub OffersWhole : Option (List (List ℕ)) → Option (List (List ℕ)) → List ℕ → Type 0
OffersWhole before now [] = now ≡ before
OffersWhole before now (byte ∷ bytes) = OffersFirst before now (byte ∷ bytes)

-- of a line this rest is still to be offered: the line itself, of which nothing was offered, or else a rest behind what was offered, the whole line first
pub record IsUnderWay (before now : Option (List (List ℕ))) (line rest : List ℕ) : Type 0 where
  pub untouched : rest ≡ line → now ≡ before
  pub begun : length rest < length line → OffersFirst before now line

-- The bytes of files.
use Rattle.std.specs.Prelude.{ℕ, ◌+◌, ◌-◌, List, ◌++◌, length, take, drop, replicate}

-- the byte that fills a gap, `.`
abbrev pub filler : ℕ
filler = 46

-- bytes to which a piece was written at an offset: what stood before it, a gap filled, the piece, and what stood past it
abbrev pub written : List ℕ → ℕ → List ℕ → List ℕ
written bytes offset piece =
    (take offset bytes ++ replicate (offset - length bytes) filler) ++ piece ++ drop (offset + length piece) bytes

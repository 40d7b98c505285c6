-- Cached rows.
use Rattle.std.specs.Prelude.{◌≡◌, ℕ, ◌+◌, ◌%◌, ◌<◌, ◌≤◌, ◌⊎◌, ◌==◌, Bool, List, slice_index}
use Rattle.access_vectors.specs.declared.class.Class.{Class}
use Rattle.access_vectors.specs.Decisions.{Decisions}
use Rattle.row_words.specs.Words.{row_word, row_place, IsRow, AreSids}
use Rattle.gate_rule.specs.declared.view.Key.{Key}

-- a word is empty, or a row under a number that is not above the newest, with the decider's vector for that number's version
abbrev pub FitsRow : Decisions → ℕ → (ℕ → ℕ) → ℕ → Type 0
FitsRow decides newest version w =
    (w ≡ 0)
    ⊎ ((n : ℕ) × (s : ℕ) × (t : ℕ) × (c : Class) × (v : ℕ) × (w ≡ row_word n s t c v) × IsRow n s t v × (n ≤ newest) × (v ≡ decides.vector (version n) s t c))

-- the rows of a table: each of words 5 to 516 is empty or such a row
abbrev pub Rows : Decisions → ℕ → (ℕ → ℕ) → List ℕ → Type 0
Rows decides newest version words = (i : ℕ) → 5 ≤ i → i < 517 → FitsRow decides newest version (slice_index words i)

-- the word of a key
abbrev pub key_word : Key → ℕ
key_word k = 5 + row_place k.source k.target k.class

-- the row of a number and a key with a vector
abbrev pub key_row : ℕ → Key → ℕ → ℕ
key_row n k v = row_word n k.source k.target k.class v

-- the word is a row of this number and key; its vector is then its lowest 16 bits
abbrev pub shows : ℕ → Key → ℕ → Bool
shows n k w = w == key_row n k (w % 65536)

-- a key that a row can name
abbrev pub IsKey : Key → Type 0
IsKey k = AreSids k.source k.target

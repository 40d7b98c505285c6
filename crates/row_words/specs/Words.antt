-- How the words of a table are packed.
use Rattle.std.specs.Prelude.{◌≡◌, ℕ, ◌+◌, ◌*◌, ◌/◌, ◌%◌, ◌<◌, ◌⊎◌, ◌==◌, ◌||◌, Option, Some, None, if◌then◌else◌}
use Rattle.access_vectors.specs.Table.{code_of, class_coded}
use Rattle.access_vectors.specs.declared.class.Class.{Class}

-- the fields of a gate word are below these
abbrev pub IsGate : ℕ → ℕ → ℕ → Type 0
IsGate number version passes = (number < 1048576) × (version < 256) × (passes < 68719476736)

-- the word of a policy number, its version and the passes entered
abbrev pub gate_word : ℕ → ℕ → ℕ → ℕ
gate_word number version passes = number * 17592186044416 + version * 68719476736 + passes

-- number, version and passes of a gate word
abbrev pub split_gate : ℕ → ℕ × ℕ × ℕ
split_gate w = (w / 17592186044416, w / 68719476736 % 256, w % 68719476736)

-- source and target are from 1 to 4,095
abbrev pub AreSids : ℕ → ℕ → Type 0
AreSids s t = (0 < s) × (s < 4096) × (0 < t) × (t < 4096)

-- the fields of a row beside its class are within these
abbrev pub IsRow : ℕ → ℕ → ℕ → ℕ → Type 0
IsRow number s t v = (number < 1048576) × (0 < s) × (s < 4096) × (0 < t) × (t < 4096) × (v < 65536)

-- the word of an answer: number, source, target, class and vector
abbrev pub row_word : ℕ → ℕ → ℕ → Class → ℕ → ℕ
row_word number s t c v = number * 17592186044416 + s * 4294967296 + t * 1048576 + code_of c * 65536 + v

-- the source field of a word
abbrev pub source_field : ℕ → ℕ
source_field w = w / 4294967296 % 4096

-- the target field of a word
abbrev pub target_field : ℕ → ℕ
target_field w = w / 1048576 % 4096

-- the class code field of a word
abbrev pub class_field : ℕ → ℕ
class_field w = w / 65536 % 16

-- no source, no target or no class
abbrev pub IsNoRow : ℕ → Type 0
IsNoRow w = (source_field w ≡ 0) ⊎ ((target_field w ≡ 0) ⊎ ((class_field w ≡ 0) ⊎ (5 < class_field w)))

-- the answer with these fields, where the class is one
abbrev pub answer_with : ℕ → Option Class → Option (ℕ × ℕ × ℕ × Class × ℕ)
answer_with w None = None
answer_with w (Some c) = Some (w / 17592186044416, source_field w, target_field w, c, w % 65536)

-- the answer that a word shows, if it is a row
abbrev pub split_row : ℕ → Option (ℕ × ℕ × ℕ × Class × ℕ)
split_row w = if source_field w == 0 || target_field w == 0 then None else answer_with w (class_coded (class_field w))

-- the place of a key's row among the 512 rows
abbrev pub row_place : ℕ → ℕ → Class → ℕ
row_place s t c = (31 * s + 7 * t + code_of c) % 512

-- What a decider decides.
use Rattle.std.specs.Prelude.{ℕ, ◌<◌, ◌≤◌, Bool, IsTrue}
use Rattle.access_vectors.specs.declared.class.Class.{Class}

-- all that a decider decides: how many versions there are, which identifiers are its own, and for each version,
-- source, target and class the vector, the label of a new object and the member of a set
pub record Decisions : Type 0 where
  pub versions : ℕ
  pub known : ℕ → Bool
  pub vector : ℕ → ℕ → ℕ → Class → ℕ
  pub label : ℕ → ℕ → ℕ → Class → ℕ
  pub member : ℕ → ℕ → ℕ → Class → ℕ

-- decisions that hold together: 1 to 256 versions, identifiers from 1 to 4,095, vectors of 16 bits, and no label or
-- member that the decider does not know
pub record IsClosed (d : Decisions) : Type 0 where
  pub some_version : 0 < d.versions
  pub few_versions : d.versions ≤ 256
  pub sids : (s : ℕ) → IsTrue (d.known s) → (0 < s) × (s < 4096)
  pub vectors : (version s t : ℕ) (class : Class) → version < d.versions → IsTrue (d.known s) → IsTrue (d.known t)
      → d.vector version s t class < 65536
  pub labels : (version s t : ℕ) (class : Class) → version < d.versions → IsTrue (d.known s) → IsTrue (d.known t)
      → IsTrue (d.known (d.label version s t class))
  pub members : (version s t : ℕ) (class : Class) → version < d.versions → IsTrue (d.known s) → IsTrue (d.known t)
      → IsTrue (d.known (d.member version s t class))

-- What a mode may do under a vector: the rules of managers, and what a callback has to answer.
use Rattle.std.specs.Prelude.{◌≡◌, ℕ, ◌<◌, ◌==◌, bit_and, if◌then◌else◌}
use Rattle.retained_rights.specs.declared.rule.Rule.{Rule}
use Rattle.retained_rights.specs.declared.rule.Rule.TheVariants.{Each, All}

-- the usable bits of a mode under a vector: with rule Each those permissions of the mode that the vector has; with rule All
-- the mode, where the vector has the whole of it, and else nothing
abbrev pub ruled : Rule → ℕ → ℕ → ℕ
ruled Each mode vector = bit_and mode vector
ruled All mode vector = if bit_and mode vector == mode then mode else 0

-- a callback meets a rule: it may be called on every mode and vector of 16 bits, and then gives the rule's bits. `may` and
-- `gives` are the callback's own contract.
pub record Meets {Callback : Type 0} (may : Callback → ℕ → ℕ → Type 0) (gives : Callback → ℕ → ℕ → ℕ → Type 0)
    (rule : Rule) (callback : Callback) : Type 0 where
  pub callable : (mode vector : ℕ) → mode < 65536 → vector < 65536 → may callback mode vector
  pub answers : (mode vector bits : ℕ) → mode < 65536 → vector < 65536 → gives callback mode vector bits → bits ≡ ruled rule mode vector

-- Passes: how many were entered and left, and under which numbers.
use Rattle.std.specs.Prelude.{◌≡◌, ℕ, suc, zero, ◌+◌, ◌%◌, ◌<◌, ◌≤◌, ◌⊎◌, ◌==◌, cond, List}
use Rattle.std.specs.List.{sum_by}
use mathlib.Core.Option.{some}
use lib.ListN.{get_elem?}
use Rattle.row_words.specs.Words.{gate_word}
use Rattle.gate_rule.specs.declared.view.Pass.{Pass}
use Rattle.gate_rule.specs.declared.view.Pass.TheVariants.{Out, Inside}
use Rattle.gate_rule.specs.declared.view.Rights.{Rights}

-- 1 for a pass whose number has this parity
abbrev pub at_parity : ℕ → Pass → ℕ
at_parity p Out = 0
at_parity p (Inside number version) = cond (number % 2 == p) 1 0

-- 1 for a seat whose pass has a number of this parity
abbrev pub inside_at : ℕ → Rights → ℕ
inside_at p r = at_parity p r.pass

-- how often the seat may enter yet
abbrev pub quota_of : Rights → ℕ
quota_of r = r.quota

-- the leave counter of a parity
abbrev pub left_of : ℕ → ℕ → ℕ → ℕ
left_of even odd zero = even
left_of even odd (suc p) = odd

-- the pass has the settled number, the newest one or a number below a forced one; its version is that number's; below `clear` only what was forced is left
abbrev pub FitsPass : ℕ → ℕ → ℕ → ℕ → (ℕ → ℕ) → Pass → Type 0
FitsPass newest settled forced clear version Out = Unit {0}
FitsPass newest settled forced clear version (Inside n v) =
    ((n ≡ settled) ⊎ ((n ≡ newest) ⊎ (n < forced))) × (n ≤ newest) × (v ≡ version n) × (n < clear → n < forced)

-- the gate word shows the newest number, its version and the passes entered.
-- Entry budget: the passes entered, the quotas left and the quotas of the seats not yet made are at most 2^35.
-- Passes counted: those of the parity of the newest number are the ones entered under it less the ones left, and those of the other parity the ones counted less the ones left.
-- Pass numbers and clearance: as each pass fits
pub record Passes (rs : List Rights) (newest settled forced counted unmade clear : ℕ) (version : ℕ → ℕ) (gate even odd : ℕ) : Type 0 where
  pub entered : ℕ
  pub gate_is : gate ≡ gate_word newest (version newest) entered
  pub here : sum_by (inside_at (newest % 2)) rs + left_of even odd (newest % 2) + counted ≡ entered
  pub there : sum_by (inside_at ((newest + 1) % 2)) rs + left_of even odd ((newest + 1) % 2) ≡ counted
  pub budget : entered + sum_by quota_of rs + unmade ≤ 34359738368
  pub between : (settled ≤ newest) × (newest ≤ settled + 1)
  pub cleared : clear ≤ newest
  pub forced_is : forced ≤ settled
  pub each : (j : ℕ) (r : Rights) → get_elem? rs j ≡ some r → FitsPass newest settled forced clear version r.pass

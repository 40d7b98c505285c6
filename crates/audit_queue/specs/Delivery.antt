-- What the queue of audit lines keeps to, whatever its threads do.
use Rattle.std.specs.Prelude.{◌≡◌, ◌<◌, ◌≤◌, ◌+◌, ℕ, suc, true, false, List, [], ◌∷◌, ◌++◌, All}
use mathlib.Core.Option.{some}
use lib.ListN.{get_elem?}
use Rattle.audit_log.specs.Logs.{of_client, lines_by}
use Rattle.audit_log.specs.declared.audited.AuditLine.{AuditLine}
use Rattle.audit_queue.specs.declared.knowledge.KeptLines.{KeptLines}
use Rattle.audit_queue.specs.declared.knowledge.Knowledge.{Knowledge}

-- a pass that neither posts nor takes
abbrev pub idle : Knowledge
idle = record { posts = false; number = 0; put = []; takes = false; made = 0; kept = []; got = [] }

-- the taker before it made a pen
abbrev pub taking : Knowledge
taking = record { posts = false; number = 0; put = []; takes = true; made = 0; kept = []; got = [] }

-- a pen of a number before it posted
abbrev pub pen_of : ℕ → Knowledge
pen_of number = record { posts = true; number = number; put = []; takes = false; made = 0; kept = []; got = [] }

-- a pen has the one pass of its number, and knows what was sent under it
abbrev pub FitsPen : (ℕ → ℕ) → (ℕ → List AuditLine) → ℕ → Knowledge → Type 0
FitsPen seat sent pass v = v.posts ≡ true → (seat v.number ≡ suc pass) × (v.put ≡ sent v.number)

-- what a retired pen posted is all that was sent under its number, which no pass has any more
abbrev pub IsKept : (ℕ → ℕ) → (ℕ → List AuditLine) → ℕ → KeptLines → Type 0
IsKept seat sent made one = (seat one.pen ≡ 0) × (one.lines ≡ sent one.pen) × (one.pen < made)

-- the one taker knows what it got, that no later pen sent anything, and what the retired pens posted
abbrev pub FitsTaker : ℕ → (ℕ → ℕ) → (ℕ → List AuditLine) → List AuditLine → ℕ → Knowledge → Type 0
FitsTaker taker seat sent got pass v =
    v.takes ≡ true
    → (pass ≡ taker) × (v.got ≡ got) × ((p : ℕ) → v.made ≤ p → (seat p ≡ 0) × (sent p ≡ []))
    × ((k : ℕ) (one : KeptLines) → get_elem? v.kept k ≡ some one → IsKept seat sent v.made one)

-- what was sent under each number is what was got of it and then what the queue holds of it, in order. `seat` has the pass of each number's pen, one more
-- than its place, and 0 where there is none; `sent` what was sent under each number
abbrev pub Delivers : List AuditLine → List Knowledge → Type 0
Delivers items views =
    (taker : ℕ) × (seat : ℕ → ℕ) × (sent : ℕ → List AuditLine) × (got : List AuditLine)
    × ((p : ℕ) → lines_by p (got ++ items) ≡ sent p)
    × ((pass : ℕ) (v : Knowledge) → get_elem? views pass ≡ some v → FitsPen seat sent pass v × FitsTaker taker seat sent got pass v)

-- a line that was got stands behind those that were got before; it is of a pen that was made; and with it what was got of a retired pen is a front of what
-- that pen posted
abbrev pub HasGot : Knowledge → AuditLine → Knowledge → Type 0
HasGot before line after =
    (after ≡ record before { got = before.got ++ line ∷ [] }) × (line.client < before.made)
    × ((k : ℕ) (one : KeptLines) → get_elem? before.kept k ≡ some one → (rest : List AuditLine) × (one.lines ≡ lines_by one.pen after.got ++ rest))

-- what a retired pen posted is what was got of it and then what the queue holds of it
abbrev pub IsLeft : Knowledge → List AuditLine → Type 0
IsLeft v items = (k : ℕ) (one : KeptLines) → get_elem? v.kept k ≡ some one → one.lines ≡ lines_by one.pen (v.got ++ items)

-- of each retired pen the log has what it posted, and of a number that no pen has nothing
pub record IsTakenAll (v : Knowledge) (log : List (List AuditLine)) : Type 0 where
  pub kept : (k : ℕ) (one : KeptLines) → get_elem? v.kept k ≡ some one → of_client log one.pen ≡ one.lines
  pub others : (client : ℕ) → v.made ≤ client → of_client log client ≡ []

-- of each retired pen the log has a front of what it posted
abbrev pub IsTakenFront : Knowledge → List (List AuditLine) → Type 0
IsTakenFront v log = (k : ℕ) (one : KeptLines) → get_elem? v.kept k ≡ some one → (rest : List AuditLine) × (one.lines ≡ of_client log one.pen ++ rest)

-- What contracts see of a pen and of the taker of a queue of audit lines.
use Rattle.std.specs.Prelude.{◌≡◌, ◌≤◌, ℕ, true, false, List, [], ◌∷◌, ◌++◌, length, None}
use Rattle.std.specs.declared.alloc.Global.{Global}
use mathlib.Core.Option.{some}
use lib.ListN.{get_elem?}
use Rattle.atomic_blocks.specs.declared.web.Seat.{Seat}
use Rattle.crossbeam_queue.specs.SegTies.{SegId}
use Rattle.crossbeam_queue.specs.declared.seg_queue.Going.{Going}
use Rattle.audit_log.specs.Logs.{of_client}
use Rattle.audit_log.specs.declared.audited.AuditLine.{AuditLine}
use Rattle.audit_queue.specs.declared.knowledge.KeptLines.{KeptLines}
use Rattle.audit_queue.specs.declared.knowledge.Knowledge.{Knowledge}

-- which queue it is
abbrev pub QueueId : Type 0
QueueId = SegId Global

-- a pen: its queue, its number, and the lines that it posted, in order
pub record Posted : Type 0 where
  pub queue : QueueId
  pub number : ℕ
  pub lines : List AuditLine

-- the taker: its queue, how many pens there may be and how many were made, and what each retired one posted
pub record Taken : Type 0 where
  pub queue : QueueId
  pub clients : ℕ
  pub made : ℕ
  pub kept : List KeptLines

module _ {S A : Type 0} where
  -- the pass is in no step of the queue
  abbrev pub IsAtRest : Seat S (Going AuditLine Knowledge) A → Type 0
  IsAtRest pass = (pass.me.hand ≡ None) × (pass.me.spare ≡ None)

  -- what the pass knows
  abbrev pub knows : Seat S (Going AuditLine Knowledge) A → Knowledge
  knows pass = pass.me.view.client

  -- a pen's pass
  pub record IsPosting (number : ℕ) (pass : Seat S (Going AuditLine Knowledge) A) : Type 0 where
    pub rest : IsAtRest pass
    pub posts : (knows pass).posts ≡ true
    pub takes : (knows pass).takes ≡ false
    pub number_is : (knows pass).number ≡ number

  -- the taker's pass
  pub record IsTaking (made : ℕ) (pass : Seat S (Going AuditLine Knowledge) A) : Type 0 where
    pub rest : IsAtRest pass
    pub posts : (knows pass).posts ≡ false
    pub takes : (knows pass).takes ≡ true
    pub made_is : (knows pass).made ≡ made

-- after a line more
abbrev pub with_line : Posted → AuditLine → Posted
with_line pen line = record pen { lines = pen.lines ++ line ∷ [] }

-- the taker with what a pen posted
abbrev pub with_pen : Taken → Posted → Taken
with_pen taker pen = record taker { kept = taker.kept ++ record { pen = pen.number; lines = pen.lines } ∷ [] }

-- of each retired pen the log has what it posted, and of other clients nothing
pub record HasAll (taker : Taken) (log : List (List AuditLine)) : Type 0 where
  pub kept : (k : ℕ) (one : KeptLines) → get_elem? taker.kept k ≡ some one → of_client log one.pen ≡ one.lines
  pub others : (client : ℕ) → taker.made ≤ client → of_client log client ≡ []
  pub clients : length log ≡ taker.clients

-- of each retired pen the log has a front of what it posted
pub record HasFronts (taker : Taken) (log : List (List AuditLine)) : Type 0 where
  pub kept : (k : ℕ) (one : KeptLines) → get_elem? taker.kept k ≡ some one → (rest : List AuditLine) × (one.lines ≡ of_client log one.pen ++ rest)
  pub clients : length log ≡ taker.clients

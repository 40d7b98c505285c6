-- What the workers of a run begin with, and what they leave.
use Rattle.std.specs.Prelude.{◌≡◌, ℕ, ◌+◌, ◌<◌, false, [], length, All, slice_get, OnOk}
use Rattle.access_vectors.specs.Decisions.{Decisions}
use Rattle.access_vectors.specs.Phases.{number_of, is_pending}
use Rattle.retained_rights.specs.declared.callbacks.EachBits.{EachBits}
use Rattle.retained_rights.specs.declared.callbacks.AllBits.{AllBits}
use Rattle.managed.specs.Seen.{Seen}
use Rattle.change_protocol.specs.Changes.{AreBoth}
use Rattle.admin_walk.specs.Walks.{own_lines}
use Rattle.admin_walk.specs.Moves.{AreTold, IsExplained}
use Rattle.client_script.specs.Clients.{AreOf, HaveRoom, HasRun, HoldNone, HaveNone, AreSeated, IsFormedFor, standings_of}
use Rattle.client_script.specs.Audits.{RiseFrom, script_audit}
use Rattle.client_script.specs.declared.stations.Stations.{Stations}
use Rattle.client_acts.specs.declared.worker.Audit.{Audit}
use Rattle.audit_queue.specs.Pens.{QueueId}
use Rattle.thread_run.specs.declared.clients.Slot.{Slot}
use Rattle.thread_run.specs.declared.administrator.Office.{Office}

module _ {D : Type 0} where
  -- whose place it is
  abbrev pub client_of : Slot D → ℕ
  client_of slot = (standings_of slot.seats).files.client

  -- a client's worker may begin: its seats are the stations', of one number, and did nothing yet; they may enter more often than the
  -- script has lines; and each call of the script is well formed
  pub record MayWork (decides : D → Decisions) (stations : Stations D EachBits AllBits AllBits) (slot : Slot D) : Type 0 where
    pub seated : AreSeated stations slot.seats
    pub fresh : HaveNone (standings_of slot.seats)
    pub client : AreOf (client_of slot) (standings_of slot.seats)
    pub room : HaveRoom (length slot.lines.items) (standings_of slot.seats)
    pub formed : All (λ line. IsFormedFor decides stations (client_of slot) line.run) slot.lines.items

  -- a client's worker has ended: its seats are the stations' and of the same number, and hold no pass; and unless memory was wanted, its
  -- own entries are those of its whole script
  pub record HasWorked (stations : Stations D EachBits AllBits AllBits) (was now : Slot D) : Type 0 where
    pub ran : OnOk now.ended (HasRun (client_of was) was.lines.items (standings_of now.seats))
    pub client : AreOf (client_of was) (standings_of now.seats)
    pub given : HoldNone (standings_of now.seats)
    pub seated : AreSeated stations now.seats

  -- a client's worker may post: its pen is the queue's, has the client's number, and has posted nothing
  pub record MayPost (queue : QueueId) (slot : Slot D) : Type 0 where
    pub queue_is : slot.pen.queue ≡ queue
    pub number_is : slot.pen.number ≡ client_of slot
    pub none : slot.pen.lines ≡ []

  -- a client's worker has ended: its pen is the queue's and of the same number; and unless memory was wanted it has posted the audit
  -- lines of its whole script, whose line numbers rise
  pub record HasPosted (audit : Audit) (was now : Slot D) : Type 0 where
    pub queue_is : now.pen.queue ≡ was.pen.queue
    pub number_is : now.pen.number ≡ was.pen.number
    pub lines : OnOk now.ended (RiseFrom 0 was.lines.items → now.pen.lines ≡ script_audit audit (client_of was) was.lines.items (standings_of now.seats))

module _ {D M : Type 0} where
  -- the administrator's worker may begin: no change is pending, each manager tells its turns, and there is a policy number for each of its lines
  pub record MayAdminister (seen : M → Seen) (office : Office D M) : Type 0 where
    pub settled : is_pending office.changes.server.phase ≡ false
    pub told : AreTold seen office.changes.managers
    pub three : length office.changes.managers ≡ 3
    pub room : number_of office.changes.server.phase + own_lines office.lines.items < office.changes.server.most

  -- the administrator's worker has ended: each manager stays the same one; and unless memory was wanted, the lines explain what the
  -- managers were given
  pub record HasAdministered (decides : D → Decisions) (seen : M → Seen) (same : M → M → Type 0) (was now : Office D M) : Type 0 where
    pub ran : OnOk now.ended (IsExplained seen (decides was.changes.server.decider).versions was.lines.items was.changes now.changes)
    pub same_is : (place : ℕ) → AreBoth same (slice_get was.changes.managers place) (slice_get now.changes.managers place)

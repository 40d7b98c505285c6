-- What the administrator of a change sees of a manager behind its gate.
use Rattle.std.specs.Prelude.{◌≡◌, ℕ, ◌-◌, ◌^◌, min, List, map, length, All, Some, None, option_map}
use Rattle.std.specs.List.{fold}
use Rattle.access_vectors.specs.Decisions.{Decisions}
use Rattle.manager_history.specs.declared.entry.Entry.{Entry}
use Rattle.managed.specs.Seen.{Seen, Turn, event_of}
use Rattle.managed.specs.declared.managed.Shown.{Shown as Showing}
use Rattle.gate_rule.specs.declared.view.Item.{Item}
use Rattle.epoch_gate.specs.Seats.{SeatView, Site, IsOfGate}
use Rattle.epoch_gate.specs.Known.{seen_by, seats_made, seats_retired, turns_had, greatest_number, versions_at, IsIdle}
use Rattle.managed_run.specs.declared.docket.Opened.{Opened}
use Rattle.managed_run.specs.Kinds.{phase_of}
use Rattle.managed_run.specs.Changes.{or_none, IsClear}

-- what a turn showed
abbrev pub showing : {E : Type 0} → Item E → Showing
showing item = record { older = or_none item.looked; found = item.found; left = item.left }

-- what the last of the turns showed, and before the first nothing
abbrev pub last_shown : {E : Type 0} → List (Item E) → Showing
last_shown turns = fold (λ before item. showing item) (record { older = 0; found = 0; left = 0 }) turns

-- how many turns there were, in 64 bits
abbrev pub tries_of : {E : Type 0} → List (Item E) → ℕ
tries_of turns = min (length turns) (2 ^ 64 - 1)

-- a station, and its administrator
pub record Holding (Core D Call Reply : Type 0) : Type 0 where
  pub site : Site D (Opened Core)
  pub admin : SeatView (Entry Call Reply) D (Opened Core)

-- the administrator is the station's and has not the turn; where it made no seat, each of its turns was clear
pub record IsHolding {Core D Call Reply : Type 0} (held : Holding Core D Call Reply) : Type 0 where
  pub gate : IsOfGate held.site held.admin
  pub idle : IsIdle held.admin
  pub clear : seats_made held.admin ≡ 0 → All IsClear (turns_had held.admin)

-- a turn, as the administrator of a change sees it
abbrev pub turn_of : {Call Reply : Type 0} → Item (Entry Call Reply) → Turn
turn_of item = record { added = option_map event_of item.entry; older = item.looked; found = item.found; left = item.left }

-- what is seen of it: the history that the administrator has seen, its phase, the turns as items and their number as tries, and
-- what the last turn showed. Older passes, what slots follow and the stale slots are not told.
abbrev pub seen_of : {Core D Call Reply : Type 0} → (D → Decisions) → Holding Core D Call Reply → Seen
seen_of decides held = record {
  manager = held.site.fixed.opening.manager;
  phase = phase_of (seen_by held.admin);
  history = map event_of (seen_by held.admin);
  most = greatest_number held.site;
  versions = versions_at decides held.site;
  tries = tries_of (turns_had held.admin);
  shown = last_shown (turns_had held.admin);
  older = None;
  follows = None;
  stale = None;
  items = Some (map turn_of (turns_had held.admin));
}

-- one and the same station, and the seats that the administrator made and retired
pub record IsSameHolding {Core D Call Reply : Type 0} (old new : Holding Core D Call Reply) : Type 0 where
  pub site : new.site ≡ old.site
  pub made : seats_made new.admin ≡ seats_made old.admin
  pub retired : seats_retired new.admin ≡ seats_retired old.admin

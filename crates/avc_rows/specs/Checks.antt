-- What a check does to a seat.
use Rattle.std.specs.Prelude.{◌≡◌, ℕ, true, false}
use Rattle.std.proofs.Common.{◌∙◌, ap}
use Rattle.access_vectors.specs.Asking.{Key as AskedKey}
use Rattle.gate_rule.specs.declared.view.Key.{Key}
use Rattle.gate_rule.specs.declared.view.View.{View}
use Rattle.gate_rule.specs.Rows.{key_word, key_row, shows}
use Rattle.gate_rule.specs.Views.{saw_row, filled}
use Rattle.epoch_gate.specs.Seats.{SeatView}
use Rattle.epoch_gate.specs.Known.{pass_number, found_last, found_before}
use Rattle.epoch_gate.specs.Calls.{HasLooked}
use Rattle.avc_rows.specs.declared.rows.Origin.{Origin}
use Rattle.avc_rows.specs.declared.rows.Origin.TheVariants.{Hit, Asked}

-- the seat differs in its steps and in the keys that it was served alone
abbrev pub IsSame : {E D O : Type 0} → SeatView E D O → SeatView E D O → Type 0
IsSame s t = (t.table ≡ s.table) × (t.view ≡ record s.view { trace = t.view.trace; served = t.view.served })

-- a hit is one step, a look that showed the key's row under the pass's number; where the decider was asked there were two: a look that showed none, and a fill of the key's row with the answer
abbrev pub IsShown : {E D O : Type 0} → Key → SeatView E D O → SeatView E D O → ℕ → Origin → Type 0
IsShown key s t vector Hit = HasLooked key s t × (shows (pass_number s) key (found_last t) ≡ true)
IsShown key s t vector Asked =
    (t.view ≡ filled key (saw_row key s.view (key_word key) (found_before t)) (key_word key) (found_last t) (key_row (pass_number s) key vector))
    × (shows (pass_number s) key (found_before t) ≡ false)

-- a key as askers tell it
abbrev pub as_asked : Key → AskedKey
as_asked key = record { source = key.source; target = key.target; class = key.class }

-- what is the same as the same is the same
pub IsSame-transitive : {E D O : Type 0} (a b c : SeatView E D O) → IsSame a b → IsSame b c → IsSame a c
IsSame-transitive {E} {D} {O} a b c ab bc =
    (bc.0 ∙ ab.0, bc.1 ∙ ap (λ (v : View E D O). record v { trace = c.view.trace; served = c.view.served }) ab.1)

-- The pens of the clients are made, and retired one after another.
use Rattle.std.proofs.Common.{◌≡◌, ℕ, ◌+◌, ◌<◌, List, [], ◌∷◌, ◌++◌, map, length, refl, sym, ap, subst, ◌∙◌, append-nil, append_assoc, arith}
use Rattle.std.specs.Prelude.{Ok}
use Rattle.std.proofs.lemmas.List.{length-append}
use Rattle.std.specs.Global.{Vec}
use Rattle.retained_rights.specs.declared.callbacks.EachBits.{EachBits}
use Rattle.retained_rights.specs.declared.callbacks.AllBits.{AllBits}
use Rattle.session_text.specs.declared.session.RunLine.{RunLine}
use Rattle.client_script.specs.declared.stations.Seats.{Seats}
use Rattle.audit_queue.specs.Pens.{QueueId, Posted, Taken, with_pen}
use Rattle.audit_queue.specs.declared.knowledge.KeptLines.{KeptLines}
use Rattle.thread_run.specs.declared.clients.Slot.{Slot}
use Rattle.thread_run.specs.Runs.{new_pen, slots_of, with_pens}

module _ {D : Type 0} where
  -- what a taker keeps of a place
  abbrev pub kept_pen : Slot D → KeptLines
  kept_pen slot = record { pen = slot.pen.number; lines = slot.pen.lines }

  -- one pen is retired, and then those of the places that are left
  pub pens_one : (taker : Taken) (slot : Slot D) (left rest : List (Slot D)) → left ≡ slot ∷ rest → with_pens (with_pen taker slot.pen) rest ≡ with_pens taker left
  pens_one taker slot left rest split =
      ap (λ (kept : List KeptLines). record taker { kept = kept }) (append_assoc taker.kept (kept_pen slot ∷ []) (map kept_pen rest))
      ∙ ap (λ (slots : List (Slot D)). with_pens taker slots) (sym split)

  -- none is left
  pub pens_none : (taker : Taken) (left : List (Slot D)) → left ≡ [] → with_pens taker left ≡ taker
  pens_none taker left none =
      ap (λ (slots : List (Slot D)). with_pens taker slots) none ∙ ap (λ (kept : List KeptLines). record taker { kept = kept }) (append-nil taker.kept)

  -- a place more is made
  pub place_more : (queue : QueueId) (slots : List (Slot D)) (slot : Slot D) (own : Seats D EachBits AllBits AllBits) (lines : Vec RunLine) (left seats : List (Seats D EachBits AllBits AllBits))
      (later scripts : List (Vec RunLine)) (all : List (Slot D)) → seats ≡ own ∷ left → scripts ≡ lines ∷ later → slot ≡ record { seats = own; pen = new_pen queue (length slots); lines = lines; ended = Ok tt }
      → slots ++ slots_of queue (length slots) seats scripts ≡ all → (slots ++ slot ∷ []) ++ slots_of queue (length (slots ++ slot ∷ [])) left later ≡ all
  place_more queue slots slot own lines left seats later scripts all seats_are scripts_are is so_far =
      let long : length (slots ++ slot ∷ []) ≡ length slots + 1 = length-append slots (slot ∷ []) in
      append_assoc slots (slot ∷ []) (slots_of queue (length (slots ++ slot ∷ [])) left later)
      ∙ (λ i. slots ++ (is i ∷ slots_of queue (long i) left later))
      ∙ sym (λ i. slots ++ slots_of queue (length slots) (seats_are i) (scripts_are i))
      ∙ so_far

  -- no script is left
  pub places_end : (queue : QueueId) (slots : List (Slot D)) (seats : List (Seats D EachBits AllBits AllBits)) (scripts : List (Vec RunLine)) (all : List (Slot D)) → scripts ≡ []
      → slots ++ slots_of queue (length slots) seats scripts ≡ all → slots ≡ all
  places_end queue slots [] scripts all none so_far = sym (append-nil slots) ∙ ap (λ (l : List (Vec RunLine)). slots ++ slots_of queue (length slots) [] l) (sym none) ∙ so_far
  places_end queue slots (own ∷ seats) scripts all none so_far = sym (append-nil slots) ∙ ap (λ (l : List (Vec RunLine)). slots ++ slots_of queue (length slots) (own ∷ seats) l) (sym none) ∙ so_far

  -- no seats are left
  pub seats_end : (queue : QueueId) (slots : List (Slot D)) (seats : List (Seats D EachBits AllBits AllBits)) (scripts : List (Vec RunLine)) (all : List (Slot D)) → seats ≡ []
      → slots ++ slots_of queue (length slots) seats scripts ≡ all → slots ≡ all
  seats_end queue slots seats [] all none so_far = sym (append-nil slots) ∙ ap (λ (l : List (Seats D EachBits AllBits AllBits)). slots ++ slots_of queue (length slots) l []) (sym none) ∙ so_far
  seats_end queue slots seats (lines ∷ scripts) all none so_far = sym (append-nil slots) ∙ ap (λ (l : List (Seats D EachBits AllBits AllBits)). slots ++ slots_of queue (length slots) l (lines ∷ scripts)) (sym none) ∙ so_far

-- What is bound at a port's number, by the list of what is bound at each.
use Rattle.std.proofs.Common.{◌≡◌, ℕ, zero, suc, ◌<◌, ◌≤◌, List, [], ◌∷◌, length, set, get_or, Option, None, Some, option_map, refl, sym, ap, ◌∙◌, arith}
use Rattle.std.specs.FinMap as maps
use Rattle.std.proofs.lemmas.List.{set-get_or}
use Rattle.slot_tables.specs.Slots.{slot_at, map_of}
use Rattle.slot_tables.proofs.SlotLemmas.{get-map_of, map_of-set}
use Rattle.port_calls.specs.States.{Bound}
use Rattle.port_store.specs.Stores.{BoundPorts}
use Rattle.port_store.specs.Queues.{ports_with, changed}

-- an element of a list is the same by each default
any_default : {A : Type 0} (xs : List A) (k : ℕ) (d e : A) → k < length xs → get_or xs k d ≡ get_or xs k e
any_default [] k d e within = absurd (omega arith)
any_default (x ∷ xs) zero d e within = refl
any_default (x ∷ xs) (suc k) d e within = any_default xs k d e (omega arith)

-- nothing stands past the last element
none_past : (slots : List (Option Bound)) (port : ℕ) → length slots ≤ port → slot_at slots port ≡ None
none_past [] zero past = refl
none_past [] (suc port) past = refl
none_past (slot ∷ slots) zero past = absurd (omega arith)
none_past (slot ∷ slots) (suc port) past = none_past slots port (omega arith)

-- what stands at a number is bound there
pub found_at : (slots : List (Option Bound)) (port : ℕ) (slot : Option Bound) → port < length slots → slot ≡ get_or slots port slot → maps.get (map_of slots) port ≡ slot
found_at slots port slot within is = get-map_of slots port ∙ any_default slots port None slot within ∙ sym is

-- nothing is bound past the last number
pub unbound_past : (slots : List (Option Bound)) (port : ℕ) → length slots ≤ port → maps.get (map_of slots) port ≡ None
unbound_past slots port past = get-map_of slots port ∙ none_past slots port past

-- where nothing is bound nothing changes
pub unchanged : (ports : BoundPorts) (port : ℕ) (change : Bound → Bound) → maps.get ports port ≡ None → ports ≡ changed ports port change
unchanged ports port change none = sym (ap (λ (found : Option Bound). ports_with ports port (option_map change found)) none)

-- what is bound changes
pub changed_there : (slots : List (Option Bound)) (port : ℕ) (bound : Bound) (change : Bound → Bound) → port < length slots → maps.get (map_of slots) port ≡ Some bound
    → map_of (set slots port (Some (change bound))) ≡ changed (map_of slots) port change
changed_there slots port bound change within there =
    map_of-set slots port (change bound) within ∙ sym (ap (λ (found : Option Bound). ports_with (map_of slots) port (option_map change found)) there)

-- nothing is written back where nothing was bound
pub changed_nowhere : (slots : List (Option Bound)) (port : ℕ) (slot : Option Bound) (change : Bound → Bound) → port < length slots → slot ≡ get_or slots port slot → slot ≡ None
    → map_of (set slots port slot) ≡ changed (map_of slots) port change
changed_nowhere slots port slot change within is none =
    ap (λ (one : Option Bound). map_of (set slots port one)) is ∙ ap map_of (set-get_or slots port slot)
    ∙ unchanged (map_of slots) port change (found_at slots port slot within is ∙ none)

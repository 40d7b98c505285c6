-- Ports as they are opened.
use Rattle.std.proofs.Common.{◌≡◌, ◌<◌, List, [], Option, sym, ap, subst, ◌∙◌}
use Rattle.std.specs.FinMap as maps
use Rattle.access_vectors.specs.Decisions.{Decisions}
use Rattle.access_vectors.specs.declared.class.Class.TheVariants.{Port}
use Rattle.retained_rights.specs.Rights.{Rights, no_rights}
use Rattle.retained_rights.specs.Claims.{claims_of}
use Rattle.retained_rights.specs.declared.rule.Rule.TheVariants as rules
use Rattle.slot_tables.specs.Slots.{map_of}
use Rattle.slot_tables.proofs.SlotLemmas.{map_of-none}
use Rattle.port_calls.specs.States.{Bound, IsOpening, opened_with}
use Rattle.port_calls.specs.declared.opening.PortOpening.{PortOpening}
use Rattle.port_store.specs.Stores.{BoundPorts, StoreView, IsInStep, IsLinked, Safe, state_of, slots_of, follows}
use Rattle.retained_rights.proofs.MapLemmas.{mapped-empty}
use Rattle.retained_rights.proofs.Opening.{fit_none}
use Rattle.retained_rights.proofs.StepLemmas.{step_new}

abbrev pub opened : PortOpening → BoundPorts → Rights → StoreView
opened opening ports rights = record { opening = opening; ports = ports; rights = rights }

module _ (opening : PortOpening) (table : List (Option Bound)) (empty : table ≡ []) (rights : Rights) (none : rights ≡ no_rights rules.All Port) where
  none_bound : map_of table ≡ maps.empty
  none_bound = ap map_of empty ∙ map_of-none

  step_none : (ports : BoundPorts) → IsInStep (opened opening ports (no_rights rules.All Port))
  step_none ports = step_new rules.All Port (IsLinked opening ports)

  pub step_opened : IsInStep (opened opening (map_of table) rights)
  step_opened = subst (λ now. IsInStep (opened opening (map_of table) now)) (sym none) (step_none (map_of table))

  none_shown : slots_of (claims_of (no_rights rules.All Port)) ≡ maps.empty
  none_shown = ap slots_of (mapped-empty _) ∙ mapped-empty _

  pub state_opened : state_of (opened opening (map_of table) rights) ≡ opened_with opening
  state_opened = ap (λ now. state_of (opened opening (map_of table) now)) none ∙ (λ i. record { opening = opening; ports = none_bound i; slots = none_shown i })

  pub follows_opened : follows (opened opening (map_of table) rights) ≡ maps.empty
  follows_opened = ap (λ now. follows (opened opening (map_of table) now)) none ∙ mapped-empty _

  safe_none : (d : Decisions) → 0 < d.versions → IsOpening d opening → Safe d (opened opening (map_of table) (no_rights rules.All Port))
  unfolding Safe
  safe_none d some is = record { step = step_none (map_of table); known = is; rights = fit_none d rules.All Port some }

  pub safe_opened : (d : Decisions) → 0 < d.versions → IsOpening d opening → Safe d (opened opening (map_of table) rights)
  safe_opened d some is = subst (λ now. Safe d (opened opening (map_of table) now)) (sym none) (safe_none d some is)

-- What a look-up of a slot in the grants tells.
use Rattle.std.proofs.Common.{◌≡◌, ℕ, ◌<◌, Option, None, Some, refl, sym, ap, subst, ◌∙◌}
use Rattle.std.specs.Prelude.{option_map, slice_index, MatchOption}
use Rattle.std.specs.FinMap as maps
use Rattle.access_vectors.specs.Decisions.{Decisions}
use Rattle.access_vectors.specs.Phases.{version_at}
use Rattle.access_vectors.specs.Stale.{slot_place}
use Rattle.access_vectors.specs.declared.phase.Phase.{Phase}
use Rattle.access_vectors.proofs.MappedLemmas.{get-mapped}
use Rattle.retained_rights.specs.Claims.{Claim, claim_of, claims_of, IsUseOf, IsUnused}
use Rattle.retained_rights.specs.Rights.{Fit, bits_under, usable_of}
use Rattle.retained_rights.specs.declared.grant.Grant.{Grant}
use Rattle.retained_rights.specs.declared.grant.Usable.{Usable}
use Rattle.retained_rights.proofs.Following.{client_of_place}
use Rattle.file_store.specs.Stores.{StoreView, IsFileOf, IsInStep, Safe, held_by}
use Rattle.file_store.specs.Uses.{IsUse, IsFree}
use Rattle.file_store.specs.Laws.{safe_is}

-- what a use of rights says of their file
pub use_is : (d : Decisions) (shown : StoreView) (client slot : ℕ) (usable : Usable) → slot < 256 → IsUseOf d shown.rights (slot_place client slot) usable → Safe d shown → IsUse d shown client slot usable
use_is d shown client slot usable small used safe =
    let step = (safe_is d shown safe).step.slots in
    let link = step.claims (slot_place client slot) (record { object = usable.object; mode = usable.mode; s = usable.s; t = usable.t }) used.claim in
    record {
      held = get-mapped _ (claims_of shown.rights) (slot_place client slot) ∙ ap (option_map (held_by shown.nodes)) used.claim;
      following = used.following;
      target = link.target;
      source = ap (slice_index shown.opening.clients) (sym (client_of_place client slot small)) ∙ link.source;
      known_source = used.known_source;
      known_target = used.known_target;
      bits = λ number named follows_it.
          used.bits number named follows_it
          ∙ (λ i. bits_under d (step.rule_is i) (step.class_is i) (version_at shown.rights.phase number) usable.s usable.t usable.mode);
    }

-- what a slot's look-up in the grants tells
pub use_of_slot : (shown : StoreView) (client slot : ℕ) (found : Option Usable) → slot < 256
    → MatchOption found (IsUnused shown.rights (slot_place client slot)) (λ (usable : Usable). (d : Decisions) → Fit d shown.rights → IsUseOf d shown.rights (slot_place client slot) usable)
    → MatchOption found (IsFree shown client slot) (λ (usable : Usable). (d : Decisions) → Safe d shown → IsUse d shown client slot usable)
use_of_slot shown client slot None small free =
    record { held = get-mapped _ (claims_of shown.rights) (slot_place client slot) ∙ ap (option_map (held_by shown.nodes)) free.claim; following = free.following }
use_of_slot shown client slot (Some usable) small used = λ d safe. use_is d shown client slot usable small (used d (safe_is d shown safe).rights) safe

-- what a use is for
abbrev claim_used : Usable → Claim
claim_used usable = record { object = usable.object; mode = usable.mode; s = usable.s; t = usable.t }

same_claim : (phase : Phase) (found : Option Grant) → option_map claim_of found ≡ option_map claim_used (option_map (usable_of phase) found)
same_claim phase None = refl
same_claim phase (Some grant) = refl

-- what a look-up of a slot found is of a file of the tree
pub file_of_use : (shown : StoreView) (client slot : ℕ) (usable : Usable) → IsInStep shown
    → Some usable ≡ option_map (usable_of shown.rights.phase) (maps.get shown.rights.held (slot_place client slot))
    → IsFileOf shown.nodes usable.object usable.t
file_of_use shown client slot usable step is =
    (step.slots.claims (slot_place client slot) (claim_used usable)
    (get-mapped (λ place grant. claim_of grant) shown.rights.held (slot_place client slot)
    ∙ same_claim shown.rights.phase (maps.get shown.rights.held (slot_place client slot))
    ∙ ap (option_map claim_used) (sym is))).target

-- where a look-up found nothing the slot is free
pub free_where_none : {B : Type 0} (shown : StoreView) (client slot : ℕ) (found : Option B) (Q : B → Type 0) → found ≡ None → IsUnused shown.rights (slot_place client slot)
    → MatchOption found (IsFree shown client slot) Q
free_where_none shown client slot found Q is unused =
    subst (λ one. MatchOption one (IsFree shown client slot) Q) (sym is)
    (record { held = get-mapped _ (claims_of shown.rights) (slot_place client slot) ∙ ap (option_map (held_by shown.nodes)) unused.claim; following = unused.following })

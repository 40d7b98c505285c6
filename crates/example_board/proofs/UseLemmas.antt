-- What a look-up of a slot in the grants tells.
use Rattle.std.proofs.Common.{ℕ, ◌<◌, Option, None, Some, sym, ap, ◌∙◌}
use Rattle.std.specs.Prelude.{option_map, slice_index, MatchOption}
use Rattle.access_vectors.specs.Decisions.{Decisions}
use Rattle.access_vectors.specs.Phases.{version_at}
use Rattle.access_vectors.specs.Stale.{slot_place}
use Rattle.access_vectors.proofs.MappedLemmas.{get-mapped}
use Rattle.retained_rights.specs.Claims.{Claim, claims_of, IsUseOf, IsUnused}
use Rattle.retained_rights.specs.Rights.{Fit, bits_under}
use Rattle.retained_rights.specs.declared.grant.Usable.{Usable}
use Rattle.retained_rights.proofs.Following.{client_of_place}
use Rattle.example_board.specs.Boards.{BoardView, Safe, IsUse, IsFree}
use Rattle.example_board.specs.Laws.{safe_is}

-- what a use of rights says of the board
use_is : (d : Decisions) (shown : BoardView) (client slot : ℕ) (usable : Usable) → slot < 256 → IsUseOf d shown.rights (slot_place client slot) usable → Safe d shown → IsUse d shown client slot usable
use_is d shown client slot usable small used safe =
    let step = (safe_is d shown safe).step in
    let link = step.claims (slot_place client slot) (record { object = usable.object; mode = usable.mode; s = usable.s; t = usable.t }) used.claim in
    record {
      held = get-mapped _ (claims_of shown.rights) (slot_place client slot) ∙ ap (option_map (λ (claim : Claim). claim.mode)) used.claim;
      following = used.following;
      target = link.target;
      source = ap (slice_index shown.opening.clients) (sym (client_of_place client slot small)) ∙ link.source;
      known_source = used.known_source;
      known_target = used.known_target;
      bits = λ number named follows_it.
          used.bits number named follows_it
          ∙ (λ i. bits_under d (step.rule_is i) (step.class_is i) (version_at shown.rights.phase number) usable.s usable.t usable.mode);
    }

-- what a slot's look-up in the grants tells
pub use_of_slot : (shown : BoardView) (client slot : ℕ) (found : Option Usable) → slot < 256
    → MatchOption found (IsUnused shown.rights (slot_place client slot)) (λ (usable : Usable). (d : Decisions) → Fit d shown.rights → IsUseOf d shown.rights (slot_place client slot) usable)
    → MatchOption found (IsFree shown client slot) (λ (usable : Usable). (d : Decisions) → Safe d shown → IsUse d shown client slot usable)
use_of_slot shown client slot None small free = record {
  held = get-mapped _ (claims_of shown.rights) (slot_place client slot) ∙ ap (option_map (λ (claim : Claim). claim.mode)) free.claim;
  following = free.following;
}
use_of_slot shown client slot (Some usable) small used = λ d safe. use_is d shown client slot usable small (used d (safe_is d shown safe).rights) safe

use Rattle.std.proofs.Common.{◌≡◌, ℕ, Option, Some, rules, subst, sym}
use Rattle.std.specs.Prelude.{MatchOption}
use Rattle.std.specs.Option.{option_map}
use Rattle.std.specs.FinMap as maps
use Rattle.access_vectors.specs.Decisions.{Decisions}
use Rattle.access_vectors.specs.Stale.{slot_place}
use Rattle.retained_rights.specs.declared.grant.Usable.{Usable}
use Rattle.retained_rights.specs.Rights.{Rights, Fit, usable_of}
use Rattle.retained_rights.specs.Claims.{IsUseOf, IsUnused}
use Rattle.retained_rights.proofs.LawLemmas.{use_told}
use Rattle.retained_rights.proofs.grants.Grants.usable.Goals as goal

-- what is told of what the look-up found
told : (rights : Rights) (client slot : ℕ) (found : Option Usable) → found ≡ option_map (usable_of rights.phase) (maps.get rights.held (slot_place client slot))
    → MatchOption found (IsUnused rights (slot_place client slot)) (λ (usable : Usable). (d : Decisions) → Fit d rights → IsUseOf d rights (slot_place client slot) usable)
told rights client slot found is =
    subst (λ (one : Option Usable). MatchOption one (IsUnused rights (slot_place client slot)) (λ (usable : Usable). (d : Decisions) → Fit d rights → IsUseOf d rights (slot_place client slot) usable))
    (sym is) (use_told rights (slot_place client slot))

pub returns-in_err-grant-clause-told : goal.returns-in_err-grant-clause-told
returns-in_err-grant-clause-told g c = told c.args.self.now c.args.client c.args.slot c.from_residual.result (search rules)

pub returns-clause-told : goal.returns-clause-told
returns-clause-told g c = told c.args.self.now c.args.client c.args.slot (Some _) (search rules)

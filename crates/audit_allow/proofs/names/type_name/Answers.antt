use Rattle.std.proofs.Common.{◌≡◌, List, ℕ, [], Option, Some, None, slice_get, option_copied, sym, ap, ◌∙◌}
use Rattle.std.specs.Prelude.{unwrap_or}
use Rattle.std.proofs.lemmas.Option.{unwrap_or-slice_get}
use Rattle.policy_model.specs.declared.policy.KindLine.{KindLine}
use Rattle.policy_versions.specs.Places.{name_at, kind_at}
use Rattle.policy_versions.proofs.KindLemmas.{no_kind}
use Rattle.audit_allow.proofs.names.type_name.Goals as goal

-- the name at a place by what stands there
named : (kinds : List KindLine) (place : ℕ) (found : Option KindLine) → found ≡ slice_get kinds place → name_at kinds place ≡ (unwrap_or found no_kind).name
named kinds place found is = ap (λ (k : KindLine). k.name) (sym (unwrap_or-slice_get kinds place no_kind) ∙ ap (λ o. unwrap_or o no_kind) (sym is))

pub returns-in-None : goal.returns-in-None
returns-in-None c = sym (named c.args.policy.now.kinds c.args.place None (rw c.from.ensures at c.in-None.ensures))

pub returns-in-Some : goal.returns-in-Some
returns-in-Some c = c.as_bytes.ensures ∙ sym (named c.args.policy.now.kinds c.args.place (Some c.in-Some.line.now) (rw c.from.ensures at c.in-Some.ensures))

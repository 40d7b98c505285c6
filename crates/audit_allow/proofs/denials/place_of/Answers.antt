use Rattle.std.proofs.Common.{◌≡◌, ◌∙◌, ◌<◌, ◌≤◌, ℕ, length, Option, Some, None, sym, ap, arith}
use Rattle.std.specs.List.{position}
use Rattle.std.specs.Str.{bytes_eq}
use Rattle.policy_model.specs.declared.policy.KindLine.{KindLine}
use Rattle.policy_versions.specs.Kinds.{IsPlaceOf}
use Rattle.policy_versions.proofs.KindLemmas.{kinds_few}
use Rattle.audit_allow.proofs.CellLemmas.{placed, unplaced}
use Rattle.audit_allow.proofs.denials.place_of.Goals as goal

found : (c : goal.In_ok-place) → IsPlaceOf c.args.policy.now.kinds c.args.name.now c.in_ok-place.place
found c = placed c.args.policy.now.kinds c.args.name.now c.in_ok-place.place (sym (rw (c.as_slice.ensures, c.parts.ensures.parts) at c.in_ok-place.ensures))

pub returns-in_err-place : goal.returns-in_err-place
returns-in_err-place c =
    let none : position (λ (kind : KindLine). bytes_eq kind.name c.args.name.now) c.args.policy.now.kinds ≡ None = sym (rw (c.as_slice.ensures, c.parts.ensures.parts) at c.in_err-place.ensures) in
    rw c.from_residual.ensures (record { place = unplaced c.args.policy.now.kinds c.args.name.now none; kept = c.parts.ensures.kept })

pub overflow_cast-result : goal.overflow_cast-result
overflow_cast-result c =
    let few : length c.args.policy.now.kinds ≤ 128 = kinds_few c.args.policy.now c.parts.ensures.kept in
    let within : c.in_ok-place.place < length c.args.policy.now.kinds = (found c).within in
    omega arith

pub returns : goal.returns
returns c = record { place = found c; kept = c.parts.ensures.kept }

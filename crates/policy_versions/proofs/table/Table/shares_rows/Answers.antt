use Rattle.std.proofs.Common.{◌∙◌, sym, refl}
use Rattle.std.proofs.lemmas.Bool.Decides.{Decides-eqb}
use Rattle.std.proofs.lemmas.Slice.Eq.{slice_eq-Decides}
use Rattle.policy_versions.proofs.table.Table.shares_rows.Goals as goal

pub returns-in-Some-Some : goal.returns-in-Some-Some
returns-in-Some-Some c = λ yes s t class.
    let same = slice_eq-Decides Decides-eqb c.in-Some-Some.mine c.in-Some-Some.others c.eq.result c.eq.ensures in
    rw (sym c.firsts_of.ensures ∙ c.in-Some-Some.is-0, sym c.firsts_of-2.ensures ∙ c.in-Some-Some.is-1) (rw (same.0 yes) refl)

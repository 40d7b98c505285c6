use Rattle.std.proofs.Common.{◌≡◌, ◌∙◌, length, ℕ, ◌<◌, OnOk, Result, Ok, Err, sym, ap, subst}
use Rattle.policy_model.specs.Declarations.{is_kind}
use Rattle.policy_versions.specs.Kinds.{IsPlaceOf}
use Rattle.audit_allow.specs.Denials.{source_of, target_of}
use Rattle.access_vectors.specs.Table.{Permission}
use Rattle.access_vectors.specs.Vectors.{has}
use Rattle.audit_allow.specs.Cells.{vector_at, cell_key}
use Rattle.audit_allow.proofs.CellLemmas.{put_asked, none_between, none_between_target}
use Rattle.audit_allow.proofs.denials.put_asked.Goals as goal

pub returns-in_default : goal.returns-in_default
returns-in_default c = λ s t perm hs ht. none_between c.args.policy.now c.args.sids.now c.args.asked.now s t perm (has (vector_at c.args.cells.now (cell_key s t perm.class)) perm.index) hs (sym (ap (is_kind c.args.policy.now.kinds) c.kind_of.ensures) ∙ c.in_default.ensures.place)

pub returns-in_default-place_of : goal.returns-in_default-place_of
returns-in_default-place_of c = λ s t perm hs ht. none_between_target c.args.policy.now c.args.sids.now c.args.asked.now s t perm (has (vector_at c.args.cells.now (cell_key s t perm.class)) perm.index) ht (sym (ap (is_kind c.args.policy.now.kinds) c.kind_of-2.ensures) ∙ c.in_default-place_of.ensures.place)

on_ok_more : {A B P Q : Type 0} (result : Result A B) → (P → Q) → OnOk result P → OnOk result Q
on_ok_more (Ok x) more done = more done
on_ok_more (Err e) more done = tt

pub returns : goal.returns
returns c =
    let from : IsPlaceOf c.args.policy.now.kinds (source_of c.args.sids.now c.args.asked.now) c.in-Some.s = subst (λ name. IsPlaceOf c.args.policy.now.kinds name c.in-Some.s) c.kind_of.ensures c.in-Some.ensures.place in
    let to : IsPlaceOf c.args.policy.now.kinds (target_of c.args.sids.now c.args.asked.now) c.in-Some-place_of.t = subst (λ name. IsPlaceOf c.args.policy.now.kinds name c.in-Some-place_of.t) c.kind_of-2.ensures c.in-Some-place_of.ensures.place in
    on_ok_more c.put.result (λ put. put_asked c.args.policy.now c.in-Some.ensures.kept c.args.sids.now c.args.asked.now c.args.cells.now c.put.new.self c.in-Some.s c.in-Some-place_of.t from to put) c.put.ensures

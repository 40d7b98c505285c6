use Rattle.std.proofs.Common.{◌≡◌, ℕ, ◌<◌, ◌≤◌, ◌+◌, ◌-◌, ◌∙◌, List, [], length, get_or, replicate, refl, ap, arith}
use Rattle.std.specs.Prelude.{IsTrue}
use Rattle.std.proofs.lemmas.Bool.Decides.{nat_tests}
use Rattle.std.proofs.Math.ListN.{length-set}
use Rattle.flask_sid.specs.declared.context.ContextOf.{ContextOf}
use Rattle.policy_versions.specs.Places.{kind_at}
use Rattle.policy_versions.specs.Judging.{is_sid}
use Rattle.policy_versions.specs.Compiling.{sids_of, kind_of}
use Rattle.flow_query.proofs.NodeLemmas.{marks_begun, marks_more, all_marked}
use Rattle.flow_query.proofs.ReachLemmas.{zeros}
use Rattle.flow_query.proofs.nodes.marks_of.Goals as goal

pub contexts-init : goal.contexts-init
contexts-init c = record { long = refl; below = marks_begun c.args.policy.now (sids_of c.args.catalogue.now) (replicate 128 0) (zeros 128) }

pub contexts-preserved : goal.contexts-preserved
contexts-preserved c =
    let sids = sids_of c.args.catalogue.now in
    let place = c.contexts.place in
    let none : ContextOf (List ℕ) = record { user = []; role = []; kind = [] } in
    let count : c.len-place-end.result ≡ length sids = c.len-place-end.ensures.value ∙ ap length c.sids.ensures in
    let within : place < length sids = omega (arith, count, c.contexts-test.true) in
    let known : IsTrue (is_sid (length sids) (place + 1)) = grind (arith, nat_tests, within) in
    let kind_is : c.from.result ≡ kind_of c.args.catalogue.now (place + 1) = c.from.ensures ∙ c.place.ensures.value ∙ c.kind_at-kind.ensures in
    let back : place + 1 - 1 ≡ place = omega arith in
    let named : kind_at c.args.policy.now c.from.result ≡ (get_or sids place none).kind =
    ap (kind_at c.args.policy.now) kind_is ∙ c.requires.kinds (place + 1) known ∙ ap (λ n. (get_or sids n none).kind) back in
    let marked : c.from.result < length c.contexts.marks = omega (arith, c.from.ensures, c.place.ensures.within, c.contexts.invariant.long) in
    record {
      long = length-set c.contexts.marks c.from.result 65535 ∙ c.contexts.invariant.long;
      below = marks_more c.args.policy.now sids c.contexts.marks place c.from.result none c.parts-kept.ensures.kept within named marked c.contexts.invariant.below;
    }

pub returns : goal.returns
returns c =
    let sids = sids_of c.args.catalogue.now in
    let count : c.len-place-end.result ≡ length sids = c.len-place-end.ensures.value ∙ ap length c.sids.ensures in
    let past : length sids ≤ c.contexts.place = omega (arith, count, c.contexts-test.false) in
    all_marked c.args.policy.now sids c.contexts.marks c.contexts.place past c.contexts.invariant.below

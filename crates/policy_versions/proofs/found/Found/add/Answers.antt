use Rattle.std.proofs.Common.{◌≡◌, ◌<◌, ◌∙◌, false, length, sym, ap, arith}
use Rattle.policy_versions.specs.Numbers.{has_place}
use Rattle.policy_versions.specs.Founds.{Reached}
use Rattle.policy_versions.proofs.FoundLemmas.{reached_more}
use Rattle.policy_versions.proofs.found.Found.add.Goals as goal

pub invariant_of-self-2 : goal.invariant_of-self-2
invariant_of-self-2 c =
    let new : has_place c.self.inside.places.items c.args.row c.args.kind ≡ false = sym (c.self.invariant.shows c.args.row c.args.kind c.has.ensures.within) ∙ sym c.has.ensures.value ∙ c.if-has.false in
    let rows : c.self.inside.rows ≡ c.args.self.now.rows = ap (λ (r : Reached). r.rows) c.self.view_is in
    let row : c.args.row < c.self.inside.rows = rw rows c.requires in
    let few : length c.self.inside.places.items < 4095 = omega arith in
    rw c.in_ok-push.ensures.items (reached_more _ _ _ _ (record { row = c.args.row; kind = c.args.kind }) c.self.invariant new few row c.has.ensures.within c.mark.ensures.size c.mark.ensures.marks)

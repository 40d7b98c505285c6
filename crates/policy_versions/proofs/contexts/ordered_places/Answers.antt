use Rattle.std.proofs.Common.{◌≡◌, ◌++◌, take}
use Rattle.policy_versions.proofs.IdentifierLemmas.{in_order}
use Rattle.policy_versions.proofs.contexts.ordered_places.Goals as goal

pub returns : goal.returns
returns c =
    let all : c.extend_from_slice.new.self.items ≡ take c.args.count c.args.places.now ++ c.in_ok-derived.derived.items =
    rw (c.in_ok-ordered.ensures.items, c.split_at.ensures.front, c.as_slice-derived.ensures.value) at c.in_ok-extend_from_slice.ensures.items in
    in_order _ _ c.parts-kept.ensures.kept c.requires.users _ c.args.count c.requires.count c.requires.few c.requires.inside c.requires.distinct c.requires.whole c.requires.begun c.in_ok-derived.derived.items _
    (rw c.split_at.ensures.back at c.in_ok-derived.ensures.moved) c.in_ok-derived.ensures.ordered all

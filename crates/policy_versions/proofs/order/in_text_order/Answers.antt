use Rattle.std.proofs.Common.{◌<◌, length}
use Rattle.std.specs.List.{All}
use Rattle.std.proofs.lemmas.List.Sorted.{All-permutation, IsPermutation-map}
use Rattle.std.proofs.lemmas.List.Elements.{All-weaker}
use Rattle.policy_versions.specs.Orders.{place_at, IsTexted}
use Rattle.policy_versions.specs.declared.order.Texted.{Texted}
use Rattle.policy_versions.proofs.OrderLemmas.{texts_in_order}
use Rattle.policy_versions.proofs.order.in_text_order.Goals as goal

pub places_of-requires : goal.places_of-requires
places_of-requires c =
    let texts : All (IsTexted c.args.policy.now c.args.users.now c.args.places.now) c.sort.new.self.items = All-permutation (IsTexted c.args.policy.now c.args.users.now c.args.places.now) _ _ c.in_ok-sort.ensures.permutation c.in_ok-texted.ensures.texts in
    rw c.as_slice.ensures.value (All-weaker (IsTexted c.args.policy.now c.args.users.now c.args.places.now) (λ (one : Texted). one.at < length c.args.places.now) (λ one is. is.within) _ texts)

pub returns-clause-moved : goal.returns-clause-moved
returns-clause-moved c =
    let moved = IsPermutation-map (λ (one : Texted). place_at c.args.places.now one.at) _ _ c.in_ok-sort.ensures.permutation in
    rw (c.in_ok-sorted.ensures, c.as_slice.ensures.value) (rw c.in_ok-texted.ensures.places at moved)

pub returns-clause-ordered : goal.returns-clause-ordered
returns-clause-ordered c =
    let texts : All (IsTexted c.args.policy.now c.args.users.now c.args.places.now) c.sort.new.self.items = All-permutation (IsTexted c.args.policy.now c.args.users.now c.args.places.now) _ _ c.in_ok-sort.ensures.permutation c.in_ok-texted.ensures.texts in
    rw (c.in_ok-sorted.ensures, c.as_slice.ensures.value) (texts_in_order _ _ _ _ texts c.in_ok-sort.ensures.sorted)

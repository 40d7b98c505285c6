use Rattle.std.proofs.Common.{◌≡◌, ◌<◌, ◌≤◌, ◌+◌, ◌∙◌, true, false, length, sym, ap, arith, subst}
use Rattle.std.proofs.lemmas.Bool.Decides.{nat_tests}
use Rattle.policy_versions.specs.Sets.{has_place}
use Rattle.policy_versions.proofs.KindLemmas.{kinds_few}
use Rattle.flow_query.specs.Hops.{is_node}
use Rattle.flow_query.specs.Paths.{Query, graph_of}
use Rattle.flow_query.proofs.NodeLemmas.{AreNodesBelow, below_skips, below_pushes, all_below}
use Rattle.flow_query.proofs.finder.Finder.nodes.Goals as goal
use Rattle.flow_query.proofs.finder.Finder.nodes.Goals.{then-self-place-ne0+in_ok-push, else-self-place-ne0}

pub overflow_cast-place : goal.overflow_cast-place
overflow_cast-place c =
    let few : length c.self.inside.policy.now.kinds ≤ 128 = kinds_few c.self.inside.policy.now c.parts.ensures.kept in
    let all : c.len-place-end.result ≡ length c.self.inside.policy.now.kinds = c.len-place-end.ensures ∙ ap (λ p. length p.kinds) c.parts.ensures.parts in
    let less : c.places.place < c.len-place-end.result = c.places-test.true in
    omega (arith, few, all, less)

pub bounds-self-inside-place : goal.bounds-self-inside-place
bounds-self-inside-place c =
    let few : length c.self.inside.policy.now.kinds ≤ 128 = kinds_few c.self.inside.policy.now c.parts.ensures.kept in
    let all : c.len-place-end.result ≡ length c.self.inside.policy.now.kinds = c.len-place-end.ensures ∙ ap (λ p. length p.kinds) c.parts.ensures.parts in
    let less : c.places.place < c.len-place-end.result = c.places-test.true in
    omega (arith, few, all, less)

pub places-preserved : goal.places-preserved
places-preserved c =
    let all : c.len-place-end.result ≡ length c.self.inside.policy.now.kinds = c.len-place-end.ensures ∙ ap (λ p. length p.kinds) c.parts.ensures.parts in
    let declared : c.places.place < length c.self.inside.policy.now.kinds = omega (arith, all, c.places-test.true) in
    let is : has_place c.self.inside.marks c.places.place ≡ is_node c.self.inside.policy.now c.self.inside.sids.now c.places.place = c.self.invariant.2 c.places.place declared in
    elim c.if-self-place-ne0.branch [
      | then-self-place-ne0+in_ok-push w ↦
          let marked : has_place c.self.inside.marks c.places.place ≡ true = grind (arith, nat_tests, w.if-self-place-ne0.true) in
          below_pushes (graph_of c.args.self.now) c.places.place c.places.nodes.items c.if-self-place-ne0.nodes.items c.places.invariant
          (subst (λ (q : Query). is_node q.policy q.contexts c.places.place ≡ true) c.self.view_is (sym is ∙ marked))
          (ap (λ v. v.items) w.nodes-is ∙ w.in_ok-push.ensures.items)
      | else-self-place-ne0 w ↦
          let unmarked : has_place c.self.inside.marks c.places.place ≡ false = grind (arith, nat_tests, w.if-self-place-ne0.false) in
          subst (AreNodesBelow (graph_of c.args.self.now) (c.places.place + 1)) (sym (ap (λ v. v.items) w.nodes-is))
          (below_skips (graph_of c.args.self.now) c.places.place c.places.nodes.items c.places.invariant
          (subst (λ (q : Query). is_node q.policy q.contexts c.places.place ≡ false) c.self.view_is (sym is ∙ unmarked)))
    ]

pub returns : goal.returns
returns c =
    let all : c.len-place-end.result ≡ length c.self.inside.policy.now.kinds = c.len-place-end.ensures ∙ ap (λ p. length p.kinds) c.parts.ensures.parts in
    let here : length c.self.inside.policy.now.kinds ≡ length c.args.self.now.policy.kinds = ap (λ (q : Query). length q.policy.kinds) c.self.view_is in
    let most : c.places.place ≤ c.len-place-end.result = c.places.auto.place-end in
    let end : c.places.place ≡ length c.args.self.now.policy.kinds = omega (arith, all, here, most, c.places-test.false) in
    all_below c.args.self.now c.places.nodes.items (subst (λ n. AreNodesBelow (graph_of c.args.self.now) n c.places.nodes.items) end c.places.invariant)

pub offset_bounds-self-inside-place : goal.offset_bounds-self-inside-place
offset_bounds-self-inside-place c =
    let few : length c.self.inside.policy.now.kinds ≤ 128 = kinds_few c.self.inside.policy.now c.parts.ensures.kept in
    let all : c.len-place-end.result ≡ length c.self.inside.policy.now.kinds = c.len-place-end.ensures ∙ ap (λ p. length p.kinds) c.parts.ensures.parts in
    let less : c.places.place < c.len-place-end.result = c.places-test.true in
    omega (arith, few, all, less)

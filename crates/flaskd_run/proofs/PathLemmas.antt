-- What is found where a path is asked for, and that it is found alone.
use Rattle.std.proofs.Common.{◌≡◌, ◌∙◌, ◌<◌, ◌≤◌, ℕ, Bool, true, false, List, [], ◌∷◌, length, Option, Some, None, refl, sym, ap, subst, arith, inl, inr}
use Rattle.std.proofs.lemmas.Bool.Decides.{nat_tests}
use Rattle.flask_sid.specs.declared.context.ContextOf.{ContextOf}
use Rattle.policy_model.specs.declared.policy.PolicyParts.{PolicyParts}
use Rattle.policy_model.specs.Kept.{IsWholePolicy}
use Rattle.policy_versions.proofs.KindLemmas.{kinds_few}
use Rattle.flow_query.specs.Hops.{is_node}
use Rattle.flow_query.specs.Paths.{Graph, IsPath, IsNotAfter, IsAnswer}
use Rattle.flow_query.specs.declared.hop.Hop.{Hop}
use Rattle.flow_query.specs.declared.route.Kind.{Kind}
use Rattle.command_line.specs.declared.command.PathAsked.{PathAsked}
use Rattle.flaskd_run.specs.Paths.{IsFoundBetween, IsFoundIn, IsFound, node_named}
use Rattle.flaskd_run.specs.declared.paths.PathAnswer.{PathAnswer}
use Rattle.flaskd_run.specs.declared.paths.PathAnswer.TheVariants as answer

-- the places of nodes are few
pub node_small : (policy : PolicyParts) (contexts : List (ContextOf (List ℕ))) (place : ℕ) → IsWholePolicy policy → is_node policy contexts place ≡ true → place < 128
unfolding is_node
node_small policy contexts place kept is =
    let declared : place < length policy.kinds = grind (arith, nat_tests, is) in
    let few = kinds_few policy kept in
    omega (arith, declared, few)

-- two paths of one length, of which neither comes after the other, are one
same_path : (g : Graph) (from to : ℕ) (path other : List Hop) → IsPath g from to path → IsPath g from to other → length path ≡ length other → IsNotAfter path other → IsNotAfter other path → path ≡ other
same_path g from to [] [] leads others long before after = refl
same_path g from to [] (k ∷ other) leads others long before after = absurd (omega (arith, long))
same_path g from to (h ∷ path) [] leads others long before after = absurd (omega (arith, long))
same_path g from to (h ∷ path) (k ∷ other) leads others long before after =
    by_ends before after (λ leads_on less more. same_path g k.to to path other leads_on others.2 (omega (arith, long)) less more)
  where
    by_ends : IsNotAfter (h ∷ path) (k ∷ other) → IsNotAfter (k ∷ other) (h ∷ path) → (IsPath g k.to to path → IsNotAfter path other → IsNotAfter other path → path ≡ other) → (h ∷ path) ≡ (k ∷ other)
    by_ends (inl less) (inl more) behind = absurd (omega (arith, less, more))
    by_ends (inl less) (inr more) behind = let back : k.to ≡ h.to = more.0 in absurd (omega (arith, less, back))
    by_ends (inr less) (inl more) behind = let here : h.to ≡ k.to = less.0 in absurd (omega (arith, more, here))
    by_ends (inr less) (inr more) behind =
        let found : g.hop from k.to ≡ Some h = subst (λ to. g.hop from to ≡ Some h) less.0 leads.0 in
        let both : Some h ≡ Some k = sym found ∙ others.0 in
        let same : h ≡ k = cc in
        let rest : path ≡ other = behind (subst (λ at. IsPath g at to path) less.0 leads.2) less.1 more.1 in
        rw (same, rest) refl

-- so there is one answer
only_answer : (g : Graph) (from to : ℕ) (path other : List Hop) → IsAnswer g from to path → IsAnswer g from to other → other ≡ path
only_answer g from to path other is others =
    let less : length path ≤ length other = is.shortest other others.leads in
    let more : length other ≤ length path = others.shortest path is.leads in
    let long : length other ≡ length path = omega (arith, less, more) in
    same_path g from to other path others.leads is.leads long (others.first path is.leads (sym long)) (is.first other others.leads long)

-- and what is found is found alone
only_between : (g : Graph) (from to : ℕ) (found other : PathAnswer) → IsFoundBetween g from to found → IsFoundBetween g from to other → other ≡ found
only_between g from to answer.NoPath answer.NoPath is others = refl
only_between g from to answer.NoPath (answer.Found other) is others = absurd (is other others.leads)
only_between g from to answer.NoPath answer.NoVersion is others = absurd others
only_between g from to answer.NoPath (answer.NoType name) is others = absurd others
only_between g from to (answer.Found path) answer.NoPath is others = absurd (others path is.leads)
only_between g from to (answer.Found path) (answer.Found other) is others = ap answer.Found (only_answer g from to path other is others)
only_between g from to (answer.Found path) answer.NoVersion is others = absurd others
only_between g from to (answer.Found path) (answer.NoType name) is others = absurd others
only_between g from to answer.NoVersion other is others = absurd is
only_between g from to (answer.NoType name) other is others = absurd is

only_in : (there : Bool) (g : Graph) (asked : PathAsked) (from to : Option ℕ) (found other : PathAnswer) → IsFoundIn there g asked from to found → IsFoundIn there g asked from to other → other ≡ found
only_in false g asked from to found other is others = others ∙ sym is
only_in true g asked None to found other is others = others ∙ sym is
only_in true g asked (Some from) None found other is others = others ∙ sym is
only_in true g asked (Some from) (Some to) found other is others = only_between g from to found other is others

pub only_found : (policy : PolicyParts) (contexts : List (ContextOf (List ℕ))) (kind : Kind) (asked : PathAsked) (found : PathAnswer) → IsFound policy contexts kind asked found → (other : PathAnswer) → IsFound policy contexts kind asked other → other ≡ found
only_found policy contexts kind asked found is other others = only_in _ _ asked (node_named policy contexts asked.from) (node_named policy contexts asked.to) found other is others

use Rattle.std.proofs.Common.{◌≡◌, ℕ, ◌+◌, List, [], length, min, take, drop, ap, sym, ◌∙◌, arith}
use Rattle.std.proofs.Math.Seq.{drop-nil, take-nil}
use Rattle.access_vectors.proofs.StaleLemmas.{none_stale, now_following_none}
use Rattle.manager_history.proofs.keeper.Keeper.update.Goals as goal

pub returns-in-Settled-clause-left : goal.returns-in-Settled-clause-left
returns-in-Settled-clause-left g c =
    let d = g.D.Decider.decides c.self.inside.decider.now in
    let none = none_stale _ d _ _ _ _ _ _ _ (g.met.C.Core.are_stale d c.self.inside.core c.self.invariant.1) c.self.invariant.2 c.in-Settled.is in
    rw (← c.self.view_is) (ap length (sym none))

pub returns-in-Settled-clause-stale : goal.returns-in-Settled-clause-stale
returns-in-Settled-clause-stale g c =
    let d = g.D.Decider.decides c.self.inside.decider.now in
    let none = none_stale _ d _ _ _ _ _ _ _ (g.met.C.Core.are_stale d c.self.inside.core c.self.invariant.1) c.self.invariant.2 c.in-Settled.is in
    rw (← c.self.view_is) (none ∙ sym (drop-nil c.args.k) ∙ ap (drop c.args.k) (sym none))

pub returns-in-Settled-clause-follows : goal.returns-in-Settled-clause-follows
returns-in-Settled-clause-follows g c =
    let d = g.D.Decider.decides c.self.inside.decider.now in
    let none = none_stale _ d _ _ _ _ _ _ _ (g.met.C.Core.are_stale d c.self.inside.core c.self.invariant.1) c.self.invariant.2 c.in-Settled.is in
    rw (← c.self.view_is) (now_following_none _ _ (g.C.Core.follows c.self.inside.core) (ap (take c.args.k) none ∙ take-nil c.args.k))

-- where nothing is stale nothing is counted
nothing : (steps k : ℕ) (stale : List ℕ) → stale ≡ [] → steps ≡ steps + min k (length stale)
nothing steps k stale none = omega (arith, ap length none)

pub returns-in-Settled-clause-cost : goal.returns-in-Settled-clause-cost
returns-in-Settled-clause-cost g c =
    let d = g.D.Decider.decides c.self.inside.decider.now in
    let none = none_stale _ d _ _ _ _ _ _ _ (g.met.C.Core.are_stale d c.self.inside.core c.self.invariant.1) c.self.invariant.2 c.in-Settled.is in
    rw (← c.self.view_is) (nothing c.args.steps.now c.args.k (g.C.Core.stale c.self.inside.core) none)

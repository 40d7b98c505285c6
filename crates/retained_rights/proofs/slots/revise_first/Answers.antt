use Rattle.std.proofs.Common.{◌≡◌, ℕ, ◌⊎◌, ◌+◌, ◌-◌, ◌<◌, ◌≤◌, inl, inr, ap, subst, ◌∙◌, arith}
use Rattle.slot_tables.specs.Words.{places}
use Rattle.retained_rights.specs.Rules.{ruled}
use Rattle.access_vectors.specs.Phases.{version_at}
use Rattle.retained_rights.proofs.FitLemmas.{stale_held}
use Rattle.retained_rights.proofs.SlotsLemmas.{IsRevised, revised_none, revised_step, revised_count, revised_gets}
use Rattle.retained_rights.proofs.slots.revise_first.Goals as goal

pub loop-place-init : goal.loop-place-init
loop-place-init g c = (
  subst (λ n. IsRevised (g.D.Decider.decides c.args.decider.now) c.args.ruled.now c.args.class c.args.phase c.args.store.now.held (places c.args.store.now.words) c.args.store.now.held c.args.store.now.words 0 n) (omega arith)
      (revised_none c.args.store.now.held c.args.store.now.words c.requires.good),
  omega arith,
  omega arith,
)

pub next_due-requires : goal.next_due-requires
next_due-requires g c = stale_held c.loop-place.invariant.0.good

pub vector-v-requires-clause-source : goal.vector-v-requires-clause-source
vector-v-requires-clause-source g c = (c.loop-place.invariant.0.good.right c.in-Some.place c.in-Some.was c.in-Some.ensures.2).source

pub loop-place-preserved : goal.loop-place-preserved
loop-place-preserved g c =
    let some : 0 < c.loop-place.left = c.in-Some.ensures.0 in
    let few : c.loop-place.left ≤ c.args.k = c.loop-place.invariant.1 in
    let was = c.in-Some.was in (
      subst (λ n. IsRevised (g.D.Decider.decides c.args.decider.now) c.args.ruled.now c.args.class c.args.phase c.args.store.now.held (places c.args.store.now.words) c.refresh.new.self.held c.refresh.new.self.words (c.in-Some.place + 1) n)
          (omega arith)
          (revised_step c.loop-place.invariant.0 c.refresh.new.self.held c.refresh.new.self.words c.in-Some.place was c.bits.result c.in-Some.ensures.1 c.in-Some.ensures.2 c.requires.pending
          (rw c.number-number.ensures at c.refresh.ensures.held)
          (c.bits.ensures ∙ ap (ruled c.args.ruled.now was.mode) (c.vector-v.ensures
          ∙ ap (λ v. (g.D.Decider.decides c.args.decider.now).vector v was.s was.t c.args.class) (c.version_at-version.ensures ∙ ap (version_at c.args.phase) c.number-number.ensures)))
          c.refresh.ensures.stale),
      omega arith,
      omega (arith, c.loop-place.invariant.2),
    )

ended : (k left : ℕ) (P : Type 0) → left ≤ k → (left ≡ 0) ⊎ P → (k - left ≡ k) ⊎ P
ended k left P few (inl none) = inl (omega arith)
ended k left P few (inr nothing) = inr nothing

pub returns-clause-stale : goal.returns-clause-stale
returns-clause-stale g c =
    let few : c.loop-place.left ≤ c.args.k = c.loop-place.invariant.1 in
    (revised_gets c.loop-place.invariant.0 c.args.k (omega arith) (ended c.args.k c.loop-place.left _ few c.in_default.ensures)).0

pub returns-clause-held : goal.returns-clause-held
returns-clause-held g c =
    let few : c.loop-place.left ≤ c.args.k = c.loop-place.invariant.1 in
    (revised_gets c.loop-place.invariant.0 c.args.k (omega arith) (ended c.args.k c.loop-place.left _ few c.in_default.ensures)).1

pub returns-clause-cost : goal.returns-clause-cost
returns-clause-cost g c =
    let few : c.loop-place.left ≤ c.args.k = c.loop-place.invariant.1 in
    c.loop-place.invariant.2
    ∙ ap (λ n. c.args.steps.now + n) (revised_count c.loop-place.invariant.0 c.args.k (omega arith) (ended c.args.k c.loop-place.left _ few c.in_default.ensures))

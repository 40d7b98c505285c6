use Rattle.access_vectors.specs.declared.phase.Phase.TheVariants.{Pending}
use Rattle.std.proofs.Common.{sym, ap, ◌∙◌}
use Rattle.retained_rights.proofs.ClaimLemmas.{claims_in, follows_in, follows_started}
use Rattle.std.proofs.Common.{◌≡◌, ◌-◌, refl, subst}
use Rattle.access_vectors.specs.declared.phase.Phase.TheVariants.{Settled}
use Rattle.retained_rights.specs.Good.{IsGood}
use Rattle.retained_rights.specs.Stored.{AreNumbered}
use Rattle.retained_rights.proofs.FitLemmas.{good_from_fit, fit_from_good, good_same, good_started, none_stale}
use Rattle.retained_rights.proofs.grants.Grants.start.Goals as goal

pub mark-requires-clause-known : goal.mark-requires-clause-known
mark-requires-clause-known g c =
    let held = c.self.inside.store.held in
    let words = c.self.inside.store.words in
    let d = g.D.Decider.decides c.args.decider.now in
    let good : IsGood d c.self.inside.ruled c.self.inside.class c.self.inside.phase held words = good_from_fit held words (rw (← c.self.view_is) at c.requires.fit) in
    λ q grant used. let right = good.right q grant used in (right.source, right.target)

pub mark-requires-clause-none : goal.mark-requires-clause-none
mark-requires-clause-none g c =
    let held = c.self.inside.store.held in
    let words = c.self.inside.store.words in
    let d = g.D.Decider.decides c.args.decider.now in
    let good : IsGood d c.self.inside.ruled c.self.inside.class c.self.inside.phase held words = good_from_fit held words (rw (← c.self.view_is) at c.requires.fit) in
    let settled : c.self.inside.phase ≡ Settled (c.args.number - 1) c.args.old = rw (← c.self.view_is) at c.requires.settled in
    none_stale (subst (λ p. IsGood d c.self.inside.ruled c.self.inside.class p held words) settled good)

pub returns-clause-fit : goal.returns-clause-fit
returns-clause-fit g c =
    let held = c.self.inside.store.held in
    let words = c.self.inside.store.words in
    let d = g.D.Decider.decides c.args.decider.now in
    let good : IsGood d c.self.inside.ruled c.self.inside.class c.self.inside.phase held words = good_from_fit held words (rw (← c.self.view_is) at c.requires.fit) in
    let settled : c.self.inside.phase ≡ Settled (c.args.number - 1) c.args.old = rw (← c.self.view_is) at c.requires.settled in
    fit_from_good c.mark.new.self.held c.mark.new.self.words
    (good_same (good_started c.args.number c.args.old c.args.new c.mark.new.self.words (subst (λ p. IsGood d c.self.inside.ruled c.self.inside.class p held words) settled good)
    (subst (λ p. AreNumbered p held) settled c.self.invariant) c.requires.next c.requires.old_version c.requires.new_version c.mark.ensures.stale)
    c.mark.new.self.held c.mark.new.self.words c.mark.ensures.held (λ q. refl))

pub returns-clause-claims : goal.returns-clause-claims
returns-clause-claims g c = rw (← c.self.view_is) (ap claims_in c.mark.ensures.held)

pub returns-clause-follows : goal.returns-clause-follows
returns-clause-follows g c =
    let held = c.self.inside.store.held in
    let settled : c.self.inside.phase ≡ Settled (c.args.number - 1) c.args.old = rw (← c.self.view_is) at c.requires.settled in
    rw (← c.self.view_is)
    (ap (follows_in (Pending c.args.number c.args.old c.args.new)) c.mark.ensures.held
    ∙ follows_started held c.args.number c.args.old c.args.new c.requires.next (subst (λ p. AreNumbered p held) settled c.self.invariant)
    ∙ ap (λ p. follows_in p held) (sym settled))

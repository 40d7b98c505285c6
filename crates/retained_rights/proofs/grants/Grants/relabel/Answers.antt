use Rattle.retained_rights.proofs.ClaimLemmas.{claims_in, follows_in, claims_moved, follows_moved}
use Rattle.std.proofs.Common.{◌≤◌, sym, ap, ◌∙◌}
use Rattle.std.specs.FinMap as maps
use Rattle.access_vectors.specs.Phases.{MayName, number_of}
use Rattle.slot_tables.specs.Words.{holds}
use Rattle.retained_rights.specs.Good.{IsGood}
use Rattle.retained_rights.proofs.FitLemmas.{good_from_fit, fit_from_good, good_same, numbered_mapped, number_either, named_small}
use Rattle.retained_rights.proofs.grants.Grants.relabel.Goals as goal

pub move_all-requires-clause-good : goal.move_all-requires-clause-good
move_all-requires-clause-good g c =
    let held = c.self.inside.store.held in
    let words = c.self.inside.store.words in
    let d = g.A.Asker.decides c.args.asker.now in
    let good : IsGood d c.self.inside.ruled c.self.inside.class c.self.inside.phase held words = good_from_fit held words (rw (← c.self.view_is) at c.requires.fit) in
    good_same good c.make_pairs.new.self.held c.make_pairs.new.self.words c.make_pairs.ensures.held (λ q. ap (λ w. holds w q) c.make_pairs.ensures.words)

pub invariant_of-self-2 : goal.invariant_of-self-2
invariant_of-self-2 g c =
    let named : MayName c.self.inside.phase c.args.number = rw (← c.self.view_is) at c.requires.named in
    let few : c.args.number ≤ number_of c.self.inside.phase = named_small c.self.inside.phase c.args.number named in
    numbered_mapped c.self.inside.phase c.make_pairs.new.self.held c.move_all.new.store.held _
    (λ q grant used. c.self.invariant q grant (ap (λ m. maps.get m q) (sym c.make_pairs.ensures.held) ∙ used)) c.move_all.ensures.held (λ q grant small. number_either _ _ grant _ few small)

pub returns-clause-fit : goal.returns-clause-fit
returns-clause-fit g c = fit_from_good c.move_all.new.store.held c.move_all.new.store.words c.move_all.ensures.good

pub returns-clause-claims : goal.returns-clause-claims
returns-clause-claims g c =
    let held = c.make_pairs.new.self.held in
    rw (← c.self.view_is, ← c.make_pairs.ensures.held)
    (ap claims_in c.move_all.ensures.held
    ∙ claims_moved (g.A.Asker.decides c.args.asker.now) c.self.inside.ruled c.self.inside.class (g.A.Asker.version c.args.asker.now) c.args.object c.args.t c.args.number held)

pub returns-clause-follows : goal.returns-clause-follows
returns-clause-follows g c =
    let held = c.make_pairs.new.self.held in
    rw (← c.self.view_is, ← c.make_pairs.ensures.held)
    (ap (follows_in c.self.inside.phase) c.move_all.ensures.held
    ∙ follows_moved (g.A.Asker.decides c.args.asker.now) c.self.inside.ruled c.self.inside.class (g.A.Asker.version c.args.asker.now) c.args.object c.args.t c.args.number
    c.self.inside.phase held (rw (← c.self.view_is) at c.requires.named))

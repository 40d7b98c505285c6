use Rattle.retained_rights.proofs.MapLemmas.{mapped-insert}
use Rattle.retained_rights.proofs.ClaimLemmas.{claims_in, follows_in, follows_put}
use Rattle.std.proofs.Common.{◌≡◌, None, cond, eqb, sym, ap, ◌∙◌}
use Rattle.std.specs.FinMap as maps
use Rattle.std.specs.Option.{is_some}
use Rattle.access_vectors.specs.Phases.{MayName}
use Rattle.slot_tables.specs.Words.{holds}
use Rattle.slot_tables.proofs.WordLemmas.{same_places}
use Rattle.slot_tables.proofs.RowLemmas.{none_from_absent}
use Rattle.retained_rights.specs.Rules.{ruled}
use Rattle.retained_rights.specs.Rights.{bits_under}
use Rattle.retained_rights.specs.Good.{IsGood}
use Rattle.retained_rights.proofs.FitLemmas.{good_from_fit, fit_from_good, good_put, good_same, numbered_put, named_small, listed_put, free_fresh}
use Rattle.retained_rights.proofs.grants.Grants.add.Goals as goal

pub becomes_stale-is_stale-requires-clause-versions : goal.becomes_stale-is_stale-requires-clause-versions
becomes_stale-is_stale-requires-clause-versions g c =
    let held = c.self.inside.store.held in
    let words = c.self.inside.store.words in
    let d = g.A.Asker.decides c.args.asker.now in
    let good : IsGood d c.self.inside.ruled c.self.inside.class c.self.inside.phase held words = good_from_fit held words (rw (← c.self.view_is) at c.requires.fit) in
    good.versions

pub returns-in_default-clause-as_before : goal.returns-in_default-clause-as_before
returns-in_default-clause-as_before g c =
    rw (← c.self.view_is) (λ i. record {
      rule = c.self.inside.ruled;
      class = c.self.inside.class;
      phase = c.self.inside.phase;
      held = c.in_default.ensures.as_before i;
      stale = same_places c.self.inside.store.words c.put.new.self.words c.in_default.ensures.none_stale i;
    })

pub returns-in_default-clause-fit : goal.returns-in_default-clause-fit
returns-in_default-clause-fit g c =
    let held = c.self.inside.store.held in
    let words = c.self.inside.store.words in
    let d = g.A.Asker.decides c.args.asker.now in
    let good : IsGood d c.self.inside.ruled c.self.inside.class c.self.inside.phase held words = good_from_fit held words (rw (← c.self.view_is) at c.requires.fit) in
    fit_from_good c.put.new.self.held c.put.new.self.words (good_same good c.put.new.self.held c.put.new.self.words c.in_default.ensures.as_before c.in_default.ensures.none_stale)

pub invariant_of-self-2 : goal.invariant_of-self-2
invariant_of-self-2 g c =
    let named : MayName c.self.inside.phase c.args.number = rw (← c.self.view_is) at c.requires.named in
    numbered_put c.self.inside.phase c.self.inside.store.held c.put.new.self.held c.place_of-place.result _ c.self.invariant c.in-Ok.ensures.held (named_small c.self.inside.phase c.args.number named)

pub returns-clause-fit : goal.returns-clause-fit
returns-clause-fit g c =
    let held = c.self.inside.store.held in
    let words = c.self.inside.store.words in
    let d = g.A.Asker.decides c.args.asker.now in
    let good : IsGood d c.self.inside.ruled c.self.inside.class c.self.inside.phase held words = good_from_fit held words (rw (← c.self.view_is) at c.requires.fit) in
    let free : maps.get held c.place_of-place.result ≡ None = none_from_absent (maps.get held c.place_of-place.result) (ap is_some (sym c.get.ensures) ∙ sym c.is_some.ensures ∙ c.if-is_some.false) in
    fit_from_good c.put.new.self.held c.put.new.self.words
    (good_put good c.put.new.self.held c.put.new.self.words c.place_of-place.result _ c.in-Ok.ensures.held
    (record {
      source = c.requires.source;
      target = c.requires.target;
      bits = c.bits-bits.ensures ∙ ap (ruled c.self.inside.ruled c.args.mode) (rw (← c.self.view_is) at c.requires.vector)
          ∙ ap (λ v. bits_under d c.self.inside.ruled c.self.inside.class v c.args.s c.args.t c.args.mode) (rw (← c.self.view_is) at c.requires.version);
    })
    (λ q. c.in-Ok.ensures.stale q ∙ listed_put words c.place_of-place.result c.becomes_stale-is_stale.result q (free_fresh good c.place_of-place.result free)
    ∙ ap (λ b. cond (eqb q c.place_of-place.result) b (holds words q)) c.becomes_stale-is_stale.ensures.stale))

pub returns-clause-claims : goal.returns-clause-claims
returns-clause-claims g c =
    let held = c.self.inside.store.held in
    rw (← c.self.view_is, ← c.place_of-place.ensures) (ap claims_in c.in-Ok.ensures.held ∙ mapped-insert _ held c.place_of-place.result _)

pub returns-clause-follows : goal.returns-clause-follows
returns-clause-follows g c =
    let held = c.self.inside.store.held in
    rw (← c.self.view_is, ← c.place_of-place.ensures)
    (ap (follows_in c.self.inside.phase) c.in-Ok.ensures.held ∙ follows_put c.self.inside.phase held c.place_of-place.result _ (rw (← c.self.view_is) at c.requires.named))

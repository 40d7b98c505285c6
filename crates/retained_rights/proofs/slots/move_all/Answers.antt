use Rattle.std.proofs.Common.{◌≡◌, ap, ◌∙◌}
use Rattle.access_vectors.specs.Decisions.{Decisions}
use Rattle.retained_rights.specs.Rules.{ruled}
use Rattle.retained_rights.proofs.SlotsLemmas.{moved_step, moved_all}
use Rattle.retained_rights.proofs.slots.move_all.Goals as goal

pub loop-place-preserved : goal.loop-place-preserved
loop-place-preserved g c =
    let so_far = c.loop-place.invariant.0 in
    let same = c.loop-place.invariant.1 in
    let was = c.in-Some.was in
    let asked : g.A.Asker.decides c.vector_at-v.new.self ≡ g.A.Asker.decides c.args.asker.now = c.vector_at-v.ensures.decides ∙ same.decider in (
      moved_step so_far c.replace.new.self.held c.replace.new.self.words c.replace.new.self.pairs c.in-Some.place was c.bits.result c.becomes_stale-is_stale.result
          c.in-Some.ensures.0 c.in-Some.ensures.1 c.in-Some.ensures.2 c.replace.ensures.held
          (c.bits.ensures ∙ ap (ruled c.args.ruled.now was.mode) (c.vector_at-v.ensures.answer ∙ ap (λ (d : Decisions). d.vector c.version-version.result was.s c.args.t c.args.class) same.decider))
          (c.version-version.ensures ∙ c.requires.version) c.requires.target (g.met.A.Asker.closed c.args.asker.now)
          (rw asked at c.becomes_stale-is_stale.ensures.stale) c.replace.ensures.stale c.replace.ensures.rows,
      record {
        decider = c.becomes_stale-is_stale.ensures.decides ∙ asked;
        at = c.becomes_stale-is_stale.ensures.at_version ∙ c.vector_at-v.ensures.version ∙ same.at;
        looked_up = c.becomes_stale-is_stale.ensures.keys ∙ c.vector_at-v.ensures.keys ∙ same.looked_up;
        alike = g.met.A.Asker.transitive _ _ _ (g.met.A.Asker.transitive _ _ _ same.alike c.vector_at-v.ensures.same) c.becomes_stale-is_stale.ensures.same;
      },
    )

pub returns-clause-held : goal.returns-clause-held
returns-clause-held g c = rw (← c.version-version.ensures) (moved_all c.loop-place.invariant.0 c.in_default.ensures)

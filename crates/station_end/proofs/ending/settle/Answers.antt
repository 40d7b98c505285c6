use Rattle.std.proofs.Common.{◌≡◌, List, ◌++◌, length, sym, ap, ◌∙◌}
use Rattle.access_vectors.specs.declared.phase.Phase.{Phase}
use Rattle.managed_run.specs.Kinds.{phase_of}
use Rattle.managed_run.proofs.Reading.{phase_replayed}
use Rattle.manager_history.specs.declared.entry.Entry.{Entry}
use Rattle.station_end.specs.Settling.{settling}
use Rattle.station_end.proofs.Settled.{acknowledged}
use Rattle.station_end.proofs.ending.settle.Goals as goal

pub returns-clause-settled : goal.returns-clause-settled
returns-clause-settled g c =
    let kept = c.args.keeper in
    let phase : c.args.keeper.phase ≡ phase_of c.args.keeper.history =
    sym (ap (λ (m : _). m.phase) c.entries-before.ensures.replayed) ∙ phase_replayed g.C.Core.plain (g.D.Decider.decides c.args.keeper.decider) (g.C.Core.opening c.args.keeper.core) c.args.keeper.history in
    let at : c.follow_all.new.keeper.phase ≡ phase_of c.args.keeper.history = c.follow_all.ensures.phase ∙ phase in
    acknowledged c.follow_all.new.keeper.phase c.follow_all.new.keeper.manager (length (g.C.Core.stale c.follow_all.new.keeper.core)) c.acknowledge.result c.follow_all.new.keeper.history c.acknowledge.new.self.history
    c.acknowledge.ensures.answer (ap length c.follow_all.ensures.none) c.acknowledge.ensures.added (λ same. ap (λ (k : _). k.history) (c.acknowledge.ensures.as_before same))
    ∙ (λ i. c.follow_all.ensures.history i ++ settling (at i))

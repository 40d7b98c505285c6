use Rattle.std.specs.Prelude.{slice_get}
use Rattle.admin_walk.proofs.Giving.{idle_run, same_at}
use Rattle.admin_walk.proofs.lines.act.Goals as goal

pub returns-in_default : goal.returns-in_default
returns-in_default g c =
    let h = c.in_default in
    record {
      ok = idle_run g.M.Managed.seen _ c.args.run.now c.args.changes.now c.requires.ready h.not-Notify h.not-Update h.not-Ack h.not-Force;
      err = tt;
      same = λ place. same_at g.M.Managed.same g.met.M.Managed.reflexive (slice_get c.args.changes.now.managers place);
    }

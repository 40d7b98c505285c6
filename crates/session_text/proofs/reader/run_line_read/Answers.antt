use Rattle.std.proofs.Common.{sym}
use Rattle.session_text.proofs.RunLemmas.{run_may}
use Rattle.session_text.proofs.reader.run_line_read.Goals as goal

pub add_line-requires : goal.add_line-requires
add_line-requires c =
    let may = run_may c.args.number c.args.line.now c.in-Some.first c.next.new.self c.args.running.now c.in_ok-run.run' (rw c.in-Some.ensures at (sym c.in-Ok.ensures.said)) c.in_ok-run.ensures in
    record { below = c.requires; within = c.in-Ok.ensures.counted; run = may.0; written = may.1; turn = may.2 }

use Rattle.std.proofs.Common.{arith, ap}
use Rattle.answer_text.specs.Replies.{is_file_denial, is_process_denial, is_port_denial}
use Rattle.history_text.specs.declared.counts.Counts.{Counts}
use Rattle.threads_print.proofs.Parts.{calls_within, denied_within}
use Rattle.threads_print.proofs.summary.counts.Goals as goal

pub counts_of_run-requires-clause-calls : goal.counts_of_run-requires-clause-calls
counts_of_run-requires-clause-calls c =
    omega (
      arith,
      c.have_room.ensures,
      calls_within is_file_denial c.args.files.now,
      calls_within is_process_denial c.args.processes.now,
      calls_within is_port_denial c.args.ports.now,
      ap (λ (k : Counts). k.calls) c.counts_of.ensures,
      ap (λ (k : Counts). k.calls) c.counts_of-2.ensures,
      ap (λ (k : Counts). k.calls) c.counts_of-3.ensures,
    )

pub counts_of_run-requires-clause-denied : goal.counts_of_run-requires-clause-denied
counts_of_run-requires-clause-denied c =
    omega (
      arith,
      c.have_room.ensures,
      denied_within is_file_denial c.args.files.now,
      denied_within is_process_denial c.args.processes.now,
      denied_within is_port_denial c.args.ports.now,
      ap (λ (k : Counts). k.denied) c.counts_of.ensures,
      ap (λ (k : Counts). k.denied) c.counts_of-2.ensures,
      ap (λ (k : Counts). k.denied) c.counts_of-3.ensures,
    )

pub returns : goal.returns
returns c = λ d session run. c.counts_of_run.ensures d session c.args.files.now c.args.processes.now c.args.ports.now run
    (record { files_are = c.counts_of.ensures; processes_are = c.counts_of-2.ensures; ports_are = c.counts_of-3.ensures })

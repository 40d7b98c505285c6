use Rattle.std.proofs.Common.{◌+◌, sym, ap, ◌∙◌}
use Rattle.answer_text.specs.Replies.{is_file_denial}
use Rattle.history_text.specs.declared.counts.Counts.{Counts}
use Rattle.run_histories.proofs.Laws.{changes_of_run}
use Rattle.threads_text.proofs.Counted.{changes_counted}
use Rattle.threads_text.proofs.counting.counts_of_run.Goals as goal

pub returns : goal.returns
returns c = λ d session f p q run are. λ i. record {
  calls = (are.files_are i).calls + (are.processes_are i).calls + (are.ports_are i).calls;
  denied = (are.files_are i).denied + (are.processes_are i).denied + (are.ports_are i).denied;
  changes = (ap (λ (k : Counts). k.changes) are.files_are ∙ (changes_counted is_file_denial f ∙ sym (changes_of_run d session f p q run))) i;
}

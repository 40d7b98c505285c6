use Rattle.std.proofs.Common.{◌≡◌, ◌≤◌, take}
use Rattle.history_text.specs.Counting.{counts_of as counted}
use Rattle.history_text.proofs.counts.counts_of.Given as goal

abbrev pub invariant-entries : goal.invariant-entries
invariant-entries g l =
    record {
      counts_are : l.counts ≡ counted g.R.Worded.is_denial (take l.entry-index l.history);
      calls : l.counts.calls ≤ l.entry-index;
      denied : l.counts.denied ≤ l.entry-index;
      changes : l.counts.changes ≤ l.entry-index;
    }

use Rattle.std.proofs.Common.{◌∙◌, ◌++◌, ◌∷◌, [], take, sym, ap, arith}
use Rattle.std.proofs.lemmas.List.{take_more}
use Rattle.history_text.specs.Counting.{with_entry, counts_of}
use Rattle.history_text.proofs.CountLemmas.{counted_more, one_call, one_denial, one_change}
use Rattle.history_text.proofs.counts.counts_of.Goals as goal

pub entries-preserved : goal.entries-preserved
entries-preserved g c =
    let is_denial = g.R.Worded.is_denial in
    let kept = c.entries.invariant in
    let i = c.entries.entry-index in
    let history = c.args.history.now in
    let item = c.entry-item.result in
    let said = c.with_entry-counts.ensures in
    record {
      counts_are = said ∙ ap (λ counts. with_entry is_denial counts item) kept.counts_are
          ∙ sym (counted_more is_denial _ (take i history) item) ∙ ap (counts_of is_denial) (sym (take_more history i item c.entries-test.true ∙ ap (λ e. take i history ++ e ∷ []) (sym c.entry-item.is)));
      calls = omega (arith, kept.calls, one_call is_denial c.entries.counts item, ap (λ counts. counts.calls) said);
      denied = omega (arith, kept.denied, one_denial is_denial c.entries.counts item, ap (λ counts. counts.denied) said);
      changes = omega (arith, kept.changes, one_change is_denial c.entries.counts item, ap (λ counts. counts.changes) said);
    }

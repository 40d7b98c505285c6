use Rattle.std.proofs.Common.{◌≡◌, false, true, [], Some, sym, ◌∙◌, arith}
use Rattle.std.proofs.lemmas.Bool.Decides.{nat_tests}
use Rattle.command_line.specs.Commands.{command_of}
use Rattle.flaskd_run.specs.Tasks.{reads_input}
use Rattle.flaskd_run.specs.Top.{is_large}
use Rattle.flaskd_run.proofs.TopLemmas.{memory_ran, usage_ran, made_ran, large_ran, served_ran, fault_ran, wanting_ran}
use Rattle.flaskd_run.proofs.MadeLemmas.{unread_ends}
use Rattle.flaskd_run.proofs.top.flaskd.Goals as goal

pub returns-in_default-clause-ran : goal.returns-in_default-clause-ran
returns-in_default-clause-ran g c = memory_ran (command_of c.args.words.now) (g.S.Source.left c.args.source.now) (g.K.Sink.written c.args.sink.now)

pub returns-in_default-asked-clause-ran : goal.returns-in_default-asked-clause-ran
returns-in_default-asked-clause-ran g c =
    usage_ran (command_of c.args.words.now) (g.S.Source.left c.args.source.now) (g.K.Sink.written c.args.sink.now) (sym c.in-Ok.ensures.exact ∙ c.in_default-asked.is)

pub returns-then-not-reads_input-clause-made : goal.returns-then-not-reads_input-clause-made
returns-then-not-reads_input-clause-made g c =
    let found : command_of c.args.words.now ≡ Some c.in-Some.asked = sym c.in-Ok.ensures.exact ∙ c.in-Some.is in
    let unread : reads_input c.in-Some.asked ≡ false = sym c.reads_input.ensures ∙ c.if-not-reads_input.true in
    rw found (unread_ends c.serve.result c.in-Some.asked [] (g.K.Sink.written c.args.sink.now) (g.K.Sink.written c.serve.new.sink) unread c.serve.ensures.served)

pub returns-then-not-reads_input-clause-ran : goal.returns-then-not-reads_input-clause-ran
returns-then-not-reads_input-clause-ran g c =
    let found : command_of c.args.words.now ≡ Some c.in-Some.asked = sym c.in-Ok.ensures.exact ∙ c.in-Some.is in
    let unread : reads_input c.in-Some.asked ≡ false = sym c.reads_input.ensures ∙ c.if-not-reads_input.true in
    rw found
    (made_ran c.serve.result c.in-Some.asked (g.S.Source.left c.args.source.now) (g.K.Sink.written c.args.sink.now) (g.K.Sink.written c.serve.new.sink)
    unread c.serve.ensures.served)

pub returns-in-Err-Fault-clause-ran : goal.returns-in-Err-Fault-clause-ran
returns-in-Err-Fault-clause-ran g c =
    let found : command_of c.args.words.now ≡ Some c.in-Some.asked = sym c.in-Ok.ensures.exact ∙ c.in-Some.is in
    let reads : reads_input c.in-Some.asked ≡ true = sym c.reads_input.ensures ∙ c.if-not-reads_input.false in
    rw found (fault_ran c.in-Some.asked _ _ _ c.read_all.new.bytes.items reads c.in-Err-Fault.ensures.takes (omega (arith, c.in-Err-Fault.ensures.bounded)))

pub returns-in-Err-Memory-clause-ran : goal.returns-in-Err-Memory-clause-ran
returns-in-Err-Memory-clause-ran g c =
    let found : command_of c.args.words.now ≡ Some c.in-Some.asked = sym c.in-Ok.ensures.exact ∙ c.in-Some.is in
    let reads : reads_input c.in-Some.asked ≡ true = sym c.reads_input.ensures ∙ c.if-not-reads_input.false in
    rw found (wanting_ran c.in-Some.asked _ _ _ c.read_all.new.bytes.items reads c.in-Err-Memory.ensures.takes (omega (arith, c.in-Err-Memory.ensures.bounded)))

pub returns-then-len-gt-INPUT_LIMIT-clause-ran : goal.returns-then-len-gt-INPUT_LIMIT-clause-ran
returns-then-len-gt-INPUT_LIMIT-clause-ran g c =
    let found : command_of c.args.words.now ≡ Some c.in-Some.asked = sym c.in-Ok.ensures.exact ∙ c.in-Some.is in
    let reads : reads_input c.in-Some.asked ≡ true = sym c.reads_input.ensures ∙ c.if-not-reads_input.false in
    let bytes = c.read_all.new.bytes.items in
    let large : is_large bytes ≡ true = grind (arith, nat_tests) in
    rw found (large_ran c.in-Some.asked _ _ _ bytes reads large c.in-Ok-read_all.ensures.takes (omega (arith, c.in-Ok-read_all.ensures.bounded)))

pub returns-clause-ran : goal.returns-clause-ran
returns-clause-ran g c =
    let found : command_of c.args.words.now ≡ Some c.in-Some.asked = sym c.in-Ok.ensures.exact ∙ c.in-Some.is in
    let reads : reads_input c.in-Some.asked ≡ true = sym c.reads_input.ensures ∙ c.if-not-reads_input.false in
    let bytes = c.read_all.new.bytes.items in
    let small : is_large bytes ≡ false = grind (arith, nat_tests) in
    rw found (served_ran c.serve-in-Ok-read_all.result c.in-Some.asked _ _ _ _ bytes reads small c.in-Ok-read_all.ensures.takes (omega (arith, c.in-Ok-read_all.ensures.bounded))
    (c.in-Ok-read_all.ensures.whole (omega arith)) (rw c.as_slice.ensures.value at c.serve-in-Ok-read_all.ensures.served))

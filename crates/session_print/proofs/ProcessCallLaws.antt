-- Calls of the process manager that were printed are read as those calls.
use Rattle.std.proofs.Common.{ℕ, List, refl, arith}
use Rattle.policy_model.specs.declared.policy.PolicyParts.{PolicyParts}
use Rattle.policy_model.specs.Kept.{Grown}
use Rattle.process_calls.specs.Formed.{IsCall}
use Rattle.process_calls.specs.declared.call.ProcessCall.{ProcessCall}
use Rattle.process_calls.specs.declared.call.ProcessCall.TheVariants as call
use Rattle.session_forms.specs.Arguments.{one_word, two_words}
use Rattle.session_forms.specs.declared.run_forms.Manager.TheVariants as manager
use Rattle.session_text.specs.declared.session.ClientLine.{ClientLine}
use Rattle.session_text.specs.declared.session.Run.TheVariants.{Process}
use Rattle.session_text.specs.Calls.{process_call}
use Rattle.session_text.specs.Grammar.{call_run, asked_run}
use Rattle.session_text.specs.Sessions.{IsSidOf, IsDeclaredProcess, IsProcessWritten}
use Rattle.session_print.specs.CallWords.{process_words}
use Rattle.session_print.proofs.ArgumentLaws.{range_printed}
use Rattle.session_print.proofs.CallLaws.{CallSays}
use Rattle.session_print.proofs.PlaceLaws.{context_printed, context_reads}

-- a call of the process manager, printed
pub process_says : (policy : PolicyParts) → Grown policy → (clients : List ClientLine) (client : ℕ) (said : ProcessCall) → IsCall said → IsDeclaredProcess (IsSidOf policy.contexts) said → IsProcessWritten said → CallSays policy clients manager.Process client (process_words policy.contexts said) (Process client said)
unfolding process_words asked_run call_run process_call one_word two_words
process_says policy grown clients client (call.Fork pid) formed declared written =
    let number = range_printed 1 65535 pid (omega (arith, formed)) (omega (arith, formed)) (omega arith) in
    record { words_are = rw number.is_word refl; asked = λ state name same others known. rw (known, number.read) refl }
process_says policy grown clients client (call.Exec pid sid) formed declared written =
    let number = range_printed 1 65535 pid (omega (arith, formed)) (omega (arith, formed)) (omega arith) in
    let context = context_printed policy grown sid declared in
    record {
      words_are = rw (number.is_word, context.1.is_word) refl;
      asked = λ state name same others known. rw (known, number.read, context_reads policy state.policy grown same sid declared) refl;
    }
process_says policy grown clients client (call.Signal pid signal) formed declared written =
    let number = range_printed 1 65535 pid (omega (arith, formed.0)) (omega (arith, formed.0)) (omega arith) in
    let other = range_printed 1 64 signal (omega (arith, formed.1)) formed.1.1 (omega arith) in
    record {
      words_are = rw (number.is_word, other.is_word) refl;
      asked = λ state name same others known. rw (known, number.read, other.read) refl;
    }
process_says policy grown clients client (call.Exit pid code) formed declared written =
    let number = range_printed 1 65535 pid (omega (arith, formed.0)) (omega (arith, formed.0)) (omega arith) in
    let other = range_printed 0 255 code (omega arith) (omega (arith, formed.1)) (omega arith) in
    record {
      words_are = rw (number.is_word, other.is_word) refl;
      asked = λ state name same others known. rw (known, number.read, other.read) refl;
    }
process_says policy grown clients client (call.Wait pid) formed declared written =
    let number = range_printed 1 65535 pid (omega (arith, formed)) (omega (arith, formed)) (omega arith) in
    record { words_are = rw number.is_word refl; asked = λ state name same others known. rw (known, number.read) refl }
process_says policy grown clients client (call.Attach slot pid) formed declared written =
    let number = range_printed 0 63 slot (omega arith) (omega (arith, formed.0)) (omega arith) in
    let other = range_printed 1 65535 pid (omega (arith, formed.1)) (omega (arith, formed.1)) (omega arith) in
    record {
      words_are = rw (number.is_word, other.is_word) refl;
      asked = λ state name same others known. rw (known, number.read, other.read) refl;
    }
process_says policy grown clients client (call.Peek slot) formed declared written =
    let number = range_printed 0 63 slot (omega arith) (omega (arith, formed)) (omega arith) in
    record { words_are = rw number.is_word refl; asked = λ state name same others known. rw (known, number.read) refl }
process_says policy grown clients client (call.Poke slot value) formed declared written =
    let number = range_printed 0 63 slot (omega arith) (omega (arith, formed)) (omega arith) in
    let other = range_printed 0 4294967295 value (omega arith) (omega (arith, written)) (omega arith) in
    record {
      words_are = rw (number.is_word, other.is_word) refl;
      asked = λ state name same others known. rw (known, number.read, other.read) refl;
    }
process_says policy grown clients client (call.Detach slot) formed declared written =
    let number = range_printed 0 63 slot (omega arith) (omega (arith, formed)) (omega arith) in
    record { words_are = rw number.is_word refl; asked = λ state name same others known. rw (known, number.read) refl }
process_says policy grown clients client (call.StatProcess pid) formed declared written =
    let number = range_printed 1 65535 pid (omega (arith, formed)) (omega (arith, formed)) (omega arith) in
    record { words_are = rw number.is_word refl; asked = λ state name same others known. rw (known, number.read) refl }

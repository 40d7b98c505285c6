-- Calls of the file manager that were printed are read as those calls.
use Rattle.std.proofs.Common.{ℕ, length, List, [], refl, arith}
use Rattle.policy_model.specs.declared.policy.PolicyParts.{PolicyParts}
use Rattle.policy_model.specs.Kept.{Grows, Grown}
use Rattle.text_print.proofs.NameLaws.{form_of_name, name_is_word}
use Rattle.file_calls.specs.Formed.{IsCall}
use Rattle.file_calls.specs.declared.call.FileCall.{FileCall}
use Rattle.file_calls.specs.declared.call.FileCall.TheVariants as call
use Rattle.session_forms.specs.Arguments.{one_word, two_words, three_words}
use Rattle.session_forms.specs.declared.run_forms.Manager.TheVariants as manager
use Rattle.session_text.specs.declared.session.ClientLine.{ClientLine}
use Rattle.session_text.specs.declared.session.Run.TheVariants.{File}
use Rattle.session_text.specs.Calls.{file_call}
use Rattle.session_text.specs.Grammar.{call_run, asked_run}
use Rattle.session_text.specs.Sessions.{IsSidOf, MayClient, IsDeclared, IsFileWritten}
use Rattle.session_print.specs.Words.{client_word}
use Rattle.session_print.specs.CallWords.{file_words}
use Rattle.session_print.proofs.ArgumentLaws.{path_printed, path_reads, entry_reads, datum_is_word, datum_reads, mode_again, range_printed}
use Rattle.session_print.proofs.CallLaws.{CallSays}
use Rattle.session_print.proofs.PlaceLaws.{context_printed, context_reads, client_printed, receiver_reads}

-- a call of the file manager, printed
pub file_says : (policy : PolicyParts) → Grown policy → (clients : List ClientLine) → Grows (MayClient policy.contexts) [] clients → (client : ℕ) (said : FileCall) → IsCall said → IsDeclared (IsSidOf policy.contexts) (length clients) said → IsFileWritten said → CallSays policy clients manager.File client (file_words policy.contexts clients said) (File client said)
unfolding file_words asked_run call_run file_call one_word two_words three_words
file_says policy grown clients named client (call.Mkdir path) formed declared written =
    record {
      words_are = rw (path_printed path formed.formed).is_word refl;
      asked = λ state name same others known. rw (known, entry_reads path formed) refl;
    }
file_says policy grown clients named client (call.Create path) formed declared written =
    record {
      words_are = rw (path_printed path formed.formed).is_word refl;
      asked = λ state name same others known. rw (known, entry_reads path formed) refl;
    }
file_says policy grown clients named client (call.OpenFile slot path mode) formed declared written =
    let number = range_printed 0 63 slot (omega arith) (omega (arith, formed.0)) (omega arith) in
    let bits = mode_again mode formed.2 in
    record {
      words_are = rw (number.is_word, (path_printed path formed.1).is_word, bits.0) refl;
      asked = λ state name same others known. rw (known, number.read, path_reads path formed.1, bits.1) refl;
    }
file_says policy grown clients named client (call.ReadFile slot offset most) formed declared written =
    let number = range_printed 0 63 slot (omega arith) (omega (arith, formed.0)) (omega arith) in
    let start = range_printed 0 65536 offset (omega arith) formed.1 (omega arith) in
    let count = range_printed 1 1024 most (omega (arith, formed.2)) formed.2.1 (omega arith) in
    record {
      words_are = rw (number.is_word, start.is_word, count.is_word) refl;
      asked = λ state name same others known. rw (known, number.read, start.read, count.read) refl;
    }
file_says policy grown clients named client (call.WriteFile slot offset piece) formed declared written =
    let number = range_printed 0 63 slot (omega arith) (omega (arith, formed.0)) (omega arith) in
    let start = range_printed 0 65536 offset (omega arith) formed.1 (omega arith) in
    record {
      words_are = rw (number.is_word, start.is_word, datum_is_word piece formed.2.0 written) refl;
      asked = λ state name same others known. rw (known, number.read, start.read, datum_reads piece formed.2.1) refl;
    }
file_says policy grown clients named client (call.AppendFile slot piece) formed declared written =
    let number = range_printed 0 63 slot (omega arith) (omega (arith, formed.0)) (omega arith) in
    record {
      words_are = rw (number.is_word, datum_is_word piece formed.1.0 written) refl;
      asked = λ state name same others known. rw (known, number.read, datum_reads piece formed.1.1) refl;
    }
file_says policy grown clients named client (call.CloseFile slot) formed declared written =
    let number = range_printed 0 63 slot (omega arith) (omega (arith, formed)) (omega arith) in
    record { words_are = rw number.is_word refl; asked = λ state name same others known. rw (known, number.read) refl }
file_says policy grown clients named client (call.Unlink path) formed declared written =
    record {
      words_are = rw (path_printed path formed.formed).is_word refl;
      asked = λ state name same others known. rw (known, entry_reads path formed) refl;
    }
file_says policy grown clients named client (call.List path skip) formed declared written =
    let number = range_printed 0 4096 skip (omega arith) formed.1 (omega arith) in
    record {
      words_are = rw ((path_printed path formed.0).is_word, number.is_word) refl;
      asked = λ state name same others known. rw (known, path_reads path formed.0, number.read) refl;
    }
file_says policy grown clients named client (call.StatFile path) formed declared written =
    record {
      words_are = rw (path_printed path formed).is_word refl;
      asked = λ state name same others known. rw (known, path_reads path formed) refl;
    }
file_says policy grown clients named client (call.Relabel path sid) formed declared written =
    let context = context_printed policy grown sid declared in
    record {
      words_are = rw ((path_printed path formed).is_word, context.1.is_word) refl;
      asked = λ state name same others known. rw (known, path_reads path formed, context_reads policy state.policy grown same sid declared) refl;
    }
file_says policy grown clients named client (call.Give slot receiver target) formed declared written =
    let number = range_printed 0 63 slot (omega arith) (omega (arith, formed.0)) (omega arith) in
    let other = range_printed 0 63 target (omega arith) (omega (arith, formed.1)) (omega arith) in
    let name_is = client_printed policy.contexts clients named receiver declared in
    let name_form = form_of_name (client_word clients receiver) name_is.is_name in
    record {
      words_are = rw (number.is_word, name_is_word (client_word clients receiver) name_form, other.is_word) refl;
      asked = λ state name same others known. rw (known, others, number.read, receiver_reads clients receiver (client_word clients receiver) name_is, other.read) refl;
    }

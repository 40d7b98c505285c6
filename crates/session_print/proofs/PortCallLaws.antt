-- Calls of the port manager that were printed are read as those calls.
use Rattle.std.proofs.Common.{ℕ, List, refl, arith}
use Rattle.policy_model.specs.declared.policy.PolicyParts.{PolicyParts}
use Rattle.port_calls.specs.Formed.{IsCall}
use Rattle.port_calls.specs.declared.call.PortCall.{PortCall}
use Rattle.port_calls.specs.declared.call.PortCall.TheVariants as call
use Rattle.session_forms.specs.Arguments.{one_word, two_words, three_words}
use Rattle.session_forms.specs.declared.run_forms.Manager.TheVariants as manager
use Rattle.session_text.specs.declared.session.ClientLine.{ClientLine}
use Rattle.session_text.specs.declared.session.Run.TheVariants.{Port}
use Rattle.session_text.specs.Calls.{port_call}
use Rattle.session_text.specs.Grammar.{call_run, asked_run}
use Rattle.session_text.specs.Sessions.{IsPortWritten}
use Rattle.session_print.specs.CallWords.{port_words}
use Rattle.session_print.proofs.ArgumentLaws.{datum_is_word, datum_reads, bind_again, connect_again, range_printed}
use Rattle.session_print.proofs.CallLaws.{CallSays}

-- a call of the port manager, printed
pub port_says : (policy : PolicyParts) (clients : List ClientLine) (client : ℕ) (said : PortCall) → IsCall said → IsPortWritten said → CallSays policy clients manager.Port client (port_words said) (Port client said)
unfolding port_words asked_run call_run port_call one_word two_words three_words
port_says policy clients client (call.Bind slot at mode) formed written =
    let number = range_printed 0 63 slot (omega arith) (omega (arith, formed.0)) (omega arith) in
    let place = range_printed 1 65535 at (omega (arith, formed.1)) (omega (arith, formed.1)) (omega arith) in
    let bits = bind_again mode formed.2 in
    record {
      words_are = rw (number.is_word, place.is_word, bits.0) refl;
      asked = λ state name same others known. rw (known, number.read, place.read, bits.1) refl;
    }
port_says policy clients client (call.Recv slot) formed written =
    let number = range_printed 0 63 slot (omega arith) (omega (arith, formed)) (omega arith) in
    record { words_are = rw number.is_word refl; asked = λ state name same others known. rw (known, number.read) refl }
port_says policy clients client (call.Connect slot at mode) formed written =
    let number = range_printed 0 63 slot (omega arith) (omega (arith, formed.0)) (omega arith) in
    let place = range_printed 1 65535 at (omega (arith, formed.1)) (omega (arith, formed.1)) (omega arith) in
    let bits = connect_again mode formed.2 in
    record {
      words_are = rw (number.is_word, place.is_word, bits.0) refl;
      asked = λ state name same others known. rw (known, number.read, place.read, bits.1) refl;
    }
port_says policy clients client (call.Push slot piece) formed written =
    let number = range_printed 0 63 slot (omega arith) (omega (arith, formed.0)) (omega arith) in
    record {
      words_are = rw (number.is_word, datum_is_word piece formed.1.0 written) refl;
      asked = λ state name same others known. rw (known, number.read, datum_reads piece formed.1.1) refl;
    }
port_says policy clients client (call.Send at piece) formed written =
    let number = range_printed 1 65535 at (omega (arith, formed.0)) (omega (arith, formed.0)) (omega arith) in
    record {
      words_are = rw (number.is_word, datum_is_word piece formed.1.0 written) refl;
      asked = λ state name same others known. rw (known, number.read, datum_reads piece formed.1.1) refl;
    }
port_says policy clients client (call.Unbind slot) formed written =
    let number = range_printed 0 63 slot (omega arith) (omega (arith, formed)) (omega arith) in
    record { words_are = rw number.is_word refl; asked = λ state name same others known. rw (known, number.read) refl }
port_says policy clients client (call.StatPort at) formed written =
    let number = range_printed 1 65535 at (omega (arith, formed)) (omega (arith, formed)) (omega arith) in
    record { words_are = rw number.is_word refl; asked = λ state name same others known. rw (known, number.read) refl }

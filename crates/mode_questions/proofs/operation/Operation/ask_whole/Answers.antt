use Rattle.std.proofs.Common.{◌≡◌, ◌++◌, bit_and, sym, ap, subst, ◌∙◌, rules}
use Rattle.access_vectors.specs.Vectors.{has}
use Rattle.mode_questions.specs.Requests.{Asking}
use Rattle.mode_questions.specs.Operations.{request}
use Rattle.mode_questions.proofs.Judged.{judging_is, whole_agrees, whole_of, bits_of_whole, whole_where_none, none_where_not}
use Rattle.mode_questions.proofs.operation.Operation.ask_whole.Goals as goal

pub returns-then-bits : goal.returns-then-bits
returns-then-bits g c =
    let r = request c.args.self.now in
    let usage = c.args.usage in
    let vector = r.decisions.vector r.version r.subject usage.t c.args.class in
    let follows : c.args.usage.number ≡ c.args.self.now.caller.now.number = search rules in
    let same : c.args.usage.bits ≡ c.args.usage.mode = search rules in
    let is = judging_is r usage.t c.args.class usage.mode usage.mode c.args.perms.now c.requires.mode.classes
    (whole_agrees usage.mode vector (whole_of usage.bits usage.mode vector (c.requires.bits follows) same)) in (
      c.in_ok-denied-2.ensures.denied ∙ ap (λ (asking : Asking). asking.denied) is,
      record {
        asked_are = c.in_ok-denied-2.ensures.added ∙ ap (λ (asking : Asking). c.args.self.now.asked.now ++ asking.asked) is;
        keys = search rules;
        quiet = search rules;
        same = search rules;
      },
    )

pub returns : goal.returns
returns g c =
    let r = request c.args.self.now in
    let usage = c.args.usage in
    let vector = r.decisions.vector r.version r.subject usage.t c.args.class in
    let follows : c.args.usage.number ≡ c.args.self.now.caller.now.number = search rules in
    let known : c.vector_at-known.result ≡ vector = search rules in
    let is = judging_is r usage.t c.args.class usage.mode c.vector_at-known.result c.args.perms.now c.requires.mode.classes
    (λ index held i. has (known i) index) in
    let apart : (c.args.usage.bits ≡ c.args.usage.mode → ⊥) = λ same. c.if-bits.false (c.bits.ensures.value ∙ same ∙ sym c.bits-2.ensures.value) in (
      c.in_ok-denied-3.ensures.denied ∙ ap (λ (asking : Asking). asking.denied) is,
      record {
        asked_are = c.in_ok-denied-3.ensures.added ∙ ap (λ (asking : Asking). c.args.self.now.asked.now ++ asking.asked) is;
        keys = search rules;
        quiet = λ none following. absurd (apart (bits_of_whole usage.bits usage.mode vector (c.requires.bits follows)
            (subst (λ seen. bit_and usage.mode seen ≡ usage.mode) known
            (whole_where_none c.args.class c.vector_at-known.result r.subject usage.t usage.mode c.args.perms.now c.requires.mode
            (sym c.in_ok-denied-3.ensures.denied ∙ none_where_not c.in_ok-denied-3.denied none)))));
        same = search rules;
      },
    )

use Rattle.std.proofs.Common.{◌≡◌, ◌∙◌, length, ap, sym, arith}
use Rattle.std.proofs.lemmas.Grind.{same_number_lists}
use Rattle.std.proofs.lemmas.Slice.Eq.{bytes_eq-Decides}
use Rattle.flask_sid.proofs.word.Word.is.Goals as goal

pub returns : goal.returns
returns c =
    let long : length c.args.self.now ≡ length c.args.bytes.now = ap length (sym c.self.view_is) ∙ c.if-self-bytes.false in
    sym ((bytes_eq-Decides c.args.self.now c.args.bytes.now).1
    (same_number_lists c.args.self.now c.args.bytes.now long
    (λ k below. c.bytes.invariant k (omega (arith, below, c.bytes-test.false, long)))))

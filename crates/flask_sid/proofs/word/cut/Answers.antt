use Rattle.std.proofs.Common.{◌==◌, sym, ◌∙◌}
use Rattle.flask_sid.proofs.Cuts.{cut_at, uncut}
use Rattle.flask_sid.proofs.word.cut.Goals as goal

pub returns-in-None : goal.returns-in-None
returns-in-None c = uncut (λ b. b == c.args.end) c.args.bytes.now (sym c.place_of.ensures ∙ c.in-None.is)

pub returns-in-Some : goal.returns-in-Some
returns-in-Some c =
    let at = cut_at (λ b. b == c.args.end) c.args.bytes.now 0 c.in-Some.at (sym c.place_of.ensures ∙ c.in-Some.is) in
    rw (c.split_at.ensures.front, c.split_at-in-Some.ensures.back) at.1

use Rattle.std.proofs.Common.{◌∙◌, ◌∷◌, refl, sym, ap}
use Rattle.policy_text.proofs.PlainLemmas.{plain_rule_read}
use Rattle.policy_text.proofs.draft.Draft.plain_rule.Goals as goal

pub returns : goal.returns
returns c =
    let words =
    sym c.again-rest.ensures
    ∙ (c.in-Some-Some-Some.ensures
    ∙ (ap (λ rest. c.in-Some-Some-Some.source ∷ rest) c.in-Some-Some-Some.ensures'
    ∙ ap (λ rest. c.in-Some-Some-Some.source ∷ (c.in-Some-Some-Some.target ∷ rest)) c.in-Some-Some-Some.ensures'')) in
    rw (words, c.in_ok-of.ensures, c.in_ok-of-2.ensures, c.decided.ensures)
    (plain_rule_read c.args.line c.in-Some-Some-Some.source c.in-Some-Some-Some.target c.in-Some-Some-Some.class c.next-3.new.self c.in-Some.class c.in-Some-plain_perms.perms c.args.self.now (c.if-not-is_plain.ensures refl) (c.if-not-is_plain-2.ensures refl) (rw c.as_bytes.ensures at (sym c.in-Some.ensures)) c.in-Some-plain_perms.ensures.known c.in-Some-plain_perms.ensures.some c.args.decision)

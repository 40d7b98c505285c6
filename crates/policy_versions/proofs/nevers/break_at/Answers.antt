use Rattle.std.proofs.Common.{◌∙◌, sym, ap}
use Rattle.std.specs.Option.{option_map}
use Rattle.policy_versions.specs.Nevers.{break_with}
use Rattle.policy_versions.proofs.NeverLemmas.{broken_common}
use Rattle.policy_versions.proofs.nevers.break_at.Goals as goal

pub returns-in_err-perm : goal.returns-in_err-perm
returns-in_err-perm c = λ policy vectors hs ht source target.
    let perm = broken_common policy c.args.version c.args.pattern.now c.args.s c.args.t c.cell-allowed.result source target (c.cell-allowed.ensures ∙ vectors _ _ _ _ hs ht) in
    c.from_residual.ensures ∙ sym (ap (option_map (break_with c.args.version c.args.pattern.now c.args.s c.args.t)) (perm ∙ sym c.first_common.ensures ∙ c.in_err-perm.was))

pub returns : goal.returns
returns c = λ policy vectors hs ht source target.
    let perm = broken_common policy c.args.version c.args.pattern.now c.args.s c.args.t c.cell-allowed.result source target (c.cell-allowed.ensures ∙ vectors _ _ _ _ hs ht) in
    sym (ap (option_map (break_with c.args.version c.args.pattern.now c.args.s c.args.t)) (perm ∙ sym c.first_common.ensures ∙ c.in_ok-perm.was))

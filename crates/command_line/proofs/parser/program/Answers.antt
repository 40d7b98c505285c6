use Rattle.std.proofs.Common.{◌≡◌, ◌∙◌, rules, ap₂, codes, true}
use Rattle.std.proofs.lemmas.Result.{IfOk-weaker}
use Rattle.clap.specs.Walk.{rule_of}
use Rattle.clap.specs.Simple.{app_of, new_app, new_rule, on_top, with_rule}
use Rattle.command_line.proofs.parser.program.Goals as goal

pub returns : goal.returns
returns c =
    let name_is : rule_of c.required.result ≡ record (new_rule (codes "command")) { required = true } = search rules in
    let one_is : rule_of c.new-3.result ≡ new_rule (codes "one") = search rules in
    let two_is : rule_of c.new-4.result ≡ new_rule (codes "two") = search rules in
    let three_is : rule_of c.new-5.result ≡ new_rule (codes "three") = search rules in
    let start_is : app_of c.disable_help_flag.result ≡ on_top (λ s. record s { no_binary_name = true; disable_help_flag = true }) (new_app (codes "flaskd")) = search rules in
    IfOk-weaker c.arg-4.result _ _ (λ made added. added.shape (search rules) ∙ ap₂ with_rule (c.in_ok-arg-3.ensures.shape (search rules)
    ∙ ap₂ with_rule (c.in_ok-arg-2.ensures.shape (search rules) ∙ ap₂ with_rule (c.in_ok-arg.ensures.shape (search rules) ∙ ap₂ with_rule start_is name_is) one_is) two_is) three_is) c.arg-4.ensures

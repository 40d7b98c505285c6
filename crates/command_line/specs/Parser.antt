-- What the parser takes.
use Rattle.std.specs.Prelude.{true, codes}
use Rattle.clap.specs.Words.{App, new_app, new_rule, with_rule}
use Rattle.clap.specs.Simple.{on_top}

-- a name and up to three more words, and no option
abbrev pub program : App
program = with_rule (with_rule (with_rule (with_rule
    (on_top (λ s. record s { no_binary_name = true; disable_help_flag = true }) (new_app (codes "flaskd")))
    (record (new_rule (codes "command")) { required = true }))
    (new_rule (codes "one"))) (new_rule (codes "two"))) (new_rule (codes "three"))

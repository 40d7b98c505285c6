use Rattle.std.proofs.Common.{◌∙◌, ap}
use Rattle.std.specs.Prelude.{◌||◌}
use Rattle.std.specs.Str.{bytes_eq}
use Rattle.policy_versions.specs.Places.{name_at}
use Rattle.policy_versions.proofs.kinds.own_set.Goals as goal

pub returns : goal.returns
returns c = λ kinds apart places place within.
    c.add_named.ensures kinds apart places place within
    ∙ ap (λ b. b || bytes_eq c.args.name.now (name_at kinds place)) (c.none-set.ensures place)

use Rattle.std.proofs.Common.{◌≡◌, ◌++◌, take}
use Rattle.std.specs.List.{flat_map}
use Rattle.text_print.specs.Printed.{text_of}
use Rattle.policy_print.specs.Printed
use Rattle.policy_print.proofs.rules.put_versions.Given as goal

abbrev pub invariant-versions : goal.invariant-versions
invariant-versions l = l.out ≡ l.fn.out ++ flat_map (λ version. text_of (Printed.version_lines version)) (take l.version-index l.versions)

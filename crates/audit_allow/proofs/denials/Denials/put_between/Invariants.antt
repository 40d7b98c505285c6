use Rattle.std.proofs.Common.{◌≡◌, ◌++◌, take}
use Rattle.std.specs.List.{flat_map}
use Rattle.access_vectors.specs.Table.{classes}
use Rattle.audit_allow.specs.Grants.{grants_of}
use Rattle.audit_allow.proofs.denials.Denials.put_between.Given as goal

abbrev pub invariant-classes : goal.invariant-classes
invariant-classes l = l.grants ≡ l.fn.grants ++ flat_map (grants_of l.list l.self l.s l.t) (take l.class-index classes)

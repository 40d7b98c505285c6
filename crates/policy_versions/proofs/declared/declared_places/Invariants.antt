use Rattle.std.proofs.Common.{◌≡◌, ◌≤◌, ◌*◌, length, map, take}
use Rattle.std.specs.List.{All}
use Rattle.policy_versions.specs.Founds.{IsInside}
use Rattle.policy_versions.specs.Closing.{contexts_of}
use Rattle.policy_versions.proofs.declared.declared_places.Given as goal

abbrev pub invariant-lines : goal.invariant-lines
invariant-lines l = record {
  few : length l.users ≤ 2 * l.line-index;
  contexts : contexts_of l.policy l.users l.places.items ≡ map (λ line. line.context) (take l.line-index l.line-items);
  inside : All (IsInside (length l.users)) l.places.items;
}

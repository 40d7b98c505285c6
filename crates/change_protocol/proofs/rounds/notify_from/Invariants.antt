use Rattle.std.proofs.Common.{◌≡◌, vec_len}
use Rattle.std.specs.Prelude.{slice_get}
use Rattle.change_protocol.proofs.Walks.{IsWalked, Given}
use Rattle.change_protocol.proofs.rounds.notify_from.Given as goal

abbrev pub invariant-loop-place : goal.invariant-loop-place
invariant-loop-place g l = record {
  walked : IsWalked (Given g.M.Managed.seen g.M.Managed.same l.ver) l.first l.place (slice_get l.initial.managers.items) (slice_get l.managers.items);
  lens : vec_len l.managers ≡ vec_len l.initial.managers;
}

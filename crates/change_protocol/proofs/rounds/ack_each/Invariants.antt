use Rattle.std.proofs.Common.{◌≡◌, vec_len}
use Rattle.change_protocol.specs.Changes.{IsSameServer}
use Rattle.change_protocol.proofs.Walks.{IsWalked, Rounds, stand_at}
use Rattle.change_protocol.proofs.rounds.ack_each.Given as goal

abbrev pub invariant-loop-place : goal.invariant-loop-place
invariant-loop-place g l = record {
  walked : IsWalked (Rounds g.M.Managed.seen g.M.Managed.same l.forced) 0 l.place
      (stand_at l.initial.managers.items l.initial.said l.initial.server.receipts) (stand_at l.managers.items l.said l.server.receipts);
  same : IsSameServer l.initial.server l.server;
  lens : vec_len l.managers ≡ vec_len l.initial.managers;
}

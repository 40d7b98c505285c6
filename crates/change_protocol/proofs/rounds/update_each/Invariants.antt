use Rattle.std.proofs.Common.{◌≡◌, vec_len}
use Rattle.managed.specs.Seen.{IsUpdated}
use Rattle.change_protocol.proofs.Walks.{IsWalked, Told, both_at}
use Rattle.change_protocol.proofs.rounds.update_each.Given as goal

abbrev pub invariant-loop-place : goal.invariant-loop-place
invariant-loop-place g l =
    let seen = g.M.Managed.seen in
    record {
      walked : IsWalked (Told (λ was now left. IsUpdated l.k (seen was) (seen now) left × g.M.Managed.same was now)) 0 l.place
          (both_at l.initial.managers.items l.initial.left) (both_at l.managers.items l.left);
      lens : vec_len l.managers ≡ vec_len l.initial.managers;
    }

use Rattle.std.proofs.Common.{arith}
use Rattle.change_protocol.proofs.Placing.{updated_led}
use Rattle.change_protocol.proofs.coordinator.Coordinator.update_all.Goals as goal

pub invariant_of-self : goal.invariant_of-self
invariant_of-self g c =
    let before = c.self.inside.managers in
    let after = c.update_each.new.managers in
    updated_led g.D.Decider.decides g.M.Managed.seen g.M.Managed.same c.args.k c.self.inside.reached c.self.inside.server before.items after.items c.update_each.new.left
    c.self.invariant (omega (arith, c.update_each.ensures.len, before.ok.0, after.ok.0)) c.update_each.ensures.each

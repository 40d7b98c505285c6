use Rattle.std.proofs.Common.{length, arith, sym, ◌∙◌, ◌≡◌}
use Rattle.change_protocol.proofs.Acknowledging.{IsCounted, expected_each, pending_at, counted, completed_led, asked_settled, asked_pending}
use Rattle.change_protocol.proofs.coordinator.Coordinator.ask_all.Given as given
use Rattle.change_protocol.proofs.coordinator.Coordinator.ask_all.Goals as goal

pub ack_each-requires-clause-expected : goal.ack_each-requires-clause-expected
ack_each-requires-clause-expected g c =
    expected_each g.D.Decider.decides g.M.Managed.seen c.self.inside.server c.self.inside.managers.items c.self.inside.reached c.self.invariant

-- after all were asked
all_counted : (g : given.Over) (c : goal.After-complete_or_wait g)
    → IsCounted g.D.Decider.decides g.M.Managed.seen g.M.Managed.same c.args.forced c.ack_each.new.server c.ack_each.new.managers.items c.ack_each.new.said c.self.inside.reached c.in-Some.number
all_counted g c =
    let server = c.self.inside.server in
    let before = c.self.inside.managers in
    let after = c.ack_each.new.managers in
    let told = c.ack_each.ensures in
    let lens : length c.args.said.now ≡ length before.items = rw (← c.self.view_is) at c.requires in
    let pending = pending_at server.phase (c.in-Some.number, c.in-Some._version) (sym c.in-Some.ensures) in
    counted g.D.Decider.decides g.M.Managed.seen g.M.Managed.same c.args.forced server c.ack_each.new.server before.items after.items c.ack_each.new.said c.self.inside.reached
    c.in-Some.number pending.0 c.in-Some._version c.self.invariant pending.1 told.server
    (omega (arith, told.len, before.ok.0, after.ok.0)) (told.said_len ∙ lens) told.each

pub invariant_of-self : goal.invariant_of-self
invariant_of-self g c =
    rw c.complete_or_wait.ensures.settled (completed_led g.D.Decider.decides g.M.Managed.seen g.M.Managed.same c.args.forced _ _ _ _ c.in-Some.number (all_counted g c))

pub returns-in_default : goal.returns-in_default
returns-in_default g c =
    rw (← c.self.view_is) (asked_settled g.D.Decider.decides g.M.Managed.seen g.M.Managed.same c.args.forced _ c.args.said.now c.self.invariant g.met.M.Managed.reflexive
    (sym c.pending.ensures ∙ c.in_default.is))

pub returns : goal.returns
returns g c =
    let server = c.self.inside.server in
    let pending = pending_at server.phase (c.in-Some.number, c.in-Some._version) (sym c.in-Some.ensures) in
    let told = c.ack_each.ensures in
    rw (← c.self.view_is, c.complete_or_wait.ensures.settled) (asked_pending g.D.Decider.decides g.M.Managed.seen g.M.Managed.same c.args.forced server c.ack_each.new.server
    c.self.inside.managers.items c.ack_each.new.managers.items c.args.said.now c.ack_each.new.said c.self.inside.reached c.in-Some.number pending.0 c.in-Some._version c.complete_or_wait.result
    c.self.invariant pending.1 told.server (omega (arith, told.len, c.self.inside.managers.ok.0, c.ack_each.new.managers.ok.0)) told.each (all_counted g c) c.complete_or_wait.ensures.answer)

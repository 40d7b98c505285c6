use Rattle.std.proofs.Common.{ap, ◌∙◌, sym}
use Rattle.gate_rule.specs.declared.view.Ticket.TheVariants.{Drawn}
use Rattle.gate_rule.specs.Tickets.{word_of}
use Rattle.gate_rule.proofs.Naming as naming
use Rattle.epoch_gate.proofs.Standing.{stood_as}
use Rattle.epoch_gate.proofs.gate.Gate.take_admin.Goals as goal

pub returns-clause-value : goal.returns-clause-value
returns-clause-value g c =
    c.wait_for_turn.ensures.learns.2 c.args.self.now.fixed (ap (λ (m : _). m.0.fixed) c.draw-ticket.ensures.told.0 ∙ (ap (λ (s : _). s.view.fixed) c.admin.view_is ∙ c.requires.gate.1))

pub returns-clause-ordered : goal.returns-clause-ordered
returns-clause-ordered g c =
    let value = c.wait_for_turn.ensures.learns.2 c.args.self.now.fixed (ap (λ (m : _). m.0.fixed) c.draw-ticket.ensures.told.0 ∙ (ap (λ (s : _). s.view.fixed) c.admin.view_is ∙ c.requires.gate.1)) in
    naming.ordered g.V.Journal.means.kind _ _ (g.met.V.Journal.alternates _ _ _ value.2)

pub returns-clause-rule : goal.returns-clause-rule
returns-clause-rule g c =
    let stood = c.wait_for_turn.ensures.rule in
    let ticket = ap (λ (m : _). word_of m.0.ticket) c.wait_for_turn.ensures.turn in (
      stood.0,
      stood_as g.V.Journal.means g.D.Decider.decides c.args.self.now.fixed _ _ 4 c.draw-ticket.result _
          (ap (λ (m : _). record m.0 { trace = stood.0 }) c.draw-ticket.ensures.told.0 ∙ (λ i. record (c.admin.view_is i).view { ticket = Drawn (sym ticket i); trace = stood.0 })) ticket c.requires.gate.1 stood.1,
    )

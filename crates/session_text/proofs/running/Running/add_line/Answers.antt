use Rattle.session_text.specs.Sessions.{IsSidOf}
use Rattle.session_text.proofs.Growth.{line_grows}
use Rattle.session_text.proofs.PassLemmas.{line_noted, run_within}
use Rattle.session_text.proofs.running.Running.add_line.Goals as goal

pub invariant_of-self : goal.invariant_of-self
invariant_of-self c = rw c.in_err-push.ensures.err c.self.invariant

pub note-requires : goal.note-requires
note-requires c =
    rw (c.self.invariant.held.count, c.of-change.ensures)
    (run_within (IsSidOf c.self.inside.parts.policy.contexts) _ c.args.run (rw (← c.self.view_is) at c.requires.run))

pub invariant_of-self-2 : goal.invariant_of-self-2
invariant_of-self-2 c =
    rw (c.in_ok-push.ensures.ok, c.note.ensures, c.of-change.ensures) (record {
      kept = line_grows c.args.line c.args.run c.self.inside.parts c.self.invariant.kept (rw (← c.self.view_is) at c.requires);
      held = line_noted c.self.inside.held c.self.inside.parts c.args.line c.args.run c.self.invariant.held (rw (← c.self.view_is) at c.requires.run);
      contexts = c.self.invariant.contexts;
      clients = c.self.invariant.clients;
      few = c.self.invariant.few;
    })

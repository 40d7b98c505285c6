use Rattle.std.proofs.Common.{sym}
use Rattle.session_text.proofs.IndexLemmas.{taken_told}
use Rattle.session_text.proofs.setup.Setup.is_taken.Goals as goal

pub returns-then-is_root : goal.returns-then-is_root
returns-then-is_root c =
    rw (c.if-is_root.true, ← c.self.view_is) (rw (sym c.if-is_root.ensures) at (taken_told c.self.inside.parts.nodes c.self.inside.nodes c.args.path.now c.self.invariant.nodes))

pub returns-else-is_root : goal.returns-else-is_root
returns-else-is_root c =
    rw (c.has.ensures, ← c.self.view_is) (rw (sym c.if-is_root.ensures) at (taken_told c.self.inside.parts.nodes c.self.inside.nodes c.args.path.now c.self.invariant.nodes))

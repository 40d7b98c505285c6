use Rattle.session_text.proofs.IndexLemmas.{parent_told}
use Rattle.session_text.proofs.setup.Setup.is_parent_there.Goals as goal

pub returns : goal.returns
returns c = rw (c.is_directory.ensures, c.above.ensures) (parent_told c.args.self.now.session.nodes c.args.path.now)

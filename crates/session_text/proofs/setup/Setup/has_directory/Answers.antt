use Rattle.std.proofs.Common.{sym, ap, ◌∙◌}
use Rattle.std.specs.Option.{option_copied}
use Rattle.session_text.proofs.IndexLemmas.{directory_nowhere, directory_lost, directory_found, none_told}
use Rattle.session_text.proofs.setup.Setup.has_directory.Goals as goal

pub returns-in-None : goal.returns-in-None
returns-in-None c =
    rw (← c.self.view_is) (sym (directory_nowhere c.self.inside.parts.nodes c.self.inside.nodes c.args.path.now c.self.invariant.nodes (sym c.in-None.ensures)))

pub returns-in-None-get : goal.returns-in-None-get
returns-in-None-get c =
    rw (← c.self.view_is) (sym (directory_lost c.self.inside.parts.nodes c.self.inside.nodes c.args.path.now c.in-Some.at c.self.invariant.nodes (sym c.in-Some.ensures) (sym c.in-None-get.ensures)))

pub returns-in-Some-get : goal.returns-in-Some-get
returns-in-Some-get c =
    let got = sym c.get.ensures ∙ ap option_copied c.in-Some-get.is in
    let found = directory_found _ c.self.inside.parts.nodes c.self.inside.nodes c.args.path.now c.in-Some.at c.in-Some-get.node.now c.self.invariant.set_up.kept.nodes c.self.invariant.nodes (sym c.in-Some.ensures) got in
    rw (← c.self.view_is, found) (none_told c.is_none.result c.in-Some-get.node.now.bytes c.is_none.ensures)

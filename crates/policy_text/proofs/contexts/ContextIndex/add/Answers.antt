use Rattle.std.proofs.Common.{◌≡◌, ◌∙◌, false, refl}
use Rattle.std.specs.List.{list_any}
use Rattle.flask_sid.specs.SidTables.{is_same_context}
use Rattle.policy_text.proofs.IndexLemmas.{any_turned}
use Rattle.policy_text.proofs.contexts.ContextIndex.add.Goals as goal

pub returns-clause-ok : goal.returns-clause-ok
returns-clause-ok c =
    let none : list_any (is_same_context c.args.context.now) c.args.self.now ≡ false = any_turned c.args.context.now c.args.self.now ∙ c.requires in
    rw (c.in_ok-insert.ensures.keys, c.key_of.ensures, c.self.view_is, none) refl

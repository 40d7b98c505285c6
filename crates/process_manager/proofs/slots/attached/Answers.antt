-- The mode of a slot that is attached is that of ptrace and getattr.
use Rattle.std.proofs.Common.{rules, sym, subst}
use Rattle.access_vectors.specs.declared.class.Class.TheVariants as class
use Rattle.mode_questions.specs.Covered.{IsModeOf}
use Rattle.mode_questions.specs.Operations.{request}
use Rattle.process_calls.specs.States.{attach_perms}
use Rattle.process_manager.proofs.Modes.{attach_covers}
use Rattle.process_manager.proofs.slots.attached.Goals as goal

pub returns : goal.returns
returns g c =
    let usage = c.in_ok-usable.ensures (request c.args.operation.now).decisions c.requires.safe in
    record {
      usage = usage;
      mode = subst (IsModeOf class.Process attach_perms) (sym usage.mode) attach_covers;
      bits = search rules;
      at = search rules;
      label = search rules;
    }

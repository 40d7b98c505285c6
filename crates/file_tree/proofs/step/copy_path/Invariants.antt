use Rattle.std.proofs.Common.{◌≡◌, take}
use Rattle.file_tree.proofs.step.copy_path.Given as goal

abbrev pub invariant-loop-step : goal.invariant-loop-step
invariant-loop-step l = l.copied ≡ take l.step-index l.path

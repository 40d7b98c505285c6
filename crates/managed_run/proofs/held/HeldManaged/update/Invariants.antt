use Rattle.managed_run.proofs.held.HeldManaged.update.Given as goal

abbrev pub ghosts-update_counted : goal.ghosts-update_counted
ghosts-update_counted g a = record { name = a.blank.name; parts = a.blank.parts }

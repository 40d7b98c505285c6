use Rattle.protocol_tests.proofs.histories.a_change_runs_from_notice_to_acknowledgement.Given as goal

abbrev pub ghosts-update_counted : goal.ghosts-update_counted
ghosts-update_counted g a = record { name = a.blank.name; parts = a.blank.parts }

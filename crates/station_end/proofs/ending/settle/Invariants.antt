use Rattle.station_end.proofs.ending.settle.Given as goal

abbrev pub ghosts-follow_all : goal.ghosts-follow_all
ghosts-follow_all g a = record { name = a.blank.name; parts = a.blank.parts }

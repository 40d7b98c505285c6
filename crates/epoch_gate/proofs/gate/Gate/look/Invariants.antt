use Rattle.epoch_gate.specs.Seats.{key_of}
use Rattle.epoch_gate.proofs.gate.Gate.look.Given as goal

abbrev pub ghosts-look_row : goal.ghosts-look_row
ghosts-look_row g a = record { sought = key_of a.s a.t a.c }

use Rattle.epoch_gate.specs.Seats.{key_of}
use Rattle.epoch_gate.proofs.gate.Gate.fill.Given as goal

abbrev pub ghosts-fill_row : goal.ghosts-fill_row
ghosts-fill_row g a = record { sought = key_of a.s a.t a.c }

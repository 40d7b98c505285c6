-- A client's script goes on by a line at each manager.
use Rattle.std.proofs.Common.{◌≡◌, ℕ, ◌∙◌, List, [], ◌∷◌, length, All, Result, Ok, Err, refl, sym, subst, arith}
use Rattle.std.specs.Prelude.{OnErr}
use Rattle.std.proofs.lemmas.List.Elements.{All-head, All-tail}
use Rattle.session_text.specs.declared.session.RunLine.{RunLine}
use Rattle.client_acts.specs.Moves.{HasGiven}
use Rattle.client_script.specs.Scripts.{IsWhole, IsFrontOf, file_act, process_act, port_act}
use Rattle.client_script.specs.Clients.{Standings, AreOf, HaveRoom, HaveNone, HoldNone, HasDone, HasStopped, HasRun, HasRunFront}
use Rattle.client_script.specs.Underway.{AreAlong}
use Rattle.client_script.proofs.Along.{along_first, along_line, along_last, along_so_far, along_stopped}

-- before the first line
pub all_first : (client : ℕ) (lines : List RunLine) (s : Standings) → AreOf client s → HaveNone s → HaveRoom (length lines) s → AreAlong client lines lines s
all_first client lines s of none room =
    record {
      files = along_first file_act client lines s.files of.files none.held.files none.files room.files;
      processes = along_first process_act client lines s.processes of.processes none.held.processes none.processes room.processes;
      ports = along_first port_act client lines s.ports of.ports none.held.ports none.ports room.ports;
    }

-- after a line
pub all_line : (client : ℕ) (all left : List RunLine) (line : RunLine) (s t : Standings) → AreAlong client all (line ∷ left) s → HasDone line.line line.run s t → AreAlong client all left t
all_line client all left line s t along done =
    record {
      files = along_line file_act client all line left s.files t.files along.files (file_act line.line line.run) refl done.files;
      processes = along_line process_act client all line left s.processes t.processes along.processes (process_act line.line line.run) refl done.processes;
      ports = along_line port_act client all line left s.ports t.ports along.ports (port_act line.line line.run) refl done.ports;
    }

-- behind the last line
pub all_last : (client : ℕ) (lines : List RunLine) (s : Standings) → AreAlong client lines [] s → HasRun client lines s
all_last client lines s along =
    record {
      files = along_last file_act client lines s.files along.files;
      processes = along_last process_act client lines s.processes along.processes;
      ports = along_last port_act client lines s.ports along.ports;
    }

-- so far
pub all_so_far : (client : ℕ) (all left : List RunLine) (s : Standings) → AreAlong client all left s → HasRunFront client all s
all_so_far client all left s along =
    record {
      files = along_so_far file_act client all left s.files along.files;
      processes = along_so_far process_act client all left s.processes along.processes;
      ports = along_so_far port_act client all left s.ports along.ports;
    }

-- after a line that wanted memory
pub all_stopped : (client : ℕ) (all left : List RunLine) (line : RunLine) (s t : Standings) → AreAlong client all (line ∷ left) s → HasStopped line.line line.run s t → HasRunFront client all t
all_stopped client all left line s t along stopped =
    record {
      files = (along_stopped file_act client all line left s.files t.files along.files stopped.files).1;
      processes = (along_stopped process_act client all line left s.processes t.processes along.processes stopped.processes).1;
      ports = (along_stopped port_act client all line left s.ports t.ports along.ports stopped.ports).1;
    }

-- the client is the same then
pub stopped_of : (client : ℕ) (all left : List RunLine) (line : RunLine) (s t : Standings) → AreAlong client all (line ∷ left) s → HasStopped line.line line.run s t → AreOf client t
stopped_of client all left line s t along stopped =
    record {
      files = (along_stopped file_act client all line left s.files t.files along.files stopped.files).0;
      processes = (along_stopped process_act client all line left s.processes t.processes along.processes stopped.processes).0;
      ports = (along_stopped port_act client all line left s.ports t.ports along.ports stopped.ports).0;
    }

-- the client is the same on its way
pub all_of : (client : ℕ) (all left : List RunLine) (s : Standings) → AreAlong client all left s → AreOf client s
all_of client all left s along = record { files = along.files.client_is; processes = along.processes.client_is; ports = along.ports.client_is }

-- and has room for a line
pub all_room : (client : ℕ) (all left : List RunLine) (line : RunLine) (s : Standings) → AreAlong client all (line ∷ left) s → HaveRoom 0 s
all_room client all left line s along =
    record {
      files = omega (arith, along.files.room);
      processes = omega (arith, along.processes.room);
      ports = omega (arith, along.ports.room);
    }

-- the passes that were held yet are given back at each manager
pub record AllGiven (s t : Standings) : Type 0 where
  pub files : HasGiven s.files t.files
  pub processes : HasGiven s.processes t.processes
  pub ports : HasGiven s.ports t.ports

-- then none is held
pub none_held : (s t : Standings) → AllGiven s t → HoldNone t
none_held s t given = record { files = given.files.held; processes = given.processes.held; ports = given.ports.held }

-- the client and its own entries are as before
pub given_of : (client : ℕ) (s t : Standings) → AllGiven s t → AreOf client s → AreOf client t
given_of client s t given of =
    record { files = given.files.client ∙ of.files; processes = given.processes.client ∙ of.processes; ports = given.ports.client ∙ of.ports }

pub given_run : (client : ℕ) (lines : List RunLine) (s t : Standings) → AllGiven s t → HasRun client lines s → HasRun client lines t
given_run client lines s t given ran =
    record {
      files = subst (IsWhole file_act client lines) (sym given.files.none) ran.files;
      processes = subst (IsWhole process_act client lines) (sym given.processes.none) ran.processes;
      ports = subst (IsWhole port_act client lines) (sym given.ports.none) ran.ports;
    }

pub given_front : (client : ℕ) (lines : List RunLine) (s t : Standings) → AllGiven s t → HasRunFront client lines s → HasRunFront client lines t
given_front client lines s t given ran =
    record {
      files = subst (IsFrontOf file_act client lines) (sym given.files.none) ran.files;
      processes = subst (IsFrontOf process_act client lines) (sym given.processes.none) ran.processes;
      ports = subst (IsFrontOf port_act client lines) (sym given.ports.none) ran.ports;
    }

-- lines of which none is left
pub no_lines : (left : List RunLine) → length left ≡ 0 → left ≡ []
no_lines [] none = refl
no_lines (line ∷ left) none = absurd (omega arith)

-- what holds of all lines that are left holds of the first, and of the rest
pub first_of : (Holds : RunLine → Type 0) (left rest : List RunLine) (line : RunLine) → left ≡ line ∷ rest → All Holds left → Holds line
first_of Holds left rest line is all = All-head Holds line rest (subst (All Holds) is all)

pub rest_of : (Holds : RunLine → Type 0) (left rest : List RunLine) (line : RunLine) → left ≡ line ∷ rest → All Holds left → All Holds rest
rest_of Holds left rest line is all = All-tail Holds line rest (subst (All Holds) is all)

-- what always holds holds after a refusal
pub on_err_of : {T E : Type 0} (result : Result T E) (Holds : Type 0) → Holds → OnErr result Holds
on_err_of (Ok x) Holds holds = tt
on_err_of (Err e) Holds holds = holds

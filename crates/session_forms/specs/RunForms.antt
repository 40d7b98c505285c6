-- Whom a line that runs asks: the managers by their names.
use Rattle.std.specs.Prelude.{ℕ, List, Option, Some, None, if◌then◌else◌, codes}
use Rattle.std.specs.Str.{bytes_eq}
use Rattle.session_forms.specs.declared.run_forms.Manager.{Manager}
use Rattle.session_forms.specs.declared.run_forms.Manager.TheVariants.{File, Process, Port}

-- the manager of that name
unfoldable pub manager_of : List ℕ → Option Manager
manager_of word =
    if bytes_eq word (codes "file") then Some File
    else if bytes_eq word (codes "process") then Some Process
    else if bytes_eq word (codes "port") then Some Port
    else None

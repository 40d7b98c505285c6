-- The names of the calls, by which they are read and printed: each manager's in the order of the table of calls, and `stat`, which each has.
use Rattle.std.specs.Prelude.{ℕ, List, codes}

-- the calls of the file manager
abbrev pub mkdir : List ℕ
mkdir = codes "mkdir"

abbrev pub create : List ℕ
create = codes "create"

abbrev pub open_file : List ℕ
open_file = codes "open"

abbrev pub read_file : List ℕ
read_file = codes "read"

abbrev pub write_file : List ℕ
write_file = codes "write"

abbrev pub append_file : List ℕ
append_file = codes "append"

abbrev pub close_file : List ℕ
close_file = codes "close"

abbrev pub unlink : List ℕ
unlink = codes "unlink"

abbrev pub list : List ℕ
list = codes "list"

abbrev pub relabel : List ℕ
relabel = codes "relabel"

abbrev pub give : List ℕ
give = codes "give"

-- the calls of the process manager
abbrev pub fork : List ℕ
fork = codes "fork"

abbrev pub exec : List ℕ
exec = codes "exec"

abbrev pub signal : List ℕ
signal = codes "signal"

abbrev pub exit : List ℕ
exit = codes "exit"

abbrev pub wait : List ℕ
wait = codes "wait"

abbrev pub attach : List ℕ
attach = codes "attach"

abbrev pub peek : List ℕ
peek = codes "peek"

abbrev pub poke : List ℕ
poke = codes "poke"

abbrev pub detach : List ℕ
detach = codes "detach"

-- the calls of the port manager
abbrev pub bind : List ℕ
bind = codes "bind"

abbrev pub connect : List ℕ
connect = codes "connect"

abbrev pub recv : List ℕ
recv = codes "recv"

abbrev pub push : List ℕ
push = codes "push"

abbrev pub send : List ℕ
send = codes "send"

abbrev pub unbind : List ℕ
unbind = codes "unbind"

-- a call of each manager: what is there
abbrev pub stat : List ℕ
stat = codes "stat"

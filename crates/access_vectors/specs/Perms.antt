-- Each permission by a name of its own.
use Rattle.access_vectors.specs.Table.{Permission}
use Rattle.access_vectors.specs.declared.class.Class.TheVariants.{File, Dir, Process, Port, Security}

-- the permissions of class file
abbrev pub file_read : Permission
file_read = record { class = File; index = 0 }

abbrev pub file_write : Permission
file_write = record { class = File; index = 1 }

abbrev pub file_append : Permission
file_append = record { class = File; index = 2 }

abbrev pub file_create : Permission
file_create = record { class = File; index = 3 }

abbrev pub file_unlink : Permission
file_unlink = record { class = File; index = 4 }

abbrev pub file_getattr : Permission
file_getattr = record { class = File; index = 5 }

abbrev pub file_relabelfrom : Permission
file_relabelfrom = record { class = File; index = 6 }

abbrev pub file_relabelto : Permission
file_relabelto = record { class = File; index = 7 }

-- the permissions of class dir
abbrev pub dir_read : Permission
dir_read = record { class = Dir; index = 0 }

abbrev pub dir_search : Permission
dir_search = record { class = Dir; index = 1 }

abbrev pub dir_create : Permission
dir_create = record { class = Dir; index = 2 }

abbrev pub dir_add_name : Permission
dir_add_name = record { class = Dir; index = 3 }

abbrev pub dir_remove_name : Permission
dir_remove_name = record { class = Dir; index = 4 }

abbrev pub dir_getattr : Permission
dir_getattr = record { class = Dir; index = 5 }

abbrev pub dir_relabelfrom : Permission
dir_relabelfrom = record { class = Dir; index = 6 }

abbrev pub dir_relabelto : Permission
dir_relabelto = record { class = Dir; index = 7 }

-- the permissions of class process
abbrev pub process_fork : Permission
process_fork = record { class = Process; index = 0 }

abbrev pub process_transition : Permission
process_transition = record { class = Process; index = 1 }

abbrev pub process_signal : Permission
process_signal = record { class = Process; index = 2 }

abbrev pub process_ptrace : Permission
process_ptrace = record { class = Process; index = 3 }

abbrev pub process_exit : Permission
process_exit = record { class = Process; index = 4 }

abbrev pub process_wait : Permission
process_wait = record { class = Process; index = 5 }

abbrev pub process_getattr : Permission
process_getattr = record { class = Process; index = 6 }

-- the permissions of class port
abbrev pub port_name_bind : Permission
port_name_bind = record { class = Port; index = 0 }

abbrev pub port_recv : Permission
port_recv = record { class = Port; index = 1 }

abbrev pub port_send : Permission
port_send = record { class = Port; index = 2 }

abbrev pub port_connect : Permission
port_connect = record { class = Port; index = 3 }

abbrev pub port_getattr : Permission
port_getattr = record { class = Port; index = 4 }

-- the permissions of class security
abbrev pub security_load_policy : Permission
security_load_policy = record { class = Security; index = 0 }

-- The classes and their permissions.
use Rattle.std.specs.Prelude.{ℕ, ◌==◌, List, [], ◌∷◌, Option, slice_get, unwrap_or, codes}
use Rattle.std.specs.List.{find, position}
use Rattle.std.specs.Option.{option_map}
use Rattle.std.specs.Str.{bytes_eq}
use Rattle.access_vectors.specs.declared.class.Class.{Class}
use Rattle.access_vectors.specs.declared.class.Class.TheVariants.{File, Dir, Process, Port, Security}

-- a permission: its class, and its place among the permissions of the class
pub record Permission : Type 0 where
  pub class : Class
  pub index : ℕ

-- the classes in the order of their codes
abbrev pub classes : List Class
classes = File ∷ Dir ∷ Process ∷ Port ∷ Security ∷ []

-- the code of a class; no class has code 0
abbrev pub code_of : Class → ℕ
code_of File = 1
code_of Dir = 2
code_of Process = 3
code_of Port = 4
code_of Security = 5

-- the name of a class
abbrev pub class_word : Class → List ℕ
class_word File = codes "file"
class_word Dir = codes "dir"
class_word Process = codes "process"
class_word Port = codes "port"
class_word Security = codes "security"

-- the names of a class's permissions, each at its index
abbrev pub perm_words : Class → List (List ℕ)
perm_words File =
    codes "read" ∷ codes "write" ∷ codes "append" ∷ codes "create" ∷ codes "unlink" ∷ codes "getattr"
    ∷ codes "relabelfrom" ∷ codes "relabelto" ∷ []
perm_words Dir =
    codes "read" ∷ codes "search" ∷ codes "create" ∷ codes "add_name" ∷ codes "remove_name" ∷ codes "getattr"
    ∷ codes "relabelfrom" ∷ codes "relabelto" ∷ []
perm_words Process =
    codes "fork" ∷ codes "transition" ∷ codes "signal" ∷ codes "ptrace" ∷ codes "exit" ∷ codes "wait"
    ∷ codes "getattr" ∷ []
perm_words Port = codes "name_bind" ∷ codes "recv" ∷ codes "send" ∷ codes "connect" ∷ codes "getattr" ∷ []
perm_words Security = codes "load_policy" ∷ []

-- how many permissions a class has
abbrev pub perm_count : Class → ℕ
perm_count File = 8
perm_count Dir = 8
perm_count Process = 7
perm_count Port = 5
perm_count Security = 1

-- the name of a permission
unfoldable pub perm_word : Permission → List ℕ
perm_word perm = unwrap_or (slice_get (perm_words perm.class) perm.index) []

-- the class with that code
unfoldable pub class_coded : ℕ → Option Class
class_coded code = find (λ class. code_of class == code) classes

-- the class of that name
unfoldable pub class_named : List ℕ → Option Class
class_named name = find (λ class. bytes_eq (class_word class) name) classes

-- the permission of the class that has that name
unfoldable pub perm_named : Class → List ℕ → Option Permission
perm_named class name =
    option_map (λ index. record { class = class; index = index }) (position (λ word. bytes_eq word name) (perm_words class))

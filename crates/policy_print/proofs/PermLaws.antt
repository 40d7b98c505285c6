-- Classes and sets of permissions are words, and are read as what they were: each set of each class, by trying them all.
use Rattle.std.proofs.Common.{◌≡◌, ◌^◌, ℕ, Bool, true, false, not, eqb, List, Option, Some, None, refl, sym, ap, ◌∙◌, arith}
use Rattle.std.specs.Prelude.{◌&&◌, ◌||◌, ◌==◌}
use Rattle.std.specs.List.{list_all, list_any}
use Rattle.std.proofs.lemmas.Bool.{agree_below, agree_below_at, and_parts, eqb-true, ne_eqb, not-true}
use Rattle.flask_sid.specs.Names.{is_name_form, is_long}
use Rattle.access_vectors.specs.declared.class.Class.{Class}
use Rattle.access_vectors.specs.declared.class.Class.TheVariants.{File, Dir, Process, Port, Security}
use Rattle.access_vectors.specs.Table.{perm_count, perm_word, perm_named, class_word, class_named}
use Rattle.access_vectors.specs.Vectors.{has, with_index}
use Rattle.text_print.specs.Printed.{is_word}
use Rattle.policy_text.specs.Forms.{are_perms}
use Rattle.policy_text.specs.Known.{perms_of, whole_row}
use Rattle.policy_model.specs.Kept.{IsPerms}
use Rattle.policy_print.specs.Printed.{held_names}

-- a printed class is read again
pub class_again : (class : Class) → class_named (class_word class) ≡ Some class
unfolding class_named
class_again File = refl
class_again Dir = refl
class_again Process = refl
class_again Port = refl
class_again Security = refl

-- what the reader asks of the name of a class
pub record ClassReads (class : Class) : Type 0 where
  pub word : is_word (class_word class) ≡ true
  pub form : is_name_form (class_word class) ≡ true
  pub short : is_long (class_word class) ≡ false

pub class_reads : (class : Class) → ClassReads class
unfolding is_name_form is_long
class_reads File = record { word = refl; form = refl; short = refl }
class_reads Dir = record { word = refl; form = refl; short = refl }
class_reads Process = record { word = refl; form = refl; short = refl }
class_reads Port = record { word = refl; form = refl; short = refl }
class_reads Security = record { word = refl; form = refl; short = refl }

-- the number that was found
abbrev is_found : ℕ → Option ℕ → Bool
is_found vector None = false
is_found vector (Some found) = found == vector

-- words that are read as the permissions of a vector
abbrev read_as : Class → ℕ → List (List ℕ) → Bool
read_as class vector names = (are_perms names && is_found vector (perms_of class names)) && (list_all is_word names && not (list_any is_long names))

-- the names of a vector are read as the vector, unless it is empty
abbrev reads_again : Class → ℕ → Bool
reads_again class vector = vector == 0 || read_as class vector (held_names class vector)

-- each set of each class
all_read_again : (class : Class) → agree_below (reads_again class) (λ vector. true) (2 ^ perm_count class) ≡ true
unfolding held_names perm_word has with_index is_name_form is_long are_perms perms_of perm_named whole_row
all_read_again File = refl
all_read_again Dir = refl
all_read_again Process = refl
all_read_again Port = refl
all_read_again Security = refl

-- what the reader asks of the names of a vector
pub record PermsRead (class : Class) (vector : ℕ) : Type 0 where
  pub perms : are_perms (held_names class vector) ≡ true
  pub again : perms_of class (held_names class vector) ≡ Some vector
  pub words : list_all is_word (held_names class vector) ≡ true
  pub short : list_any is_long (held_names class vector) ≡ false

-- the number is the one that was found
found_is : (vector : ℕ) (found : Option ℕ) → is_found vector found ≡ true → found ≡ Some vector
found_is vector None h = cc
found_is vector (Some found) h = ap Some (eqb-true found vector h)

-- a set of some permissions of a class is read again
pub perms_read : (class : Class) (vector : ℕ) → IsPerms class vector → PermsRead class vector
perms_read class vector is_perms =
    let names = held_names class vector in
    let all : reads_again class vector ≡ true = agree_below_at (reads_again class) (λ v. true) (2 ^ perm_count class) vector (all_read_again class) is_perms.within in
    let some : eqb vector 0 ≡ false = ne_eqb vector 0 (λ none. omega (arith, none, is_perms.some)) in
    let read : read_as class vector (held_names class vector) ≡ true = sym (ap (λ t. t || read_as class vector (held_names class vector)) some) ∙ all in
    let both = and_parts (are_perms names && is_found vector (perms_of class names)) (list_all is_word names && not (list_any is_long names)) read in
    let form = and_parts (are_perms names) (is_found vector (perms_of class names)) both.0 in
    let words = and_parts (list_all is_word names) (not (list_any is_long names)) both.1 in
    record { perms = form.0; again = found_is vector (perms_of class names) form.1; words = words.0; short = not-true (list_any is_long names) words.1 }

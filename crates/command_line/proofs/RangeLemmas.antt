-- The numbers of a command are in their ranges.
use Rattle.std.proofs.Common.{◌≡◌, ◌≤◌, ℕ, Bool, true, false, List, [], ◌∷◌, Option, None, Some, refl, sym, arith}
use Rattle.std.specs.Prelude.{IfSome, ◌||◌, nat_lt, option_map, if◌then◌else◌, codes}
use Rattle.std.specs.Str.{bytes_eq}
use Rattle.std.proofs.lemmas.Bool.Decides.{nat_tests}
use Rattle.text_lines.specs.Numerals.{numeral_of}
use Rattle.text_lines.specs.OptionSteps.{◌>>=◌}
use Rattle.command_line.specs.Commands.{number_within, one_form, two_form, generate_form, path_form, four_form, command_of, IsRanged}
use Rattle.command_line.specs.declared.command.Command.{Command}
use Rattle.command_line.specs.declared.command.PathAsked.{PathAsked}
use Rattle.command_line.specs.declared.command.Command.TheVariants as command

-- what holds of what a step gives, holds of the whole
by_step : {A X : Type 0} (P : X → Type 0) (found : Option A) (next : A → Option X) → ((a : A) → found ≡ Some a → IfSome (next a) P) → IfSome (found >>= next) P
by_step P None next each = tt
by_step P (Some a) next each = each a refl

-- what is found has what is said of it
if_found : {X : Type 0} (P : X → Type 0) (found : Option X) (x : X) → IfSome found P → found ≡ Some x → P x
if_found P None x is same = cc
if_found P (Some y) x is same = let one : y ≡ x = cc in rw (← one) is

-- a number that a numeral is lies between least and most
number_ranged : (least most : ℕ) (word : List ℕ) → IfSome (number_within least most word) (λ number. (least ≤ number) × (number ≤ most))
unfolding number_within
number_ranged least most word =
    by_step (λ number. (least ≤ number) × (number ≤ most)) (numeral_of word) (λ number. if nat_lt number least || nat_lt most number then None else Some number) (λ number said. of_number number)
  where
    of_number : (number : ℕ) → IfSome (if nat_lt number least || nat_lt most number then None else Some number) (λ number. (least ≤ number) × (number ≤ most))
    of_number number =
        elim (nat_lt number least) as (λ (low : Bool). nat_lt number least ≡ low → IfSome (if low || nat_lt most number then None else Some number) (λ number. (least ≤ number) × (number ≤ most))) [
          | true ↦ λ low. tt
          | false ↦ λ low. elim (nat_lt most number) as (λ (high : Bool). nat_lt most number ≡ high → IfSome (if high then None else Some number) (λ number. (least ≤ number) × (number ≤ most))) [
            | true ↦ λ high. tt
            | false ↦ λ high. (grind (arith, nat_tests, low), grind (arith, nat_tests, high))
          ] refl
        ] refl

generate_ranged : (seed clients lines : List ℕ) → IfSome (generate_form seed clients lines) IsRanged
unfolding generate_form
generate_ranged seed clients lines =
    by_step IsRanged (number_within 0 2147483647 seed) (λ s. number_within 1 62 clients >>= λ c. number_within 1 90000 lines >>= λ n. Some (command.Generate s c n)) (λ s seed_is.
    by_step IsRanged (number_within 1 62 clients) (λ c. number_within 1 90000 lines >>= λ n. Some (command.Generate s c n)) (λ c clients_are.
    by_step IsRanged (number_within 1 90000 lines) (λ n. Some (command.Generate s c n)) (λ n lines_are.
    let one = if_found (λ number. (0 ≤ number) × (number ≤ 2147483647)) (number_within 0 2147483647 seed) s (number_ranged 0 2147483647 seed) seed_is in
    let two = if_found (λ number. (1 ≤ number) × (number ≤ 62)) (number_within 1 62 clients) c (number_ranged 1 62 clients) clients_are in
    let three = if_found (λ number. (1 ≤ number) × (number ≤ 90000)) (number_within 1 90000 lines) n (number_ranged 1 90000 lines) lines_are in
    record { seed_is = one.1; some_client = two.0; few_clients = two.1; some_line = three.0; few_lines = three.1 })))

-- what asks a path has no range
flow_ranged : (asked : Option PathAsked) → IfSome (option_map command.Flow asked) IsRanged
flow_ranged None = tt
flow_ranged (Some asked) = tt

enter_ranged : (asked : Option PathAsked) → IfSome (option_map command.Enter asked) IsRanged
enter_ranged None = tt
enter_ranged (Some asked) = tt

four_ranged : (name one two three : List ℕ) → IfSome (four_form name one two three) IsRanged
unfolding four_form
four_ranged name one two three = by_tests (bytes_eq name (codes "generate")) (bytes_eq name (codes "flow")) (bytes_eq name (codes "enter"))
  where
    by_tests : (generates flows enters : Bool) → IfSome (if generates then generate_form one two three
        else if flows then option_map command.Flow (path_form one two three)
        else if enters then option_map command.Enter (path_form one two three) else None) IsRanged
    by_tests true flows enters = generate_ranged one two three
    by_tests false true enters = flow_ranged (path_form one two three)
    by_tests false false true = enter_ranged (path_form one two three)
    by_tests false false false = tt

one_ranged : (name : List ℕ) → IfSome (one_form name) IsRanged
unfolding one_form
one_ranged name = by_tests (bytes_eq name (codes "serial")) (bytes_eq name (codes "threads"))
  where
    by_tests : (serial threads : Bool) → IfSome (if serial then Some command.Serial else if threads then Some command.Threads else None) IsRanged
    by_tests true threads = tt
    by_tests false true = tt
    by_tests false false = tt

two_ranged : (name one : List ℕ) → IfSome (two_form name one) IsRanged
unfolding two_form
two_ranged name one = by_test (bytes_eq name (codes "learn")) (numeral_of one)
  where
    by_test : (learns : Bool) (version : Option ℕ) → IfSome (if learns then option_map command.Learn version else None) IsRanged
    by_test true (Some version) = tt
    by_test true None = tt
    by_test false version = tt

-- the numbers of any command
pub command_ranged : (words : List (List ℕ)) (found : Command) → command_of words ≡ Some found → IsRanged found
unfolding command_of
command_ranged words found is = if_found IsRanged (command_of words) found (by_words words) is
  where
    by_words : (words : List (List ℕ)) → IfSome (command_of words) IsRanged
    by_words [] = tt
    by_words (name ∷ []) = one_ranged name
    by_words (name ∷ one ∷ []) = two_ranged name one
    by_words (name ∷ one ∷ two ∷ []) = tt
    by_words (name ∷ one ∷ two ∷ three ∷ []) = four_ranged name one two three
    by_words (name ∷ one ∷ two ∷ three ∷ four ∷ more) = tt

-- the same of what was found, if anything
pub found_ranged : (words : List (List ℕ)) (found : Option Command) → found ≡ command_of words → IfSome found IsRanged
found_ranged words None is = tt
found_ranged words (Some found) is = command_ranged words found (sym is)

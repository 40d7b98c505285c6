-- What the plain manager answers on the first day.
use Rattle.std.proofs.Common.{◌≡◌, ℕ, true, false, List, [], ◌∷◌, take, drop, Option, None, Some, codes, sym, ap, subst, ◌∙◌}
use Rattle.std.specs.FinMap as maps
use Rattle.std.specs.Ordering.{nat_cmp}
use Rattle.std.specs.Cmp.{nat_cmp_total}
use Rattle.access_vectors.specs.Perms.{file_read, dir_search}
use Rattle.access_vectors.specs.Vectors.{has}
use Rattle.access_vectors.specs.declared.asked.Asked.{Asked}
use Rattle.mode_questions.specs.Requests.{Request}
use Rattle.file_tree.specs.Nodes.{step_from}
use Rattle.file_tree.specs.PlainTree.{PlainTree, Item}
use Rattle.file_tree.proofs.PlainLemmas.{paths_total}
use Rattle.file_tree.specs.declared.step.Step.{Step}
use Rattle.file_calls.specs.declared.call.FileReply.TheVariants.{Done, Bytes, Denied}
use Rattle.file_calls.specs.States.{Held, FileState, FileAnswer, opened_with, root_tree, saying, asking}
use Rattle.file_calls.specs.Walks.{Walk, looked_into, walked_from, after_walk, entry_key}
use Rattle.file_calls.specs.SlotCalls.{open_into, opened_at, used, with_file}
use Rattle.file_calls.specs.PlainManager.{answer}
use Rattle.file_calls.specs.Example.{AnswersOfDay, one_file_opening, day_decisions, day_open, day_read, opened_state}

-- where the file stands
abbrev day_path : List Step
day_path = record { key = 0; name = codes "motd" } ∷ []

-- the root and the file
abbrev root_item : Item
root_item = record { label = 2; bytes = None }

abbrev day_item : Item
day_item = record { label = 3; bytes = Some (codes "dawn") }

-- what stands in the tree: the root with its label, and the file in it
abbrev day_tree : PlainTree
day_tree = maps.insert (root_tree 2) day_path day_item

root_is : maps.get day_tree [] ≡ Some root_item
root_is = maps.get-insert paths_total (root_tree 2) day_path day_item [] ∙ maps.get-insert paths_total maps.empty [] root_item []

file_is : maps.get day_tree day_path ≡ Some day_item
file_is = maps.get-insert paths_total (root_tree 2) day_path day_item day_path

-- the slot that the open fills, and the state that it leaves
abbrev day_held : Held
day_held = record { path = day_path; mode = 1 }

abbrev day_state : FileState
day_state = record { opening = one_file_opening; tree = day_tree; slots = maps.insert maps.empty 5 day_held }

abbrev open_asked : List Asked
open_asked = record { s = 1; t = 2; perm = dir_search; yes = true } ∷ record { s = 1; t = 3; perm = file_read; yes = true } ∷ []

-- the client's request under a number, whose version has the same number
abbrev day_request : ℕ → Request
day_request number = record { decisions = day_decisions; version = number; client = 0; subject = 1; number = number }

-- the walk to the file, by what stands at the root
abbrev day_walk : Option Item → Walk
day_walk root =
    looked_into (day_request 0) 0 [] root
    (λ label. walked_from (day_request 0) day_tree label (step_from [] (entry_key (day_request 0) label) (codes "motd")) [])

-- the open, by what stands at the root, and then by what stands at the end of the walk
abbrev by_root : Option Item → FileAnswer
by_root root =
    let state = opened_with one_file_opening in
    let walk = day_walk root in
    after_walk state walk (opened_at (day_request 0) state 5 1 walk.at (maps.get day_tree walk.at))

abbrev by_file : Option Item → FileAnswer
by_file file =
    let state = opened_with one_file_opening in
    after_walk state (day_walk (Some root_item)) (opened_at (day_request 0) state 5 1 day_path file)

open_is : answer day_decisions (opened_with one_file_opening) 0 day_open 0 0 ≡ record { reply = Done; state = day_state; asked = open_asked }
unfolding has
open_is =
    ap (open_into (day_request 0) (opened_with one_file_opening) 5 (codes "motd" ∷ []) 1) (maps.get-empty nat_cmp 5)
    ∙ ap by_root root_is ∙ ap by_file file_is

state_is : opened_state one_file_opening ≡ day_state
state_is = ap (λ (a : FileAnswer). a.state) open_is

held_is : maps.get day_state.slots 5 ≡ Some day_held
held_is = maps.get-insert nat_cmp_total maps.empty 5 day_held 5

-- a read of the first two bytes, by what the slot holds, and then by what stands at its path
abbrev read_by_slot : ℕ → Option Held → FileAnswer
read_by_slot number held =
    used (day_request number) day_state file_read held (λ at label bytes. saying day_state (Bytes (take 2 (drop 0 bytes))))

abbrev read_by_file : ℕ → Option Item → FileAnswer
read_by_file number file =
    with_file day_state file
    (λ label bytes. asking (day_request number) day_state label file_read (saying day_state (Bytes (take 2 (drop 0 bytes)))))

allowed_is : answer day_decisions day_state 0 day_read 0 0
    ≡ record { reply = Bytes (codes "da"); state = day_state; asked = record { s = 1; t = 3; perm = file_read; yes = true } ∷ [] }
unfolding has
allowed_is = ap (read_by_slot 0) held_is ∙ ap (read_by_file 0) file_is

denied_is : answer day_decisions day_state 0 day_read 1 1
    ≡ record { reply = Denied file_read 1; state = day_state; asked = record { s = 1; t = 3; perm = file_read; yes = false } ∷ [] }
unfolding has
denied_is = ap (read_by_slot 1) held_is ∙ ap (read_by_file 1) file_is

pub answers_of_day : AnswersOfDay one_file_opening
answers_of_day = record {
  opened = open_is ∙ ap (λ (state : FileState). record { reply = Done; state = state; asked = open_asked }) (sym state_is);
  allowed = subst (λ (state : FileState). answer day_decisions state 0 day_read 0 0
      ≡ record { reply = Bytes (codes "da"); state = state; asked = record { s = 1; t = 3; perm = file_read; yes = true } ∷ [] }) (sym state_is) allowed_is;
  denied = subst (λ (state : FileState). answer day_decisions state 0 day_read 1 1
      ≡ record { reply = Denied file_read 1; state = state; asked = record { s = 1; t = 3; perm = file_read; yes = false } ∷ [] }) (sym state_is) denied_is;
}

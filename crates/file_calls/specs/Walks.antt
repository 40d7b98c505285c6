-- The walk along a path, from directory to directory.
use Rattle.std.specs.Prelude.{ℕ, ◌==◌, List, [], ◌∷◌, Option, Some, None, if◌then◌else◌}
use Rattle.std.specs.FinMap as maps
use Rattle.access_vectors.specs.Perms.{dir_search}
use Rattle.access_vectors.specs.declared.asked.Asked.{Asked}
use Rattle.access_vectors.specs.declared.class.Class.TheVariants as class
use Rattle.mode_questions.specs.Requests.{Request, question_of, stopped_or}
use Rattle.file_tree.specs.Nodes.{step_from}
use Rattle.file_tree.specs.PlainTree.{PlainTree, Item}
use Rattle.file_tree.specs.declared.step.Step.{Step}
use Rattle.file_calls.specs.States.{FileState, FileAnswer}
use Rattle.file_calls.specs.declared.call.FileReply.{FileReply}
use Rattle.file_calls.specs.declared.call.FileReply.TheVariants as reply

-- how a walk ends: the reply that stops it, if any; the path of the entry to which it came, which may be missing where only
-- its last name was; the label of the directory in which it looked that name up; and the questions. Along `/` no name is
-- looked up: the entry is the root, and there is no such label.
pub record Walk : Type 0 where
  pub stop : Option FileReply
  pub at : List Step
  pub above : ℕ
  pub asked : List Asked

-- the key under which a subject looks entries of a directory with this label up: 0 where the subject's member of the
-- label is the label itself, and else that member
abbrev pub entry_key : Request → ℕ → ℕ
entry_key r label =
    let member = r.decisions.member r.version r.subject label class.Dir in if member == label then 0 else member

-- a walk that stops here
abbrev pub stopping : List Step → ℕ → FileReply → Walk
stopping here above said = record { stop = Some said; at = here; above = above; asked = [] }

-- search on a directory, and where it is allowed the rest of a walk
abbrev pub then_walking : Request → List Step → ℕ → ℕ → Walk → Walk
then_walking r here above label rest =
    let asked = question_of r label dir_search in
    if asked.yes then record { stop = rest.stop; at = rest.at; above = rest.above; asked = asked ∷ rest.asked }
    else record { stop = Some (reply.Denied dir_search r.number); at = here; above = above; asked = asked ∷ [] }

-- a name is looked up in what stands here: NotFound where nothing does, NotDir where a file does; a directory is searched,
-- and where that is allowed the walk goes on from its entry, which the directory's label tells
abbrev pub looked_into : Request → ℕ → List Step → Option Item → (ℕ → Walk) → Walk
looked_into r above here None next = stopping here above reply.NotFound
looked_into r above here (Some item) next = in_directory item.bytes
  where
    in_directory : Option (List ℕ) → Walk
    in_directory (Some bytes) = stopping here above reply.NotDir
    in_directory None = then_walking r here above item.label (next item.label)

-- the walk of a subject along these names, from what stands here, in a directory of the label `above`
abbrev pub walked_from : Request → PlainTree → ℕ → List Step → List (List ℕ) → Walk
walked_from r tree above here [] = record { stop = None; at = here; above = above; asked = [] }
walked_from r tree above here (name ∷ names) =
    looked_into r above here (maps.get tree here)
    (λ label. walked_from r tree label (step_from here (entry_key r label) name) names)

-- the walk of a subject along a path
abbrev pub walked : Request → FileState → List (List ℕ) → Walk
walked r state path = walked_from r state.tree 0 [] path

-- what is done at the end of a walk that nothing stopped
abbrev pub after_walk : FileState → Walk → FileAnswer → FileAnswer
after_walk state walk rest = stopped_or state walk.asked rest walk.stop

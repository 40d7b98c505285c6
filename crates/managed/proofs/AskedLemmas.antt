-- What the newest entry of a history asked, and its reply.
use Rattle.std.proofs.Common.{◌≡◌, ◌+◌, ◌-◌, ℕ, List, [], ◌∷◌, ◌++◌, length, Bool, true, false, Option, Some, None, refl, arith}
use Rattle.std.specs.Prelude.{slice_get, if◌then◌else◌}
use Rattle.std.proofs.lemmas.List.{length-append}
use Rattle.std.proofs.lemmas.Option.{slice_get-get_or}
use Rattle.std.proofs.Math.Seq.{get_or-append_seam}
use Rattle.access_vectors.specs.Decisions.{Decisions}
use Rattle.access_vectors.specs.Forced.{is_aborted}
use Rattle.manager_history.specs.declared.entry.Entry.{Entry}
use Rattle.manager_history.specs.declared.entry.Entry.TheVariants.{Aborted}
use Rattle.manager_history.specs.Answers.{Answer, Manager}
use Rattle.manager_history.specs.Histories.{operation}
use Rattle.managed.specs.Posts.{Post, acting_number, answer_on, asked_on, entry_on, asked_in, last_asked, reply_in, last_reply}

-- the last of a list that grew by one is what it grew by
pub last_added : {X : Type 0} (xs : List X) (x : X) → slice_get (xs ++ x ∷ []) (length (xs ++ x ∷ []) - 1) ≡ Some x
last_added xs x =
    let long : length (xs ++ x ∷ []) ≡ length xs + 1 = length-append xs (x ∷ []) in
    let at : length (xs ++ x ∷ []) - 1 ≡ length xs = omega (arith, long) in
    rw (at, slice_get-get_or (xs ++ x ∷ []) (length xs) x (omega (arith, long)), get_or-append_seam xs x [] x) refl

-- below a call, these are its questions
asked_under : {Call Reply State : Type 0} (caller mark : ℕ) (call : Call) (number : ℕ) (answer : Answer Reply State) (aborted : Bool)
    → asked_in (Some (if aborted then Aborted caller mark call number else operation caller mark call number answer)) ≡ (if aborted then [] else answer.asked)
asked_under caller mark call number answer true = refl
asked_under caller mark call number answer false = refl

pub asked_called : {Call Reply State : Type 0} (plain : Manager Call Reply State) (d : Decisions) (post : Post State) (client mark : ℕ) (call : Call) (history now : List (Entry Call Reply))
    → now ≡ history ++ entry_on plain d post client mark call ∷ [] → last_asked now ≡ asked_on plain d post client call
unfolding last_asked
asked_called plain d post client mark call history now added =
    let number = acting_number post client in
    rw (added, last_added history (entry_on plain d post client mark call))
    (asked_under client mark call number (answer_on plain d post client call) (is_aborted post.phase number))

-- the reply that a client's call gets: an aborted one none
abbrev pub reply_on : {Call Reply State : Type 0} → Manager Call Reply State → Decisions → Post State → ℕ → Call → Option Reply
reply_on plain d post client call = if is_aborted post.phase (acting_number post client) then None else Some (answer_on plain d post client call).reply

-- and below the call the reply stands there
replied_under : {Call Reply State : Type 0} (caller mark : ℕ) (call : Call) (number : ℕ) (answer : Answer Reply State) (aborted : Bool)
    → reply_in (Some (if aborted then Aborted caller mark call number else operation caller mark call number answer)) ≡ (if aborted then None else Some answer.reply)
replied_under caller mark call number answer true = refl
replied_under caller mark call number answer false = refl

pub replied_called : {Call Reply State : Type 0} (plain : Manager Call Reply State) (d : Decisions) (post : Post State) (client mark : ℕ) (call : Call) (history now : List (Entry Call Reply))
    → now ≡ history ++ entry_on plain d post client mark call ∷ [] → last_reply now ≡ reply_on plain d post client call
unfolding last_reply
replied_called plain d post client mark call history now added =
    let number = acting_number post client in
    rw (added, last_added history (entry_on plain d post client mark call))
    (replied_under client mark call number (answer_on plain d post client call) (is_aborted post.phase number))

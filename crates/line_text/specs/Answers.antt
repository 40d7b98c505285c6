-- What a line of a session came to, as the words of a line.
use Rattle.std.specs.Prelude.{ℕ, List, [], ◌∷◌, ◌++◌, map, Result, Ok, Err, codes, decimal}
use Rattle.flask_sid.specs.declared.context.ContextOf.{ContextOf}
use Rattle.answer_text.specs.Fronts.{front_words, aborted_words}
use Rattle.answer_text.specs.Replies.{file_words, process_words, port_words}
use Rattle.answer_text.specs.declared.fronts.Front.{Front}
use Rattle.change_protocol.specs.declared.answers.AckAll.{AckAll}
use Rattle.change_protocol.specs.declared.answers.AckAll.TheVariants as acking
use Rattle.change_protocol.specs.declared.answers.NotifyAllFault.{NotifyAllFault}
use Rattle.change_protocol.specs.declared.answers.NotifyAllFault.TheVariants as faults
use Rattle.change_protocol.specs.declared.answers.Said.{Said}
use Rattle.change_protocol.specs.declared.answers.Said.TheVariants as saying
use Rattle.manager_history.specs.declared.answers.Answer.{Answer}
use Rattle.manager_history.specs.declared.answers.Answer.TheVariants.{Did, Aborted}
use Rattle.session_forms.specs.declared.run_forms.Manager.{Manager}
use Rattle.session_managers.specs.declared.acting.Reply.{Reply}
use Rattle.session_managers.specs.declared.acting.Reply.TheVariants as any
use Rattle.session_managers.specs.declared.changes.Acks.{Acks}
use Rattle.session_runner.specs.declared.outcomes.LineAnswer.{LineAnswer}
use Rattle.session_runner.specs.declared.outcomes.LineAnswer.TheVariants as answer
use Rattle.session_text.specs.declared.session.ClientLine.{ClientLine}

-- a reply of any of the three managers, whose labels are identifiers of these contexts
abbrev pub reply_words : List (ContextOf (List ℕ)) → Reply → List (List ℕ)
reply_words contexts (any.File got) = file_words contexts got
reply_words contexts (any.Process got) = process_words contexts got
reply_words contexts (any.Port got) = port_words contexts got

-- what a call got: a reply, or it was aborted
abbrev pub got_words : List (ContextOf (List ℕ)) → Answer Reply → List (List ℕ)
got_words contexts (Did got) = reply_words contexts got
got_words contexts Aborted = aborted_words

-- what a notice got: its number, or why it was refused; in a session numbers are never spent, and after want of memory nothing is told
abbrev pub notice_words : Result ℕ NotifyAllFault → List (List ℕ)
notice_words (Ok number) = codes "notified" ∷ decimal number ∷ []
notice_words (Err (faults.Pending pending)) = codes "pending" ∷ decimal pending ∷ []
notice_words (Err faults.NoVersion) = codes "noversion" ∷ []
notice_words (Err faults.Spent) = codes "spent" ∷ []
notice_words (Err (faults.Memory reached)) = codes "memory" ∷ []

-- what an update got: how many slots of each manager are stale yet
abbrev pub updated_words : List ℕ → List (List ℕ)
updated_words left = codes "updated" ∷ map decimal left

-- what a manager said: passes or stale slots keep the change back, its receipt is there, or it has no notice
abbrev pub said_word : Said → List ℕ
said_word (saying.Busy older) = codes "busy:" ++ decimal older
said_word (saying.Behind left) = codes "behind:" ++ decimal left
said_word saying.Kept = codes "kept"
said_word saying.Idle = codes "idle"

-- what an acknowledgement got: nothing was pending, the change is complete, or it waits, and what each manager said
abbrev pub acks_words : Acks → List (List ℕ)
acks_words got = words_of got.all
  where
    words_of : AckAll → List (List ℕ)
    words_of acking.Idle = codes "idle" ∷ []
    words_of (acking.Complete number) = codes "complete" ∷ decimal number ∷ []
    words_of acking.Waiting = codes "waiting" ∷ map said_word got.said

-- which call it was: the number of its line, the client, the manager, and the policy number
abbrev pub front_of : ℕ → ℕ → Manager → ℕ → Front
front_of line client manager number = record { line = line; client = client; manager = manager; number = number }

-- what stands in front of what the administrator is told
abbrev pub admin_words : ℕ → List (List ℕ)
admin_words line = decimal line ∷ codes "admin" ∷ []

-- which call it was, with what it got
abbrev pub replied_words : List (ContextOf (List ℕ)) → List ClientLine → Front → Answer Reply → List (List ℕ)
replied_words contexts clients front got = front_words clients front ++ got_words contexts got

-- what the line of a number came to: the call with what it got, or that its client holds a pass of the number or gave it back, or what the
-- administrator was told
abbrev pub answer_words : List (ContextOf (List ℕ)) → List ClientLine → ℕ → LineAnswer → List (List ℕ)
answer_words contexts clients line (answer.Replied client manager number got) = replied_words contexts clients (front_of line client manager number) got
answer_words contexts clients line (answer.Begun client manager number) = front_words clients (front_of line client manager number) ++ codes "begun" ∷ []
answer_words contexts clients line (answer.Ended client manager number) = front_words clients (front_of line client manager number) ++ codes "ended" ∷ []
answer_words contexts clients line (answer.Notified said) = admin_words line ++ notice_words said
answer_words contexts clients line (answer.Updated left) = admin_words line ++ updated_words left
answer_words contexts clients line (answer.Acknowledged got) = admin_words line ++ acks_words got

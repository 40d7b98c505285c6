-- How a manager on one thread stands: plain state, slots, change of policy and held passes.
use Rattle.std.specs.Prelude.{◌≡◌, ℕ, ◌+◌, ◌-◌, Bool, true, false, List, [], ◌∷◌, length, take, replicate, slice_get, slice_set, Option, Some, None, unwrap_or, if◌then◌else◌}
use Rattle.std.specs.FinMap as maps
use Rattle.access_vectors.specs.Decisions.{Decisions}
use Rattle.access_vectors.specs.Asking.{counted}
use Rattle.access_vectors.specs.Phases.{number_of, settled_number, version_at, noticed, acknowledged}
use Rattle.access_vectors.specs.Forced.{is_aborted, MayCall}
use Rattle.access_vectors.specs.Stale.{Follows, Pair, stale_slots, now_following, all_following}
use Rattle.access_vectors.specs.declared.asked.Asked.{Asked}
use Rattle.access_vectors.specs.declared.class.Class.{Class}
use Rattle.access_vectors.specs.declared.phase.Phase.{Phase}
use Rattle.access_vectors.specs.declared.phase.Phase.TheVariants.{Settled, Pending}
use Rattle.manager_history.specs.Answers.{Answer, Manager}
use Rattle.manager_history.specs.Histories.{said_at, entry_at, acknowledgement}
use Rattle.manager_history.specs.Kept.{KeeperView}
use Rattle.manager_history.specs.Passing.{pass_of, count_at}
use Rattle.manager_history.specs.declared.answers.Ack.{Ack}
use Rattle.manager_history.specs.declared.answers.Ack.TheVariants as acks
use Rattle.manager_history.specs.declared.answers.Answer as said
use Rattle.manager_history.specs.declared.entry.Entry.{Entry}
use Rattle.manager_history.specs.declared.entry.Entry.TheVariants as entry
use Rattle.managed.specs.declared.managed.Shown.{Shown}

-- where a manager stands: the plain manager's state, the policy number that each used slot follows, where its change of
-- policy stands, and by client the policy number of the pass that is held
pub record Post (State : Type 0) : Type 0 where
  pub state : State
  pub follows : Follows
  pub phase : Phase
  pub held : List (Option ℕ)

-- before the first call: every slot is free, number 0 with version 0 is settled, and no pass is held
abbrev pub opened_post : {State : Type 0} → State → Post State
opened_post state = record { state = state; follows = maps.empty; phase = Settled 0 0; held = replicate 64 None }

-- the policy number under which a client acts: that of its held pass, or the newest; and that number's version
abbrev pub acting_number : {State : Type 0} → Post State → ℕ → ℕ
acting_number post client = unwrap_or (pass_of post.held client) (number_of post.phase)

abbrev pub acting_version : {State : Type 0} → Post State → ℕ → ℕ
acting_version post client = version_at post.phase (acting_number post client)

-- the plain manager's answer to a client's call
abbrev pub answer_on : {Call Reply State : Type 0} → Manager Call Reply State → Decisions → Post State → ℕ → Call → Answer Reply State
answer_on plain d post client call = plain d post.state client call (acting_number post client) (acting_version post client)

-- what a client's call is answered: where its number is below the settled one that it was aborted, and else the plain
-- manager's reply
abbrev pub said_on : {Call Reply State : Type 0} → Manager Call Reply State → Decisions → Post State → ℕ → Call → said.Answer Reply
said_on plain d post client call = said_at plain d post.state post.phase client call (acting_number post client)

-- what a client's call asks: an aborted one nothing
abbrev pub asked_on : {Call Reply State : Type 0} → Manager Call Reply State → Decisions → Post State → ℕ → Call → List Asked
asked_on plain d post client call = if is_aborted post.phase (acting_number post client) then [] else (answer_on plain d post client call).asked

-- the entry that a client's call adds to the history
abbrev pub entry_on : {Call Reply State : Type 0} → Manager Call Reply State → Decisions → Post State → ℕ → ℕ → Call → Entry Call Reply
entry_on plain d post client mark call = entry_at plain d post.state post.phase client mark call (acting_number post client)

-- what slots follow after a call, by the state, the call, its policy number and version, and its reply
abbrev pub Following : Type 0 → Type 0 → Type 0 → Type 0
Following Call Reply State = Decisions → State → ℕ → Call → ℕ → ℕ → Reply → Follows → Follows

-- after a client's operation, and the plain manager's answer
abbrev pub operated : {Call Reply State : Type 0} → Following Call Reply State → Decisions → Post State → ℕ → Call → Answer Reply State → Post State
operated followed d post client call answer = record {
  state = answer.state;
  follows = followed d post.state client call (acting_number post client) (acting_version post client) answer.reply post.follows;
  phase = post.phase;
  held = post.held;
}

-- after a client's call, and the plain manager's answer: one that is aborted changes nothing
abbrev pub called : {Call Reply State : Type 0} → Following Call Reply State → Decisions → Post State → ℕ → Call → Answer Reply State → Post State
called followed d post client call answer =
    if is_aborted post.phase (acting_number post client) then post else operated followed d post client call answer

-- what an operation asked; other entries ask nothing
abbrev pub asked_in : {Call Reply : Type 0} → Option (Entry Call Reply) → List Asked
asked_in None = []
asked_in (Some (entry.Op caller mark call number asked reply)) = asked
asked_in (Some (entry.Aborted caller mark call number)) = []
asked_in (Some (entry.Notice number version)) = []
asked_in (Some (entry.Ack number)) = []
asked_in (Some (entry.Forced number)) = []

-- what the newest entry of a history asked; nothing where it is no operation
unfoldable pub last_asked : {Call Reply : Type 0} → List (Entry Call Reply) → List Asked
last_asked history = asked_in (slice_get history (length history - 1))

-- the reply of an operation; other entries have none
abbrev pub reply_in : {Call Reply : Type 0} → Option (Entry Call Reply) → Option Reply
reply_in None = None
reply_in (Some (entry.Op caller mark call number asked reply)) = Some reply
reply_in (Some (entry.Aborted caller mark call number)) = None
reply_in (Some (entry.Notice number version)) = None
reply_in (Some (entry.Ack number)) = None
reply_in (Some (entry.Forced number)) = None

-- the reply that stands in the newest entry of a history; none where it is no operation
unfoldable pub last_reply : {Call Reply : Type 0} → List (Entry Call Reply) → Option Reply
last_reply history = reply_in (slice_get history (length history - 1))

-- where a manager stands, with other held passes
abbrev pub with_held : {State : Type 0} → Post State → List (Option ℕ) → Post State
with_held post held = record { state = post.state; follows = post.follows; phase = post.phase; held = held }

-- passes after a client took one of a number, where it held none
abbrev pub passes_begun : List (Option ℕ) → ℕ → ℕ → Option ℕ → List (Option ℕ)
passes_begun held client number None = slice_set held client (Some number)
passes_begun held client number (Some before) = held

-- passes after a client gave its own back, where it held one
abbrev pub passes_ended : List (Option ℕ) → ℕ → Option ℕ → List (Option ℕ)
passes_ended held client None = held
passes_ended held client (Some number) = slice_set held client None

-- after a client took a pass of the newest number, and after it gave its pass back
abbrev pub begun : {State : Type 0} → Post State → ℕ → Post State
begun post client = with_held post (passes_begun post.held client (number_of post.phase) (pass_of post.held client))

abbrev pub ended : {State : Type 0} → Post State → ℕ → Post State
ended post client = with_held post (passes_ended post.held client (pass_of post.held client))

-- after the notice of a version under the next number
abbrev pub notified : {State : Type 0} → Post State → ℕ → Post State
notified post version =
    record { state = post.state; follows = post.follows; phase = noticed post.phase (number_of post.phase + 1) version; held = post.held }

-- the slots that a pending change leaves stale, least client and then least slot first
abbrev pub stale_on : {State : Type 0} → Decisions → Class → (State → ℕ → Option Pair) → Post State → List ℕ
stale_on d class pair_of post = stale_slots d class post.phase (pair_of post.state) post.follows

-- after an update of at most so many slots, of which these are stale: the first of them follow the pending number
abbrev pub updated : {State : Type 0} → Post State → List ℕ → ℕ → Post State
updated post stale most =
    record { state = post.state; follows = now_following (take most stale) (number_of post.phase) post.follows; phase = post.phase; held = post.held }

-- how many passes of just the settled number are held, for which an acknowledgement that is not forced waits
abbrev pub older_on : {State : Type 0} → Post State → ℕ
older_on post = count_at (settled_number post.phase) post.held

-- after an acknowledgement: where it is done, every used slot follows the number
abbrev pub settled_if : {State : Type 0} → Post State → Bool → Post State
settled_if post false = post
settled_if post true =
    record { state = post.state; follows = all_following (number_of post.phase) post.follows; phase = acknowledged post.phase; held = post.held }

-- how many stale slots an acknowledgement found, by what it answered: where older passes kept it back, all that are left
abbrev pub found_by : Ack → ℕ → ℕ
found_by (acks.Done receipt) left = 0
found_by (acks.Busy older) left = left
found_by (acks.Behind found) left = found
found_by acks.Idle left = 0

-- what a try showed, how many tries there were, and what it added to the history, after an acknowledgement, forced or not: it
-- is a try only while a change is pending
abbrev pub shown_after : Phase → Shown → ℕ → ℕ → Shown
shown_after (Settled number version) before older found = before
shown_after (Pending number old new) before older found = record { older = older; found = found; left = found }

abbrev pub tries_after : Phase → ℕ → ℕ
tries_after (Settled number version) tries = tries
tries_after (Pending number old new) tries = counted tries

abbrev pub added_by : {Call Reply : Type 0} → Bool → Phase → Bool → List (Entry Call Reply)
added_by forced phase false = []
added_by forced phase true = acknowledgement forced (number_of phase) ∷ []

-- a held pass has a policy number that a call may have, by the greatest forced one
abbrev pub IsNamed : Phase → ℕ → Option ℕ → Type 0
IsNamed phase forced None = Unit {0}
IsNamed phase forced (Some number) = MayCall phase forced number

-- every held pass has a policy number that a call may have
abbrev pub AreNamed : Phase → ℕ → List (Option ℕ) → Type 0
AreNamed phase forced [] = Unit {0}
AreNamed phase forced (one ∷ held) = IsNamed phase forced one × AreNamed phase forced held

-- what contracts see of a manager on one thread: its keeper, the held passes by client, the last policy number that may be
-- made, how many tries of a change there were, and what the last one showed
pub record ManagerView (Core Decider Call Reply : Type 0) : Type 0 where
  pub keeper : KeeperView Core Decider Call Reply
  pub held : List (Option ℕ)
  pub most : ℕ
  pub tries : ℕ
  pub shown : Shown

-- where it stands, by what its core means
abbrev pub post_of : {Core Decider Call Reply State : Type 0} → (Core → State) → (Core → Follows) → ManagerView Core Decider Call Reply → Post State
post_of state follows stood =
    record { state = state stood.keeper.core; follows = follows stood.keeper.core; phase = stood.keeper.phase; held = stood.held }

-- it is the same manager: its opening, its decider, its number and the last policy number that may be made stay
pub record IsSameManager {Core Decider Call Reply State : Type 0} (opening : Core → State) (old new : ManagerView Core Decider Call Reply) : Type 0 where
  pub opened : opening new.keeper.core ≡ opening old.keeper.core
  pub decider : new.keeper.decider ≡ old.keeper.decider
  pub manager : new.keeper.manager ≡ old.keeper.manager
  pub most : new.most ≡ old.most

-- it is the same manager, at which no change was tried
pub record IsSameUntried {Core Decider Call Reply State : Type 0} (opening : Core → State) (old new : ManagerView Core Decider Call Reply) : Type 0 where
  pub opened : opening new.keeper.core ≡ opening old.keeper.core
  pub decider : new.keeper.decider ≡ old.keeper.decider
  pub manager : new.keeper.manager ≡ old.keeper.manager
  pub most : new.most ≡ old.most
  pub tries : new.tries ≡ old.tries
  pub shown : new.shown ≡ old.shown

-- What the administrator's calls do to where a manager on one thread stands, by what she sees of it.
use Rattle.std.proofs.Common.{◌≡◌, ℕ, Bool, true, false, List, length, drop, Option, Some, Ok, Err, refl, sym, ap, ◌∙◌, arith, length-drop}
use Rattle.std.specs.Prelude.{if◌then◌else◌}
use Rattle.access_vectors.specs.Decisions.{Decisions}
use Rattle.access_vectors.specs.Phases.{is_pending, noticed, acknowledged}
use Rattle.access_vectors.specs.Stale.{Follows, Pair}
use Rattle.access_vectors.specs.declared.change.NotifyFault.{NotifyFault}
use Rattle.access_vectors.specs.declared.class.Class.{Class}
use Rattle.access_vectors.specs.declared.phase.Phase.{Phase}
use Rattle.access_vectors.specs.declared.phase.Phase.TheVariants.{Settled, Pending}
use Rattle.manager_history.specs.Kept.{ack_answer, is_done}
use Rattle.manager_history.specs.declared.answers.Ack.{Ack}
use Rattle.managed.specs.Posts.{Post, ManagerView, post_of, stale_on, older_on, notified, updated, settled_if}
use Rattle.managed.specs.Seen.{Seen, IsNotified, IsUpdated, IsAcknowledged, IsTriedWhere, answer_of, settled_follows}
use Rattle.managed.specs.Administered.{seen_of, IsSameBesidesChange}

-- two that are there are the same where what is there is
some_is : {A : Type 0} (x y : A) → Some x ≡ Some y → x ≡ y
some_is x y is = cc

-- posts whose parts are the same are the same
same_post : {State : Type 0} (a b : Post State) → a.state ≡ b.state → a.follows ≡ b.follows → a.phase ≡ b.phase → a.held ≡ b.held → a ≡ b
same_post a b state follows phase held = λ i. record { state = state i; follows = follows i; phase = phase i; held = held i }

settled_as : {State : Type 0} (post : Post State) (done : Bool) → settled_follows post.phase done (Some post.follows) ≡ Some (settled_if post done).follows
settled_as post false = refl
settled_as post true = refl

pub phase_as : {State : Type 0} (post : Post State) (done : Bool) → (if done then acknowledged post.phase else post.phase) ≡ (settled_if post done).phase
phase_as post false = refl
phase_as post true = refl

state_as : {State : Type 0} (post : Post State) (done : Bool) → (settled_if post done).state ≡ post.state
state_as post false = refl
state_as post true = refl

held_as : {State : Type 0} (post : Post State) (done : Bool) → (settled_if post done).held ≡ post.held
held_as post false = refl
held_as post true = refl

-- an acknowledgement answers by what it shows, which is what there is
answered_by : (forced : Bool) (phase : Phase) (manager older stale : ℕ) (old new : Seen) (done : Bool) → old.phase ≡ phase → old.older ≡ Some older
    → (found : List ℕ) → old.stale ≡ Some found → length found ≡ stale
    → IsTriedWhere (is_pending phase) forced old new done → answer_of forced phase manager new.shown ≡ ack_answer phase manager (if forced then 0 else older) stale
answered_by false (Settled number version) manager older stale old new done at older_is found found_is long tried = refl
answered_by true (Settled number version) manager older stale old new done at older_is found found_is long tried = refl
answered_by true (Pending number first second) manager older stale old new done at older_is found found_is long tried =
    let counted : new.shown.found ≡ length found = rw found_is at tried.found_shown in
    ap (ack_answer (Pending number first second) manager 0) (counted ∙ long)
answered_by false (Pending number first second) manager older stale old new done at older_is found found_is long tried =
    let shown : new.shown.older ≡ older = rw older_is at tried.older_shown in
    let counted : new.shown.found ≡ length found = rw found_is at tried.found_shown in
    ap (λ n. ack_answer (Pending number first second) manager n new.shown.found) shown ∙ ap (ack_answer (Pending number first second) manager older) (counted ∙ long)

module _ {Core Decider C R State : Type 0} (decides : Decider → Decisions) (class : Class) (pair_of : State → ℕ → Option Pair) (opening state : Core → State) (follows : Core → Follows)
    (old new : ManagerView Core Decider C R) (same : IsSameBesidesChange opening state old new) where
  abbrev post : ManagerView Core Decider C R → Post State
  post = post_of state follows

  abbrev seen : ManagerView Core Decider C R → Seen
  seen = seen_of decides class pair_of state follows

  abbrev stale : List ℕ
  stale = stale_on (decides old.keeper.decider) class pair_of (post old)

  -- a notice that was given
  pub notified_post : (version number : ℕ) → IsNotified version (seen old) (seen new) (Ok number) → post new ≡ notified (post old) version
  notified_post version number told =
      same_post (post new) (notified (post old) version) same.state_is (some_is _ _ told.follows)
      (told.answer.phase ∙ ap (λ n. noticed old.keeper.phase n version) told.answer.number_is) same.held

  -- one that was refused
  pub refused_post : (version : ℕ) (fault : NotifyFault) → IsNotified version (seen old) (seen new) (Err fault) → post new ≡ post old
  refused_post version fault told = same_post (post new) (post old) same.state_is (some_is _ _ told.follows) told.answer.phase same.held

  -- an update, and how many it leaves
  pub updated_post : (most left : ℕ) → IsUpdated most (seen old) (seen new) left → post new ≡ updated (post old) stale most
  updated_post most left told = same_post (post new) (updated (post old) stale most) same.state_is (some_is _ _ told.follows) told.phase same.held

  pub updated_left : (most left : ℕ) → IsUpdated most (seen old) (seen new) left → left ≡ length (drop most stale)
  updated_left most left told =
      let found : (seen new).shown.found ≡ length stale = told.found_shown in
      told.left_is ∙ told.left_shown ∙ omega (arith, length-drop most stale, found)

  -- an acknowledgement
  pub acknowledged_post : (forced : Bool) (said : Ack) → IsAcknowledged forced (seen old) (seen new) said → post new ≡ settled_if (post old) (is_done said)
  acknowledged_post forced said told =
      let done = is_done said in
      same_post (post new) (settled_if (post old) done) (same.state_is ∙ sym (state_as (post old) done))
      (some_is _ _ (told.follows ∙ settled_as (post old) done)) (told.phase ∙ phase_as (post old) done) (same.held ∙ sym (held_as (post old) done))

  pub acknowledged_answer : (forced : Bool) (said : Ack) → IsAcknowledged forced (seen old) (seen new) said
      → said ≡ ack_answer old.keeper.phase old.keeper.manager (if forced then 0 else older_on (post old)) (length stale)
  acknowledged_answer forced said told =
      told.answer ∙ answered_by forced old.keeper.phase old.keeper.manager (older_on (post old)) (length stale) (seen old) (seen new) (is_done said) refl refl stale refl refl told.tried

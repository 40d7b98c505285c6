-- Answers that are put together so are honest: their questions have the answers that the decisions give, and they are those
-- of the reply.
use Rattle.std.specs.Prelude.{◌≡◌, ℕ, Bool, true, false, List, [], ◌∷◌, ◌++◌, All, Option, Some, None, refl, if◌then◌else◌}
use Rattle.std.proofs.Common.{sym, ap, subst, ◌∙◌, append_assoc}
use Rattle.std.proofs.lemmas.List.Elements.{All-cons, All-nil, All-append}
use Rattle.access_vectors.specs.Table.{Permission}
use Rattle.access_vectors.specs.Vectors.{has}
use Rattle.access_vectors.specs.declared.asked.Asked.{Asked}
use Rattle.manager_history.specs.Answers.{Answer, Denial, IsHonest, IsTold, AreQuestionsOf, EndsWithNo}
use Rattle.mode_questions.specs.Requests.{Request, Asking, question_of, saying, asking, then_asking, asking_mode, stopped_or, denied_with, after_asking}

-- each of these questions was answered yes
abbrev AllYes : List Asked → Type 0
AllYes asked = All (λ q. q.yes ≡ true) asked

-- these questions have the answers that a request's decisions give
abbrev pub AreTold : Request → List Asked → Type 0
AreTold r asked = All (IsTold r.decisions r.version) asked

-- questions that were answered yes, before those of a reply
yes_before : (denial : Option Denial) (number : ℕ) (xs ys : List Asked) → AllYes xs → AreQuestionsOf denial number ys → AreQuestionsOf denial number (xs ++ ys)
yes_before None number xs ys told ends = All-append (λ q. q.yes ≡ true) xs ys told ends
yes_before (Some denial) number xs ys told (policy, ends) = (
  policy,
  record {
    before = xs ++ ends.before;
    last = ends.last;
    asked_is = ap (λ zs. xs ++ zs) ends.asked_is ∙ sym (append_assoc xs ends.before (ends.last ∷ []));
    allowed = All-append (λ q. q.yes ≡ true) xs ends.before told ends.allowed;
    refused = ends.refused;
    names = ends.names;
  },
)

-- a question that was answered no, alone
only_no : (q : Asked) → q.yes ≡ false → EndsWithNo q.perm (q ∷ [])
only_no q refused =
    record { before = []; last = q; asked_is = refl; allowed = All-nil (λ one. one.yes ≡ true); refused = refused; names = refl }

one_yes : (q : Asked) → q.yes ≡ true → AllYes (q ∷ [])
one_yes q told = All-cons (λ one. one.yes ≡ true) q [] told (All-nil (λ one. one.yes ≡ true))

-- the denial of a permission under a policy number
abbrev denial : Permission → ℕ → Denial
denial perm number = record { perm = perm; policy = number }

-- for a manager whose replies of denial are these
module _ {Reply : Type 0} (denied : Permission → ℕ → Reply) (denial_of : Reply → Option Denial)
    (denies : (perm : Permission) (number : ℕ) → denial_of (denied perm number) ≡ Some (denial perm number)) where
  -- the denial that stopped a call, if one did
  abbrev pub denial_in : Option Reply → Option Denial
  denial_in None = None
  denial_in (Some said) = denial_of said

  -- the questions before a call was stopped, or was not, are answered by the decisions, and they are those of what stopped it
  pub record IsHonestStop (r : Request) (stop : Option Reply) (asked : List Asked) : Type 0 where
    pub told : AreTold r asked
    pub ends : AreQuestionsOf (denial_in stop) r.number asked

  -- nothing was asked, and nothing stopped the call but a reply that is no denial
  pub none_asked : (r : Request) (stop : Option Reply) → denial_in stop ≡ None → IsHonestStop r stop []
  none_asked r stop none =
      record {
        told = All-nil (IsTold r.decisions r.version);
        ends = subst (λ one. AreQuestionsOf one r.number []) (sym none) (All-nil (λ q. q.yes ≡ true));
      }

  -- a question that was allowed, before others
  pub yes_first : (r : Request) (t : ℕ) (perm : Permission) (stop : Option Reply) (asked : List Asked) → (question_of r t perm).yes ≡ true
      → IsHonestStop r stop asked → IsHonestStop r stop (question_of r t perm ∷ asked)
  yes_first r t perm stop asked allowed is =
      let q = question_of r t perm in
      record {
        told = All-cons (IsTold r.decisions r.version) q asked refl is.told;
        ends = yes_before (denial_in stop) r.number (q ∷ []) asked (one_yes q allowed) is.ends;
      }

  -- a question that was denied
  pub no_alone : (r : Request) (t : ℕ) (perm : Permission) → (question_of r t perm).yes ≡ false
      → IsHonestStop r (Some (denied perm r.number)) (question_of r t perm ∷ [])
  no_alone r t perm lacks =
      let q = question_of r t perm in
      record {
        told = All-cons (IsTold r.decisions r.version) q [] refl (All-nil (IsTold r.decisions r.version));
        ends = subst (λ one. AreQuestionsOf one r.number (q ∷ [])) (sym (denies perm r.number)) (refl, only_no q lacks);
      }

  -- a question before the rest of a mode
  mode_then : (r : Request) (t : ℕ) (perm : Permission) (rest : Asking) → IsHonestStop r (denied_with denied r.number rest.denied) rest.asked
      → let asking = then_asking (question_of r t perm) rest in IsHonestStop r (denied_with denied r.number asking.denied) asking.asked
  mode_then r t perm rest is =
      let q = question_of r t perm in
      elim q.yes as (λ (b : Bool). q.yes ≡ b
      → let asking : Asking = if b then record { denied = rest.denied; asked = q ∷ rest.asked } else record { denied = Some q.perm; asked = q ∷ [] } in
      IsHonestStop r (denied_with denied r.number asking.denied) asking.asked) [
        | true ↦ λ allowed. yes_first r t perm (denied_with denied r.number rest.denied) rest.asked allowed is
        | false ↦ λ lacks. no_alone r t perm lacks
      ] refl

  -- the permissions of a mode
  honest_mode : (r : Request) (t mode : ℕ) (perms : List Permission)
      → let asking = asking_mode r t mode perms in IsHonestStop r (denied_with denied r.number asking.denied) asking.asked
  honest_mode r t mode [] = none_asked r None refl
  honest_mode r t mode (perm ∷ perms) =
      elim (has mode perm.index) as (λ (b : Bool).
      let asking : Asking = if b then then_asking (question_of r t perm) (asking_mode r t mode perms) else asking_mode r t mode perms in
      IsHonestStop r (denied_with denied r.number asking.denied) asking.asked) [
        | true ↦ mode_then r t perm (asking_mode r t mode perms) (honest_mode r t mode perms)
        | false ↦ honest_mode r t mode perms
      ]

  -- and for a manager of these states
  module _ {State : Type 0} where
    -- an answer of it is honest
    abbrev pub Honest : Request → Answer Reply State → Type 0
    Honest r given = IsHonest denial_of r.decisions r.number r.version given

    -- a reply that asks nothing more
    pub honest_saying : (r : Request) (state : State) (said : Reply) → denial_of said ≡ None → Honest r (saying state said)
    honest_saying r state said none =
        record {
          told = All-nil (IsTold r.decisions r.version);
          ends = subst (λ one. AreQuestionsOf one r.number []) (sym none) (All-nil (λ q. q.yes ≡ true));
        }

    -- these questions before, and what stopped the call, or else the rest
    pub honest_stopped : (r : Request) (state : State) (stop : Option Reply) (asked : List Asked) (rest : Answer Reply State) → IsHonestStop r stop asked
        → Honest r rest → Honest r (stopped_or state asked rest stop)
    honest_stopped r state (Some said) asked rest is honest = record { told = is.told; ends = is.ends }
    honest_stopped r state None asked rest is honest =
        record {
          told = All-append (IsTold r.decisions r.version) asked rest.asked is.told honest.told;
          ends = yes_before (denial_of rest.reply) r.number asked rest.asked is.ends honest.ends;
        }

    -- a question first
    pub honest_asking : (r : Request) (state : State) (t : ℕ) (perm : Permission) (rest : Answer Reply State) → Honest r rest
        → Honest r (asking denied r state t perm rest)
    honest_asking r state t perm rest honest =
        let q = question_of r t perm in
        elim q.yes as (λ (b : Bool). q.yes ≡ b → Honest r
        (if b then record { reply = rest.reply; state = rest.state; asked = q ∷ rest.asked } else record { reply = denied perm r.number; state = state; asked = q ∷ [] })) [
          | true ↦ λ told. honest_stopped r state None (q ∷ []) rest (yes_first r t perm None [] told (none_asked r None refl)) honest
          | false ↦ λ lacks. honest_stopped r state (Some (denied perm r.number)) (q ∷ []) rest (no_alone r t perm lacks) honest
        ] refl

    -- the permissions of a mode first
    pub honest_after_asking : (r : Request) (state : State) (t mode : ℕ) (perms : List Permission) (rest : Answer Reply State) → Honest r rest
        → Honest r (after_asking denied r state (asking_mode r t mode perms) rest)
    honest_after_asking r state t mode perms rest honest =
        let asking = asking_mode r t mode perms in
        honest_stopped r state (denied_with denied r.number asking.denied) asking.asked rest (honest_mode r t mode perms) honest

    -- one of two rests
    pub honest_if : (r : Request) (test : Bool) (one other : Answer Reply State) → Honest r one → Honest r other → Honest r (if test then one else other)
    honest_if r true one other first second = first
    honest_if r false one other first second = second

    -- and where a part of the state is to stay
    module _ {Part : Type 0} (part : State → Part) where
      -- an answer in a state is honest, and leaves that part of it
      abbrev pub Sound : Request → State → Answer Reply State → Type 0
      Sound r state given = Honest r given × (part given.state ≡ part state)

      -- a reply that asks nothing more, after which the part is as before
      pub sound_saying : (r : Request) (state after : State) (said : Reply) → denial_of said ≡ None → part after ≡ part state → Sound r state (saying after said)
      sound_saying r state after said none kept = (honest_saying r after said none, kept)

      -- these questions before, and what stopped the call, or else the rest
      pub sound_stopped : (r : Request) (state : State) (stop : Option Reply) (asked : List Asked) (rest : Answer Reply State) → IsHonestStop r stop asked
          → Sound r state rest → Sound r state (stopped_or state asked rest stop)
      sound_stopped r state (Some said) asked rest is sound = (honest_stopped r state (Some said) asked rest is sound.0, refl)
      sound_stopped r state None asked rest is sound = (honest_stopped r state None asked rest is sound.0, sound.1)

      -- a question first
      pub sound_asking : (r : Request) (state : State) (t : ℕ) (perm : Permission) (rest : Answer Reply State) → Sound r state rest
          → Sound r state (asking denied r state t perm rest)
      sound_asking r state t perm rest sound = (honest_asking r state t perm rest sound.0, keeps_asking)
        where
          keeps_asking : part (asking denied r state t perm rest).state ≡ part state
          keeps_asking =
              let q = question_of r t perm in
              elim q.yes as (λ (b : Bool).
              let given : Answer Reply State =
              if b then record { reply = rest.reply; state = rest.state; asked = q ∷ rest.asked } else record { reply = denied perm r.number; state = state; asked = q ∷ [] } in
              part given.state ≡ part state) [
                | true ↦ sound.1
                | false ↦ refl
              ]

      -- the permissions of a mode first
      pub sound_after_asking : (r : Request) (state : State) (t mode : ℕ) (perms : List Permission) (rest : Answer Reply State) → Sound r state rest
          → Sound r state (after_asking denied r state (asking_mode r t mode perms) rest)
      sound_after_asking r state t mode perms rest sound =
          let asking = asking_mode r t mode perms in
          sound_stopped r state (denied_with denied r.number asking.denied) asking.asked rest (honest_mode r t mode perms) sound

      -- one of two rests
      pub sound_if : (r : Request) (state : State) (test : Bool) (one other : Answer Reply State) → Sound r state one → Sound r state other
          → Sound r state (if test then one else other)
      sound_if r state true one other first second = first
      sound_if r state false one other first second = second

-- The administrator's lines, one after another.
use Rattle.std.proofs.Common.{◌≡◌, ℕ, suc, ◌+◌, ◌<◌, ◌≤◌, inl, inr, Bool, true, false, List, [], ◌∷◌, ◌++◌, length, Option, Some, None, Result, Ok, Err, refl, sym, ap, subst, ◌∙◌, drop, get_or, drop-cons, append-nil, append_assoc, arith}
use Rattle.std.specs.Prelude.{slice_get, OnErr}
use Rattle.access_vectors.specs.Decisions.{Decisions}
use Rattle.access_vectors.specs.Phases.{number_of, is_pending}
use Rattle.managed.specs.Seen.{Seen, Turn}
use Rattle.change_protocol.specs.Changes.{Led, AreBoth}
use Rattle.session_text.specs.declared.session.RunLine.{RunLine}
use Rattle.admin_walk.specs.Walks.{Stand, Given, Step, Walks, stand_of, own_lines}
use Rattle.admin_walk.specs.Moves.{AreTold, HasGrown, HasGrownShort, HaveGrown, IsReady, HasActed, HasStopped, HasRun, HasRunShort}
use Rattle.admin_walk.proofs.Giving.{unmoved, still_told, have_grown_on, grown_on, same_at, same_on}

pub on_err_always : {T E P : Type 0} (r : Result T E) → P → OnErr r P
on_err_always (Ok x) holds = tt
on_err_always (Err e) holds = holds

-- what is left at a place: what stands there, and then the others
pub left_at : {A : Type 0} (xs : List A) (place : ℕ) (x : A) → place < length xs → x ≡ get_or xs place x → drop place xs ≡ x ∷ drop (place + 1) xs
left_at xs place x below is =
    let one : suc place ≡ place + 1 = omega arith in
    drop-cons xs place x below ∙ (λ i. sym is i ∷ drop (one i) xs)

module _ {Decider Manager : Type 0} (decides : Decider → Decisions) (seen : Manager → Seen) (same : Manager → Manager → Type 0) where
  -- some of the lines are done: whatever lines may follow, what they give completes a walk of all
  pub record IsOnTheWay (all left : List RunLine) (start now : Led Decider Manager) : Type 0 where
    pub done : List RunLine
    pub split : all ≡ done ++ left
    pub given : Given
    pub way : (more : List RunLine) (rest : Given) (end : Stand) → Walks (decides start.server.decider).versions (length start.managers) (stand_of now.server) more rest end
        → Walks (decides start.server.decider).versions (length start.managers) (stand_of start.server) (done ++ more) (λ place. given place ++ rest place) end
    pub grown : HaveGrown seen given start.managers now.managers
    pub many : length now.managers ≡ length start.managers
    pub decider : now.server.decider ≡ start.server.decider
    pub most : now.server.most ≡ start.server.most
    pub number : number_of now.server.phase + own_lines left ≤ number_of start.server.phase + own_lines all
    pub reached : is_pending now.server.phase ≡ true → length now.managers ≤ now.reached
    pub alike : (place : ℕ) → AreBoth same (slice_get start.managers place) (slice_get now.managers place)

  pub at_start : (all : List RunLine) (start : Led Decider Manager) → AreTold seen start.managers → is_pending start.server.phase ≡ false → ((a : Manager) → same a a) → IsOnTheWay all all start start
  at_start all start told settled reflexive = record {
    done = [];
    split = refl;
    given = λ place. [];
    way = λ more rest end walks. walks;
    grown = unmoved seen start.managers start.managers told refl;
    many = refl;
    decider = refl;
    most = refl;
    number = omega arith;
    reached = λ pending. absurd (differ (is_pending start.server.phase) pending settled);
    alike = λ place. same_at same reflexive (slice_get start.managers place);
  }
    where
      differ : (b : Bool) → b ≡ true → b ≡ false → ⊥
      differ b one two = cc

  pub ready_on : (all left : List RunLine) (start now : Led Decider Manager) → IsOnTheWay all left start now → IsReady seen now
  ready_on all left start now on = record { told = still_told seen on.given start.managers now.managers on.grown; reached = on.reached }

  pub one_more : (all left : List RunLine) (line : RunLine) (start now next : Led Decider Manager) → IsOnTheWay all (line ∷ left) start now
      → HasActed seen (decides now.server.decider).versions line.run now next → ((place : ℕ) → AreBoth same (slice_get now.managers place) (slice_get next.managers place))
      → ((a b c : Manager) → same a b → same b c → same a c) → IsOnTheWay all left start next
  one_more all left line start now next on acted alike transitive =
      let first = acted.given in
      let there : Step (decides start.server.decider).versions (length now.managers) (stand_of now.server) line.run acted.given (stand_of next.server) =
      subst (λ (d : Decider). Step (decides d).versions (length now.managers) (stand_of now.server) line.run acted.given (stand_of next.server)) on.decider acted.step in
      let step : Step (decides start.server.decider).versions (length start.managers) (stand_of now.server) line.run acted.given (stand_of next.server) =
      subst (λ (n : ℕ). Step (decides start.server.decider).versions n (stand_of now.server) line.run acted.given (stand_of next.server)) on.many there in
      let fewer = on.number in
      let rise = acted.number in
      record {
        done = on.done ++ line ∷ [];
        split = on.split ∙ sym (append_assoc on.done (line ∷ []) left);
        given = λ place. on.given place ++ acted.given place;
        way = λ more rest end walks.
            let one = on.way (line ∷ more) (λ place. acted.given place ++ rest place) end (acted.given, rest, stand_of next.server, (λ place below. refl), step, walks) in
            subst (λ (lines : List RunLine). Walks (decides start.server.decider).versions (length start.managers) (stand_of start.server) lines (λ place. (on.given place ++ acted.given place) ++ rest place) end)
            (sym (append_assoc on.done (line ∷ []) more))
            (subst (λ (given : Given). Walks (decides start.server.decider).versions (length start.managers) (stand_of start.server) (on.done ++ line ∷ more) given end)
            (λ i place. sym (append_assoc (on.given place) (acted.given place) (rest place)) i) one);
        grown = have_grown_on seen on.given acted.given start.managers now.managers next.managers on.grown acted.grown;
        many = acted.many ∙ on.many;
        decider = acted.decider ∙ on.decider;
        most = acted.most ∙ on.most;
        number = omega arith;
        reached = acted.reached;
        alike = λ place. same_on same transitive (slice_get start.managers place) (slice_get now.managers place) (slice_get next.managers place) (on.alike place) (alike place);
      }

  -- a walk of the lines that are done
  walked : (all left : List RunLine) (start now : Led Decider Manager) (on : IsOnTheWay all left start now)
      → Walks (decides start.server.decider).versions (length start.managers) (stand_of start.server) on.done on.given (stand_of now.server)
  walked all left start now on =
      let one = on.way [] (λ place. []) (stand_of now.server) (λ place below. refl, refl) in
      subst (λ (lines : List RunLine). Walks (decides start.server.decider).versions (length start.managers) (stand_of start.server) lines on.given (stand_of now.server)) (append-nil on.done)
      (subst (λ (given : Given). Walks (decides start.server.decider).versions (length start.managers) (stand_of start.server) (on.done ++ []) given (stand_of now.server)) (λ i place. append-nil (on.given place) i) one)

  pub all_run : (all left : List RunLine) (start now : Led Decider Manager) → IsOnTheWay all left start now → left ≡ [] → HasRun seen (decides start.server.decider).versions all start now
  all_run all left start now on none = record {
    given = on.given;
    walks = subst (λ (lines : List RunLine). Walks (decides start.server.decider).versions (length start.managers) (stand_of start.server) lines on.given (stand_of now.server))
        (sym (on.split ∙ (ap (λ (l : List RunLine). on.done ++ l) none ∙ append-nil on.done))) (walked all left start now on);
    grown = on.grown;
  }

  short_one : (first : List Turn) (number version : ℕ) (x y z : Manager) → HasGrown seen first x y → HasGrownShort seen [] number version y z → HasGrownShort seen first number version x z
  short_one first number version x y z one two = elim two [
    | inl grown ↦ inl (subst (λ (l : List Turn). HasGrown seen l x z) (append-nil first) (grown_on seen first [] x y z one grown))
    | inr more ↦ inr (more.0, more.1, grown_on seen first (more.0 ∷ []) x y z one more.2)
  ]

  short_at : (first : List Turn) (number version : ℕ) (x y z : Option Manager) → AreBoth (HasGrown seen first) x y → AreBoth (HasGrownShort seen [] number version) y z → AreBoth (HasGrownShort seen first number version) x z
  short_at first number version None None None one two = tt
  short_at first number version None None (Some z) one two = absurd two
  short_at first number version None (Some y) z one two = absurd one
  short_at first number version (Some x) None z one two = absurd one
  short_at first number version (Some x) (Some y) None one two = absurd two
  short_at first number version (Some x) (Some y) (Some z) one two = short_one first number version x y z one two

  pub run_short : (all left : List RunLine) (line : RunLine) (start now next : Led Decider Manager) → IsOnTheWay all (line ∷ left) start now
      → HasStopped seen (decides now.server.decider).versions line.run now next → HasRunShort seen (decides start.server.decider).versions all start next
  run_short all left line start now next on stopped = record {
    done = on.done;
    line = line;
    left = left;
    split = on.split;
    number = stopped.number;
    version = stopped.version;
    notice = stopped.notice;
    known = subst (λ (d : Decider). stopped.version < (decides d).versions) on.decider stopped.known;
    given = on.given;
    walks = subst (λ (at : Stand). Walks (decides start.server.decider).versions (length start.managers) (stand_of start.server) on.done on.given at) stopped.rested (walked all (line ∷ left) start now on);
    grown = λ place. short_at (on.given place) (stopped.number + 1) stopped.version (slice_get start.managers place) (slice_get now.managers place) (slice_get next.managers place) (on.grown place) (stopped.grown place);
  }

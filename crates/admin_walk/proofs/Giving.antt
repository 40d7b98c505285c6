-- The turns that managers are given, put together by their places.
use Rattle.std.proofs.Common.{◌≡◌, ℕ, zero, suc, ◌-◌, ◌<◌, min, List, [], ◌∷◌, ◌++◌, length, Option, Some, None, refl, sym, ap, subst, ◌∙◌, append-nil, append_assoc, arith}
use Rattle.std.specs.Prelude.{slice_get, IfSome}
use Rattle.access_vectors.specs.Phases.{number_of, is_pending}
use Rattle.managed.specs.Seen.{Seen, Turn, HasItem, IsShownTry, IsUpdated}
use Rattle.change_protocol.specs.Changes.{Led, AreBoth, AreAll}
use Rattle.session_text.specs.declared.session.Run.{Run}
use Rattle.session_text.specs.declared.session.Run.TheVariants as run
use Rattle.admin_walk.specs.Walks.{Given, IsOne, IsUpdateTurn, IsStill, Step, stand_of}
use Rattle.admin_walk.specs.Moves.{AreTold, HasGrown, HaveGrown, IsReady, HasActed}

-- what stands at a place of a list
pub there : {A : Type 0} (xs : List A) (place : ℕ) → place < length xs → (x : A) × (slice_get xs place ≡ Some x)
there [] place below = absurd (omega arith)
there (x ∷ xs) zero below = (x, refl)
there (x ∷ xs) (suc place) below = there xs place (omega arith)

-- what holds where something stands
pub if_there : {A : Type 0} (P : Type 0) (o : Option A) (x : A) → o ≡ Some x → IfSome o (λ _. P) → P
if_there P None x is holds = absurd (cc)
if_there P (Some y) x is holds = holds

pub told_there : {A : Type 0} (P : A → Type 0) (o : Option A) (x : A) → o ≡ Some x → IfSome o P → P x
told_there P None x is holds = absurd (cc)
told_there P (Some y) x is holds = let same : y ≡ x = cc in subst P same holds

-- a relation of what stood and stands, and of what was said, without what was said
pub both_all : {A S : Type 0} (R : A → A → S → Type 0) (was now : Option A) (said : Option S) → AreAll R was now said → AreBoth (λ x y. (s : S) × (said ≡ Some s) × R x y s) was now
both_all R None None None all = tt
both_all R None None (Some s) all = absurd all
both_all R None (Some y) None all = absurd all
both_all R None (Some y) (Some s) all = absurd all
both_all R (Some x) None None all = absurd all
both_all R (Some x) None (Some s) all = absurd all
both_all R (Some x) (Some y) None all = absurd all
both_all R (Some x) (Some y) (Some s) all = (s, refl, all)

module _ {Manager : Type 0} (seen : Manager → Seen) where
  -- by place, turns of which something is known, by which the managers' turns grew
  pub record Picked (P : ℕ → List Turn → Type 0) (was now : List Manager) : Type 0 where
    pub given : Given
    pub each : (place : ℕ) → place < length was → P place (given place)
    pub grown : HaveGrown seen given was now

  picked_at : (R : Manager → Manager → Type 0) (P : List Turn → Type 0) (was now : Option Manager) → AreBoth R was now
      → IfSome was (λ manager. (turns : List Turn) × ((seen manager).items ≡ Some turns))
      → ((x y : Manager) → was ≡ Some x → R x y → (turns : List Turn) → (seen x).items ≡ Some turns → (more : List Turn) × P more × ((seen y).items ≡ Some (turns ++ more)))
      → (more : List Turn) × IfSome was (λ _. P more) × AreBoth (HasGrown seen more) was now
  picked_at R P None None both told how = ([], tt, tt)
  picked_at R P None (Some y) both told how = absurd both
  picked_at R P (Some x) None both told how = absurd both
  picked_at R P (Some x) (Some y) both told how =
      let got = how x y refl both told.0 told.1 in (got.0, got.1, (told.0, told.1, got.2))

  module _ (R : ℕ → Manager → Manager → Type 0) (P : ℕ → List Turn → Type 0) (was now : List Manager)
      (both : (place : ℕ) → AreBoth (R place) (slice_get was place) (slice_get now place)) (told : AreTold seen was)
      (how : (place : ℕ) (x y : Manager) → slice_get was place ≡ Some x → R place x y → (turns : List Turn) → (seen x).items ≡ Some turns
      → (more : List Turn) × P place more × ((seen y).items ≡ Some (turns ++ more))) where
    at : (place : ℕ) → (more : List Turn) × IfSome (slice_get was place) (λ _. P place more) × AreBoth (HasGrown seen more) (slice_get was place) (slice_get now place)
    at place = picked_at (R place) (P place) (slice_get was place) (slice_get now place) (both place) (told place) (how place)

    pub picked : Picked P was now
    picked = record {
      given = λ place. (at place).0;
      each = λ place below. let one = there was place below in if_there (P place (at place).0) (slice_get was place) one.0 one.1 (at place).1;
      grown = λ place. (at place).2;
    }

  -- where nothing changed, nothing was given
  unmoved_at : (o : Option Manager) → IfSome o (λ manager. (turns : List Turn) × ((seen manager).items ≡ Some turns)) → AreBoth (HasGrown seen []) o o
  unmoved_at None told = tt
  unmoved_at (Some x) told = (told.0, told.1, told.1 ∙ ap (λ (l : List Turn). Some l) (sym (append-nil told.0)))

  pub unmoved : (was now : List Manager) → AreTold seen was → now ≡ was → HaveGrown seen (λ _. []) was now
  unmoved was now told same = subst (λ (l : List Manager). HaveGrown seen (λ _. []) was l) (sym same) (λ place. unmoved_at (slice_get was place) (told place))

  -- turns that grew are told, and grow on
  told_at : (more : List Turn) (was now : Option Manager) → AreBoth (HasGrown seen more) was now → IfSome now (λ manager. (turns : List Turn) × ((seen manager).items ≡ Some turns))
  told_at more None None grown = tt
  told_at more None (Some y) grown = absurd grown
  told_at more (Some x) None grown = absurd grown
  told_at more (Some x) (Some y) grown = (grown.0 ++ more, grown.2)

  pub still_told : (given : Given) (was now : List Manager) → HaveGrown seen given was now → AreTold seen now
  still_told given was now grown place = told_at (given place) (slice_get was place) (slice_get now place) (grown place)

  pub grown_on : (first rest : List Turn) (x y z : Manager) → HasGrown seen first x y → HasGrown seen rest y z → HasGrown seen (first ++ rest) x z
  grown_on first rest x y z one two =
      let same : two.0 ≡ one.0 ++ first = cc in
      (one.0, one.1, two.2 ∙ (ap (λ (l : List Turn). Some (l ++ rest)) same ∙ ap (λ (l : List Turn). Some l) (append_assoc one.0 first rest)))

  on_at : (first rest : List Turn) (was mid now : Option Manager) → AreBoth (HasGrown seen first) was mid → AreBoth (HasGrown seen rest) mid now → AreBoth (HasGrown seen (first ++ rest)) was now
  on_at first rest None None None one two = tt
  on_at first rest None None (Some z) one two = absurd two
  on_at first rest None (Some y) now one two = absurd one
  on_at first rest (Some x) None now one two = absurd one
  on_at first rest (Some x) (Some y) None one two = absurd two
  on_at first rest (Some x) (Some y) (Some z) one two = grown_on first rest x y z one two

  pub have_grown_on : (first rest : Given) (was mid now : List Manager) → HaveGrown seen first was mid → HaveGrown seen rest mid now
      → HaveGrown seen (λ place. first place ++ rest place) was now
  have_grown_on first rest was mid now one two place = on_at (first place) (rest place) (slice_get was place) (slice_get mid place) (slice_get now place) (one place) (two place)

  module _ {Decider : Type 0} (versions : ℕ) (said : Run) (was now : Led Decider Manager) (ready : IsReady seen was) where
    -- where nothing happened
    pub still : now ≡ was → (IsStill (length was.managers) (stand_of was.server) (λ _. []) (stand_of now.server) → Step versions (length was.managers) (stand_of was.server) said (λ _. []) (stand_of now.server))
        → HasActed seen versions said was now
    still same so = record {
      given = λ _. [];
      step = so (λ place below. refl, ap (λ (led : Led Decider Manager). stand_of led.server) same);
      grown = unmoved was.managers now.managers ready.told (ap (λ (led : Led Decider Manager). led.managers) same);
      many = ap (λ (led : Led Decider Manager). length led.managers) same;
      decider = ap (λ (led : Led Decider Manager). led.server.decider) same;
      most = ap (λ (led : Led Decider Manager). led.server.most) same;
      number = omega (arith, ap (λ (led : Led Decider Manager). number_of led.server.phase) same);
      reached = λ pending.
          let before = ready.reached (ap (λ (led : Led Decider Manager). is_pending led.server.phase) (sym same) ∙ pending) in
          omega (arith, before, ap (λ (led : Led Decider Manager). length led.managers) same, ap (λ (led : Led Decider Manager). led.reached) same);
    }

  -- a line that is not the administrator's
  pub idle_run : {Decider : Type 0} (versions : ℕ) (said : Run) (was : Led Decider Manager) → IsReady seen was
      → ((version : ℕ) → said ≡ run.Notify version → ⊥) → ((most : ℕ) → said ≡ run.Update most → ⊥) → (said ≡ run.Ack → ⊥) → (said ≡ run.Force → ⊥) → HasActed seen versions said was was
  idle_run versions (run.Notify version) was ready notify update ack force = absurd (notify version refl)
  idle_run versions (run.Update most) was ready notify update ack force = absurd (update most refl)
  idle_run versions run.Ack was ready notify update ack force = absurd (ack refl)
  idle_run versions run.Force was ready notify update ack force = absurd (force refl)
  idle_run versions (run.File client call) was ready notify update ack force = still versions (run.File client call) was was ready refl (λ step. step)
  idle_run versions (run.Process client call) was ready notify update ack force = still versions (run.Process client call) was was ready refl (λ step. step)
  idle_run versions (run.Port client call) was ready notify update ack force = still versions (run.Port client call) was was ready refl (λ step. step)
  idle_run versions (run.Begin client manager) was ready notify update ack force = still versions (run.Begin client manager) was was ready refl (λ step. step)
  idle_run versions (run.End client manager) was ready notify update ack force = still versions (run.End client manager) was was ready refl (λ step. step)

-- each manager is the same as itself, and what is the same as the same is the same
pub same_at : {A : Type 0} (R : A → A → Type 0) → ((a : A) → R a a) → (o : Option A) → AreBoth R o o
same_at R reflexive None = tt
same_at R reflexive (Some x) = reflexive x

pub same_on : {A : Type 0} (R : A → A → Type 0) → ((a b c : A) → R a b → R b c → R a c) → (x y z : Option A) → AreBoth R x y → AreBoth R y z → AreBoth R x z
same_on R transitive None None None one two = tt
same_on R transitive None None (Some z) one two = absurd two
same_on R transitive None (Some y) z one two = absurd one
same_on R transitive (Some x) None z one two = absurd one
same_on R transitive (Some x) (Some y) None one two = absurd two
same_on R transitive (Some x) (Some y) (Some z) one two = transitive x y z one two

-- what an update gives
updated_turn : (most left : ℕ) (x y : Seen) → IsUpdated most x y left → (turns : List Turn) → x.items ≡ Some turns → (more : List Turn) × IsOne (IsUpdateTurn most) more × (y.items ≡ Some (turns ++ more))
updated_turn most left x y updated turns is =
    let item : HasItem (Some turns) y.items (IsShownTry y.shown None None) = subst (λ (o : Option (List Turn)). HasItem o y.items (IsShownTry y.shown None None)) is updated.items in (
      item.0 ∷ [],
      (
        item.0,
        record {
          nothing = item.1.added_is;
          uncounted = item.1.older_is;
          left_is = item.1.left_is ∙ (updated.left_shown ∙ ap (λ (n : ℕ). n - min most n) (sym item.1.found_is));
        },
        refl,
      ),
      item.2,
    )

module _ {Decider Manager : Type 0} (seen : Manager → Seen) where
  pub updated : (versions most : ℕ) (was now : Led Decider Manager) (lefts : List ℕ) → IsReady seen was
      → ((place : ℕ) → AreAll (λ x y left. IsUpdated most (seen x) (seen y) left) (slice_get was.managers place) (slice_get now.managers place) (slice_get lefts place))
      → length now.managers ≡ length was.managers → now.server ≡ was.server → now.reached ≡ was.reached
      → HasActed seen versions (run.Update most) was now
  updated versions most was now lefts ready each many server reached =
      let got = picked seen (λ place x y. (left : ℕ) × (slice_get lefts place ≡ Some left) × IsUpdated most (seen x) (seen y) left) (λ place. IsOne (IsUpdateTurn most)) was.managers now.managers
      (λ place. both_all _ _ _ _ (each place)) ready.told (λ place x y is one turns told. updated_turn most one.0 (seen x) (seen y) one.2 turns told) in
      record {
        given = got.given;
        step = (got.each, ap stand_of server);
        grown = got.grown;
        many = many;
        decider = ap (λ s. s.decider) server;
        most = ap (λ s. s.most) server;
        number = omega (arith, ap (λ s. number_of s.phase) server);
        reached = λ pending.
            let before = ready.reached (ap (λ s. is_pending s.phase) (sym server) ∙ pending) in
            omega (arith, before, many, reached);
      }

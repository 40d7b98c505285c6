-- Steps that stay.
use Rattle.std.proofs.Common.{◌≡◌, ◌<◌, ◌≤◌, ◌+◌, ◌⊎◌, inl, inr, ℕ, Bool, true, false, cond, List, refl, sym, subst, ◌∙◌, ◌-◌, arith, below_more}
use Rattle.std.specs.Prelude.{◌||◌, ◌&&◌, ◌==◌}
use Rattle.std.proofs.lemmas.Bool.{both_ways, or_cases, or_right, and_parts, and_from, eqb-true, eq-eqb}
use Rattle.std.proofs.lemmas.Bool.Decides.{nat_tests}
use Rattle.access_vectors.specs.declared.class.Class.{Class}
use Rattle.policy_model.specs.Deciding.{takes_after_maker}
use Rattle.policy_model.specs.declared.policy.Labelling.TheVariants.{Transition, Member}
use Rattle.policy_versions.specs.Gives.{GivenPlaces, GivesAs}
use Rattle.policy_versions.specs.Numbers.{is_marked, made_kind, AreBelow}
use Rattle.policy_versions.specs.Steps.{StayMarked, TakesClass, Takes, TakesTargets, TakesSources, TakesVersions, GivesOwn, GivesObject, OnlyGives, IsDue, AreDue}

-- a bound that is not lower
pub bound_more : (cells : List Bool) (bound more : ℕ) → bound ≤ more → more ≤ 128 → AreBelow cells bound → AreBelow cells more
bound_more cells bound more low within below =
    record { within = within; none = λ row kind high small. below.none row kind (omega arith) small }

-- one mark more, of a type below a bound
pub below_marked : (before after : List Bool) (row kind bound next : ℕ) → bound ≤ next → kind < next → next ≤ 128 → ((r k : ℕ) → k < 128 → is_marked after r k ≡ (is_marked before r k || (row == r && kind == k))) → AreBelow before bound → AreBelow after next
below_marked before after row kind bound next low here within marks below =
    record {
      within = within;
      none = λ r k high small.
          (let none : is_marked before r k ≡ false = below.none r k (omega arith) small in
          let apart : (kind == k) ≡ false = grind (arith, nat_tests) in
          marks r k small ∙ rw (none, apart) (neither (row == r)));
    }
  where
    neither : (b : Bool) → (false || (b && false)) ≡ false
    neither true = refl
    neither false = refl

-- a mark in one of two tables stays where both stay
pub either_stays : (b : Bool) (own object own' object' : List Bool) (row kind : ℕ) → StayMarked own own' → StayMarked object object' → is_marked (cond b own object) row kind ≡ true → is_marked (cond b own' object') row kind ≡ true
either_stays true own object own' object' row kind to_own to_object marked = to_own row kind marked
either_stays false own object own' object' row kind to_own to_object marked = to_object row kind marked

pub takes_class_stays : (given : GivenPlaces) (version s t : ℕ) (class : Class) (own object own' object' : List Bool) → StayMarked own own' → StayMarked object object' → TakesClass given version s t class own object → TakesClass given version s t class own' object'
takes_class_stays given version s t class own object own' object' to_own to_object takes = record {
  label = either_stays (takes_after_maker class) own object own' object' s (made_kind given version s t class) to_own to_object takes.label;
  member = λ kind gives. to_object s kind (takes.member kind gives);
}

-- what holds below a bound, and of the next
pub below_next : (P : ℕ → List Bool → List Bool → Type 0) → ((k : ℕ) (own object own' object' : List Bool) → StayMarked own own' → StayMarked object object' → P k own object → P k own' object') → (i : ℕ) (own object own' object' : List Bool) → StayMarked own own' → StayMarked object object' → ((k : ℕ) → k < i → P k own object) → P i own' object' → (k : ℕ) → k < i + 1 → P k own' object'
below_next P stays i own object own' object' to_own to_object below here =
    below_more (λ k. P k own' object') i (λ k before. stays k own object own' object' to_own to_object (below k before)) here

-- a version makes what it made and what it makes for one class more
pub only_both : (given : GivenPlaces) (version s t : ℕ) (own object own' object' own'' object'' : List Bool) → OnlyGives given version s t own object own' object' → OnlyGives given version s t own' object' own'' object'' → OnlyGives given version s t own object own'' object''
only_both given version s t own object own' object' own'' object'' first second = record {
  to_own = λ row kind of_row of_kind marked. either (second.to_own row kind of_row of_kind marked) (first.to_own row kind of_row of_kind);
  to_object = λ row kind of_row of_kind marked. either (second.to_object row kind of_row of_kind marked) (first.to_object row kind of_row of_kind);
}
  where
    either : {A B C : Type 0} → B ⊎ C → (B → A ⊎ C) → A ⊎ C
    either (inl b) before = before b
    either (inr c) before = inr c

-- what a version makes for a present target is due
pub due_more : (given : GivenPlaces) (versions : ℕ) (present : List Bool) (version s t : ℕ) (own object own' object' : List Bool) → version < versions → t < 128 → is_marked present 0 t ≡ true → OnlyGives given version s t own object own' object' → AreDue given versions present own object → AreDue given versions present own' object'
due_more given versions present version s t own object own' object' below small is only due = record {
  to_own = λ row kind of_row of_kind marked. by_own row kind of_row of_kind (only.to_own row kind of_row of_kind marked);
  to_object = λ row kind of_row of_kind marked. by_object row kind of_row of_kind (only.to_object row kind of_row of_kind marked);
}
  where
    by_own : (row kind : ℕ) → row < 128 → kind < 128 → (is_marked own row kind ≡ true) ⊎ ((row ≡ s) × GivesOwn given version s t kind) → IsDue versions present (λ v k. GivesOwn given v row k kind)
    by_own row kind of_row of_kind (inl before) = due.to_own row kind of_row of_kind before
    by_own row kind of_row of_kind (inr now) =
        record { version = version; below = below; target = t; small = small; is_present = is; gives = subst (λ source. GivesOwn given version source t kind) (sym now.0) now.1 }

    by_object : (row kind : ℕ) → row < 128 → kind < 128 → (is_marked object row kind ≡ true) ⊎ ((row ≡ s) × GivesObject given version s t kind) → IsDue versions present (λ v k. GivesObject given v row k kind)
    by_object row kind of_row of_kind (inl before) = due.to_object row kind of_row of_kind before
    by_object row kind of_row of_kind (inr now) =
        record { version = version; below = below; target = t; small = small; is_present = is; gives = subst (λ source. GivesObject given version source t kind) (sym now.0) now.1 }

-- steps for one target more
pub targets_next : (given : GivenPlaces) (present : List Bool) (version s t : ℕ) (own object own' object' : List Bool) → StayMarked own own' → StayMarked object object' → TakesTargets given present version s t own object → Takes given version s t own' object' → TakesTargets given present version s (t + 1) own' object'
targets_next given present version s t own object own' object' to_own to_object below here =
    below_next (λ k o b. is_marked present 0 k ≡ true → Takes given version s k o b)
    (λ k o b o' b' so sb takes marked class. takes_class_stays given version s k class o b o' b' so sb (takes marked class))
    t own object own' object' to_own to_object below (λ marked. here)

pub targets_skip : (given : GivenPlaces) (present : List Bool) (version s t : ℕ) (own object : List Bool) → is_marked present 0 t ≡ false → TakesTargets given present version s t own object → TakesTargets given present version s (t + 1) own object
targets_skip given present version s t own object none below =
    below_more (λ k. is_marked present 0 k ≡ true → Takes given version s k own object) t below (λ marked. absurd (both_ways _ none marked))

-- steps for one source more
pub sources_next : (given : GivenPlaces) (present : List Bool) (version s : ℕ) (own object own' object' : List Bool) → StayMarked own own' → StayMarked object object' → TakesSources given present version s own object → TakesTargets given present version s 128 own' object' → TakesSources given present version (s + 1) own' object'
sources_next given present version s own object own' object' to_own to_object below here =
    below_next (λ k o b. is_marked present 0 k ≡ true → TakesTargets given present version k 128 o b)
    (λ k o b o' b' so sb takes marked t small is class. takes_class_stays given version k t class o b o' b' so sb (takes marked t small is class))
    s own object own' object' to_own to_object below (λ marked. here)

pub sources_skip : (given : GivenPlaces) (present : List Bool) (version s : ℕ) (own object : List Bool) → is_marked present 0 s ≡ false → TakesSources given present version s own object → TakesSources given present version (s + 1) own object
sources_skip given present version s own object none below =
    below_more (λ k. is_marked present 0 k ≡ true → TakesTargets given present version k 128 own object) s below (λ marked. absurd (both_ways _ none marked))

-- steps for one version more
pub versions_next : (given : GivenPlaces) (present : List Bool) (version : ℕ) (own object own' object' : List Bool) → StayMarked own own' → StayMarked object object' → TakesVersions given present version own object → TakesSources given present version 128 own' object' → TakesVersions given present (version + 1) own' object'
versions_next given present version own object own' object' to_own to_object below here =
    below_next (λ k o b. TakesSources given present k 128 o b)
    (λ k o b o' b' so sb takes s of_s marked t small is class. takes_class_stays given k s t class o b o' b' so sb (takes s of_s marked t small is class))
    version own object own' object' to_own to_object below here

-- a version takes no more steps than one that gives the same
pub sources_as : (given : GivenPlaces) (present : List Bool) (version other : ℕ) (own object : List Bool) → GivesAs given version other → TakesSources given present other 128 own object → TakesSources given present version 128 own object
sources_as given present version other own object same takes s of_s s_marked t of_t t_marked class =
    let there = takes s of_s s_marked t of_t t_marked class in
    record {
      label = rw (same Transition s t class) there.label;
      member = λ kind gives. there.member kind (sym (same Member s t class) ∙ gives);
    }

-- one version more, which gives the same as the one before it
pub versions_same : (given : GivenPlaces) (present : List Bool) (version : ℕ) (own object : List Bool) → 0 < version → GivesAs given version (version - 1) → TakesVersions given present version own object → TakesVersions given present (version + 1) own object
versions_same given present version own object past same below =
    below_more (λ k. TakesSources given present k 128 own object) version below
    (sources_as given present version (version - 1) own object same (below (version - 1) (omega arith)))

-- a mark that is there once one is set was there, or is that one
pub mark_cases : (before now : List Bool) (at kind : ℕ) → ((r k : ℕ) → k < 128 → is_marked now r k ≡ (is_marked before r k || (at == r && kind == k))) → (row k : ℕ) → k < 128 → is_marked now row k ≡ true → (is_marked before row k ≡ true) ⊎ ((row ≡ at) × (k ≡ kind))
mark_cases before now at kind marks row k small marked = by_case (or_cases (is_marked before row k) (at == row && kind == k) (sym (marks row k small) ∙ marked))
  where
    by_case : (is_marked before row k ≡ true) ⊎ ((at == row && kind == k) ≡ true) → (is_marked before row k ≡ true) ⊎ ((row ≡ at) × (k ≡ kind))
    by_case (inl old) = inl old
    by_case (inr new) =
        let parts = and_parts (at == row) (kind == k) new in
        inr (sym (eqb-true at row parts.0), sym (eqb-true kind k parts.1))

-- the mark that is set is there
pub mark_there : (before now : List Bool) (at kind : ℕ) → kind < 128 → ((r k : ℕ) → k < 128 → is_marked now r k ≡ (is_marked before r k || (at == r && kind == k))) → is_marked now at kind ≡ true
mark_there before now at kind small marks = marks at kind small ∙ or_right _ _ (and_from _ _ (eq-eqb at at refl) (eq-eqb kind kind refl))

-- Contexts by numbers: their labels and members, and that different numbers mean different contexts.
use Rattle.std.proofs.Common.{◌≡◌, ◌<◌, ◌≤◌, ◌⊎◌, inl, inr, ℕ, zero, suc, true, false, cond, List, [], ◌∷◌, ◌++◌, length, get_or, map, Option, Some, None, refl, sym, ap, arith}
use Rattle.std.specs.Prelude.{unwrap_or}
use Rattle.std.specs.Option.{option_map}
use Rattle.std.specs.Str.{bytes_eq}
use Rattle.std.proofs.lemmas.Bool.{and_from, or_from, cases_order, cases_lt, both_ways}
use Rattle.std.proofs.lemmas.List.{get_or_past}
use Rattle.std.proofs.lemmas.Slice.Eq.{bytes_eq-Decides}
use Rattle.flask_sid.specs.Names.{is_name_form, is_kind_form}
use Rattle.flask_sid.specs.declared.context.ContextOf.{ContextOf}
use Rattle.access_vectors.specs.declared.class.Class.{Class}
use Rattle.access_vectors.specs.declared.class.Class.TheVariants.{File, Dir, Process, Port, Security}
use Rattle.policy_model.specs.declared.policy.KindLine.{KindLine}
use Rattle.policy_model.specs.declared.policy.ContextLine.{ContextLine}
use Rattle.policy_model.specs.declared.policy.PolicyParts.{PolicyParts}
use Rattle.policy_model.specs.declared.policy.Labelling.TheVariants.{Transition, Member}
use Rattle.policy_model.specs.Declarations.{is_kind}
use Rattle.policy_model.specs.Deciding.{given_kind, label_of, member_of, takes_after_maker}
use Rattle.policy_model.specs.Kept.{Grows, is_kind_name, MayKind, MayContext, IsWholePolicy}
use Rattle.policy_versions.specs.Places.{kind_at}
use Rattle.policy_versions.specs.Closure.{IsDerivable, declared, label, member}
use Rattle.policy_versions.specs.Numbers.{row_at, object_row, AreRows, is_user_role, context_at, made_kind, made_row}
use Rattle.policy_versions.specs.Gives.{GivenPlaces, AreGiven}
use Rattle.policy_versions.specs.Given.{IsGiven}
use Rattle.policy_versions.specs.declared.user_role.UserRole.{UserRole}
use Rattle.policy_versions.proofs.NameLemmas.{given_declared}
use Rattle.policy_versions.proofs.KindLemmas.{kinds_apart, no_kind}

-- the type that is made, by its name
kind_made : (policy : PolicyParts) (place : Option ℕ) (name : Option (List ℕ)) (other : ℕ) → IsGiven policy place name → kind_at policy (unwrap_or place other) ≡ unwrap_or name (kind_at policy other)
kind_made policy None name other is = rw (← is.named) refl
kind_made policy (Some k) name other is = rw (← is.named) refl

-- a name is given where a place is, and only there
none_as : (policy : PolicyParts) (place : Option ℕ) (name : Option (List ℕ)) → IsGiven policy place name → place ≡ None → name ≡ None
none_as policy place name is e = let named : option_map (kind_at policy) None ≡ name = rw e at is.named in sym named

some_as : (policy : PolicyParts) (place : Option ℕ) (name : Option (List ℕ)) (k : ℕ) → IsGiven policy place name → place ≡ Some k → name ≡ Some (kind_at policy k)
some_as policy place name k is e = let named : option_map (kind_at policy) (Some k) ≡ name = rw e at is.named in sym named

-- labels and members by numbers
module _ (policy : PolicyParts) (users : List UserRole) (given : GivenPlaces) (are : AreGiven policy given) (rows : AreRows users) (version row s row' t : ℕ) (of_row : row < length users) (of_s : s < length policy.kinds) (of_t : t < length policy.kinds) where
  -- the label of a new object
  pub label_at : (class : Class) → context_at policy users (made_row users row class) (made_kind given version s t class) ≡ label_of policy version (context_at policy users row s) (context_at policy users row' t) class
  unfolding context_at label_of
  label_at File =
      let objects = rows.objects row of_row in
      rw (kind_made policy _ _ t (are Transition version s t File of_s of_t), objects.user, objects.role) refl
  label_at Dir =
      let objects = rows.objects row of_row in
      rw (kind_made policy _ _ t (are Transition version s t Dir of_s of_t), objects.user, objects.role) refl
  label_at Process =
      rw (kind_made policy _ _ s (are Transition version s t Process of_s of_t)) refl
  label_at Port =
      let objects = rows.objects row of_row in
      rw (kind_made policy _ _ t (are Transition version s t Port of_s of_t), objects.user, objects.role) refl
  label_at Security =
      let objects = rows.objects row of_row in
      rw (kind_made policy _ _ t (are Transition version s t Security of_s of_t), objects.user, objects.role) refl

  -- the member of a set: the target where no type is given
  pub member_itself : (class : Class) → given Member version s t class ≡ None → member_of policy version (context_at policy users row s) (context_at policy users row' t) class ≡ context_at policy users row' t
  unfolding context_at member_of
  member_itself class none =
      rw (none_as policy _ _ (are Member version s t class of_s of_t) none) refl

  -- and otherwise an object of that type
  pub member_at : (class : Class) (kind : ℕ) → given Member version s t class ≡ Some kind → member_of policy version (context_at policy users row s) (context_at policy users row' t) class ≡ context_at policy users (object_row users row) kind
  unfolding context_at member_of
  member_at class kind gives =
      let objects = rows.objects row of_row in
      rw (some_as policy _ _ kind (are Member version s t class of_s of_t) gives, objects.user, objects.role) refl

-- the type of each context that the policy leads to is declared
contexts_declared : (kinds : List KindLine) (seen contexts : List ContextLine) → Grows (MayContext kinds) seen contexts → (k : ℕ) (d : ContextOf (List ℕ)) → k < length (map (λ (line : ContextLine). line.context) contexts) → is_kind kinds (get_or (map (λ (line : ContextLine). line.context) contexts) k d).kind ≡ true
contexts_declared kinds seen [] grows k d within = absurd (omega arith)
contexts_declared kinds seen (line ∷ contexts) grows zero d within = grows.0.kind
contexts_declared kinds seen (line ∷ contexts) grows (suc k) d within = contexts_declared kinds (seen ++ line ∷ []) contexts grows.1 k d (omega arith)

kind_of_label : (policy : PolicyParts) → IsWholePolicy policy → (version : ℕ) (s t : ContextOf (List ℕ)) (class : Class) → is_kind policy.kinds s.kind ≡ true → is_kind policy.kinds t.kind ≡ true → is_kind policy.kinds (label_of policy version s t class).kind ≡ true
unfolding label_of
kind_of_label policy kept version s t class of_s of_t =
    elim (given_kind Transition policy version s.kind t.kind class) as (λ given. given_kind Transition policy version s.kind t.kind class ≡ given → is_kind policy.kinds (unwrap_or given (cond (takes_after_maker class) s.kind t.kind)) ≡ true) [
      | Some name ↦ λ e. given_declared policy kept Transition version s.kind t.kind class name e
      | None ↦ λ e. elim (takes_after_maker class) as (λ b. is_kind policy.kinds (cond b s.kind t.kind) ≡ true) [ true ↦ of_s | false ↦ of_t ]
    ] refl

kind_of_member : (policy : PolicyParts) → IsWholePolicy policy → (version : ℕ) (s t : ContextOf (List ℕ)) (class : Class) → is_kind policy.kinds t.kind ≡ true → is_kind policy.kinds (member_of policy version s t class).kind ≡ true
unfolding member_of
kind_of_member policy kept version s t class of_t = by_given _ refl
  where
    by_given : (given : Option (List ℕ)) → given_kind Member policy version s.kind t.kind class ≡ given → is_kind policy.kinds (member_of policy version s t class).kind ≡ true
    by_given None e = rw e of_t
    by_given (Some name) e = rw e (given_declared policy kept Member version s.kind t.kind class name e)

pub kind_declared : (policy : PolicyParts) → IsWholePolicy policy → (context : ContextOf (List ℕ)) → IsDerivable policy context → is_kind policy.kinds context.kind ≡ true
kind_declared policy kept _ (declared context is) =
    rw (← is.2) (contexts_declared policy.kinds [] policy.contexts kept.grown.contexts is.0 context is.1)
kind_declared policy kept _ (label version s t class below of_s of_t) =
    kind_of_label policy kept version s t class (kind_declared policy kept s of_s) (kind_declared policy kept t of_t)
kind_declared policy kept _ (member version s t class below of_s of_t) =
    kind_of_member policy kept version s t class (kind_declared policy kept t of_t)

-- a type's name has a byte
nameless : (name : List ℕ) → is_kind_name name ≡ true → bytes_eq name [] ≡ false
unfolding is_kind_name is_kind_form is_name_form
nameless [] named = cc
nameless (b ∷ bs) named = refl

none_nameless : (seen kinds : List KindLine) → Grows MayKind seen kinds → is_kind kinds [] ≡ false
unfolding is_kind is_kind_name
none_nameless seen [] grows = refl
none_nameless seen (kind ∷ kinds) grows = or_from _ _ (nameless kind.name grows.0.named) (none_nameless (seen ++ kind ∷ []) kinds grows.1)

-- the numbers of a context that the policy leads to are those of a declared type
pub place_declared : (policy : PolicyParts) → IsWholePolicy policy → (users : List UserRole) (row kind : ℕ) → IsDerivable policy (context_at policy users row kind) → kind < length policy.kinds
unfolding context_at
place_declared policy kept users row kind derives = by_order (cases_lt kind (length policy.kinds))
  where
    by_order : (kind < length policy.kinds) ⊎ (length policy.kinds ≤ kind) → kind < length policy.kinds
    by_order (inl within) = within
    by_order (inr past) =
        let none : kind_at policy kind ≡ [] = ap (λ (one : KindLine). one.name) (get_or_past policy.kinds kind no_kind past) in
        let is : is_kind policy.kinds (kind_at policy kind) ≡ true = kind_declared policy kept _ derives in
        absurd (both_ways _ (none_nameless [] policy.kinds kept.grown.kinds) (rw none at is))

-- one user with a role has one row
pub one_row : (users : List UserRole) → AreRows users → (i j : ℕ) → i < length users → j < length users → (row_at users i).user ≡ (row_at users j).user → (row_at users i).role ≡ (row_at users j).role → i ≡ j
one_row users rows i j of_i of_j user role = by_order (cases_order i j)
  where
    passes : (a b : ℕ) → (row_at users a).user ≡ (row_at users b).user → (row_at users a).role ≡ (row_at users b).role → is_user_role (row_at users b).user (row_at users b).role (row_at users a) ≡ true
    passes a b u r = and_from _ _ ((bytes_eq-Decides _ _).1 u) ((bytes_eq-Decides _ _).1 r)

    by_order : (i ≡ j) ⊎ ((i < j) ⊎ (j < i)) → i ≡ j
    by_order (inl e) = e
    by_order (inr (inl before)) = absurd (both_ways _ (rows.apart i j before of_j) (passes i j user role))
    by_order (inr (inr after)) = absurd (both_ways _ (rows.apart j i after of_i) (passes j i (sym user) (sym role)))

-- different numbers mean different contexts
pub one_context : (policy : PolicyParts) (users : List UserRole) → IsWholePolicy policy → AreRows users → (row kind row' kind' : ℕ) → row < length users → row' < length users → IsDerivable policy (context_at policy users row kind) → IsDerivable policy (context_at policy users row' kind') → context_at policy users row kind ≡ context_at policy users row' kind' → (row ≡ row') × (kind ≡ kind')
unfolding context_at
one_context policy users kept rows row kind row' kind' of_row of_row' derives derives' same = (
  one_row users rows row row' of_row of_row' (ap (λ (c : ContextOf (List ℕ)). c.user) same) (ap (λ (c : ContextOf (List ℕ)). c.role) same),
  kinds_apart policy kept kind kind' (place_declared policy kept users row kind derives) (place_declared policy kept users row' kind' derives') (ap (λ (c : ContextOf (List ℕ)). c.kind) same),
)

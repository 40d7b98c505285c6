-- Rows of users with roles: one row more, and a row that is found.
use Rattle.std.proofs.Common.{◌≡◌, ◌<◌, ◌≤◌, ◌∙◌, ◌⊎◌, inl, inr, ℕ, suc, Bool, true, false, cond, ltb, List, [], ◌∷◌, ◌++◌, length, Some, None, refl, sym, ap, subst, arith, length-append}
use Rattle.std.specs.Prelude.{◌&&◌}
use Rattle.std.specs.List.{list_any, position, position_or_len}
use Rattle.std.proofs.lemmas.Cmp.{nat_list_eq_equiv}
use Rattle.std.proofs.lemmas.List.{length-map, map-append}
use Rattle.indexmap.specs.IndexSet.{insert_key}
use Rattle.std.specs.Str.{bytes_eq}
use Rattle.std.proofs.lemmas.Bool.{and_parts, cases_lt, ltb-false}
use Rattle.std.proofs.lemmas.List.{get_or_append_left, get_or_push, length_push}
use Rattle.std.proofs.lemmas.List.Sums.{fails_before_first}
use Rattle.std.proofs.lemmas.List.Quantifiers.{position-Some}
use Rattle.std.proofs.lemmas.Slice.Eq.{bytes_eq-Decides}
use Rattle.policy_model.specs.Deciding.{object_role}
use Rattle.policy_versions.specs.Numbers.{row_at, object_row, is_user_role, HasObjectRow, AreRows}
use Rattle.policy_versions.specs.Users.{IsRowOf, IsNew, HasObject, AreRowsBy, holders_of}
use Rattle.policy_versions.specs.declared.user_role.Holder.{Holder}
use Rattle.policy_versions.specs.declared.user_role.UserRole.{UserRole}

-- no row
abbrev pub none_such : UserRole
none_such = record { user = []; role = []; object = 0 }

-- a row that is found
pub row_found : (users : List UserRole) (user role : List ℕ) (row : ℕ) → position (is_user_role user role) users ≡ Some row → IsRowOf users row user role
row_found users user role row found =
    let at = position-Some (is_user_role user role) users row none_such found in
    let parts = and_parts (bytes_eq (row_at users row).user user) (bytes_eq (row_at users row).role role) at.1 in
    record { within = at.0; user_is = (bytes_eq-Decides _ _).0 parts.0; role_is = (bytes_eq-Decides _ _).0 parts.1 }

-- where no row is found, none is that of the user and the role
pub row_new : (users : List UserRole) (user role : List ℕ) → None ≡ position (is_user_role user role) users → IsNew users user role
row_new users user role none row within =
    let p : UserRole → Bool = is_user_role user role in
    let past : length users ≤ position_or_len p users = elim (ltb (position_or_len p users) (length users)) as (λ b. ltb (position_or_len p users) (length users) ≡ b → None ≡ cond b (Some (position_or_len p users)) None → length users ≤ position_or_len p users) [
      | true ↦ λ is e. cc
      | false ↦ λ is e. ltb-false _ _ is
    ] refl none in
    fails_before_first p users row none_such (omega arith)

-- rows stay where they are
pub row_stays : (users : List UserRole) (more : List UserRole) (row : ℕ) → row < length users → row_at (users ++ more) row ≡ row_at users row
row_stays users more row within = get_or_append_left users more none_such row within

pub row_last : (users : List UserRole) (one : UserRole) → row_at (users ++ one ∷ []) (length users) ≡ one
row_last users one = get_or_push users one none_such (length users) refl

-- a row that is that of a user and a role stays so
pub row_of_stays : (users more : List UserRole) (row : ℕ) (user role : List ℕ) → IsRowOf users row user role → IsRowOf (users ++ more) row user role
row_of_stays users more row user role is = record {
  within = rw (length-append users more) (omega (arith, is.within));
  user_is = rw (row_stays users more row is.within) is.user_is;
  role_is = rw (row_stays users more row is.within) is.role_is;
}

-- the last row
pub row_of_last : (users : List UserRole) (one : UserRole) → IsRowOf (users ++ one ∷ []) (length users) one.user one.role
row_of_last users one = record {
  within = rw (length_push users one) (omega arith);
  user_is = rw (row_last users one) refl;
  role_is = rw (row_last users one) refl;
}

-- one row more keeps the rows
pub rows_more : (users : List UserRole) (one : UserRole) → AreRows users → IsNew users one.user one.role → HasObject users one → AreRows (users ++ one ∷ [])
rows_more users one rows new object = record { apart = apart; objects = objects }
  where
    apart : (i j : ℕ) → i < j → j < length (users ++ one ∷ []) → is_user_role (row_at (users ++ one ∷ []) j).user (row_at (users ++ one ∷ []) j).role (row_at (users ++ one ∷ []) i) ≡ false
    apart i j before within = by_place (cases_lt j (length users))
      where
        by_place : (j < length users) ⊎ (length users ≤ j) → is_user_role (row_at (users ++ one ∷ []) j).user (row_at (users ++ one ∷ []) j).role (row_at (users ++ one ∷ []) i) ≡ false
        by_place (inl inside) =
            let of_i : i < length users = omega arith in
            rw (row_stays users (one ∷ []) j inside, row_stays users (one ∷ []) i of_i) (rows.apart i j before inside)
        by_place (inr past) =
            let last : j ≡ length users = omega (arith, length_push users one) in
            let of_i : i < length users = omega arith in
            rw (last, row_last users one, row_stays users (one ∷ []) i of_i) (new i of_i)

    own : (one.object ≡ length users) × (one.role ≡ object_role) → HasObjectRow (users ++ one ∷ []) (length users)
    own is =
        let to : object_row (users ++ one ∷ []) (length users) ≡ length users = ap (λ (u : UserRole). u.object) (row_last users one) ∙ is.0 in
        record {
          within = rw (to, length_push users one) (omega arith);
          user = rw to refl;
          role = rw (to, row_last users one) is.1;
        }

    other : IsRowOf users one.object one.user object_role → HasObjectRow (users ++ one ∷ []) (length users)
    other is =
        let to : object_row (users ++ one ∷ []) (length users) ≡ one.object = ap (λ (u : UserRole). u.object) (row_last users one) in
        record {
          within = rw (to, length_push users one) (omega (arith, is.within));
          user = rw (to, row_last users one, row_stays users (one ∷ []) one.object is.within) is.user_is;
          role = rw (to, row_stays users (one ∷ []) one.object is.within) is.role_is;
        }

    last_object : HasObject users one → HasObjectRow (users ++ one ∷ []) (length users)
    last_object (inl is) = own is
    last_object (inr is) = other is

    objects : (row : ℕ) → row < length (users ++ one ∷ []) → HasObjectRow (users ++ one ∷ []) row
    objects row within = by_place (cases_lt row (length users))
      where
        by_place : (row < length users) ⊎ (length users ≤ row) → HasObjectRow (users ++ one ∷ []) row
        by_place (inl inside) =
            let before = rows.objects row inside in
            let to : object_row (users ++ one ∷ []) row ≡ object_row users row = ap (λ (u : UserRole). u.object) (row_stays users (one ∷ []) row inside) in
            record {
              within = rw (to, length_push users one) (omega (arith, before.within));
              user = rw (to, row_stays users (one ∷ []) row inside, row_stays users (one ∷ []) (object_row users row) before.within) before.user;
              role = rw (to, row_stays users (one ∷ []) (object_row users row) before.within) before.role;
            }
        by_place (inr past) =
            let last : row ≡ length users = omega (arith, length_push users one) in
            subst (HasObjectRow (users ++ one ∷ [])) (sym last) (last_object object)

-- two users with their roles are the same
abbrev pub same_holder : Holder → Holder → Bool
same_holder a b = bytes_eq a.user b.user && bytes_eq a.role b.role

holders_before : (users : List UserRole) (holder : Holder) → position_or_len (same_holder holder) (holders_of users) ≡ position_or_len (is_user_role holder.user holder.role) users
holders_before [] holder = refl
holders_before (one ∷ users) holder =
    rw (nat_list_eq_equiv.symm holder.user one.user, nat_list_eq_equiv.symm holder.role one.role, holders_before users holder) refl

-- a user's row by the index
pub holder_place : (users : List UserRole) (index : List Holder) (holder : Holder) → index ≡ holders_of users → position (same_holder holder) index ≡ position (is_user_role holder.user holder.role) users
holder_place users index holder is =
    rw (is, holders_before users holder, length-map users (λ (one : UserRole). let key : Holder = record { user = one.user; role = one.role } in key)) refl

-- a new user with a role is not in the index
holder_new : (users : List UserRole) (holder : Holder) → IsNew users holder.user holder.role → list_any (same_holder holder) (holders_of users) ≡ false
holder_new [] holder new = refl
holder_new (one ∷ users) holder new =
    let first : is_user_role holder.user holder.role one ≡ false = new 0 (omega arith) in
    let others = holder_new users holder (λ row within. new (suc row) (omega (arith, within))) in
    rw (nat_list_eq_equiv.symm holder.user one.user, nat_list_eq_equiv.symm holder.role one.role, first, others) refl

-- one row more, in the list and in the index
pub rows_pushed : (users : List UserRole) (index : List Holder) (holder : Holder) (object : ℕ) → AreRowsBy users index → IsNew users holder.user holder.role → HasObject users (record { user = holder.user; role = holder.role; object = object }) → AreRowsBy (users ++ record { user = holder.user; role = holder.role; object = object } ∷ []) (insert_key same_holder index holder)
rows_pushed users index holder object rows new has =
    let one : UserRole = record { user = holder.user; role = holder.role; object = object } in
    let none : list_any (same_holder holder) index ≡ false = rw rows.holders (holder_new users holder new) in
    record {
      rows = rows_more users one rows.rows new has;
      holders = rw (none, rows.holders) (sym (map-append (λ (u : UserRole). let key : Holder = record { user = u.user; role = u.role } in key) users (one ∷ [])));
    }

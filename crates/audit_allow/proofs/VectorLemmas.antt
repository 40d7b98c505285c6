-- Vectors by a test, permission by permission.
use Rattle.std.proofs.Common.{◌≡◌, ◌≢◌, ◌∙◌, ℕ, zero, suc, ◌+◌, ◌<◌, ◌≤◌, Bool, true, false, cond, not, eqb, ltb, List, [], ◌∷◌, length, get_or, take, refl, sym, ap, arith, add-one}
use Rattle.std.specs.Prelude.{◌&&◌, ◌||◌, if◌then◌else◌}
use Rattle.std.specs.List.{list_any}
use Rattle.std.proofs.lemmas.Bool.{ltb-false, lt-ltb, cases_lt, le-ltb, false≢true}
use Rattle.std.proofs.lemmas.List.Folds.{list_any_more}
use Rattle.flask_sid.specs.declared.context.ContextOf.{ContextOf}
use Rattle.access_vectors.specs.declared.asked.Asked.{Asked}
use Rattle.access_vectors.specs.declared.class.Class.{Class}
use Rattle.access_vectors.specs.Table.{Permission, perm_count}
use Rattle.access_vectors.specs.Vectors.{has, with_index}
use Rattle.access_vectors.proofs.Members.{has-empty, same_from_has}
use Rattle.policy_model.specs.Deciding.{vector_where}
use Rattle.policy_model.proofs.VectorLemmas.{has-where}
use Rattle.policy_versions.specs.Places.{kind_at}
use Rattle.audit_allow.specs.declared.grant.GrantKind.{GrantKind}
use Rattle.audit_allow.specs.Denials.{Lesson, is_denied, is_denial_of, is_between, is_about}
use Rattle.audit_allow.specs.Cells.{cell_key, vector_at, AreDenied}
use Rattle.audit_allow.specs.Grants.{is_learned, learned_vector}

pub where_zero : (test : ℕ → Bool) → vector_where 0 test ≡ 0
unfolding vector_where
where_zero test = refl

-- one permission more
pub where_more : (test : ℕ → Bool) (n perms after : ℕ) (b : Bool) → perms ≡ vector_where n test → b ≡ test n → after ≡ cond b (with_index perms n) perms → after ≡ vector_where (n + 1) test
unfolding vector_where
where_more test n perms after b so_far is more = rw (add-one, ← is, ← so_far) more

-- no permission passes
pub where_none : (n : ℕ) (test : ℕ → Bool) → ((index : ℕ) → index < n → test index ≡ false) → vector_where n test ≡ 0
where_none n test none =
    same_from_has _ _ (λ index. has-where n test index ∙ by_below index (ltb index n) refl ∙ sym (has-empty index))
  where
    by_below : (index : ℕ) (b : Bool) → ltb index n ≡ b → (b && test index) ≡ false
    by_below index true below = none index (from_ltb index n below)
      where
        from_ltb : (a b : ℕ) → ltb a b ≡ true → a < b
        from_ltb a b h = grind (arith, h)
    by_below index false below = refl

-- an empty cell has no permission that is learned
pub none_learned : (list : GrantKind) (lesson : Lesson) (rows : List (ℕ × ℕ)) (s t : ℕ) (class : Class) → AreDenied lesson rows → s < length lesson.policy.kinds → t < length lesson.policy.kinds
    → vector_at rows (cell_key s t class) ≡ 0 → learned_vector list lesson (kind_at lesson.policy s) (kind_at lesson.policy t) class ≡ 0
unfolding learned_vector is_learned
none_learned list lesson rows s t class are hs ht empty =
    where_none (perm_count class) _ (λ index below.
    let denied : is_denied lesson.contexts lesson.asked (kind_at lesson.policy s) (kind_at lesson.policy t) (record { class = class; index = index }) ≡ false =
    sym (are s t (record { class = class; index = index }) hs ht) ∙ ap (λ vector. has vector index) empty ∙ has-empty index in
    rw denied refl)

-- no question yet
pub none_denied : (contexts : List (ContextOf (List ℕ))) (rows : List (ℕ × ℕ)) (s t : List ℕ) (perm : Permission) (key : ℕ) → rows ≡ [] → has (vector_at rows key) perm.index ≡ is_denied contexts [] s t perm
unfolding is_denied vector_at
none_denied contexts rows s t perm key none = rw none (has-empty perm.index)

-- one question more
pub one_more : (contexts : List (ContextOf (List ℕ))) (asked : List Asked) (i : ℕ) (question : Asked) (s t : List ℕ) (perm : Permission) → i < length asked → question ≡ get_or asked i question
    → is_denied contexts (take (i + 1) asked) s t perm ≡ (is_denied contexts (take i asked) s t perm || (not question.yes && (is_between contexts s t question && is_about perm question)))
unfolding is_denied is_denial_of
one_more contexts asked i question s t perm within is =
    list_any_more (is_denial_of contexts s t perm) asked i question within ∙ ap (λ q. is_denied contexts (take i asked) s t perm || is_denial_of contexts s t perm q) (sym is)

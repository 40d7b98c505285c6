-- The mode of an attached slot is that of ptrace and getattr.
use Rattle.std.proofs.Common.{◌≡◌, ℕ, true, false, ◌∷◌, [], refl, sym, ap, ◌∙◌, inl, inr}
use Rattle.std.specs.Prelude.{◌==◌}
use Rattle.std.specs.List.{list_any}
use Rattle.std.proofs.lemmas.Bool.{cases_eq, false≢true}
use Rattle.std.proofs.lemmas.List.Elements.{All-cons, All-nil}
use Rattle.access_vectors.specs.Perms.{process_ptrace, process_getattr}
use Rattle.access_vectors.specs.Vectors.{has, with_index}
use Rattle.access_vectors.specs.declared.class.Class.TheVariants as class
use Rattle.access_vectors.proofs.Members.{has-empty, has-with_other}
use Rattle.mode_questions.specs.Covered.{IsModeOf}
use Rattle.process_calls.specs.States.{attach_mode, attach_perms}

-- the mode is put together of its two permissions
mode_is : attach_mode ≡ with_index (with_index 0 3) 6
unfolding with_index
mode_is = refl

-- the mode has no other permission
no_other : (index : ℕ) → (index ≡ 3 → ⊥) → (index ≡ 6 → ⊥) → has attach_mode index ≡ false
no_other index first second =
    ap (λ mode. has mode index) mode_is ∙ has-with_other (with_index 0 3) 6 index second ∙ has-with_other 0 3 index first ∙ has-empty index

-- each permission of the mode is asked
covered : (index : ℕ) → has attach_mode index ≡ true → list_any (λ perm. perm.index == index) attach_perms ≡ true
covered index held = elim (cases_eq index 3) [
  | inl same ↦ ap (λ one. list_any (λ perm. perm.index == one) attach_perms) same
  | inr first ↦ elim (cases_eq index 6) [
    | inl same ↦ ap (λ one. list_any (λ perm. perm.index == one) attach_perms) same
    | inr second ↦ absurd (false≢true (sym (no_other index first second) ∙ held))
  ]
]

pub attach_covers : IsModeOf class.Process attach_perms attach_mode
attach_covers = record {
  classes = All-cons (λ perm. perm.class ≡ class.Process) process_ptrace (process_getattr ∷ []) refl
      (All-cons (λ perm. perm.class ≡ class.Process) process_getattr [] refl (All-nil (λ perm. perm.class ≡ class.Process)));
  covered = covered;
}

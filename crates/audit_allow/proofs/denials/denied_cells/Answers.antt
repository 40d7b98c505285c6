use Rattle.std.proofs.Common.{◌≡◌, ◌∙◌, ℕ, List, Bool, true, false, not, length, refl, sym, ap}
use Rattle.std.specs.Prelude.{◌&&◌, ◌||◌}
use Rattle.std.proofs.lemmas.Bool.{false≢true}
use Rattle.access_vectors.specs.Vectors.{has}
use Rattle.policy_versions.specs.Places.{kind_at}
use Rattle.audit_allow.specs.Cells.{cell_key, vector_at}
use Rattle.audit_allow.proofs.VectorLemmas.{none_denied, one_more}
use Rattle.audit_allow.proofs.denials.denied_cells.Goals as goal
use Rattle.audit_allow.proofs.denials.denied_cells.Goals.{then-denied+in_ok-put_asked, else-denied}

pub questions-init : goal.questions-init
questions-init c = λ s t perm hs ht. none_denied c.args.sids.now c.new-cells.result (kind_at c.args.policy.now s) (kind_at c.args.policy.now t) perm (cell_key s t perm.class) c.new-cells.ensures

-- a question that was answered no tells what it asked for
no_answer : (yes told had before : Bool) → yes ≡ false → had ≡ before → (told || had) ≡ (before || (not yes && told))
no_answer true told had before is same = absurd (false≢true (sym is))
no_answer false true had true is same = refl
no_answer false true had false is same = refl
no_answer false false had true is same = same
no_answer false false had false is same = same

-- and one that was answered yes tells nothing
yes_answer : (yes told had before : Bool) → yes ≡ true → had ≡ before → had ≡ (before || (not yes && told))
yes_answer false told had before is same = absurd (false≢true is)
yes_answer true told had true is same = same
yes_answer true told had false is same = same

pub questions-preserved : goal.questions-preserved
questions-preserved c = λ s t perm hs ht.
    (elim c.if-denied.branch [
      | then-denied+in_ok-put_asked w ↦
          ap (λ (cells : List (ℕ × ℕ)). has (vector_at cells (cell_key s t perm.class)) perm.index) w.cells-is
          ∙ w.in_ok-put_asked.ensures s t perm hs ht
          ∙ no_answer c.question-item.result.yes _ _ _ w.if-denied.true (c.questions.invariant s t perm hs ht)
      | else-denied w ↦
          ap (λ (cells : List (ℕ × ℕ)). has (vector_at cells (cell_key s t perm.class)) perm.index) w.cells-is
          ∙ yes_answer c.question-item.result.yes _ _ _ w.if-denied.false (c.questions.invariant s t perm hs ht)
    ]) ∙ sym (one_more c.args.sids.now c.args.asked.now c.questions.question-index c.question-item.result (kind_at c.args.policy.now s) (kind_at c.args.policy.now t) perm c.questions-test.true c.question-item.is)

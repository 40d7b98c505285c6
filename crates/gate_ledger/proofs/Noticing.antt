-- When a notice may come over a list of lines, and why it may not.
use Rattle.std.proofs.Common.{◌≡◌, ◌≢◌, ℕ, ◌<◌, ◌≤◌, nat_lt, Bool, true, false, List, refl, eqb, eq-eqb, ne_eqb, sym, ap, ◌∙◌, subst, Option, Some, None, if◌then◌else◌, arith}
use Rattle.std.proofs.lemmas.Bool.Decides.{nat_tests}
use Rattle.access_vectors.specs.declared.phase.Phase.{Phase}
use Rattle.access_vectors.specs.Phases.{number_of}
use Rattle.gate_rule.specs.History.{Alternates, settled_in, last_notice}
use Rattle.gate_rule.proofs.Histories.{phase_settled, phase_pending}
use Rattle.gate_ledger.specs.declared.ledger.Line.{Line}
use Rattle.access_vectors.specs.declared.change.NotifyFault.{NotifyFault}
use Rattle.access_vectors.specs.declared.change.NotifyFault.TheVariants.{Pending, NoVersion, Spent, Memory}
use Rattle.gate_ledger.specs.Lines.{kind_of}
use Rattle.access_vectors.specs.Notices.{notice_fault, IsRefusal}
use Rattle.gate_ledger.specs.Changes.{phase_after}

is_below : (a b : ℕ) → a < b → nat_lt a b ≡ true
is_below a b h = grind (arith, nat_tests)

is_not_below : (a b : ℕ) → b ≤ a → nat_lt a b ≡ false
is_not_below a b h = grind (arith, nat_tests)

-- a fault that is the reason is a refusal
pub refuses : (why : Option NotifyFault) (fault : NotifyFault) → why ≡ Some fault → IsRefusal why fault
refuses why fault is = subst (λ (w : Option NotifyFault). IsRefusal w fault) (sym is) refl

-- and where there is no reason, want of memory
pub lacks_memory : (why : Option NotifyFault) → why ≡ None → IsRefusal why Memory
lacks_memory why none = subst (λ (w : Option NotifyFault). IsRefusal w Memory) (sym none) refl

module _ (versions ver most : ℕ) (lines : List Line) (lawful : Alternates kind_of versions 0 0 lines) where
  pub pending : (newest : ℕ) → newest ≡ (last_notice kind_of lines).0 → settled_in kind_of lines ≢ (last_notice kind_of lines).0 → notice_fault (phase_after lines) versions ver most ≡ Some (Pending newest)
  pending newest same apart = ap (λ (phase : Phase). notice_fault phase versions ver most) (phase_pending kind_of versions lines lawful apart).1 ∙ ap (λ (n : ℕ). Some (Pending n)) (sym same)

  module _ (at : settled_in kind_of lines ≡ (last_notice kind_of lines).0) where
    -- where nothing is pending, version and number decide
    settled : notice_fault (phase_after lines) versions ver most ≡ (if nat_lt ver versions then (if eqb (last_notice kind_of lines).0 most then Some Spent else None) else Some NoVersion)
    settled = ap (λ (phase : Phase). notice_fault phase versions ver most) (phase_settled kind_of versions lines lawful at)

    pub number : number_of (phase_after lines) ≡ (last_notice kind_of lines).0
    number = ap number_of (phase_settled kind_of versions lines lawful at)

    pub no_version : versions ≤ ver → notice_fault (phase_after lines) versions ver most ≡ Some NoVersion
    no_version le = settled ∙ ap (λ (b : Bool). if b then (if eqb (last_notice kind_of lines).0 most then Some Spent else None) else Some NoVersion) (is_not_below ver versions le)

    pub spent : ver < versions → (last_notice kind_of lines).0 ≡ most → notice_fault (phase_after lines) versions ver most ≡ Some Spent
    spent lt same = settled ∙ (λ i. if is_below ver versions lt i then (if eq-eqb (last_notice kind_of lines).0 most same i then Some Spent else None) else Some NoVersion)

    pub allowed : ver < versions → (last_notice kind_of lines).0 ≢ most → notice_fault (phase_after lines) versions ver most ≡ None
    allowed lt apart = settled ∙ (λ i. if is_below ver versions lt i then (if ne_eqb (last_notice kind_of lines).0 most apart i then Some Spent else None) else Some NoVersion)

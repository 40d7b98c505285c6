-- The audit lines of a call, among others.
use Rattle.std.proofs.Common.{◌≡◌, ℕ, Bool, true, false, List, [], ◌∷◌, ◌++◌, map, refl, ap, arith}
use Rattle.std.specs.Prelude.{◌==◌, ◌&&◌}
use Rattle.std.specs.List.{filter}
use Rattle.std.proofs.lemmas.Bool.Decides.{nat_tests}
use Rattle.std.proofs.lemmas.Grind.{flat_map-append}
use Rattle.flask_sid.specs.declared.context.ContextOf.{ContextOf}
use Rattle.access_vectors.specs.declared.asked.Asked.{Asked}
use Rattle.policy_model.specs.declared.policy.PolicyParts.{PolicyParts}
use Rattle.manager_history.specs.declared.entry.Entry.{Entry}
use Rattle.audit_log.specs.Audited.{is_audited, line_for, lines_asked, lines_of, audited_in}
use Rattle.audit_log.specs.Logs.{is_of_call}
use Rattle.audit_log.specs.declared.audited.Acting.{Acting}
use Rattle.audit_log.specs.declared.audited.AuditLine.{AuditLine}

-- an operation is not of a call with another mark, nor of one of another client
pub apart_mark : (client mark : ℕ) (acting : Acting) → (acting.mark ≡ mark → ⊥) → ((acting.client == client) && (acting.mark == mark)) ≡ false
apart_mark client mark acting apart = by_tests (acting.client == client) (acting.mark == mark) refl
  where
    by_tests : (whose test : Bool) → (acting.mark == mark) ≡ test → (whose && test) ≡ false
    by_tests whose true is = let at : acting.mark ≡ mark = grind (arith, nat_tests, is) in absurd (apart at)
    by_tests true false is = refl
    by_tests false false is = refl

pub apart_client : (client mark : ℕ) (acting : Acting) → (acting.client == client) ≡ false → ((acting.client == client) && (acting.mark == mark)) ≡ false
apart_client client mark acting is = rw is refl

-- it is of its own
pub of_own : (client mark : ℕ) (acting : Acting) → acting.client ≡ client → acting.mark ≡ mark → ((acting.client == client) && (acting.mark == mark)) ≡ true
of_own client mark acting whose which =
    let one : (acting.client == client) ≡ true = grind (arith, nat_tests, whose) in
    let two : (acting.mark == mark) ≡ true = grind (arith, nat_tests, which) in
    rw (one, two) refl

-- the audit lines of entries, and of those behind them
pub audited_more : {Call Reply : Type 0} (policy : PolicyParts) (contexts : List (ContextOf (List ℕ))) (front back : List (Entry Call Reply))
    → audited_in policy contexts (front ++ back) ≡ audited_in policy contexts front ++ audited_in policy contexts back
audited_more policy contexts front back = flat_map-append (lines_of policy contexts) front back

-- lines of one operation all are of a call, or none is
kept_all : (client mark : ℕ) (acting : Acting) (asked : List Asked) → ((acting.client == client) && (acting.mark == mark)) ≡ true
    → filter (is_of_call client mark) (map (line_for acting) asked) ≡ map (line_for acting) asked
kept_all client mark acting [] is = refl
kept_all client mark acting (question ∷ asked) is = rw is (ap (λ (l : List AuditLine). line_for acting question ∷ l) (kept_all client mark acting asked is))

kept_none : (client mark : ℕ) (acting : Acting) (asked : List Asked) → ((acting.client == client) && (acting.mark == mark)) ≡ false
    → filter (is_of_call client mark) (map (line_for acting) asked) ≡ []
kept_none client mark acting [] is = refl
kept_none client mark acting (question ∷ asked) is = rw is (kept_none client mark acting asked is)

-- what a call asked is of that call
pub own_lines : (client mark : ℕ) (policy : PolicyParts) (contexts : List (ContextOf (List ℕ))) (acting : Acting) (asked : List Asked) → ((acting.client == client) && (acting.mark == mark)) ≡ true
    → filter (is_of_call client mark) (lines_asked policy contexts acting asked) ≡ lines_asked policy contexts acting asked
own_lines client mark policy contexts acting asked is = kept_all client mark acting (filter (is_audited policy contexts) asked) is

-- and of no other
pub no_lines : (client mark : ℕ) (policy : PolicyParts) (contexts : List (ContextOf (List ℕ))) (acting : Acting) (asked : List Asked) → ((acting.client == client) && (acting.mark == mark)) ≡ false
    → filter (is_of_call client mark) (lines_asked policy contexts acting asked) ≡ []
no_lines client mark policy contexts acting asked is = kept_none client mark acting (filter (is_audited policy contexts) asked) is

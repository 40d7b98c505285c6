use Rattle.std.proofs.Common.{◌≡◌, ◌∙◌, subst, sym, ap, List}
use Rattle.audit_allow.specs.declared.grant.Grant.{Grant}
use Rattle.audit_allow.specs.declared.grant.GrantKind.TheVariants.{Allow}
use Rattle.audit_allow.specs.Appending.{Teaches, AreLeast, appended}
use Rattle.audit_allow.specs.Denials.{Lesson}
use Rattle.audit_allow.specs.Grants.{grants}
use Rattle.audit_allow.proofs.LearnedLemmas.{teaches, least}
use Rattle.audit_allow.proofs.learning.learned.Goals as goal

-- what a clause says of all grants it says of these
by_grants : (P : List Grant → Type 0) (lesson made : Lesson) (some : List Grant) → some ≡ grants Allow made → made ≡ lesson → P (grants Allow lesson) → P some
by_grants P lesson made some are is holds = subst P (sym (are ∙ ap (grants Allow) is)) holds

pub returns-clause-teaches : goal.returns-clause-teaches
returns-clause-teaches c =
    let lesson : Lesson = record { policy = c.args.p.now; contexts = c.args.sids.now; asked = c.args.denied.now } in
    by_grants (λ some. Teaches lesson c.args.ver (appended c.args.p.now c.args.ver some)) lesson c.in_ok-denials.denials c.in_ok-grants.field-0 c.in_ok-grants.ensures c.in_ok-denials.ensures.denials
    (teaches lesson c.of.ensures.kept c.args.ver c.requires)

pub returns-clause-least : goal.returns-clause-least
returns-clause-least c =
    let lesson : Lesson = record { policy = c.args.p.now; contexts = c.args.sids.now; asked = c.args.denied.now } in
    by_grants (λ some. AreLeast lesson c.args.ver some) lesson c.in_ok-denials.denials c.in_ok-grants.field-0 c.in_ok-grants.ensures c.in_ok-denials.ensures.denials
    (least lesson c.of.ensures.kept c.args.ver c.requires)

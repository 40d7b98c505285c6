use Rattle.std.proofs.Common.{◌∙◌, cond, Some, refl, ap}
use Rattle.std.specs.Str.{bytes_eq}
use Rattle.std.specs.HashMap.{get}
use Rattle.policy_versions.proofs.KindLemmas.{places_none, places_more}
use Rattle.policy_versions.proofs.kinds.places_of.Goals as goal

pub kinds-init : goal.kinds-init
kinds-init c = places_none c.args.kinds.now (get bytes_eq c.new-places.result) (λ name. rw c.new-places.ensures.empty refl)

pub kinds-preserved : goal.kinds-preserved
kinds-preserved c =
    places_more c.args.kinds.now c.kinds.place c.index-kinds-place.result (get bytes_eq c.kinds.places) (get bytes_eq c.insert.new.self)
    c.kinds-test.true c.index-kinds-place.is
    (λ name. c.in_ok-insert.ensures.updates.0 name
    ∙ ap (λ key. cond (bytes_eq key name) (Some c.at.result) (get bytes_eq c.kinds.places name)) c.in_ok-copy.ensures
    ∙ ap (λ place. cond (bytes_eq c.index-kinds-place.result.name name) (Some place) (get bytes_eq c.kinds.places name)) c.at.ensures)
    c.kinds.invariant

use Rattle.std.proofs.Common.{◌≡◌, ◌<◌, ◌∙◌, true, false, length, vec_capacity, arith, subst, sym}
use Rattle.access_vectors.specs.Decisions.{Decisions}
use Rattle.access_vectors.specs.Forced.{is_aborted}
use Rattle.access_vectors.proofs.ForcedLemmas.{named_unless_aborted, aborted_may}
use Rattle.manager_history.specs.Histories.{greatest_forced}
use Rattle.manager_history.proofs.Growing.{kept_op, kept_aborted}
use Rattle.manager_history.proofs.keeper.Keeper.call.Goals as goal

pub invariant_of-self-then-aborted : goal.invariant_of-self-then-aborted
invariant_of-self-then-aborted g c =
    let before = c.self.inside in
    let entries = c.add_aborted.new.entries in
    let roomy : length entries.items < vec_capacity entries
    = omega (arith, c.in_ok-reserve.ensures.ok, c.in_ok-reserve.ensures.len, c.add_aborted.ensures.len, c.add_aborted.ensures.room) in
    let stops : is_aborted before.phase c.args.number ≡ true = sym (rw (← c.self.view_is) at c.aborts-aborted.ensures) ∙ c.if-aborted.true in
    let may = aborted_may before.phase (greatest_forced before.entries.items) c.args.number (rw (← c.self.view_is) at c.requires.named) stops in
    let kept = kept_aborted _ _ c.args.call c.args.number _ _ c.self.invariant.0 (rw (← c.self.view_is) at c.requires.formed) may
    (rw c.reserve.ensures.items at c.add_aborted.ensures.added) roomy in
    (kept, c.self.invariant.1, c.self.invariant.2)

pub invariant_of-self-2 : goal.invariant_of-self-2
invariant_of-self-2 g c =
    let before = c.self.inside in
    let goes : is_aborted before.phase c.args.number ≡ false = sym (rw (← c.self.view_is) at c.aborts-aborted.ensures) ∙ c.if-aborted.false in
    let same = rw (← c.self.view_is) at c.requires.decides goes in
    let entries = c.push_reserved.new.self in
    let roomy : length entries.items < vec_capacity entries
    = omega (arith, c.in_ok-reserve.ensures.ok, c.in_ok-reserve.ensures.len, c.push_reserved.ensures.len, c.push_reserved.ensures.capacity) in
    let named = named_unless_aborted before.phase (greatest_forced before.entries.items) c.args.number (rw (← c.self.view_is) at c.requires.named) goes in
    let kept = kept_op _ _ _ _ c.args.call c.args.number _ _ _ _ _ _ c.self.invariant.0
    same (rw (← c.self.view_is) at c.requires.version goes)
    (rw (← c.self.view_is) at c.requires.formed) named
    c.in_ok-kept.ensures.reply c.in_ok-kept.ensures.asked c.in_ok-kept.ensures.state c.in_ok-kept.ensures.opening
    (rw c.reserve.ensures.items at c.push_reserved.ensures.items) roomy in
    let Fits : Decisions → Type 0 = λ d. g.C.Core.fits d c.call.new.self in
    (kept, subst Fits same c.in_ok-kept.ensures.fits, c.in_ok-kept.ensures.phase ∙ c.self.invariant.2)

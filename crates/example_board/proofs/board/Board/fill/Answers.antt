use Rattle.std.proofs.Common.{IsTrue, refl, sym, subst}
use Rattle.access_vectors.specs.Decisions.{Decisions}
use Rattle.access_vectors.specs.Stale.{slot_place}
use Rattle.retained_rights.specs.Claims.{Claim}
use Rattle.retained_rights.specs.Rights.{Fit}
use Rattle.example_board.specs.Boards.{BoardView}
use Rattle.example_board.specs.Laws.{safe_is}
use Rattle.example_board.proofs.StepLemmas.{step_filled, safe_moved, state_filled}
use Rattle.example_board.proofs.board.Board.fill.Goals as goal

pub vector_at-vector-requires-clause-target : goal.vector_at-vector-requires-clause-target
vector_at-vector-requires-clause-target g c =
    let shown : BoardView = record { opening = c.self.inside.opening; posted = c.self.inside.posted; rights = c.self.inside.grants } in
    (safe_is (g.A.Asker.decides c.args.asker.now) shown (rw (← c.self.view_is) at c.requires.safe)).known.label

pub add-requires-clause-fit : goal.add-requires-clause-fit
add-requires-clause-fit g c =
    let shown : BoardView = record { opening = c.self.inside.opening; posted = c.self.inside.posted; rights = c.self.inside.grants } in
    subst (λ (d : Decisions). Fit d c.self.inside.grants) (sym c.vector_at-vector.ensures.decides)
    (safe_is (g.A.Asker.decides c.args.asker.now) shown (rw (← c.self.view_is) at c.requires.safe)).rights

pub add-requires-clause-target : goal.add-requires-clause-target
add-requires-clause-target g c =
    let shown : BoardView = record { opening = c.self.inside.opening; posted = c.self.inside.posted; rights = c.self.inside.grants } in
    subst (λ (d : Decisions). IsTrue (d.known shown.opening.label)) (sym c.vector_at-vector.ensures.decides)
    (safe_is (g.A.Asker.decides c.args.asker.now) shown (rw (← c.self.view_is) at c.requires.safe)).known.label

pub invariant_of-self-2 : goal.invariant_of-self-2
invariant_of-self-2 g c =
    let shown : BoardView = record { opening = c.self.inside.opening; posted = c.self.inside.posted; rights = c.self.inside.grants } in
    let claim : Claim = record { object = 0; mode = c.args.mode; s = c.args.s; t = shown.opening.label } in
    step_filled shown c.add.new.self c.args.client c.args.slot claim c.ranges.slot.fits c.self.invariant c.add.ensures.rule c.add.ensures.class refl
    (rw (← c.self.view_is) at c.requires.source) c.in-Ok.ensures.claims

pub returns-clause-state : goal.returns-clause-state
returns-clause-state g c =
    let shown : BoardView = record { opening = c.self.inside.opening; posted = c.self.inside.posted; rights = c.self.inside.grants } in
    let claim : Claim = record { object = 0; mode = c.args.mode; s = c.args.s; t = shown.opening.label } in
    rw (← c.self.view_is) (state_filled shown c.add.new.self (slot_place c.args.client c.args.slot) claim c.in-Ok.ensures.claims)

pub returns-clause-safe : goal.returns-clause-safe
returns-clause-safe g c =
    let shown : BoardView = record { opening = c.self.inside.opening; posted = c.self.inside.posted; rights = c.self.inside.grants } in
    let claim : Claim = record { object = 0; mode = c.args.mode; s = c.args.s; t = shown.opening.label } in
    safe_moved (g.A.Asker.decides c.args.asker.now) shown c.add.new.self (rw (← c.self.view_is) at c.requires.safe)
    (step_filled shown c.add.new.self c.args.client c.args.slot claim c.ranges.slot.fits c.self.invariant c.add.ensures.rule c.add.ensures.class refl
    (rw (← c.self.view_is) at c.requires.source) c.in-Ok.ensures.claims)
    (subst (λ (d : Decisions). Fit d c.add.new.self) c.vector_at-vector.ensures.decides c.add.ensures.fit)

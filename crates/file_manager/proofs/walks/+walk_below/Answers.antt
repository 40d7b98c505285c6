-- Where a walk along several names ends.
use Rattle.std.proofs.Common.{◌≡◌, [], true, is_some, rules}
use Rattle.std.specs.FinMap as maps
use Rattle.mode_questions.specs.Operations.{request}
use Rattle.file_manager.specs.Walking.{walk_on}
use Rattle.file_manager.proofs.WalkLemmas.{none_left, stopped_on, missing_on, found_on, found_there, may_still}
use Rattle.file_manager.proofs.walks.+walk_below.Goals as goal

pub returns-in_default : goal.returns-in_default
returns-in_default g t c = λ above.
    none_left g.met.A.Asker.transitive c.args.files.now.nodes c.args.operation.now c.look_up.new.operation above c.args.from c.args.name.now c.args.names.now
    c.in_ok-below.below c.in_default.ensures.cases (c.in_ok-below.ensures above)

pub returns-in-Stopped : goal.returns-in-Stopped
returns-in-Stopped g t c = λ above.
    stopped_on g.met.A.Asker.transitive c.args.files.now.nodes c.args.operation.now c.look_up.new.operation above c.args.from c.args.name.now c.args.names.now
    c.in_ok-below.below c.in-Stopped.stop c.in-Stopped.is (c.in_ok-below.ensures above)

pub returns-in-Missing : goal.returns-in-Missing
returns-in-Missing g t c = λ above.
    missing_on g.met.A.Asker.transitive c.args.files.now.nodes c.args.operation.now c.look_up.new.operation above c.args.from c.args.name.now c.in-Some.next.now c.args.names.now
    c.in-Some.behind.now c.in_ok-below.below c.in-Missing._spot c.in-Some.ensures.cases.0 c.in-Missing.is (c.in_ok-below.ensures above)

pub returns-in-Found : goal.returns-in-Found
returns-in-Found g t c = λ above.
    found_on g.met.A.Asker.transitive c.args.files.now.nodes c.args.operation.now c.look_up.new.operation c.walk_below.new.operation above c.args.from
    c.in-Found.directory c.in-Found.object c.args.name.now c.in-Some.next.now c.args.names.now c.in-Some.behind.now c.in_ok-below.below c.walk_below.result
    c.in-Some.ensures.cases.0 c.in-Found.is (c.in_ok-below.ensures above)
    (c.walk_below.ensures (walk_on (request c.args.operation.now) c.args.files.now.nodes above c.args.from c.args.name.now []).above)

pub walk_below-requires : goal.walk_below-requires
walk_below-requires g t c κs within =
    let there : is_some (maps.get c.args.files.now.nodes c.in-Found.object) ≡ true =
    found_there g.met.A.Asker.transitive c.args.files.now.nodes c.args.operation.now c.look_up.new.operation 0 c.args.from c.in-Found.directory c.in-Found.object c.args.name.now
    c.in_ok-below.below c.in-Found.is (c.in_ok-below.ensures 0) in
    let may = may_still c.args.operation.now c.look_up.new.operation c.args.files.now (c.in_ok-below.ensures 0).1.same c.requires.may in
    search rules

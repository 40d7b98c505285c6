use Rattle.std.proofs.Common.{◌≡◌, ◌<◌, ◌∙◌, ◌∷◌, [], ◌++◌, length, eqb, sym, ap, arith}
use Rattle.std.specs.Prelude.{not}
use Rattle.std.specs.List.{filter}
use Rattle.std.proofs.lemmas.Bool.Decides.{nat_tests}
use Rattle.flow_query.specs.Paths.{graph_of}
use Rattle.flow_query.specs.Levels.{has_number}
use Rattle.flow_query.proofs.LevelLemmas.{leads_into, begun_search, searched_more, no_path, found, fewer_left, none_of}
use Rattle.flow_query.proofs.NodeLemmas.{labelled}
use Rattle.flow_query.proofs.levels.levels_below.Goals as goal

pub levels-init : goal.levels-init
levels-init c =
    rw c.new-levels.ensures.items
    (begun_search (graph_of c.args.finder.now) c.args.from c.args.to c.in_ok-nodes.nodes.items c.in_ok-nodes.ensures c.requires.to
    c.push.new.self.items (c.in_ok-push.ensures.items ∙ ap (λ l. l ++ c.args.to ∷ []) c.new-level.ensures.items)
    c.in_ok-rest.rest.items (c.in_ok-rest.ensures ∙ ap (filter (λ node. not (eqb node c.args.to))) c.as_slice.ensures.value))

pub returns-then-contains : goal.returns-then-contains
returns-then-contains c =
    found (graph_of c.args.finder.now) (labelled c.args.finder.now) c.args.from c.args.to c.levels.levels.items c.levels.level.items c.levels.rest.items c.levels.invariant
    (ap (λ l. has_number l c.args.from) (sym c.deref.ensures.value) ∙ sym c.contains.ensures.value ∙ c.if-contains.true)

pub levels-smaller : goal.levels-smaller
levels-smaller c =
    let g = graph_of c.args.finder.now in
    let nearer : c.in_ok-nearer.nearer.items ≡ filter (leads_into g c.levels.level.items) c.levels.rest.items =
    c.in_ok-nearer.ensures.nearer
    ∙ ap (λ level. filter (leads_into g level) c.as_slice-in-levels.result.now) c.as_slice-in-levels-2.ensures.value
    ∙ ap (filter (leads_into g c.levels.level.items)) c.as_slice-in-levels.ensures.value in
    let farther : c.in_ok-nearer.farther.items ≡ filter (λ node. not (leads_into g c.levels.level.items node)) c.levels.rest.items =
    c.in_ok-nearer.ensures.farther
    ∙ ap (λ level. filter (λ node. not (leads_into g level node)) c.as_slice-in-levels.result.now) c.as_slice-in-levels-2.ensures.value
    ∙ ap (filter (λ node. not (leads_into g c.levels.level.items node))) c.as_slice-in-levels.ensures.value in
    let some : 0 < length c.levels.level.items = grind (arith, nat_tests, c.is_empty.ensures, c.levels-test.true) in
    rw (nearer, farther) (fewer_left (leads_into g c.levels.level.items) c.levels.level.items c.levels.rest.items some)

pub levels-preserved : goal.levels-preserved
levels-preserved c =
    let g = graph_of c.args.finder.now in
    searched_more g (labelled c.args.finder.now) c.args.from c.args.to c.levels.levels.items c.levels.level.items c.levels.rest.items c.levels.invariant
    (ap (λ l. has_number l c.args.from) (sym c.deref.ensures.value) ∙ sym c.contains.ensures.value ∙ c.if-contains.false) c.requires.from
    c.push-in-levels.new.self.items c.in_ok-push-2.ensures.items
    c.in_ok-nearer.nearer.items
    (c.in_ok-nearer.ensures.nearer
    ∙ ap (λ level. filter (leads_into g level) c.as_slice-in-levels.result.now) c.as_slice-in-levels-2.ensures.value
    ∙ ap (filter (leads_into g c.levels.level.items)) c.as_slice-in-levels.ensures.value)
    c.in_ok-nearer.farther.items
    (c.in_ok-nearer.ensures.farther
    ∙ ap (λ level. filter (λ node. not (leads_into g level node)) c.as_slice-in-levels.result.now) c.as_slice-in-levels-2.ensures.value
    ∙ ap (filter (λ node. not (leads_into g c.levels.level.items node))) c.as_slice-in-levels.ensures.value)

pub returns : goal.returns
returns c =
    let none : length c.levels.level.items ≡ 0 = grind (arith, nat_tests, c.is_empty.ensures, c.levels-test.false) in
    no_path (graph_of c.args.finder.now) (labelled c.args.finder.now) c.args.from c.args.to c.levels.levels.items c.levels.level.items c.levels.rest.items c.levels.invariant
    (none_of c.levels.level.items none) c.requires.from

use Rattle.std.proofs.Common.{◌≡◌, ◌∙◌, length, Some, None, sym, ap, subst}
use Rattle.std.specs.Prelude.{true, false, is_some}
use Rattle.flow_query.specs.Paths.{graph_of}
use Rattle.flow_query.specs.Levels.{AreNodes, first_hop}
use Rattle.flow_query.proofs.NodeLemmas.{labelled}
use Rattle.flow_query.proofs.WalkLemmas.{before, has_first, node_next, at_next, further}
use Rattle.flow_query.proofs.way.walk.Goals as goal

pub first_hop-requires-clause-level : goal.first_hop-requires-clause-level
first_hop-requires-clause-level c =
    let g = graph_of c.args.finder.now in
    let is = before g c.args.to c.levels.at c.levels.levels.items c.pop.new.self.items c.in-Some.level c.levels.invariant.levels c.levels.invariant.here c.in-Some.ensures.items in
    subst (AreNodes g) (sym c.as_slice.ensures) is.is.are

pub unreachable-requires : goal.unreachable-requires
unreachable-requires c =
    let g = graph_of c.args.finder.now in
    let is = before g c.args.to c.levels.at c.levels.levels.items c.pop.new.self.items c.in-Some.level c.levels.invariant.levels c.levels.invariant.here c.in-Some.ensures.items in
    let none : first_hop (g.hop c.levels.at) c.in-Some.level ≡ None = ap (first_hop (g.hop c.levels.at)) (sym c.as_slice.ensures) ∙ sym c.first_hop.ensures ∙ c.in_default-first_hop.is in
    let clash : true ≡ false = sym (has_first g c.args.to (length c.pop.new.self.items) c.levels.at c.in-Some.level is.at is.is) ∙ ap is_some none in
    absurd cc

pub levels-preserved : goal.levels-preserved
levels-preserved c =
    let g = graph_of c.args.finder.now in
    let is = before g c.args.to c.levels.at c.levels.levels.items c.pop.new.self.items c.in-Some.level c.levels.invariant.levels c.levels.invariant.here c.in-Some.ensures.items in
    let found : first_hop (g.hop c.levels.at) c.in-Some.level ≡ Some c.in-Some-first_hop.hop = ap (first_hop (g.hop c.levels.at)) (sym c.as_slice.ensures) ∙ sym c.first_hop.ensures ∙ c.in-Some-first_hop.is in
    record {
      node = node_next g (labelled c.args.finder.now) c.args.from c.args.to (length c.pop.new.self.items) c.levels.at c.in-Some.level c.in-Some-first_hop.hop is.at is.is found;
      levels = is.levels;
      here = at_next g (labelled c.args.finder.now) c.args.from c.args.to (length c.pop.new.self.items) c.levels.at c.in-Some.level c.in-Some-first_hop.hop is.at is.is found;
      way = further g (labelled c.args.finder.now) c.args.from c.args.to (length c.pop.new.self.items) c.levels.at c.in-Some.level c.in-Some-first_hop.hop is.at is.is found
          c.levels.hops.items c.levels.invariant.way c.push.new.self.items c.in_ok-push.ensures.items;
    }

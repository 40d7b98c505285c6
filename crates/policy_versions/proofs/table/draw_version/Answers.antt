use Rattle.std.proofs.Common.{◌∙◌, get_or, length-set, arith}
use Rattle.policy_versions.specs.Cells.{class_place}
use Rattle.policy_versions.proofs.TableLemmas.{blank_on, keeps_on, stand_more, told_where, place_small, some_block}
use Rattle.policy_versions.proofs.table.draw_version.Goals as goal

pub place-requires-clause-blank : goal.place-requires-clause-blank
place-requires-clause-blank c = blank_on _ _ c.classes.invariant.keeps c.requires.blank

pub classes-preserved : goal.classes-preserved
classes-preserved c = record {
  few = omega (arith, c.in_ok-firsts.ensures.few, c.classes.invariant.few);
  keeps = keeps_on _ _ _ c.classes.invariant.keeps c.in_ok-firsts.ensures.keeps;
  size = length-set c.classes.firsts c.classes.at c.in_ok-firsts.field-0 ∙ c.classes.invariant.size;
  stand = stand_more _ _ c.draw.new.self.drawn.items c.index.result.now c.classes.firsts c.classes.at c.in_ok-firsts.field-0 c.draw.new.self.whole c.classes.invariant.size c.classes-test.true c.index.ensures c.in_ok-firsts.ensures.keeps c.in_ok-firsts.ensures.stands c.classes.invariant.stand;
}

pub returns-clause-tell : goal.returns-clause-tell
returns-clause-tell c = λ policy kinds rules class.
    let one = some_block c.draw.new.self.drawn.items c.draw.new.self.whole in
    told_where c.args.content policy c.args.rules.now class c.classes.rows.items (get_or c.draw.new.self.drawn.items (class_place class) one).rows.items _ kinds.few
    (c.draw.ensures policy class one kinds rules) (c.classes.invariant.stand (class_place class) one (omega (arith, place_small class)))

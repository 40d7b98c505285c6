use Rattle.std.proofs.Common.{arith}
use Rattle.policy_text.specs.Grammar.{line_read}
use Rattle.policy_model.specs.Kept.{GrownAbove}
use Rattle.policy_text.proofs.KeptLemmas.{if_ok, line_keeps}
use Rattle.policy_text.proofs.reader.PolicyReader.read_line.Goals as goal

pub invariant_of-self : goal.invariant_of-self
invariant_of-self c =
    let before = c.self.inside in
    record {
      counted = omega (arith, c.in-Ok.ensures.counted);
      grown = if_ok (line_read before.number c.args.line.now before.above) c.line_read.new.above GrownAbove (line_keeps before.number c.args.line.now before.above c.self.invariant.grown) c.in-Ok.ensures.said;
    }

use Rattle.std.proofs.Common.{arith}
use Rattle.run_output.proofs.Outcomes.{on_err_always}
use Rattle.run_output.proofs.WritingLemmas.{front_of_part, written_more}
use Rattle.parallel_print.proofs.PartLemmas.{rest_parts}
use Rattle.parallel_print.proofs.rounds.write_all.Goals as goal

pub returns-in_err-write_round-clause-err : goal.returns-in_err-write_round-clause-err
returns-in_err-write_round-clause-err g c =
    let text = g.W.Wording.text c.args.wording.now in
    let parts = rest_parts text c.rounds.rest.now c.split_at.result.0.now c.split_at.result.1.now _ c.split_at.ensures.front c.split_at.ensures.back in
    on_err_always c.from_residual.result _ (front_of_part _ _ _ _ _ _ (rw parts at c.rounds.invariant.written) c.in_err-write_round.ensures.err)

pub rounds-preserved : goal.rounds-preserved
rounds-preserved g c =
    let text = g.W.Wording.text c.args.wording.now in
    let parts = rest_parts text c.rounds.rest.now c.split_at.result.0.now c.split_at.result.1.now _ c.split_at.ensures.front c.split_at.ensures.back in
    record {
      written = written_more _ _ _ _ _ _ (rw parts at c.rounds.invariant.written) c.in_ok-write_round.ensures.ok;
      quiet = omega (arith, c.rounds.invariant.quiet, c.in_ok-write_round.ensures.cause.later, c.in_ok-write_round.ensures.cause.quiet (λ is. cc));
    }

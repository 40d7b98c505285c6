use Rattle.std.proofs.Common.{refl, ◌∙◌}
use Rattle.session_runner.proofs.OpeningLemmas.{openings_by}
use Rattle.session_runner.proofs.opening.run_parts.Goals as goal

pub returns : goal.returns
returns c =
    record {
      openings_are = c.in_ok-openings.ensures ∙ openings_by c.args.session c.as_slice.result.now c.as_slice.ensures;
      lines_are = c.into_vec.ensures;
      policy_is = refl;
      clients_are = refl;
      audit_is = refl;
    }

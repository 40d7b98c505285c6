use Rattle.std.proofs.Common.{◌≡◌, ◌++◌, length, codes}
use Rattle.std.specs.Prelude.{decimal}
use Rattle.std.specs.List.{flat_map}
use Rattle.std.proofs.lemmas.Result.{IfErr-weaker}
use Rattle.flaskd_run.specs.Paths.{hop_text}
use Rattle.run_output.proofs.PartLemmas.{cut_first, cut_last}
use Rattle.run_output.proofs.Outcomes.{on_err_always}
use Rattle.flaskd_run.proofs.path_texts.write_path.Goals as goal

pub returns-in_err-put_line-clause-err : goal.returns-in_err-put_line-clause-err
returns-in_err-put_line-clause-err g c =
    let out_is : c.put_length.new.out ≡ codes "path " ++ decimal (length c.args.path.now) ++ codes "\n" = rw c.new-out.ensures at c.in_ok-put_length.ensures in
    on_err_always _ _
    (cut_first _ _ (codes "path " ++ decimal (length c.args.path.now) ++ codes "\n") (flat_map (hop_text c.args.policy.now) c.args.path.now) (rw out_is at c.in_err-put_line.ensures.err))

pub returns-clause-err : goal.returns-clause-err
returns-clause-err g c =
    let out_is : c.put_length.new.out ≡ codes "path " ++ decimal (length c.args.path.now) ++ codes "\n" = rw c.new-out.ensures at c.in_ok-put_length.ensures in
    IfErr-weaker c.write_hops.result _ _
    (λ stop cut. cut_last _ _ _ (codes "path " ++ decimal (length c.args.path.now) ++ codes "\n") (flat_map (hop_text c.args.policy.now) c.args.path.now) (rw out_is at c.in_ok-put_line.ensures.ok) cut)
    c.write_hops.ensures.err

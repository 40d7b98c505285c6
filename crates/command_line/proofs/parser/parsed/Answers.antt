use Rattle.std.proofs.Common.{◌∙◌, sym}
use Rattle.std.proofs.lemmas.Result.{IfOk-weaker}
use Rattle.clap.specs.Matches.{found_of}
use Rattle.command_line.proofs.PlaceLemmas.{given, refused_by, values_read}
use Rattle.command_line.proofs.parser.parsed.Goals as goal

pub returns-in-Ok : goal.returns-in-Ok
returns-in-Ok c =
    IfOk-weaker c.command_in.result _ _ (λ command is. is ∙ (values_read (found_of c.in-Ok.matches) _ c.in-Ok.ensures.rows ∙ given _ c.requires c.in-Ok.ensures.faults)) c.command_in.ensures

pub returns-in-Err : goal.returns-in-Err
returns-in-Err c =
    IfOk-weaker c.without_matches.result _ _ (λ command none. none.0 ∙ sym (refused_by _ c.requires c.in-Err.error c.in-Err.ensures.faults none.1)) c.without_matches.ensures

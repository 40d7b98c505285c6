use Rattle.std.proofs.Common.{◌≡◌, rules, subst, sym}
use Rattle.file_calls.specs.declared.opening.FileOpening.{FileOpening}
use Rattle.file_calls.specs.Example.{AnswersOfDay, one_file_opening}
use Rattle.file_calls.proofs.ExampleLemmas.{answers_of_day}
use Rattle.file_calls.proofs.example.one_file.Goals as goal

pub returns-clause-answers : goal.returns-clause-answers
returns-clause-answers c =
    let is : ◌≡◌ {A = FileOpening} (record { clients = c.push.new.self; root = c.unwrap-2.result; nodes = c.push-2.new.self }) one_file_opening = search rules in
    subst AnswersOfDay (sym is) answers_of_day
